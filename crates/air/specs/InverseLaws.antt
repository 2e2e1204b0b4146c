-- A temperature from a value that runs straight and rises (document 01, "Temperature from heat"): the row that the halving rule keeps holds the answer,
-- and one division in that row gives it, with the rest. The psi inverse and the temperature of a gas both cite these laws. Assumes nothing.
use Rattle.std.specs.Prelude.{◌≡◌, [], ℕ, suc, ◌+◌, ◌*◌, ◌/◌, ◌%◌, ◌<◌, ◌≤◌, ℤ, pos, ◌+ℤ◌, ◌-ℤ◌, length, ◌≤ℤ◌, ◌<ℤ◌}
use Rattle.std.proofs.Math.Path.{refl, ap}
use Rattle.std.proofs.Common.{sym, ◌∙◌, subst, ⊎_elim, eq-or-lt_of_le, mod-lt, div-lt_iff_lt-mul, suc-mul, arith, lit<, lit≤}
use Rattle.std.proofs.Math.Bool.{true, false}
use Rattle.std.proofs.Math.Nat.{div-add-mod'}
use Rattle.signed.specs.Zed.{up, dn, Is, is_pos, is_self, is_add, is_minus, same_by, le_by, lt_by, le_from, lt_from, le_z_true, le_z_false, lt_parts, le_parts}
use Rattle.signed.specs.Zed.{yes_le_z, no_le_z, eq_z, yes_eq_z, no_eq_z, zed}
use Rattle.rows.specs.Limits.{first_kelvin, last_kelvin}
use Rattle.rows.specs.GrowthLaws.{grows}
use Rattle.air.specs.Limits.{look_places, coldest, hottest}
use Rattle.air.specs.Halving.{highest, halving}
use Rattle.air.specs.HalvingLaws.{highest_is, highest_passes, highest_least, highest_most, highest_above, Kept, kept, at_least_ten, at_most_eleven}
use Rattle.air.specs.Inverse.{fits, temperature, rest, looks, Straight}
use Rattle.refusal.specs.BoolLaws.{by_bool}

<ℤ-trans : {x y z : ℤ} → x <ℤ y → y <ℤ z → x <ℤ z
<ℤ-trans h k = let a = lt_parts h in let b = lt_parts k in lt_from (omega arith)

-- ---- the looks
module _ (v : ℕ → ℤ) (t : ℤ) where
  pub no_looks : t ≡ v hottest → looks v t ≡ []
  unfolding looks
  no_looks e = rw (yes_eq_z t (v hottest) e) refl

  pub looks_are : t <ℤ v hottest → looks v t ≡ (halving (λ k. fits v t (1000 * k)) first_kelvin last_kelvin).looks
  unfolding looks
  looks_are h = rw (no_eq_z t (v hottest) h) refl

  -- never more than eleven
  pub looks_most : length (looks v t) ≤ look_places
  unfolding looks
  looks_most = by_bool (eq_z t (v hottest)) (λ e. rw e (lit≤ tt)) (λ e. rw e (at_most_eleven (λ k. fits v t (1000 * k))))

  -- ten or eleven where there is a search
  pub ten_or_eleven : t <ℤ v hottest → (10 ≤ length (looks v t)) × (length (looks v t) ≤ look_places)
  ten_or_eleven h = rw (looks_are h) (at_least_ten (λ k. fits v t (1000 * k)), at_most_eleven (λ k. fits v t (1000 * k)))

  -- the row that is kept, of a target that is reached and not the last
  pub row_kept : v coldest ≤ℤ t → t <ℤ v hottest → Kept (λ k. fits v t (1000 * k)) first_kelvin last_kelvin (halving (λ k. fits v t (1000 * k)) first_kelvin last_kelvin)
  row_kept l h =
      let a = le_parts l in
      let b = lt_parts h in
      kept (λ k. fits v t (1000 * k)) first_kelvin last_kelvin (lit< tt) (yes_le_z (v coldest) t (omega arith)) (no_le_z (v hottest) t (omega arith))

  -- at the next mK the value exceeds the target
  pub next_exceeds : temperature v t < hottest → t <ℤ v (suc (temperature v t))
  unfolding temperature
  next_exceeds h =
      let e : fits v t (suc (highest (fits v t) coldest hottest)) ≡ false = highest_above (fits v t) coldest hottest (suc (highest (fits v t) coldest hottest)) (lit≤ tt) (omega arith) h in
      lt_from (le_z_false (v (suc (highest (fits v t) coldest hottest))) t e)

  -- a target that is the last value
  pub top_temperature : t ≡ v hottest → temperature v t ≡ hottest
  unfolding temperature
  top_temperature e = highest_is (fits v t) coldest hottest hottest (lit≤ tt) (lit≤ tt) (yes_le_z (v hottest) t (omega zed)) (λ w a b. absurd (omega arith))

  pub top_rest : t ≡ v hottest → rest v t ≡ pos 0
  unfolding rest
  top_rest e = rw (top_temperature e) (omega (zed, is_minus (is_self t) (is_self (v hottest))))

-- ---- a target that is not below the first value: the temperature is in range, its value does not exceed the target, and no rest is below zero
module _ (v : ℕ → ℤ) (t : ℤ) (h : v coldest ≤ℤ t) where
  first_fits : fits v t coldest ≡ true
  first_fits = let a = le_parts h in yes_le_z (v coldest) t (omega arith)

  pub temperature_least : coldest ≤ temperature v t
  unfolding temperature
  temperature_least = highest_least (fits v t) coldest hottest (lit≤ tt) first_fits

  pub temperature_most : temperature v t ≤ hottest
  unfolding temperature
  temperature_most = highest_most (fits v t) coldest hottest (lit≤ tt) first_fits

  pub temperature_fits : v (temperature v t) ≤ℤ t
  unfolding temperature
  temperature_fits =
      let e : fits v t (highest (fits v t) coldest hottest) ≡ true = highest_passes (fits v t) coldest hottest (lit≤ tt) first_fits in
      le_from (le_z_true (v (highest (fits v t) coldest hottest)) t e)

  pub rest_least : pos 0 ≤ℤ rest v t
  unfolding rest
  rest_least = let a = le_parts temperature_fits in le_by (is_pos 0) (is_minus (is_self t) (is_self (v (temperature v t)))) (omega arith)

-- ---- a value that runs straight and rises
module _ {v : ℕ → ℤ} (s : Straight v) where
  -- f mK above the kelvin k
  line_is : (k f : ℕ) → first_kelvin ≤ k → k < last_kelvin → f ≤ 1000 → Is (v (1000 * k + f)) (up (v (1000 * k)) + f * s.slope k) (dn (v (1000 * k)))
  line_is k f l u h =
      subst (λ (z : ℤ). Is z (up (v (1000 * k)) + f * s.slope k) (dn (v (1000 * k)))) (sym (s.line k f l u h))
      (record { is = omega (arith, is_add (is_self (v (1000 * k))) (is_pos (f * s.slope k))) })

  -- the value rises with every mK
  pub m_k_rises : (T : ℕ) → coldest ≤ T → T < hottest → v T <ℤ v (suc T)
  m_k_rises T l u =
      let k = T / 1000 in
      let f = T % 1000 in
      let a : 1000 * k + f ≡ T = omega arith in
      let b : 1000 * k + suc f ≡ suc T = omega arith in
      subst (λ (n : ℕ). v n <ℤ v (suc T)) a (subst (λ (n : ℕ). v (1000 * k + f) <ℤ v n) b
      (lt_by (line_is k f (omega arith) (omega arith) (omega arith)) (line_is k (suc f) (omega arith) (omega arith) (omega arith))
      (omega (arith, suc-mul f (s.slope k), s.rises k (omega arith) (omega arith)))))

  pub rises_on : (T U : ℕ) → coldest ≤ T → T < U → U ≤ hottest → v T <ℤ v U
  rises_on = grows ◌<ℤ◌ (λ x y z. <ℤ-trans) v coldest hottest m_k_rises

  -- the target lies o above the value at the kelvin k, and below that at the next: one division gives the temperature and the rest
  module _ (k o : ℕ) (t : ℤ) (l : first_kelvin ≤ k) (u : k < last_kelvin) (above : t ≡ v (1000 * k) +ℤ pos o) (below : o < 1000 * s.slope k) where
    target_is : Is t (up (v (1000 * k)) + o) (dn (v (1000 * k)))
    target_is = record { is = omega (zed, is_add (is_self (v (1000 * k))) (is_pos o)) }

    pub part_small : o / s.slope k < 1000
    part_small = (div-lt_iff_lt-mul (s.rises k l u)).1 below

    part_fits : fits v t (1000 * k + o / s.slope k) ≡ true
    part_fits =
        yes_le_z (v (1000 * k + o / s.slope k)) t (omega (arith, line_is k (o / s.slope k) l u (omega (arith, part_small)), target_is, div-add-mod' o (s.slope k)))

    next_over : t <ℤ v (suc (1000 * k + o / s.slope k))
    next_over =
        subst (λ (n : ℕ). t <ℤ v n) {x = 1000 * k + suc (o / s.slope k)} {y = suc (1000 * k + o / s.slope k)} (omega arith)
        (lt_by target_is (line_is k (suc (o / s.slope k)) l u (omega (arith, part_small)))
        (omega (arith, suc-mul (o / s.slope k) (s.slope k), div-add-mod' o (s.slope k), mod-lt o (s.rises k l u))))

    above_over : (w : ℕ) → 1000 * k + o / s.slope k < w → w ≤ hottest → fits v t w ≡ false
    above_over w a b =
        let h : t <ℤ v w = ⊎_elim (λ e. subst (λ (n : ℕ). t <ℤ v n) e next_over) (λ c. <ℤ-trans next_over (rises_on (suc (1000 * k + o / s.slope k)) w (omega arith) c b)) (eq-or-lt_of_le a) in
        no_le_z (v w) t (let p = lt_parts h in omega arith)

    pub temperature_is : temperature v t ≡ 1000 * k + o / s.slope k
    unfolding temperature
    temperature_is =
        highest_is (fits v t) coldest hottest (1000 * k + o / s.slope k) (omega arith) (omega (arith, part_small)) part_fits above_over

    pub rest_is : rest v t ≡ pos (o % s.slope k)
    unfolding rest
    rest_is =
        ap (λ (n : ℕ). t -ℤ v n) temperature_is
        ∙ same_by (is_minus target_is (line_is k (o / s.slope k) l u (omega (arith, part_small)))) (is_pos (o % s.slope k)) (omega (arith, div-add-mod' o (s.slope k)))
