-- The gas heat (document 01, "Burning"): the parts of the paper's sum, the straight line from each whole kelvin to the next, its rise with every mK for an
-- accepted sheet and a lean charge, and the bounds that keep all of it inside 64 bits. Assumes nothing.
use Rattle.std.specs.Prelude.{◌≡◌, List, ℕ, suc, ◌+◌, ◌-◌, ◌*◌, ◌/◌, ◌%◌, ◌<◌, ◌≤◌, pos, ◌+ℤ◌, ◌-ℤ◌, ◌*ℤ◌, ◌<ℤ◌}
use Rattle.std.proofs.Math.Path.{refl, ap}
use Rattle.std.proofs.Common.{⊎_elim, eq-or-lt_of_le, mul-le-mul, mul-le-mul_left, mul-le-mul_right}
use native.Mathlib.Omega.{arith}
use Rattle.signed.specs.Zed.{up, dn, Is, is_pos, is_self, is_add, is_minus, is_mul, dn_none, same_by, le_z_true, apart, zed}
use Rattle.rows.specs.Limits.{first_kelvin, last_kelvin}
use Rattle.rows.specs.Table.{air_h}
use Rattle.rows.proofs.TableLaws.{h_grows, h_most}
use Rattle.air.specs.Limits.{coldest, hottest}
use Rattle.air.specs.Readings.{reading, between, air_heat}
use Rattle.air.specs.ReadingsLaws.{between_rows, between_last, between_whole, between_line}
use Rattle.air.specs.Inverse.{Straight}
use Rattle.air.specs.InverseLaws.{m_k_rises}
use Rattle.sheet_text.specs.Limits.{most_figure}
use Rattle.sheet.specs.Sheet.{o2, co2, h2o, rise, Accepted}
use Rattle.sheet.specs.SheetLaws.{accepted_limit, accepted_step}
use Rattle.burning.specs.declared.Gas.{Gas}
use Rattle.burning.specs.declared.Masses.{Masses}
use Rattle.burning.specs.Burning.{Weights, document01, Sound, Limits, oxygen_used, lean, Burns}
use Rattle.burning.specs.Burning.{masses_of}
use Rattle.gas.specs.Heat.{heat_sum, heat_of, heat_slope, gas_heat}
use Rattle.gas.specs.inner.Sizes.{Sized, PerPound}

-- ---- the paper's sum
module _ (m : Masses) (a o c h : ℕ) where
  -- what is added and what is taken away
  pub sum_is : Is (heat_sum m a o c h) (m.air * a + m.co2 * c + m.h2o * h + dn m.used * o) (up m.used * o)
  unfolding heat_sum
  sum_is = record {
    is =
        omega (
          arith,
          is_add
              (is_add (is_minus (is_mul (is_pos m.air) (is_pos a)) (is_mul (is_self m.used) (is_pos o))) (is_mul (is_pos m.co2) (is_pos c)))
              (is_mul (is_pos m.h2o) (is_pos h)),
        );
  }

  pub sum_diff : pos (m.air * a + m.co2 * c + m.h2o * h) -ℤ m.used *ℤ pos o ≡ heat_sum m a o c h
  sum_diff = same_by (is_minus (is_pos (m.air * a + m.co2 * c + m.h2o * h)) (is_mul (is_self m.used) (is_pos o))) sum_is (omega arith)

-- its bounds
module _ {m : Masses} {a o c h : ℕ} (z : Sized m) (p : PerPound a o c h) where
  pub added_most : m.air * a + m.co2 * c + m.h2o * h ≤ 1068080000000000000
  added_most = omega (arith, mul-le-mul z.air_most p.air_most, mul-le-mul z.co2_most p.dioxide_most, mul-le-mul z.h2o_most p.water_most)

  none_given : dn m.used ≡ 0
  none_given = omega (zed, z.used_least, apart m.used)

  pub taken_most : up m.used * o ≤ 400000000000000000
  taken_most = let u : up m.used ≤ 2000000000 = omega (zed, z.used_most, none_given) in omega (arith, mul-le-mul u p.oxygen_most)

  pub taken_is : Is (m.used *ℤ pos o) (up m.used * o) 0
  taken_is = record { is = omega (arith, is_mul (is_self m.used) (is_pos o), ap (λ (n : ℕ). n * o) none_given) }

  pub sum_parts : Is (heat_sum m a o c h) (m.air * a + m.co2 * c + m.h2o * h) (up m.used * o)
  sum_parts = record { is = omega (arith, sum_is m a o c h, ap (λ (n : ℕ). n * o) none_given) }

-- ---- the straight line from a whole kelvin to the next
module _ (m : Masses) (s : List ℕ) (k : ℕ) where
  pub heat_whole : k ≤ last_kelvin → heat_of m s (1000 * k) ≡ heat_sum m (1000 * air_h k) (1000 * o2 s k) (1000 * co2 s k) (1000 * h2o s k)
  unfolding heat_of air_heat
  heat_whole u = rw (between_whole air_h k u, between_whole (o2 s) k u, between_whole (co2 s) k u, between_whole (h2o s) k u) refl

module _ (m : Masses) {s : List ℕ} (t : 4 * up m.used < m.air) (ok : Accepted s) (k : ℕ) (l : first_kelvin ≤ k) (u : k < last_kelvin) where
  -- oxygen takes away less than air adds
  oxygen_less : up m.used * rise (o2 s) k < m.air * rise air_h k
  oxygen_less =
      omega (
        arith,
        h_grows k l u,
        mul-le-mul_left (up m.used) (accepted_step ok k l u).o2_rise,
        mul-le-mul_right (rise air_h k) t,
      )

  slope_parts :
      heat_slope m s k + up m.used * rise (o2 s) k
      ≡ m.air * rise air_h k + m.co2 * rise (co2 s) k + m.h2o * rise (h2o s) k + dn m.used * rise (o2 s) k
  unfolding heat_slope
  slope_parts =
      let i = sum_is m (rise air_h k) (rise (o2 s) k) (rise (co2 s) k) (rise (h2o s) k) in
      omega (arith, i, dn_none i (omega (arith, oxygen_less)))

  pub slope_some : 0 < heat_slope m s k
  slope_some = omega (arith, slope_parts, oxygen_less)

  -- heat at k + f mK: a straight line
  pub heat_line : (f : ℕ) → f ≤ 1000 → heat_of m s (1000 * k + f) ≡ heat_of m s (1000 * k) +ℤ pos (f * heat_slope m s k)
  unfolding heat_of air_heat
  heat_line f h =
      let st = accepted_step ok k l u in
      rw (
        between_line air_h k f u h (omega (arith, h_grows k l u)),
        between_line (o2 s) k f u h st.o2_up,
        between_line (co2 s) k f u h st.co2_up,
        between_line (h2o s) k f u h st.h2o_up,
        between_whole air_h k (omega arith),
        between_whole (o2 s) k (omega arith),
        between_whole (co2 s) k (omega arith),
        between_whole (h2o s) k (omega arith),
      )
      (same_by
      (sum_is m (1000 * air_h k + f * rise air_h k) (1000 * o2 s k + f * rise (o2 s) k) (1000 * co2 s k + f * rise (co2 s) k) (1000 * h2o s k + f * rise (h2o s) k))
      (is_add (sum_is m (1000 * air_h k) (1000 * o2 s k) (1000 * co2 s k) (1000 * h2o s k)) (is_pos (f * heat_slope m s k)))
      (omega (arith, ap (λ (n : ℕ). f * n) slope_parts)))

-- a slope is not below what air alone rises by less four times the oxygen used, and is small
pub slope_least : (m : Masses) {s : List ℕ} → 4 * up m.used < m.air → Accepted s → (k : ℕ) → first_kelvin ≤ k → k < last_kelvin
    → (m.air - 4 * up m.used) * rise air_h k ≤ heat_slope m s k
slope_least m {s} t ok k l u =
    let e : m.air ≡ 4 * up m.used + (m.air - 4 * up m.used) = omega arith in
    omega (
      arith,
      slope_parts m t ok k l u,
      mul-le-mul_left (up m.used) (accepted_step ok k l u).o2_rise,
      ap (λ (n : ℕ). n * rise air_h k) e,
    )

pub slope_most : {m : Masses} {s : List ℕ} → Sized m → Accepted s → (k : ℕ) → first_kelvin ≤ k → k < last_kelvin → heat_slope m s k ≤ 1068080000000000
slope_most {m} {s} z ok k l u =
    let n = accepted_limit ok (suc k) (omega arith) (omega arith) in
    let a : rise air_h k ≤ 53789 = omega (arith, h_most (suc k)) in
    let c : rise (co2 s) k ≤ most_figure = omega (arith, n.co2_most) in
    let h : rise (h2o s) k ≤ most_figure = omega (arith, n.h2o_most) in
    let d : dn m.used ≡ 0 = omega (zed, z.used_least, apart m.used) in
    omega (
      arith,
      slope_parts m z.thin ok k l u,
      mul-le-mul z.air_most a,
      mul-le-mul z.co2_most c,
      mul-le-mul z.h2o_most h,
      ap (λ (n : ℕ). n * rise (o2 s) k) d,
    )

-- so the heat runs straight and rises with every mK
unfoldable pub heat_straight : (m : Masses) {s : List ℕ} → 4 * up m.used < m.air → Accepted s → Straight (heat_of m s)
heat_straight m {s} t ok = record { slope = heat_slope m s; rises = slope_some m t ok; line = λ k f l u h. heat_line m t ok k l u f h }

-- ---- the gas of a charge
-- air outweighs four times the oxygen used
pub air_outweighs : (w : Weights) → Sound w → (g : Gas) → Burns w g → 4 * up (masses_of w g).used < (masses_of w g).air
unfolding masses_of lean
air_outweighs w s g b =
    let h = le_z_true (oxygen_used w g) (pos (w.air_o2 * g.air)) b.is_lean in
    let l = b.limits in
    omega (zed, apart (oxygen_used w g), mul-le-mul_right g.air s.thin)

pub gas_straight : (w : Weights) → Sound w → {s : List ℕ} → Accepted s → (g : Gas) → Burns w g → Straight (gas_heat w s g)
gas_straight w s ok g b = heat_straight (masses_of w g) (air_outweighs w s g b) ok

-- the gas heat rises with every mK
pub gas_rises : (w : Weights) → Sound w → {s : List ℕ} → Accepted s → (g : Gas) → Burns w g → (T : ℕ) → coldest ≤ T → T < hottest → gas_heat w s g T <ℤ gas_heat w s g (suc T)
gas_rises w so ok g b = m_k_rises (gas_straight w so ok g b)

-- heat at k + f mK, from the heats at k and at k + 1
pub gas_between : (w : Weights) → Sound w → {s : List ℕ} → Accepted s → (g : Gas) → Burns w g → (k f : ℕ) → first_kelvin ≤ k → k < last_kelvin → f ≤ 1000
    → pos 1000 *ℤ gas_heat w s g (1000 * k + f) ≡ pos (1000 - f) *ℤ gas_heat w s g (1000 * k) +ℤ pos f *ℤ gas_heat w s g (1000 * k + 1000)
gas_between w so {s} ok g b k f l u h =
    let m = masses_of w g in
    let t = air_outweighs w so g b in
    let here = is_self (heat_of m s (1000 * k)) in
    let e : 1000 ≡ f + (1000 - f) = omega arith in
    rw (heat_line m t ok k l u f h, heat_line m t ok k l u 1000 (omega arith))
    (same_by
    (is_mul (is_pos 1000) (is_add here (is_pos (f * heat_slope m s k))))
    (is_add (is_mul (is_pos (1000 - f)) here) (is_mul (is_pos f) (is_add here (is_pos (1000 * heat_slope m s k)))))
    (omega (arith, ap (λ (n : ℕ). n * up (heat_of m s (1000 * k))) e, ap (λ (n : ℕ). n * dn (heat_of m s (1000 * k))) e)))

-- document 01's limits
pub masses_sized : (g : Gas) → Limits document01 g → 4 * up (masses_of document01 g).used < (masses_of document01 g).air → Sized (masses_of document01 g)
unfolding masses_of oxygen_used
masses_sized g l t = record {
  air_most = omega arith;
  used_least = omega zed;
  used_most = omega zed;
  co2_most = omega arith;
  h2o_most = omega arith;
  thin = t;
}

-- ---- bounds of the gas heat over the whole range
-- a reading is at most a thousand times the greatest figure
between_most : (col : ℕ → ℕ) (n T : ℕ) → ((k : ℕ) → first_kelvin ≤ k → k ≤ last_kelvin → col k ≤ n) → coldest ≤ T → T ≤ hottest → between col T ≤ 1000 * n
unfolding reading
between_most col n T h l u =
    ⊎_elim
    (λ e. omega (arith, between_last col T e, h last_kelvin (omega arith) (omega arith)))
    (λ d.
    let a = col (T / 1000) in
    let b = col (T / 1000 + 1) in
    omega (
      arith,
      between_rows col T d,
      mul-le-mul_right {m = T % 1000} {n = 1000} (b - a) (omega arith),
      h (T / 1000) (omega arith) (omega arith),
      h (T / 1000 + 1) (omega arith) (omega arith),
    ))
    (eq-or-lt_of_le u)

module _ {s : List ℕ} (ok : Accepted s) (T : ℕ) (l : coldest ≤ T) (u : T ≤ hottest) where
  pub per_pound : PerPound (air_heat T) (between (o2 s) T) (between (co2 s) T) (between (h2o s) T)
  unfolding air_heat
  per_pound = record {
    air_most = between_most air_h 53789 T (λ k a b. h_most k) l u;
    oxygen_most = between_most (o2 s) most_figure T (λ k a b. (accepted_limit ok k a b).o2_most) l u;
    dioxide_most = between_most (co2 s) most_figure T (λ k a b. (accepted_limit ok k a b).co2_most) l u;
    water_most = between_most (h2o s) most_figure T (λ k a b. (accepted_limit ok k a b).h2o_most) l u;
  }
