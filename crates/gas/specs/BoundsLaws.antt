-- How large each quantity of a charge that burns can be, over an accepted sheet and the whole range of temperatures: all stay inside signed 64 bits.
--     gas-heat-least, gas-heat-most      −358,802,701,600,000,000 to 1,068,080,000,000,000,000
--     content-least, content-most        −551,298,400,000,000,000 to 999,211,600,000,000,000
--     specific-most, specific-least      at most one over a hundred-thousandth of the content, on either side of 0
--     mass-least, mass-most              100,000 to 10,650,950,000
--     slope-least, slope-most            7256A times the rise of air, to 1,068,080,000,000,000: what a gas heat rises by with one mK
-- Assumes nothing.
use Rattle.std.specs.Prelude.{◌≡◌, refl, List, ◌⊎◌, ℕ, suc, ◌+◌, ◌-◌, ◌*◌, ◌/◌, ◌%◌, ◌<◌, ◌≤◌, pos}
use Rattle.std.proofs.Common.{ap, ◌∙◌, ⊎_elim, inl, inr, eq-or-lt_of_le, le_trans, le_refl, lit<, lit≤, SFits}
use Rattle.std.proofs.Math.Nat.{mul-le-mul, mul-le-mul_left, mul-le-mul_right}
use Rattle.std.proofs.Math.Decide.{dec_le}
use native.Mathlib.Omega.{arith}
use Rattle.std.specs.Int.{w64}
use Rattle.signed.specs.Zed.{up, dn, Is, is_self, is_minus, up_most, fits_from, le_z_true, apart, zed}
use Rattle.signed.specs.NearestLaws.{nearest_up, nearest_dn}
use Rattle.rows.specs.Rows.{rows_h}
use Rattle.rows.specs.Table.{column, air_h}
use Rattle.rows.proofs.TableLaws.{h_grows}
use Rattle.rows.specs.GrowthLaws.{grows}
use Rattle.air.specs.Limits.{fifteen_degrees, coldest, hottest}
use Rattle.air.specs.Readings.{reading, between, air_heat, NeverFalls}
use Rattle.air.specs.ReadingsLaws.{between_line, grows_on}
use Rattle.air.specs.InverseLaws.{rises_on}
use Rattle.sheet.specs.Sheet.{o2, co2, h2o, Accepted}
use Rattle.sheet.specs.SheetLaws.{o2_never_falls}
use Rattle.burning.specs.declared.Gas.{Gas}
use Rattle.burning.specs.Burning.{document01, oxygen_used, lean, Burns, total_mass}
use Rattle.burning.specs.BurningLaws.{document01_sound}
use Rattle.burning.specs.Burning.{masses_of}
use Rattle.gas.specs.Heat.{heat_of, gas_heat, content_above15, specific_content}
use Rattle.gas.specs.SpecificLaws.{specific_nearest}
use Rattle.gas.specs.HeatLaws.{sum_parts, added_most, air_outweighs, masses_sized, per_pound, gas_straight}
use Rattle.gas.specs.inner.Sizes.{Sized}

-- ---- a column that never falls is never read lower at a higher temperature
between_step : {col : ℕ → ℕ} → NeverFalls col → (T : ℕ) → coldest ≤ T → T < hottest → between col T ≤ between col (suc T)
between_step {col} n T l u =
    let k = T / 1000 in
    let f = T % 1000 in
    let h : col k ≤ col (suc k) = n.step k (omega arith) (omega arith) in
    let a : 1000 * k + f ≡ T = omega arith in
    let b : 1000 * k + suc f ≡ suc T = omega arith in
    omega (
      arith,
      ap (between col) a,
      ap (between col) b,
      between_line col k f (omega arith) (omega arith) h,
      between_line col k (suc f) (omega arith) (omega arith) h,
      mul-le-mul_right {m = f} {n = suc f} (col (suc k) - col k) (omega arith),
    )

pub between_up : {col : ℕ → ℕ} → NeverFalls col → (T U : ℕ) → coldest ≤ T → T ≤ U → U ≤ hottest → between col T ≤ between col U
between_up {col} n T U l h u =
    ⊎_elim
    (λ e. rw e (le_refl _))
    (λ d. grows ◌≤◌ (λ x y z. le_trans) (between col) coldest hottest (between_step n) T U l d u)
    (eq-or-lt_of_le h)

air_up : (T U : ℕ) → coldest ≤ T → T ≤ U → U ≤ hottest → air_heat T ≤ air_heat U
unfolding air_heat
air_up = between_up (grows_on h_grows)

o2_up : {s : List ℕ} → Accepted s → (T U : ℕ) → coldest ≤ T → T ≤ U → U ≤ hottest → between (o2 s) T ≤ between (o2 s) U
o2_up ok = between_up (o2_never_falls ok)

air_first : air_heat coldest ≡ 4776000
unfolding rows_h column air_h reading between air_heat
air_first = refl

air_15 : air_heat fifteen_degrees ≡ 6886840
unfolding rows_h column air_h reading between air_heat
air_15 = refl

below_or_above : (T : ℕ) → (T ≤ fifteen_degrees) ⊎ (fifteen_degrees ≤ T)
below_or_above T = elim (dec_le T fifteen_degrees) [ yes h ↦ inl h | no h ↦ inr (omega arith) ]

split : (n : ℕ) {a c : ℕ} → a ≤ c → n * c ≡ n * a + n * (c - a)
split n {a} {c} h = let e : c ≡ a + (c - a) = omega arith in ap (λ (x : ℕ). n * x) e ∙ omega arith

-- ---- of a charge that burns
-- its mass
pub mass_least : {g : Gas} → Burns document01 g → 100000 ≤ total_mass document01 g
mass_least b = let l = b.limits in omega arith

pub mass_most : {g : Gas} → Burns document01 g → total_mass document01 g ≤ 10650950000
mass_most b = let l = b.limits in omega arith

module _ {g : Gas} {s : List ℕ} (b : Burns document01 g) (ok : Accepted s) where
  sized : Sized (masses_of document01 g)
  sized = masses_sized g b.limits (air_outweighs document01 document01_sound g b)

  -- what the sum adds, and what it takes away
  brought : ℕ → ℕ
  brought T = let m = masses_of document01 g in m.air * air_heat T + m.co2 * between (co2 s) T + m.h2o * between (h2o s) T

  taken : ℕ → ℕ
  taken T = up (masses_of document01 g).used * between (o2 s) T

  brought_is : (T : ℕ) → coldest ≤ T → T ≤ hottest → Is (gas_heat document01 s g T) (brought T) (taken T)
  unfolding heat_of brought taken
  brought_is T l u = sum_parts sized (per_pound ok T l u)

  -- from one temperature to a higher one the heat does not fall, and rises by at most that of all the air and of CO2 and H2O from nothing
  module _ (T U : ℕ) (l : coldest ≤ T) (h : T ≤ U) (u : U ≤ hottest) where
    never_less : brought T + taken U ≤ brought U + taken T
    never_less =
        ⊎_elim
        (λ e. rw e (le_refl _))
        (λ d. omega (zed, rises_on (gas_straight document01 document01_sound ok g b) T U l d u, brought_is T l (omega arith), brought_is U (omega arith) u))
        (eq-or-lt_of_le h)

    gained : brought U + taken T ≤ brought T + taken U + (10000000000 * (air_heat U - air_heat T) + 530190000000000000)
    unfolding brought taken
    gained =
        let m = masses_of document01 g in
        let p = per_pound ok U (omega arith) u in
        let a : air_heat T ≤ air_heat U = air_up T U l h u in
        omega (
          arith,
          mul-le-mul_left (up m.used) (o2_up ok T U l h u),
          mul-le-mul_right (air_heat U - air_heat T) sized.air_most,
          split m.air a,
          mul-le-mul sized.co2_most p.dioxide_most,
          mul-le-mul sized.h2o_most p.water_most,
        )

  module _ (T : ℕ) (l : coldest ≤ T) (u : T ≤ hottest) where
    pub gas_heat_most : up (gas_heat document01 s g T) ≤ 1068080000000000000
    unfolding heat_of
    gas_heat_most = let p = per_pound ok T l u in omega (arith, up_most (sum_parts sized p), added_most sized p)

    -- the most that oxygen takes away, less what the air that holds it brings at 200 K
    pub gas_heat_least : dn (gas_heat document01 s g T) ≤ 358802701600000000
    unfolding heat_of masses_of oxygen_used lean
    gas_heat_least =
        let p = per_pound ok T l u in
        let a : 4776000 ≤ air_heat T = omega (arith, air_first, air_up coldest T (lit≤ tt) l u) in
        let used = 32000 * g.carbon + 8000 * g.hydrogen in
        let k = le_z_true (pos used) (pos (23186 * g.air)) b.is_lean in
        let n = b.limits in
        omega (arith, sum_parts sized p, apart (gas_heat document01 s g T), mul-le-mul_left used p.oxygen_most, mul-le-mul_left (100000 * g.air) a)

    content_is : Is (content_above15 document01 s g T) (brought T + taken fifteen_degrees) (taken T + brought fifteen_degrees)
    content_is = is_minus (brought_is T l u) (brought_is fifteen_degrees (lit≤ tt) (lit≤ tt))

    pub content_most : up (content_above15 document01 s g T) ≤ 999211600000000000
    content_most =
        ⊎_elim
        (λ d. omega (arith, content_is, apart (content_above15 document01 s g T), never_less T fifteen_degrees l d (lit≤ tt)))
        (λ d. omega (arith, content_is, apart (content_above15 document01 s g T), gained fifteen_degrees T (lit≤ tt) d u, air_15, (per_pound ok T l u).air_most))
        (below_or_above T)

    pub content_least : dn (content_above15 document01 s g T) ≤ 551298400000000000
    content_least =
        ⊎_elim
        (λ d. omega (arith, content_is, apart (content_above15 document01 s g T), gained T fifteen_degrees l d (lit≤ tt), air_15, air_first, air_up coldest T (lit≤ tt) l u))
        (λ d. omega (arith, content_is, apart (content_above15 document01 s g T), never_less fifteen_degrees T (lit≤ tt) d u))
        (below_or_above T)

    pub content_fits : SFits w64 (content_above15 document01 s g T)
    content_fits = fits_from w64 (is_self (content_above15 document01 s g T)) (omega (arith, content_most)) (omega (arith, content_least))

    pub specific_most : up (specific_content document01 s g T) ≤ up (content_above15 document01 s g T) / 100000 + 1
    specific_most = nearest_up (lit< tt) (mass_least b) (specific_nearest document01 document01_sound b s T)

    pub specific_least : dn (specific_content document01 s g T) ≤ dn (content_above15 document01 s g T) / 100000 + 1
    specific_least = nearest_dn (lit< tt) (mass_least b) (specific_nearest document01 document01_sound b s T)
