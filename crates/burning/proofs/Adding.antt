-- Fuel added to a gas, count by count: when a count is wrong, and that fuel is wrong where one of its counts is. Assumes nothing.
use mathlib.Core.Path.{◌≡◌, refl, sym, ap₂, ◌∙◌}
use mathlib.Core.Bool.{Bool, true, false, ◌||◌, or-true}
use Prim.Native.Nat.{ℕ, ◌+◌, ◌<◌, ◌≤◌}
use native.Mathlib.Omega.{arith}
use lib.IntN.{ℤ, pos, ◌+ℤ◌}
use lib.Signed.{lt_z, le_z}
use Rattle.signed.specs.Zed.{up, dn, apart, Is, is_pos, is_self, is_add, outside, outside_over, not_outside, no_lt_z, zed}
use Rattle.refusal.specs.BoolLaws.{by_bool}
use Rattle.burning.specs.declared.Fuel.{Fuel}
use Rattle.burning.specs.declared.Gas.{Gas}
use Rattle.burning.specs.Burning.{document01, Limits, beyond}
use Rattle.burning.specs.Fuel.{with_fuel, wrong_fuel}
use Rattle.burning.specs.FuelLaws.{right_adds, carbon_with, hydrogen_with}
use Rattle.burning.specs.inner.Counts.{wrong_count}

-- ---- a count of atoms
module _ (have : ℕ) (more : ℤ) where
  sum_is : Is (pos have +ℤ more) (have + up more) (dn more)
  sum_is = record { is = omega (arith, is_add (is_pos have) (is_self more)) }

  -- wrong where what is added is no count, or where the sum is too large
  pub count_outside : have ≤ document01.most_atoms → outside (pos 0) (pos document01.most_atoms) more ≡ true → wrong_count have more ≡ true
  count_outside l e =
      by_bool (lt_z more (pos 0))
      (λ h. rw h refl)
      (λ h. rw (
        h,
        outside_over (pos 0) (pos document01.most_atoms) (pos have +ℤ more)
            (by_bool (le_z more (pos document01.most_atoms))
            (λ k. absurd
            (let z : ◌≡◌ {A = Bool} true false = sym e ∙ not_outside (pos 0) (pos document01.most_atoms) more (omega (zed, apart more)) (omega zed) in let q : ◌≡◌ {A = ℕ} 0 1 = cc in omega arith))
            (λ k. omega (zed, sum_is, apart more))),
      ) refl)

  pub count_over : dn more ≡ 0 → document01.most_atoms < have + up more → wrong_count have more ≡ true
  count_over d h = rw (no_lt_z more (pos 0) (omega arith), outside_over (pos 0) (pos document01.most_atoms) (pos have +ℤ more) (omega (arith, sum_is))) refl

  pub count_right : dn more ≡ 0 → have + up more ≤ document01.most_atoms → wrong_count have more ≡ false
  count_right d h = rw (no_lt_z more (pos 0) (omega arith), not_outside (pos 0) (pos document01.most_atoms) (pos have +ℤ more) (omega (arith, sum_is)) (omega (arith, sum_is))) refl

-- ---- the counts of a fuel
or_shuffle : (a b c d : Bool) → (a || b) || (c || d) ≡ (a || c) || (b || d)
or_shuffle true b c d = refl
or_shuffle false true true d = refl
or_shuffle false true false d = refl
or_shuffle false false c d = refl

module _ (g : Gas) (f : Fuel) (l : Limits document01 g) where
  counts_are : wrong_fuel document01 g f ≡ wrong_count g.carbon f.carbon || wrong_count g.hydrogen f.hydrogen
  unfolding beyond
  counts_are =
      rw (not_outside (pos 1) (pos document01.most_air) (pos g.air) (omega (arith, l.air_some)) (omega (arith, l.air_most)))
      (or_shuffle (lt_z f.carbon (pos 0)) (lt_z f.hydrogen (pos 0)) _ _)

  pub wrong_carbon : wrong_count g.carbon f.carbon ≡ true → wrong_fuel document01 g f ≡ true
  wrong_carbon e = counts_are ∙ rw e refl

  pub wrong_hydrogen : wrong_count g.hydrogen f.hydrogen ≡ true → wrong_fuel document01 g f ≡ true
  wrong_hydrogen e = counts_are ∙ rw e (or-true (wrong_count g.carbon f.carbon))

  pub right_counts : wrong_count g.carbon f.carbon ≡ false → wrong_count g.hydrogen f.hydrogen ≡ false → wrong_fuel document01 g f ≡ false
  right_counts e h = counts_are ∙ rw (e, h) refl

-- the gas with fuel that is not wrong, count by count
pub gas_with : (g : Gas) (f : Fuel) {c h : ℕ} → wrong_fuel document01 g f ≡ false → g.carbon + up f.carbon ≡ c → g.hydrogen + up f.hydrogen ≡ h
    → record { air = g.air; carbon = c; hydrogen = h } ≡ with_fuel g f
gas_with g f e x y =
    let a = right_adds document01 g f e in
    ap₂ (λ (m n : ℕ). record { air = g.air; carbon = m; hydrogen = n }) (sym x ∙ sym (carbon_with g f a)) (sym y ∙ sym (hydrogen_with g f a))
