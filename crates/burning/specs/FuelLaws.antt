-- Fuel added to a gas, over any weights: fuel that is not wrong keeps the limits and adds its mass; no fuel adds nothing; and several fuels give the same gas and the
-- same mass as one, so in any order. Assumes nothing.
use Rattle.std.specs.Prelude.{◌≡◌, refl, false, List, [], ◌∷◌, ℕ, ◌+◌, ◌≤◌, ℤ, pos, ◌+ℤ◌, length, take}
use Rattle.std.proofs.Common.{sym, ap, ap₂, ◌∙◌, add-zero, arith}
use Rattle.std.specs.Int.Signed.{lt_z}
use Rattle.signed.specs.Zed.{up, dn, apart, is_pos, is_self, is_add, dn_none, same_by, lt_z_false, zed}
use Rattle.refusal.specs.BoolLaws.{neither}
use Rattle.burning.specs.declared.Fuel.{Fuel}
use Rattle.burning.specs.declared.Gas.{Gas}
use Rattle.burning.specs.Burning.{Weights, document01, gas_of, beyond, Limits, total_mass}
use Rattle.burning.specs.BurningLaws.{limits_of}
use Rattle.burning.specs.Fuel.{fuel_numbers, fuel_in, numbers_of_fuel, added, with_fuel, takes_away, wrong_fuel, mass_added, no_fuel, both}

-- ---- a fuel and its numbers: each is had back from the other
pub fuel_back : (f : Fuel) → fuel_in (numbers_of_fuel f) ≡ f
fuel_back f = refl

pub fuel_count : (f : Fuel) → length (numbers_of_fuel f) ≡ fuel_numbers
fuel_count f = refl

pub fuel_numbers_back : (l : List ℤ) → fuel_numbers ≤ length l → numbers_of_fuel (fuel_in l) ≡ take fuel_numbers l
fuel_numbers_back [] h = absurd (omega arith)
fuel_numbers_back (a ∷ []) h = absurd (omega arith)
fuel_numbers_back (a ∷ b ∷ l) h = refl

-- ---- numbers that are not below zero
up_sum : (x y : ℤ) → dn x ≡ 0 → dn y ≡ 0 → up (x +ℤ y) ≡ up x + up y
up_sum x y p q = let i = is_add (is_self x) (is_self y) in omega (arith, i, dn_none i (omega arith))

more_twice : (have : ℕ) (x y : ℤ) → dn x ≡ 0 → pos (up (pos have +ℤ x)) +ℤ y ≡ pos have +ℤ (x +ℤ y)
more_twice have x y p =
    same_by (is_add (is_pos (up (pos have +ℤ x))) (is_self y)) (is_add (is_pos have) (is_add (is_self x) (is_self y))) (omega (arith, up_sum (pos have) x refl p))

turned : (x y : ℤ) → x +ℤ y ≡ y +ℤ x
turned x y = same_by (is_add (is_self x) (is_self y)) (is_add (is_self y) (is_self x)) (omega arith)

-- ---- fuel that takes no atoms away
pub record Adds (f : Fuel) : Type 0 where
  pub carbon_plain : dn f.carbon ≡ 0
  pub hydrogen_plain : dn f.hydrogen ≡ 0

pub adds : (f : Fuel) → takes_away f ≡ false → Adds f
adds f e =
    let n = neither (lt_z f.carbon (pos 0)) (lt_z f.hydrogen (pos 0)) e in
    record {
      carbon_plain = omega (zed, apart f.carbon, lt_z_false f.carbon (pos 0) n.0);
      hydrogen_plain = omega (zed, apart f.hydrogen, lt_z_false f.hydrogen (pos 0) n.1);
    }

module _ (g : Gas) (f : Fuel) (a : Adds f) where
  pub carbon_with : (with_fuel g f).carbon ≡ g.carbon + up f.carbon
  carbon_with = up_sum (pos g.carbon) f.carbon refl a.carbon_plain

  pub hydrogen_with : (with_fuel g f).hydrogen ≡ g.hydrogen + up f.hydrogen
  hydrogen_with = up_sum (pos g.hydrogen) f.hydrogen refl a.hydrogen_plain

  -- the mass of the whole grows by that of the fuel
  pub mass_with : (w : Weights) → total_mass w (with_fuel g f) ≡ total_mass w g + mass_added w f
  mass_with w = rw (carbon_with, hydrogen_with) (omega arith)

-- ---- fuel that is not wrong
module _ (w : Weights) (g : Gas) (f : Fuel) (e : wrong_fuel w g f ≡ false) where
  pub right_adds : Adds f
  right_adds = adds f (neither (takes_away f) (beyond w (added g f)) e).0

  pub limits_with : Limits w (with_fuel g f)
  limits_with = limits_of w (added g f) (neither (takes_away f) (beyond w (added g f)) e).1

-- document 01's limits, of the fuel alone
module _ (g : Gas) (f : Fuel) (e : wrong_fuel document01 g f ≡ false) where
  pub carbon_most : up f.carbon ≤ document01.most_atoms
  carbon_most = omega (arith, carbon_with g f (right_adds document01 g f e), (limits_with document01 g f e).carbon_most)

  pub hydrogen_most : up f.hydrogen ≤ document01.most_atoms
  hydrogen_most = omega (arith, hydrogen_with g f (right_adds document01 g f e), (limits_with document01 g f e).hydrogen_most)

  pub mass_most : mass_added document01 f ≤ 650950000
  mass_most = omega (arith, carbon_most, hydrogen_most)

-- ---- no fuel, and several
pub none_added : (g : Gas) → with_fuel g no_fuel ≡ g
none_added g = ap₂ (λ (c h : ℕ). record { air = g.air; carbon = c; hydrogen = h }) (add-zero g.carbon) (add-zero g.hydrogen)

-- the second fuel added after the first: what the two as one give, so it is as wrong and the gas is the same
pub added_twice : (g : Gas) (a b : Fuel) → Adds a → added (with_fuel g a) b ≡ added g (both a b)
added_twice g a b n =
    ap₂ (λ (c h : ℤ). record { air = pos g.air; carbon = c; hydrogen = h }) (more_twice g.carbon a.carbon b.carbon n.carbon_plain)
    (more_twice g.hydrogen a.hydrogen b.hydrogen n.hydrogen_plain)

pub both_turned : (a b : Fuel) → both a b ≡ both b a
both_turned a b = ap₂ (λ (c h : ℤ). record { carbon = c; hydrogen = h }) (turned a.carbon b.carbon) (turned a.hydrogen b.hydrogen)

module _ (g : Gas) (a b : Fuel) (m : Adds a) (n : Adds b) where
  pub any_order : with_fuel (with_fuel g a) b ≡ with_fuel (with_fuel g b) a
  any_order = ap gas_of (added_twice g a b m ∙ ap (added g) (both_turned a b) ∙ sym (added_twice g b a n))

  pub mass_both : (w : Weights) → mass_added w (both a b) ≡ mass_added w a + mass_added w b
  mass_both w =
      rw (up_sum a.carbon b.carbon m.carbon_plain n.carbon_plain, up_sum a.hydrogen b.hydrogen m.hydrogen_plain n.hydrogen_plain) (omega arith)
