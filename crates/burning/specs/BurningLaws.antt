-- A charge that is not refused: its limits, its mass and the balance of each element, over any sound weights (document 01, "Burning"). Assumes nothing.
use Rattle.std.proofs.lemmas.Bool.{not-false}
use Rattle.std.specs.Prelude.{◌≡◌, true, false, not, List, [], ◌∷◌, ℕ, ◌+◌, ◌*◌, ◌/◌, ◌<◌, ◌≤◌, ℤ, pos, ◌-ℤ◌, length, take, get_or, Ok}
use Rattle.std.proofs.Math.Path.{refl, ap}
use Rattle.std.proofs.Common.{arith, lit<}
use Rattle.signed.specs.Zed.{up, In, in_z, in_range, is_diff, dn_none, le_z_true, apart, zed}
use Rattle.refusal.specs.BoolLaws.{neither, both_hold}
use Rattle.refusal.specs.Refusals.{gives, first, Clear, clear, none}
use Rattle.burning.specs.declared.Charge.{Charge}
use Rattle.burning.specs.declared.Gas.{Gas}
use Rattle.burning.specs.declared.Products.{Products}
use Rattle.burning.specs.Burning.{charge_numbers, charge_in, numbers_of_charge, charge_of}
use Rattle.burning.specs.Burning.{Weights, document01, Sound, gas_of, beyond, Limits, h2o_weight, fuel_mass, oxygen_used, lean, Burns, products, total_mass, Balanced}
use Rattle.burning.specs.Answers.{charge_lines, paper_burn, burn_told}
use Rattle.refusal.specs.OrdersLaws.{clear_order, given}

-- ---- a charge and its numbers: each is had back from the other
pub charge_back : (ch : Charge) → charge_in (numbers_of_charge ch) ≡ ch
charge_back ch = refl

pub charge_count : (ch : Charge) → length (numbers_of_charge ch) ≡ charge_numbers
charge_count ch = refl

pub charge_numbers_back : (l : List ℤ) → charge_numbers ≤ length l → numbers_of_charge (charge_in l) ≡ take charge_numbers l
charge_numbers_back [] h = absurd (omega arith)
charge_numbers_back (a ∷ []) h = absurd (omega arith)
charge_numbers_back (a ∷ b ∷ []) h = absurd (omega arith)
charge_numbers_back (a ∷ b ∷ c ∷ l) h = refl

-- lists whose first numbers are the same are the same charge
pub charge_alike : (l m : List ℤ) → ((i : ℕ) → i < charge_numbers → get_or l i (pos 0) ≡ get_or m i (pos 0)) → charge_in l ≡ charge_in m
charge_alike l m g = rw (g 0 (lit< tt), g 1 (lit< tt), g 2 (lit< tt)) refl

-- and a gas is had back from the charge that it is
pub gas_back : (g : Gas) → gas_of (charge_of g) ≡ g
gas_back g = refl

-- ---- the limits of a charge
-- each number of a charge that is not beyond its limits
pub record Inside (w : Weights) (ch : Charge) : Type 0 where
  pub air_in : In (pos 1) (pos w.most_air) ch.air
  pub carbon_in : In (pos 0) (pos w.most_atoms) ch.carbon
  pub hydrogen_in : In (pos 0) (pos w.most_atoms) ch.hydrogen

module _ (w : Weights) (ch : Charge) (h : beyond w ch ≡ false) where
  pub inside_of : Inside w ch
  unfolding beyond
  inside_of =
      let e = neither (not (in_z (pos 1) (pos w.most_air) ch.air)) _ h in
      let f = both_hold (in_z (pos 0) (pos w.most_atoms) ch.carbon) (in_z (pos 0) (pos w.most_atoms) ch.hydrogen) e.1 in
      record { air_in = in_range _ _ _ (not-false _ e.0); carbon_in = in_range _ _ _ f.0; hydrogen_in = in_range _ _ _ f.1 }

  pub limits_of : Limits w (gas_of ch)
  limits_of =
      let i = inside_of in
      record {
        air_some = omega (zed, apart ch.air);
        air_most = omega (zed, apart ch.air);
        carbon_most = omega (zed, apart ch.carbon);
        hydrogen_most = omega (zed, apart ch.hydrogen);
      }

-- a charge with no refusal burns
pub burns_of : (w : Weights) (ch : Charge) → Clear (charge_lines w ch) → Burns w (gas_of ch)
burns_of w ch (clear h (clear k none)) = record { limits = limits_of w ch h; is_lean = not-false _ k }

-- what the two tests of a charge give
pub admitted : (w : Weights) (ch : Charge) {g : Gas} → gives g ≡ first (charge_lines w ch) (gas_of ch) → Burns w g
admitted w ch e = rw (← given (charge_lines w ch) (gas_of ch) e) (burns_of w ch (clear_order (charge_lines w ch) (gas_of ch) e))

-- ---- the balance
module _ (w : Weights) (g : Gas) (b : lean w g ≡ true) where
  -- oxygen left and oxygen used are the oxygen of the air
  oxygen_whole : 2 * w.oxygen * g.carbon + w.oxygen / 2 * g.hydrogen + (products w g).o2 ≡ w.air_o2 * g.air
  unfolding products oxygen_used lean
  oxygen_whole =
      let used = 2 * w.oxygen * g.carbon + w.oxygen / 2 * g.hydrogen in
      let h = le_z_true (pos used) (pos (w.air_o2 * g.air)) b in
      omega (arith, is_diff (w.air_o2 * g.air) used, dn_none (is_diff (w.air_o2 * g.air) used) (omega arith))

  pub products_balance : Sound w → Balanced w g (products w g)
  unfolding products
  products_balance s = record {
    mass = omega (arith, oxygen_whole, ap (λ (n : ℕ). n * g.air) s.whole);
    elements = record { as_co2 = refl; as_h2o = refl; in_all = oxygen_whole; as_n2 = refl; as_ar = refl };
  }

-- of whatever `burn` answers
pub burn_balances : (w : Weights) → Sound w → (ch : Charge) (p : Products) → paper_burn (Ok p) ≡ burn_told w ch → Balanced w (gas_of ch) p
burn_balances w s ch p e =
    rw (← given (charge_lines w ch) (products w (gas_of ch)) e)
    (products_balance w (gas_of ch) (burns_of w ch (clear_order (charge_lines w ch) (products w (gas_of ch)) e)).is_lean s)

-- ---- document 01's figures are those of its weights
pub document01_sound : Sound document01
document01_sound = record { even = refl; whole = refl; thin = lit< tt }

-- H2O is two atoms of hydrogen and one of oxygen
pub water_whole : {w : Weights} → Sound w → 2 * h2o_weight w ≡ 2 * w.hydrogen + w.oxygen
water_whole s = omega (arith, s.even)

module _ (g : Gas) where
  pub fuel_figures : fuel_mass document01 g ≡ 12011 * g.carbon + 1008 * g.hydrogen
  fuel_figures = refl

  pub used_figures : oxygen_used document01 g ≡ pos (32000 * g.carbon + 8000 * g.hydrogen)
  unfolding oxygen_used
  used_figures = refl

  pub product_figures : products document01 g ≡ record {
    co2 = 44011 * g.carbon;
    h2o = 9008 * g.hydrogen;
    o2 = up (pos (23186 * g.air) -ℤ oxygen_used document01 g);
    n2 = 75463 * g.air;
    ar = 1351 * g.air;
  }
  unfolding products
  product_figures = refl

  pub mass_figures : total_mass document01 g ≡ 100000 * g.air + (12011 * g.carbon + 1008 * g.hydrogen)
  mass_figures = refl
