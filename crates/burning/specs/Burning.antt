-- Burning (document 01, "Burning"): complete, lean combustion of a carbon and hydrogen fuel in dry air. Masses in milligrams, atoms in moles, air in parts
-- of 100 g. The weights and limits are a parameter of every definition, and document 01's are the one instance.
use Rattle.std.specs.Prelude.{◌≡◌, Bool, true, ◌||◌, List, [], ◌∷◌, ℕ, ◌+◌, ◌*◌, ◌/◌, ◌<◌, ◌≤◌, ℤ, pos, ◌-ℤ◌, get_or}
use Rattle.std.specs.Int.Signed.{le_z}
use Rattle.signed.specs.Zed.{up, outside}
use Rattle.burning.specs.declared.Charge.{Charge}
use Rattle.burning.specs.declared.Gas.{Gas}
use Rattle.burning.specs.declared.Products.{Products}
use Rattle.burning.specs.declared.Masses.{Masses}

-- the atomic weights; a part of air, with its oxygen, nitrogen and argon; the most parts of air and the most atoms of a charge
pub record Weights : Type 0 where
  pub carbon : ℕ
  pub hydrogen : ℕ
  pub oxygen : ℕ
  pub air_part : ℕ
  pub air_o2 : ℕ
  pub air_n2 : ℕ
  pub air_ar : ℕ
  pub most_air : ℕ
  pub most_atoms : ℕ

-- C 12.011, H 1.008, O 16.000; N2 0.75463, O2 0.23186, Ar 0.01351; 1 ≤ A ≤ 100,000; c and h from 0 to 50,000
abbrev pub document01 : Weights
document01 = record {
  carbon = 12011;
  hydrogen = 1008;
  oxygen = 16000;
  air_part = 100000;
  air_o2 = 23186;
  air_n2 = 75463;
  air_ar = 1351;
  most_air = 100000;
  most_atoms = 50000;
}

-- what any weights must be: oxygen even, since an atom of hydrogen takes half of one; air whole, and more than four times its oxygen
pub record Sound (w : Weights) : Type 0 where
  pub even : w.oxygen / 2 * 2 ≡ w.oxygen
  pub whole : w.air_o2 + w.air_n2 + w.air_ar ≡ w.air_part
  pub thin : 4 * w.air_o2 < w.air_part

-- a charge is handed in and shown as three numbers, A, c, h: how many, the charge of its numbers, and the numbers of a charge
abbrev pub charge_numbers : ℕ
charge_numbers = 3

abbrev pub charge_in : List ℤ → Charge
charge_in numbers = record { air = get_or numbers 0 (pos 0); carbon = get_or numbers 1 (pos 0); hydrogen = get_or numbers 2 (pos 0) }

abbrev pub numbers_of_charge : Charge → List ℤ
numbers_of_charge ch = ch.air ∷ ch.carbon ∷ ch.hydrogen ∷ []

-- a charge is A parts of air, c moles of carbon, h moles of hydrogen atoms
abbrev pub gas_of : Charge → Gas
gas_of ch = record { air = up ch.air; carbon = up ch.carbon; hydrogen = up ch.hydrogen }

-- and the charge that a gas is
abbrev pub charge_of : Gas → Charge
charge_of g = record { air = pos g.air; carbon = pos g.carbon; hydrogen = pos g.hydrogen }

-- 1 ≤ A ≤ 100,000; c and h from 0 to 50,000: whether A, c or h is outside its limit
unfoldable pub beyond : Weights → Charge → Bool
beyond w ch = outside (pos 1) (pos w.most_air) ch.air || (outside (pos 0) (pos w.most_atoms) ch.carbon || outside (pos 0) (pos w.most_atoms) ch.hydrogen)

-- the same limits, of whole numbers
pub record Limits (w : Weights) (g : Gas) : Type 0 where
  pub air_some : 1 ≤ g.air
  pub air_most : g.air ≤ w.most_air
  pub carbon_most : g.carbon ≤ w.most_atoms
  pub hydrogen_most : g.hydrogen ≤ w.most_atoms

-- CO2 is an atom of carbon and two of oxygen; of H2O, each atom of hydrogen with its half of an oxygen
abbrev pub co2_weight : Weights → ℕ
co2_weight w = w.carbon + 2 * w.oxygen

abbrev pub h2o_weight : Weights → ℕ
h2o_weight w = w.hydrogen + w.oxygen / 2

-- fuel mass 12011c + 1008h
abbrev pub fuel_mass : Weights → Gas → ℕ
fuel_mass w g = w.carbon * g.carbon + w.hydrogen * g.hydrogen

-- oxygen used 32000c + 8000h
unfoldable pub oxygen_used : Weights → Gas → ℤ
oxygen_used w g = pos (2 * w.oxygen * g.carbon + w.oxygen / 2 * g.hydrogen)

-- lean: oxygen used ≤ 23186A
unfoldable pub lean : Weights → Gas → Bool
lean w g = le_z (oxygen_used w g) (pos (w.air_o2 * g.air))

-- a charge that is not refused
pub record Burns (w : Weights) (g : Gas) : Type 0 where
  pub limits : Limits w g
  pub is_lean : lean w g ≡ true

-- products: CO2 44011c; H2O 9008h; O2 23186A less oxygen used; N2 75463A; Ar 1351A
unfoldable pub products : Weights → Gas → Products
products w g = record {
  co2 = co2_weight w * g.carbon;
  h2o = h2o_weight w * g.hydrogen;
  o2 = up (pos (w.air_o2 * g.air) -ℤ oxygen_used w g);
  n2 = w.air_n2 * g.air;
  ar = w.air_ar * g.air;
}

-- the masses that take part in the heat: 100000A, oxygen used, CO2 mass, H2O mass
unfoldable pub masses_of : Weights → Gas → Masses
masses_of w g = record { air = w.air_part * g.air; used = oxygen_used w g; co2 = co2_weight w * g.carbon; h2o = h2o_weight w * g.hydrogen }

-- mass in: the air and the fuel
abbrev pub total_mass : Weights → Gas → ℕ
total_mass w g = w.air_part * g.air + fuel_mass w g

-- mass out
abbrev pub mass_of : Products → ℕ
mass_of p = p.co2 + p.h2o + p.o2 + p.n2 + p.ar

-- the products hold so many moles of carbon and of hydrogen atoms, and so much oxygen, nitrogen and argon: the carbon as CO2, the hydrogen as H2O, and the
-- oxygen in those two and as O2
pub record Holds (w : Weights) (p : Products) (carbon hydrogen oxygen nitrogen argon : ℕ) : Type 0 where
  pub as_co2 : p.co2 ≡ co2_weight w * carbon
  pub as_h2o : p.h2o ≡ h2o_weight w * hydrogen
  pub in_all : 2 * w.oxygen * carbon + w.oxygen / 2 * hydrogen + p.o2 ≡ oxygen
  pub as_n2 : p.n2 ≡ nitrogen
  pub as_ar : p.ar ≡ argon

-- mass in equals mass out, and each element balances
pub record Balanced (w : Weights) (g : Gas) (p : Products) : Type 0 where
  pub mass : mass_of p ≡ total_mass w g
  pub elements : Holds w p g.carbon g.hydrogen (w.air_o2 * g.air) (w.air_n2 * g.air) (w.air_ar * g.air)
