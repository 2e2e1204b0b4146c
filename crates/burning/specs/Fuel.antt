-- Fuel added to a gas (document 01, "The walk" and refusal 4): fuel as it is handed in, any signed numbers; the gas with it, where it is wrong, and its mass.
use Rattle.std.specs.Prelude.{Bool, ◌||◌, List, [], ◌∷◌, ℕ, ℤ, pos, ◌+ℤ◌, get_or}
use Rattle.std.specs.Int.Signed.{lt_z}
use Rattle.signed.specs.Zed.{up}
use Rattle.burning.specs.declared.Charge.{Charge}
use Rattle.burning.specs.declared.Fuel.{Fuel}
use Rattle.burning.specs.declared.Gas.{Gas}
use Rattle.burning.specs.Burning.{Weights, gas_of, beyond, fuel_mass}

-- fuel is handed in as two numbers, c and h: how many, the fuel of its numbers, and the numbers of a fuel
abbrev pub fuel_numbers : ℕ
fuel_numbers = 2

abbrev pub fuel_in : List ℤ → Fuel
fuel_in numbers = record { carbon = get_or numbers 0 (pos 0); hydrogen = get_or numbers 1 (pos 0) }

abbrev pub numbers_of_fuel : Fuel → List ℤ
numbers_of_fuel f = f.carbon ∷ f.hydrogen ∷ []

-- the charge with the fuel added, and the gas that it is
abbrev pub added : Gas → Fuel → Charge
added g f = record { air = pos g.air; carbon = pos g.carbon +ℤ f.carbon; hydrogen = pos g.hydrogen +ℤ f.hydrogen }

abbrev pub with_fuel : Gas → Fuel → Gas
with_fuel g f = gas_of (added g f)

-- atoms added negative
abbrev pub takes_away : Fuel → Bool
takes_away f = lt_z f.carbon (pos 0) || lt_z f.hydrogen (pos 0)

-- refusal 4: atoms added negative, or A, c or h outside its limit
abbrev pub wrong_fuel : Weights → Gas → Fuel → Bool
wrong_fuel w g f = takes_away f || beyond w (added g f)

-- the fuel with no air, and its mass
abbrev pub alone : Fuel → Gas
alone f = record { air = 0; carbon = up f.carbon; hydrogen = up f.hydrogen }

abbrev pub mass_added : Weights → Fuel → ℕ
mass_added w f = fuel_mass w (alone f)

-- ---- fuels by themselves
-- no fuel, and two fuels as one
abbrev pub no_fuel : Fuel
no_fuel = record { carbon = pos 0; hydrogen = pos 0 }

abbrev pub both : Fuel → Fuel → Fuel
both a b = record { carbon = a.carbon +ℤ b.carbon; hydrogen = a.hydrogen +ℤ b.hydrogen }
