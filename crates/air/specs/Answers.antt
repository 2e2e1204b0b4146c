-- What the calls on air tell (document 01, "The air table" and "Temperature from heat"): each an order of refusals and the values else.
use Rattle.std.specs.Prelude.{List, [], ◌∷◌, ◌≡◌, ℕ, ltb, ℤ, pos, length, Result}
use Rattle.signed.specs.Zed.{up, outside}
use Rattle.rows.specs.Limits.{first_kelvin, last_kelvin}
use Rattle.rows.specs.Table.{air_cp}
use Rattle.air.specs.Limits.{look_places, coldest, hottest}
use Rattle.air.specs.declared.Millikelvin.{Millikelvin}
use Rattle.refusal.specs.declared.Refusal.{Refusal}
use Rattle.refusal.specs.Refusals.{Told, told_as, told_of, Line, ◌when◌, first}
use Rattle.air.specs.Readings.{air_heat, air_psi_at}
use Rattle.air.specs.Inverse.{looks, unreached, Found, found, written}

-- a reading as the paper has it: the number read, or the refusal
abbrev pub paper_reading : Result ℕ Refusal → Told ℕ
paper_reading = told_of

-- refusal 6 outside 200,000 to 2,000,000 mK
abbrev pub air_heat_told : ℤ → Told ℕ
air_heat_told mk = first (6 when outside (pos coldest) (pos hottest) mk ∷ []) (air_heat (up mk))

abbrev pub psi_told : ℤ → Told ℕ
psi_told mk = first (6 when outside (pos coldest) (pos hottest) mk ∷ []) (air_psi_at (up mk))

-- Cp as printed, refusal 6 outside 200 to 2,000 whole kelvins
abbrev pub cp_told : ℤ → Told ℕ
cp_told kelvin = first (6 when outside (pos first_kelvin) (pos last_kelvin) kelvin ∷ []) (air_cp (up kelvin))

-- psi by temperature, as a value to search
abbrev pub psi_value : ℕ → ℤ
psi_value T = pos (air_psi_at T)

-- the temperature of a psi as the paper has it: mK and rest, or the refusal
abbrev pub found_at : Millikelvin × ℕ → Found
found_at p = record { mk = p.0.0; left = pos p.1 }

abbrev pub paper_psi : Result (Millikelvin × ℕ) Refusal → Told Found
paper_psi = told_as found_at

-- refusal 10 for a list of fewer than eleven places, then 8 or 9
abbrev pub psi_order : ℕ → ℤ → List Line
psi_order places target = 10 when ltb places look_places ∷ unreached psi_value target

abbrev pub psi_inverse_told : ℕ → ℤ → Told Found
psi_inverse_told places target = first (psi_order places target) (found psi_value target)

-- the whole of the psi inverse: what it tells, and the lent list after it
pub record PsiInverse (target : ℤ) (before : List ℕ) (r : Result (Millikelvin × ℕ) Refusal) (after : List ℕ) : Type 0 where
  pub told : paper_psi r ≡ psi_inverse_told (length before) target
  pub list : after ≡ written (psi_inverse_told (length before) target) (looks psi_value target) before
