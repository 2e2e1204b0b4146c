-- Document 01, "Examples to hold against it": P1 to P3, both sides of the range, and a psi search with its looks. Assumes nothing.
use Rattle.std.specs.Prelude.{◌≡◌, refl, [], ◌∷◌, pos, negsuc}
use Rattle.std.proofs.Common.{lit<, lit≤}
use Rattle.signed.specs.Zed.{in_z, eq_z}
use Rattle.rows.specs.Rows.{rows_h, rows_cp, rows_psi}
use Rattle.rows.specs.Table.{column, air_h, air_cp, air_psi}
use Rattle.refusal.specs.Refusals.{gives, refuses}
use Rattle.air.specs.Readings.{reading, between, air_heat, air_psi_at}
use Rattle.air.specs.Halving.{halvings, halving}
use Rattle.air.specs.ReadingsLaws.{straight, psi_straight}
use Rattle.air.specs.Inverse.{temperature, rest, looks}
use Rattle.air.specs.InverseLaws.{temperature_is, rest_is}
use Rattle.air.specs.Answers.{air_heat_told, psi_told, cp_told, psi_value}

pub P1 : air_heat_told (pos 200000) ≡ gives 4776000
unfolding in_z rows_h column air_h reading between air_heat
P1 = refl

pub P2 : air_heat_told (pos 200500) ≡ gives 4788000
unfolding in_z rows_h column air_h reading between air_heat
P2 = refl

pub P3 : psi_told (pos 200500) ≡ gives 95302000
unfolding in_z rows_psi column air_psi reading between air_psi_at
P3 = refl

-- the last row alone, and both sides of the range
pub heat_last : air_heat_told (pos 2000000) ≡ gives 53789000
unfolding in_z rows_h column air_h reading between air_heat
heat_last = refl

pub heat_under : air_heat_told (pos 199999) ≡ refuses 6
unfolding in_z
heat_under = refl

pub heat_over : air_heat_told (pos 2000001) ≡ refuses 6
unfolding in_z
heat_over = refl

pub heat_below_zero : air_heat_told (negsuc 0) ≡ refuses 6
unfolding in_z
heat_below_zero = refl

pub cp_first : cp_told (pos 200) ≡ gives 2393
unfolding in_z rows_cp column air_cp
cp_first = refl

pub cp_last : cp_told (pos 2000) ≡ gives 2986
unfolding in_z rows_cp column air_cp
cp_last = refl

pub cp_over : cp_told (pos 2001) ≡ refuses 6
unfolding in_z
cp_over = refl

-- the search of psi 95,302,000, which is psi at 200,500 mK: ten looks
pub psi_looks : looks psi_value (pos 95302000) ≡ 1100 ∷ 650 ∷ 425 ∷ 312 ∷ 256 ∷ 228 ∷ 214 ∷ 207 ∷ 203 ∷ 201 ∷ []
unfolding eq_z rows_psi column air_psi reading between air_psi_at looks halving halvings
psi_looks = refl

-- and its answer, with no rest
pub psi_temperature : temperature psi_value (pos 95302000) ≡ 200500
unfolding rows_psi column air_psi reading between air_psi_at psi_straight straight
psi_temperature = temperature_is psi_straight 200 38000 (pos 95302000) (lit≤ tt) (lit< tt) refl (lit< tt)

pub psi_rest : rest psi_value (pos 95302000) ≡ pos 0
unfolding rows_psi column air_psi reading between air_psi_at psi_straight straight
psi_rest = rest_is psi_straight 200 38000 (pos 95302000) (lit≤ tt) (lit< tt) refl (lit< tt)
