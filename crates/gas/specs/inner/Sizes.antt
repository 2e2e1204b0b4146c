-- What the heats of src/heats.rt ask and show past the refusals: masses whose heats stay inside 64 bits, and the heats of two neighbouring kelvins.
use Rattle.std.specs.Prelude.{◌≡◌, ℕ, ◌*◌, ◌/◌, ◌<◌, ◌≤◌, ℤ, pos, ◌+ℤ◌, ◌-ℤ◌, ◌≤ℤ◌}
use Rattle.signed.specs.Zed.{up}
use Rattle.burning.specs.declared.Masses.{Masses}

-- the masses of a charge within its limits that is lean: air outweighs four times the oxygen used
pub record Sized (m : Masses) : Type 0 where
  pub air_most : m.air ≤ 10000000000
  pub used_least : pos 0 ≤ℤ m.used
  pub used_most : m.used ≤ℤ pos 2000000000
  pub co2_most : m.co2 ≤ 2200550000
  pub h2o_most : m.h2o ≤ 450400000
  pub thin : 4 * up m.used < m.air

-- heats per pound that the table and an accepted sheet can give
pub record PerPound (air oxygen dioxide water : ℕ) : Type 0 where
  pub air_most : air ≤ 53789000
  pub oxygen_most : oxygen ≤ 200000000
  pub dioxide_most : dioxide ≤ 200000000
  pub water_most : water ≤ 200000000

-- b lies a whole number of thousands above a
pub record Rises (a b : ℤ) : Type 0 where
  pub slope : ℕ
  pub line : b ≡ a +ℤ pos (1000 * slope)
  pub room : 1000 * slope < 9223372036854775808

-- the heat f mK above a kelvin, from the heats there and at the next
unfoldable pub along : ℤ → ℤ → ℕ → ℤ
along a b f = a +ℤ pos (f * (up (b -ℤ a) / 1000))
