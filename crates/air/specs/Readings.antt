-- What is read from the air table (document 01, "The air table"): heat in 0.00001 C.H.U./lb and psi in 0.0000001, at a temperature in mK.
use Rattle.std.specs.Prelude.{cond, ℕ, suc, ◌+◌, ◌-◌, ◌*◌, ◌/◌, ◌%◌, ◌<◌, ◌≤◌, eqb}
use Rattle.rows.specs.Limits.{first_kelvin, last_kelvin}
use Rattle.rows.specs.Table.{air_h, air_psi}
use Rattle.air.specs.Limits.{hottest}

-- between whole kelvins with the figures a and b, f mK above the lower: 1000·a + f·(b − a)
unfoldable pub reading : ℕ → ℕ → ℕ → ℕ
reading a b f = 1000 * a + f * (b - a)

-- a column by kelvin, read at a temperature in mK; at 2,000,000 mK the last row alone is used
unfoldable pub between : (ℕ → ℕ) → ℕ → ℕ
between col mk = cond (eqb mk hottest) (1000 * col last_kelvin) (reading (col (mk / 1000)) (col (mk / 1000 + 1)) (mk % 1000))

-- the heat of air per pound, and psi
unfoldable pub air_heat : ℕ → ℕ
air_heat mk = between air_h mk

unfoldable pub air_psi_at : ℕ → ℕ
air_psi_at mk = between air_psi mk

-- no figure is below the one of the kelvin before
pub record NeverFalls (col : ℕ → ℕ) : Type 0 where
  pub step : (k : ℕ) → first_kelvin ≤ k → k < last_kelvin → col k ≤ col (suc k)
