-- What a lent column tells at a temperature: refusal 6 outside 200,000 to 2,000,000 mK, else what is read there.
use Rattle.std.specs.Prelude.{[], ◌∷◌, ℕ, ℤ, pos}
use Rattle.signed.specs.Zed.{up, outside}
use Rattle.refusal.specs.Refusals.{Told, ◌when◌, first}
use Rattle.air.specs.Limits.{coldest, hottest}
use Rattle.air.specs.Readings.{between}

abbrev pub column_told : (ℕ → ℕ) → ℤ → Told ℕ
column_told col mk = first (6 when outside (pos coldest) (pos hottest) mk ∷ []) (between col (up mk))
