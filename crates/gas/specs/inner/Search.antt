-- What the search of src/search.rt asks and shows past the refusals: the row that is kept and the division in it.
use Rattle.std.specs.Prelude.{◌≡◌, Bool, List, ◌++◌, ℕ, ◌+◌, ◌*◌, ◌/◌, ◌%◌, ◌<◌, ℤ, pos, ◌-ℤ◌, drop, ◌≤ℤ◌, ◌<ℤ◌}
use Rattle.signed.specs.Zed.{up}
use Rattle.rows.specs.Limits.{last_kelvin}
use Rattle.air.specs.declared.Millikelvin.{Millikelvin}
use Rattle.air.specs.Limits.{look_places}
use Rattle.air.specs.Halving.{eleven}
use Rattle.air.specs.Inverse.{fits, temperature, rest, looks}
use Rattle.burning.specs.declared.Masses.{Masses}
use Rattle.gas.specs.declared.Heat.{Heat}
use Rattle.gas.specs.Heat.{heat_of}
use Rattle.gas.specs.inner.Sizes.{Rises}

-- the heat at a whole kelvin is at most the target
unfoldable pub heat_fits : Masses → List ℕ → ℤ → ℕ → Bool
heat_fits m s target k = fits (heat_of m s) target (1000 * k)

-- a row that holds the target: the heat at its kelvin is at most the target, the heat at the next is not
pub record HoldsTarget (target : ℤ) (row : ℕ) (here next : ℤ) : Type 0 where
  pub rises : Rises here next
  pub passes : here ≤ℤ target
  pub fails : target <ℤ next
  pub most : row < last_kelvin

-- the one division: whole mK over the row's kelvin, and the rest
unfoldable pub divided : ℤ → ℕ → ℤ → ℤ → Millikelvin × Heat
divided target row here next =
    let over = up (target -ℤ here) in
    let slope = up (next -ℤ here) / 1000 in
    (record { 0 = pos (1000 * row + over / slope) }, record { 0 = pos (over % slope) })

-- the answer to a target that is reached, and the lent list after it
pub record Searched (v : ℕ → ℤ) (target : ℤ) (before : List ℕ) (r : Millikelvin × Heat) (after : List ℕ) : Type 0 where
  pub answer : r ≡ (record { 0 = pos (temperature v target) }, record { 0 = rest v target })
  pub list : after ≡ eleven (looks v target) ++ drop look_places before
