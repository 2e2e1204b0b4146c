-- The search of a psi past its refusals: what its private functions have to show of the definitions in Inverse.antt and Answers.antt.
use Rattle.std.specs.Prelude.{Bool, List, ◌++◌, ◌≡◌, ℕ, ◌+◌, ◌*◌, ◌<◌, ◌≤◌, pos, drop}
use Rattle.signed.specs.Zed.{up}
use Rattle.rows.specs.Limits.{first_kelvin, last_kelvin}
use Rattle.rows.specs.Table.{air_psi}
use Rattle.air.specs.Limits.{look_places}
use Rattle.air.specs.declared.Millikelvin.{Millikelvin}
use Rattle.air.specs.Halving.{eleven}
use Rattle.air.specs.Inverse.{fits, temperature, rest, looks}
use Rattle.air.specs.Answers.{psi_value}

-- psi at a whole kelvin is at most the target
unfoldable pub psi_fits : ℕ → ℕ → Bool
psi_fits target k = fits psi_value (pos target) (1000 * k)

-- the row that a search keeps: psi there is at most the target, and at the next kelvin it is not
pub record PsiRow (target row a b : ℕ) : Type 0 where
  pub least : first_kelvin ≤ row
  pub most : row < last_kelvin
  pub here : a ≡ air_psi row
  pub next : b ≡ air_psi (row + 1)
  pub passes : 1000 * a ≤ target
  pub fails : target < 1000 * b

-- the answer to a target that is reached
unfoldable pub psi_found : ℕ → Millikelvin × ℕ
psi_found target = (record { 0 = pos (temperature psi_value (pos target)) }, up (rest psi_value (pos target)))

-- the answer and the lent list after the search
pub record PsiSearched (target : ℕ) (before : List ℕ) (r : Millikelvin × ℕ) (after : List ℕ) : Type 0 where
  pub answer : r ≡ psi_found target
  pub list : after ≡ eleven (looks psi_value (pos target)) ++ drop look_places before
