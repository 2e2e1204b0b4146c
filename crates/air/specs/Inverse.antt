-- A temperature from a value (document 01, "Temperature from heat"), over any value by temperature: `v T` is the value at T mK, a signed number.
-- The psi inverse for air and the temperature of a gas from its heat are both this rule, with psi or the gas heat as the value.
use Rattle.std.specs.Prelude.{Bool, cond, List, [], ◌∷◌, ◌++◌, ◌≡◌, ℕ, ◌+◌, ◌*◌, ◌<◌, ◌≤◌, ℤ, pos, ◌+ℤ◌, ◌-ℤ◌, drop}
use Rattle.std.specs.Int.Signed.{le_z, lt_z}
use Rattle.signed.specs.Zed.{eq_z}
use Rattle.refusal.specs.Refusals.{Told, gives, refused, Line, ◌when◌}
use Rattle.rows.specs.Limits.{first_kelvin, last_kelvin}
use Rattle.air.specs.Limits.{look_places, coldest, hottest}
use Rattle.air.specs.Halving.{highest, halving, eleven}

-- the value at T is at most the target
abbrev pub fits : (ℕ → ℤ) → ℤ → ℕ → Bool
fits v target T = le_z (v T) target

-- the greatest T in mK whose value is at most the target
unfoldable pub temperature : (ℕ → ℤ) → ℤ → ℕ
temperature v target = highest (fits v target) coldest hottest

-- the target less the value at that T
unfoldable pub rest : (ℕ → ℤ) → ℤ → ℤ
rest v target = target -ℤ v (temperature v target)

-- no look where the target is the value at 2,000 K; otherwise those of the halving rule from 200 and 2,000
unfoldable pub looks : (ℕ → ℤ) → ℤ → List ℕ
looks v target = cond (eq_z target (v hottest)) [] (halving (λ k. fits v target (1000 * k)) first_kelvin last_kelvin).looks

-- refusals 8 and 9: the target below the value at 200 K, above the value at 2,000 K
abbrev pub unreached : (ℕ → ℤ) → ℤ → List Line
unreached v target = 8 when lt_z target (v coldest) ∷ 9 when lt_z (v hottest) target ∷ []

-- the temperature in mK, and the rest
pub record Found : Type 0 where
  pub mk : ℤ
  pub left : ℤ

abbrev pub found : (ℕ → ℤ) → ℤ → Found
found v target = record { mk = pos (temperature v target); left = rest v target }

-- the lent list of looks: eleven places are written by an answer, none by a refusal, and later places stay
abbrev pub written : {A : Type 0} → Told A → List ℕ → List ℕ → List ℕ
written (gives a) l before = eleven l ++ drop look_places before
written (refused r) l before = before

-- a value that runs straight from each whole kelvin to the next, rising by `slope` with each mK
pub record Straight (v : ℕ → ℤ) : Type 0 where
  pub slope : ℕ → ℕ
  pub rises : (k : ℕ) → first_kelvin ≤ k → k < last_kelvin → 0 < slope k
  pub line : (k f : ℕ) → first_kelvin ≤ k → k < last_kelvin → f ≤ 1000 → v (1000 * k + f) ≡ v (1000 * k) +ℤ pos (f * slope k)
