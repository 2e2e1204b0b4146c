-- A step and its numbers: each is had back from the other. Assumes nothing.
use Rattle.std.specs.Prelude.{◌≡◌, refl, List, [], ◌∷◌, ◌≤◌, ℤ, length, take}
use Rattle.std.proofs.Common.{arith}
use Rattle.walk.specs.Limits.{step_numbers}
use Rattle.walk.specs.declared.Step.{Step}
use Rattle.walk.specs.Step.{step_in, numbers_of_step}

pub step_back : (p : Step) → step_in (numbers_of_step p) ≡ p
step_back p = refl

pub numbers_back : (l : List ℤ) → step_numbers ≤ length l → numbers_of_step (step_in l) ≡ take step_numbers l
numbers_back [] h = absurd (omega arith)
numbers_back (a ∷ []) h = absurd (omega arith)
numbers_back (a ∷ b ∷ []) h = absurd (omega arith)
numbers_back (a ∷ b ∷ c ∷ []) h = absurd (omega arith)
numbers_back (a ∷ b ∷ c ∷ d ∷ l) h = refl

pub step_count : (p : Step) → length (numbers_of_step p) ≡ step_numbers
step_count p = refl
