-- `read_digits`: a step for each byte reads what `digits_of` reads of the whole text (`run_more`).
-- Invariant: s is what the steps make of the bytes that were gone over.
use Rattle.std.specs.Prelude.{◌≡◌, take}
use Rattle.text.specs.declared.Digits.TheVariants.{Empty}
use Rattle.text.specs.Wholes.{step_digits}
use Rattle.text.specs.Fold.{run}
use Rattle.text.proofs.read_digits.Given as goal

abbrev pub invariant-loop-b : goal.invariant-loop-b
invariant-loop-b l = l.s ≡ run (step_digits l.limit) Empty (take l.b-index l.text)
