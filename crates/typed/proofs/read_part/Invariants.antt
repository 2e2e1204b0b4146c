-- `read_part`. Invariant: what the bytes from the index on make of the number so far is what the whole text says.
use Rattle.typed.specs.declared.Part.TheVariants.{Start}
use Rattle.std.proofs.Common.{◌≡◌, drop}
use Rattle.text.specs.Fold.{run}
use Rattle.typed.specs.Typed.{step_part}
use Rattle.typed.proofs.read_part.Given as goal

abbrev pub invariant-loop-b : goal.invariant-loop-b
invariant-loop-b l = run step_part l.s (drop l.b-index l.text) ≡ run step_part Start l.text
