-- `read_hex`. Invariant: what the bytes from the index on make of the number so far is what the whole text says.
use Rattle.std.proofs.Common.{◌≡◌, drop, Some}
use Rattle.text.specs.Fold.{run}
use Rattle.typed.specs.Typed.{step_hex}
use Rattle.typed.proofs.read_hex.Given as goal

abbrev pub invariant-loop-b : goal.invariant-loop-b
invariant-loop-b l = run step_hex (Some l.v) (drop l.b-index l.text) ≡ run step_hex (Some 0) l.text
