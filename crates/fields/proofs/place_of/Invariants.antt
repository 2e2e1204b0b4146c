-- `place_of`: the first byte of the kind at or after `from`, or the line's end, is where the span ends.
-- Invariant: from place i on the same end is still ahead (`span_more`).
use Rattle.fields.specs.Fields.{span_to}
use lib.ListN.{drop}
use Prim.Native.Nat.{◌+◌}
use mathlib.Core.Path.{◌≡◌}
use Rattle.fields.proofs.place_of.Given as goal

abbrev pub invariant-loop-i : goal.invariant-loop-i
invariant-loop-i l = l.i + span_to l.byte (drop l.i l.line) ≡ l.from + span_to l.byte (drop l.from l.line)
