-- `position_in`: each field in turn is held to the word (`position_at`), up to the first that is the same or the text's end (`position_none`).
-- Invariant: n fields are none of the word, and the place among all is n and the place among those from there on.
-- Measure: the bytes of the text that are left, and one for the field at its end.
use Rattle.fields.specs.Fields.{fields_of, fields_from}
use Rattle.fields.specs.Words.{position_of}
use lib.ListN.{length}
use mathlib.Core.Path.{◌≡◌}
use Prim.Native.Nat.{◌≤◌, ◌-◌, ◌+◌}
use Rattle.fields.proofs.position_in.Given as goal

abbrev pub invariant-loop-from : goal.invariant-loop-from
invariant-loop-from l = (l.n ≤ l.from) × (position_of l.word (fields_of l.text) ≡ l.n + position_of l.word (fields_from l.text l.from))

abbrev pub decreases-loop-from : goal.decreases-loop-from
decreases-loop-from l = length l.text + 1 - l.from
