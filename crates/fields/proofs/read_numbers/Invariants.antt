-- `read_numbers`: each field in turn is counted and kept, up to the first that is no number (`count_bad`, `leading_bad`) or the line's end (`leading_all`).
-- Invariant: n fields are counted and kept, and with those from place p on they give what the whole line gives (`count_next_lem`, `leading_next_lem`).
-- Measure: the bytes of the line that are left, and one for the field at its end.
use Rattle.fields.specs.Fields.{fields_from, count_all, leading_of}
use lib.Seq.{sets}
use lib.ListN.{length}
use Prim.Native.Nat.{◌+◌, ◌-◌, ◌≤◌}
use mathlib.Core.Path.{◌≡◌}
use Rattle.fields.proofs.read_numbers.Given as goal

abbrev pub invariant-loop-p : goal.invariant-loop-p
invariant-loop-p l = (l.n ≤ l.p) × (length l.list ≡ length l.initial.list) × (count_all 0 (fields_from l.line l.from) ≡ count_all l.n (fields_from l.line l.p))
    × (sets l.initial.list 0 (leading_of (fields_from l.line l.from)) ≡ sets l.list l.n (leading_of (fields_from l.line l.p)))

abbrev pub decreases-loop-p : goal.decreases-loop-p
decreases-loop-p l = length l.line + 1 - l.p
