-- `read_all`: each line of the input is taken in turn, up to its end.
-- Invariant: the buffers and the list keep their lengths, and what is left of a piece stands in it.
use Rattle.std.proofs.Common.{◌≡◌, ◌≤◌, length}
use Rattle.desk.proofs.questions.read_all.Given as goal

abbrev pub invariant-loop : goal.invariant-loop
invariant-loop g l = (length l.line ≡ length l.initial.line) × (length l.numbers ≡ length l.initial.numbers) × (length l.piece ≡ length l.initial.piece) × (l.reader.end ≤ length l.piece)
