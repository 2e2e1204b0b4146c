-- `next_line`: a line is taken from what is left of the piece, and where it does not end there the answers are written and the next piece is read.
-- Invariant: the buffers keep their lengths, what is left stands in the piece, and the output is left as it may be left.
use Rattle.std.proofs.Common.{◌≡◌, ◌≤◌, length}
use Rattle.stream.specs.Writing.{Leaves}
use Rattle.stream.proofs.next_line.Given as goal

abbrev pub invariant-loop : goal.invariant-loop
invariant-loop g l = (length l.line ≡ length l.initial.line) × (length l.piece ≡ length l.initial.piece) × (l.reader.end ≤ length l.piece) × Leaves l.initial.output l.out l.output l.out
