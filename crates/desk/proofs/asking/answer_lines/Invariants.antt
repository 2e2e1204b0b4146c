-- `answer_lines`: each line of the input is answered in turn; the output is free before each, so no answer is cut.
-- Invariant: the buffers keep their lengths, what is left of a piece stands in it, and the output is free.
use Rattle.std.proofs.Common.{◌≡◌, ◌≤◌, length}
use Rattle.stream.specs.Writing.{Free}
use Rattle.desk.proofs.asking.answer_lines.Given as goal

abbrev pub invariant-loop : goal.invariant-loop
invariant-loop g l =
    (length l.line ≡ length l.initial.line) × (length l.out ≡ length l.initial.out) × (length l.piece ≡ length l.initial.piece) × (l.reader.end ≤ length l.piece) × Free l.output l.out
