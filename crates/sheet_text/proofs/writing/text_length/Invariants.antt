-- `text_length`: row after row, the bytes of all rows are those of the text (`rows_next`, `rows_all`).
-- Invariant: the bytes are those of the first rows, at most 84 a row.
use Rattle.std.proofs.Common.{◌≡◌, ◌*◌, ◌≤◌, length}
use Rattle.sheet_text.specs.Text.{rows_of}
use Rattle.sheet_text.proofs.writing.text_length.Given as goal

abbrev pub invariant-loop-row : goal.invariant-loop-row
invariant-loop-row l = (l.bytes ≡ length (rows_of l.row l.list)) × (l.bytes ≤ 84 * l.row)
