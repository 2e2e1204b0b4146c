-- `write_text`: from the last row to the first, each right before what stands (`rows_last`); then the whole text does, from place 0 on.
-- Invariant: what follows the rows that are left stands in the buffer.
use Rattle.text.specs.Puts.{Behind}
use Rattle.sheet_text.specs.Text.{rows_of, sheet_text}
use Rattle.sheet_text.proofs.writing.write_text.Given as goal

abbrev pub invariant-loop-row : goal.invariant-loop-row
invariant-loop-row l = Behind (sheet_text l.list) (rows_of l.row l.list) l.initial.buf l.end l.bytes l.buf
