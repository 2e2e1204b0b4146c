-- `read_from`: piece after piece, up to the one that decides or the input's end. What a read gave stands in the buffer (`Inside`).
-- Invariant: both buffers keep their length, and some text has come (`Came`).
use Rattle.std.proofs.Common.{◌≡◌, length}
use Rattle.sheet.specs.Pieces.{Came}
use Rattle.desk.proofs.sheets.read_from.Given as goal

abbrev pub invariant-loop : goal.invariant-loop
invariant-loop g l = (length l.piece ≡ length l.initial.piece) × (length l.list ≡ length l.initial.list) × Came l.initial.list l.intake.reading l.list
