-- `fill`: byte after byte, the place and the list are what `fill_byte` makes of the text; after a bad byte nothing changes any more.
-- Invariant: they are so for the bytes that are read.
use Rattle.std.proofs.Common.{◌≡◌, take, Ok}
use Rattle.text.specs.Fold.{run}
use Rattle.sheet_text.specs.Machine.{filled, fill_byte}
use Rattle.sheet_text.proofs.fill.Given as goal

abbrev pub invariant-loop-b : goal.invariant-loop-b
invariant-loop-b l = filled (Ok l.p) l.list ≡ run fill_byte (filled (Ok l.initial.p) l.initial.list) (take l.b-index l.text)
