-- `read_from`: nothing has come before the first read (`none_came`), and each piece comes behind what came (`piece_came`).
use Rattle.std.proofs.Common.{refl, ◌∙◌, rules, arith}
use Rattle.desk.proofs.Arriving.{none_came, piece_came}
use Rattle.desk.proofs.sheets.read_from.Goals as goal

pub loop-init : goal.loop-init
loop-init g c = (refl, refl, none_came _ c.open_reading.ensures)

pub loop-preserved : goal.loop-preserved
loop-preserved g c = (search rules, search rules, piece_came (c.loop.invariant.1 ∙ omega arith) c.loop.invariant.2 c.take_piece-intake.ensures)

pub returns-then-not-goes_on : goal.returns-then-not-goes_on
returns-then-not-goes_on g c = piece_came (c.loop.invariant.1 ∙ omega arith) c.loop.invariant.2 c.take_piece-intake.ensures
