-- `put_walk_note`: of a walk that began what stopped it; else the start.
use Rattle.std.proofs.Common.{arith}
use Rattle.text.specs.PutsLaws.{wrote_wider}
use Rattle.forms.proofs.pages.put_walk_note.Goals as goal

pub returns-in-Err : goal.returns-in-Err
returns-in-Err c = rw (c.in-Err.is, ← c.number.ensures, ← c.from.ensures) (wrote_wider (omega arith) c.put_note.ensures)
