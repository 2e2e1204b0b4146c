-- `put_stop_note`: nothing of a walk that was done; else the step after those done, and the number (`wrote_then`).
use Rattle.std.proofs.Common.{arith}
use Rattle.text.specs.PutsLaws.{wrote_then, wrote_wider}
use Rattle.forms.proofs.pages.put_stop_note.Goals as goal

pub returns-in-Some : goal.returns-in-Some
returns-in-Some c =
    rw (c.in-Some.is, ← c.number.ensures, ← c.from-step.ensures) (wrote_wider (omega arith) (wrote_then c.put_note.ensures c.put_last.ensures))
