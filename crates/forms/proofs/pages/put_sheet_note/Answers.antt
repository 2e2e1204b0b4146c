-- `put_sheet_note`: the number, and behind it the row where the refusal has one (`wrote_then`).
use Rattle.std.proofs.Common.{arith}
use Rattle.refusal.specs.Refusals.{numbered}
use Rattle.text.specs.PutsLaws.{wrote_then, wrote_wider}
use Rattle.forms.proofs.Notes.{plain_note, placed_note}
use Rattle.forms.proofs.pages.put_sheet_note.Goals as goal

pub returns-in-None : goal.returns-in-None
returns-in-None c =
    rw (plain_note (numbered c.args.refusal) c.in-None.ensures, ← c.number.ensures, ← c.from-number.ensures) (wrote_wider (omega arith) c.put_note.ensures)

pub returns-in-Some : goal.returns-in-Some
returns-in-Some c =
    rw (placed_note (numbered c.args.refusal) c.in-Some.ensures, ← c.number.ensures, ← c.from-number.ensures) (wrote_wider (omega arith) (wrote_then c.put_note-in-Some.ensures c.put_last.ensures))
