-- `put_note`: three texts one after the other, each with the most bytes that it has (`wrote_then`).
use Rattle.text.specs.PutsLaws.{wrote_text, wrote_decimal, wrote_then}
use Rattle.forms.proofs.pages.put_note.Goals as goal

pub returns : goal.returns
returns c = wrote_then (wrote_then (wrote_text c.put_text.ensures) (wrote_decimal c.ranges.number c.put_decimal.ensures))
    (wrote_text c.put_text-2.ensures)
