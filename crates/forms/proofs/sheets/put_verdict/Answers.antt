-- `put_verdict`: the verdict's words and a line feed (`wrote_then`).
use Rattle.text.specs.PutsLaws.{wrote_text, wrote_then}
use Rattle.forms.proofs.sheets.put_verdict.Goals as goal

pub returns : goal.returns
returns c = wrote_then c.put_word.ensures (wrote_text c.put_byte.ensures)
