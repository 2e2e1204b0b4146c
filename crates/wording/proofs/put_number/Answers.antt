-- `put_number`: a tab, then the number in decimal behind it (`wrote_then`), as long as its word makes it (`wrote_decimal`).
use Rattle.text.specs.PutsLaws.{wrote_text, wrote_decimal, wrote_then}
use Rattle.wording.proofs.put_number.Goals as goal

pub returns : goal.returns
returns c = wrote_then (wrote_text c.put_byte.ensures) (wrote_decimal c.ranges.n c.put_decimal.ensures)
