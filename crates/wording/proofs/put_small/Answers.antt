-- `put_small`: a tab, then the number in decimal behind it (`wrote_then`), as long as its word makes it (`wrote_small`).
use Rattle.text.specs.PutsLaws.{wrote_text, wrote_small, wrote_then}
use Rattle.wording.proofs.put_small.Goals as goal

pub returns : goal.returns
returns c = wrote_then (wrote_text c.put_byte.ensures) (wrote_small c.ranges.n (rw c.from.ensures at c.put_decimal.ensures))
