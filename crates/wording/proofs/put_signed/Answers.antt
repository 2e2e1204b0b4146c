-- `put_signed`: a tab, then the signed number in decimal behind it (`wrote_then`), as long as its word makes it (`wrote_signed`).
use Rattle.signed.specs.Zed.{back}
use Rattle.text.specs.PutsLaws.{wrote_text, wrote_signed, wrote_then}
use Rattle.wording.proofs.put_signed.Goals as goal

pub returns : goal.returns
returns c = wrote_then (wrote_text c.put_byte.ensures) (wrote_signed c.ranges.z (rw (back c.ranges.z) at c.put_whole.ensures))
