-- `put_refused`: `refused`, the number and the line feed, each behind the one before (`wrote_then`).
use Rattle.text.specs.PutsLaws.{wrote_text, wrote_then}
use Rattle.console.proofs.walks.put_refused.Goals as goal

pub returns : goal.returns
returns c = wrote_then (wrote_then (wrote_text c.put_text.ensures) c.put_small.ensures) (wrote_text c.put_byte.ensures)
