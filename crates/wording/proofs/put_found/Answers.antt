-- `put_found`: `ok`, mK, the rest and the used looks, each behind the one before (`wrote_then`).
use Rattle.text.specs.PutsLaws.{wrote_text, wrote_then}
use Rattle.wording.proofs.put_found.Goals as goal

pub returns-in-Ok : goal.returns-in-Ok
returns-in-Ok g c = rw c.in-Ok.is (wrote_then (wrote_then (wrote_then (wrote_text c.put_text.ensures) c.put.ensures) c.put-in-Ok.ensures) c.put_looks.ensures)
