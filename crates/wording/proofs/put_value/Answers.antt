-- `put_value`: `ok` and the number behind it (`wrote_then`).
use Rattle.std.proofs.Common.{arith}
use Rattle.text.specs.PutsLaws.{wrote_text, wrote_then, wrote_wider}
use Rattle.wording.proofs.put_value.Goals as goal

pub returns-in-Ok : goal.returns-in-Ok
returns-in-Ok g c = rw c.in-Ok.is (wrote_wider (omega arith) (wrote_then (wrote_text c.put_text.ensures) c.put.ensures))
