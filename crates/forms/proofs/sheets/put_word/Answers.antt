-- `put_word`: `accepted` or the refusal, by the verdict.
use Rattle.std.proofs.Common.{arith}
use Rattle.text.specs.PutsLaws.{wrote_text, wrote_wider}
use Rattle.forms.proofs.sheets.put_word.Goals as goal

pub returns-in-Ok : goal.returns-in-Ok
returns-in-Ok c = rw c.in-Ok.is (wrote_wider (omega arith) (wrote_text c.put_text.ensures))

pub returns-in-Err : goal.returns-in-Err
returns-in-Err c = rw c.in-Err.is c.put_refusal.ensures
