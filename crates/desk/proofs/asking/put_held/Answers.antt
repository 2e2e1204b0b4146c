-- `put_held`: the console's answer to the bytes that are held, or that the line is too long.
use Rattle.std.proofs.Common.{arith}
use Rattle.text.specs.PutsLaws.{wrote_text, wrote_wider}
use Rattle.desk.proofs.asking.put_held.Goals as goal

pub returns-in-Some : goal.returns-in-Some
returns-in-Some c = rw c.in-Some.is (rw c.first_bytes.ensures at c.answer_with_list.ensures)

pub returns-in-None : goal.returns-in-None
returns-in-None c = rw c.in-None.is (wrote_wider (omega arith) (wrote_text c.put_text.ensures))
