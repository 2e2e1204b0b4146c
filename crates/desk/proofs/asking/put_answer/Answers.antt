-- `put_answer`: the buffer has room for any answer, so nothing is cut (`puts_whole`).
use Rattle.std.proofs.Common.{rules}
use Rattle.text.specs.PutsLaws.{puts_whole, wrote_puts}
use Rattle.desk.proofs.asking.put_answer.Goals as goal

pub returns : goal.returns
returns c = let p = puts_whole c.requires (wrote_puts c.put_held.ensures) in search rules
