-- `put_help`: the buffer has room for how to go on, so nothing is cut (`puts_whole`).
use Rattle.std.proofs.Common.{arith, rules}
use Rattle.text.specs.PutsLaws.{puts_whole, wrote_puts}
use Rattle.forms.proofs.pages.put_help.Goals as goal

pub returns : goal.returns
returns c = let w = c.put_usage.ensures in
    let p = puts_whole (omega arith) (wrote_puts w) in search rules
