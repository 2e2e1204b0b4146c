-- `put_misplaced`: the text is shorter than the room, so nothing is cut (`puts_whole`).
use Rattle.std.proofs.Common.{arith, rules}
use Rattle.text.specs.PutsLaws.{puts_whole, wrote_puts, wrote_text}
use Rattle.forms.proofs.pages.put_misplaced.Goals as goal

pub returns : goal.returns
returns c = let w = wrote_text c.put_text.ensures in
    let p = puts_whole (omega arith) (wrote_puts w) in search rules
