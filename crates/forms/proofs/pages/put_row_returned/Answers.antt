-- `put_row_returned`: the note is shorter than the room, so nothing is cut (`puts_whole`).
use Rattle.std.proofs.Common.{arith, rules}
use Rattle.text.specs.PutsLaws.{puts_whole, wrote_puts}
use Rattle.forms.proofs.pages.put_row_returned.Goals as goal

pub returns : goal.returns
returns c = let w = rw c.from.ensures at c.put_note.ensures in
    let p = puts_whole (omega arith) (wrote_puts w) in search rules
