-- `put_line_bad`: the note and what was expected, one after the other (`wrote_then`), and nothing is cut (`puts_whole`).
use Rattle.std.proofs.Common.{arith, rules}
use Rattle.text.specs.PutsLaws.{puts_whole, wrote_puts, wrote_then}
use Rattle.forms.proofs.pages.put_line_bad.Goals as goal

pub returns : goal.returns
returns c = let w = wrote_then c.put_note.ensures c.put_expected.ensures in
    let p = puts_whole (omega arith) (wrote_puts w) in search rules
