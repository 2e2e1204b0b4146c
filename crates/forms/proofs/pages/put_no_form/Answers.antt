-- `put_no_form`: the error and how to go on, one after the other (`wrote_then`), and nothing is cut (`puts_whole`).
use Rattle.std.proofs.Common.{arith, rules}
use Rattle.text.specs.PutsLaws.{puts_whole, wrote_puts, wrote_text, wrote_then}
use Rattle.forms.proofs.pages.put_no_form.Goals as goal

pub returns : goal.returns
returns c = let w = wrote_then (wrote_text c.put_text.ensures) c.put_usage.ensures in
    let p = puts_whole (omega arith) (wrote_puts w) in search rules
