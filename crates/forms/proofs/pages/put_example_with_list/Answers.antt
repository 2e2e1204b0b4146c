-- `put_example_with_list`: the printed walk, a line feed and how to go on, one after the other (`wrote_then`), and the buffer has room for all (`puts_whole`).
use Rattle.std.proofs.Common.{arith, rules}
use Rattle.text.specs.PutsLaws.{puts_whole, wrote_puts, wrote_text, wrote_then}
use Rattle.forms.proofs.pages.put_example_with_list.Goals as goal

pub returns : goal.returns
returns c = let w = wrote_then (wrote_then (rw c.charge_in-start.ensures at c.print_with_list.ensures.puts) (wrote_text c.put_byte.ensures)) c.put_usage.ensures in
    let p = puts_whole (omega arith) (wrote_puts w) in search rules
