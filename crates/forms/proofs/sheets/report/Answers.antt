-- `report`: the verdict after the close, and its line, of which nothing is cut (`puts_whole`).
use Rattle.std.proofs.Common.{arith, rules}
use Rattle.text.specs.PutsLaws.{puts_whole, wrote_puts}
use Rattle.forms.proofs.sheets.report.Goals as goal

pub returns : goal.returns
returns c = let p = puts_whole (omega arith) (wrote_puts c.put_verdict.ensures) in record { judged = c.judge-verdict.ensures; line = search rules }
