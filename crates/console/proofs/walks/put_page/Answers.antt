-- `put_page`: the head line, the steps from the lists that the walk wrote, and how it ended (`wrote_then`).
use Rattle.text.specs.PutsLaws.{wrote_text, wrote_then, wrote_wider}
use native.Mathlib.Omega.{arith}
use Rattle.console.proofs.walks.put_page.Goals as goal

pub returns : goal.returns
returns c = wrote_wider (omega (arith, c.args.walked.holds.few)) (wrote_then (wrote_then (wrote_text c.put_text.ensures) c.put_steps.ensures) c.put_end.ensures)
