-- `put_line`: how the walk ended, then its steps from the lists that it wrote (`wrote_then`).
use Rattle.text.specs.PutsLaws.{wrote_then, wrote_wider}
use native.Mathlib.Omega.{arith}
use Rattle.console.proofs.walks.put_line.Goals as goal

pub returns : goal.returns
returns c = wrote_wider (omega (arith, c.args.walked.holds.few)) (wrote_then c.put_course.ensures c.put_steps.ensures)
