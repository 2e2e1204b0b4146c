-- `put_expected`: line 1 is the start, any other a step.
use borrow.Author.Tests.{eq-eqb, ne_eqb}
use Rattle.text.specs.PutsLaws.{wrote_text, wrote_wider}
use native.Mathlib.Omega.{arith}
use Rattle.forms.proofs.pages.put_expected.Goals as goal

pub returns-then-line-eq1 : goal.returns-then-line-eq1
returns-then-line-eq1 c = rw (eq-eqb c.args.line 1 c.if-line-eq1.true) (wrote_wider (omega arith) (wrote_text c.put_text.ensures))

pub returns-else-line-eq1 : goal.returns-else-line-eq1
returns-else-line-eq1 c = rw (ne_eqb c.args.line 1 c.if-line-eq1.false) (wrote_wider (omega arith) (wrote_text c.put_text-else-line-eq1.ensures))
