-- `inside`: true exactly for lo ≤ x ≤ hi, one case for each way that the first comparison falls.
use mathlib.Core.Path.{refl, sym, ◌∙◌}
use Rattle.signed.specs.Zed.{le_read, in_no, in_yes}
use Rattle.signed.proofs.inside.Goals as goal

pub returns-then-lo-x : goal.returns-then-lo-x
returns-then-lo-x c = sym (in_yes _ _ _ (le_read c.ranges.lo c.ranges.x c.if-lo-x.true) ∙ le_read c.ranges.x c.ranges.hi refl)

pub returns-else-lo-x : goal.returns-else-lo-x
returns-else-lo-x c = c.if-lo-x.false ∙ sym (in_no _ _ _ (le_read c.ranges.lo c.ranges.x c.if-lo-x.false))
