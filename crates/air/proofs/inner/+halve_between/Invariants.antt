-- `halve_between` calls itself on half of what lies between lo and hi. Measure: the width.
use Rattle.std.proofs.Common.{◌-◌}
use Rattle.air.proofs.inner.+halve_between.Given as goal

abbrev pub decreases-halve_between : goal.decreases-halve_between
decreases-halve_between g l = l.hi - l.lo
