-- `admit`: a charge that passes refusal 4 is within its limits (`limits_of`), so it can be weighed for refusal 5.
use mathlib.Core.Path.{sym, ◌∙◌}
use Rattle.burning.specs.Burning.{document01}
use Rattle.burning.specs.BurningLaws.{limits_of}
use Rattle.burning.proofs.inner.admit.Goals as goal

pub lean-requires : goal.lean-requires
lean-requires c = rw c.gas_of-gas.ensures (limits_of document01 _ (sym c.beyond.ensures ∙ c.if-beyond.false))
