-- `admit_at`: the gas that `admit` lets through burns.
use Rattle.burning.specs.Burning.{document01}
use Rattle.burning.specs.BurningLaws.{admitted}
use Rattle.gas.proofs.inner.admit_at.Goals as goal

pub invariant_of-result-clause-burns : goal.invariant_of-result-clause-burns
invariant_of-result-clause-burns c = admitted document01 c.args.charge c.in_ok-gas.ensures
