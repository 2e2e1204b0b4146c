-- `burn`: what `admit` tells of a charge that it lets through is a gas that burns.
use Rattle.burning.specs.Burning.{document01}
use Rattle.burning.specs.BurningLaws.{admitted}
use Rattle.burning.proofs.burn.Goals as goal

pub burnt-requires : goal.burnt-requires
burnt-requires c = admitted document01 c.args.charge c.in_ok-gas.ensures
