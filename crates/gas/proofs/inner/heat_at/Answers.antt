-- `heat_at`: a gas that burns has masses that the heats can be read for.
use Rattle.gas.proofs.Lines.{sized_of}
use Rattle.gas.proofs.inner.heat_at.Goals as goal

pub at_temperature-requires : goal.at_temperature-requires
at_temperature-requires c = (sized_of c.args.at.burns c.weigh.ensures, c.args.at.covered)
