-- `find`: the masses of a gas that burns can be read for a heat (`sized_of`), at the coldest row, at the hottest, and in the search.
use native.Mathlib.Omega.{arith}
use Rattle.gas.proofs.Lines.{sized_of}
use Rattle.gas.proofs.inner.find.Goals as goal

pub at_kelvin-first-requires : goal.at_kelvin-first-requires
at_kelvin-first-requires c = (sized_of c.requires.0 c.weigh-masses.ensures, omega arith, omega arith)

pub at_kelvin-last-requires : goal.at_kelvin-last-requires
at_kelvin-last-requires c = (sized_of c.requires.0 c.weigh-masses.ensures, omega arith, omega arith)

pub reached-requires-clause-ready : goal.reached-requires-clause-ready
reached-requires-clause-ready c = (sized_of c.requires.0 c.weigh-masses.ensures, c.requires.1, c.at_kelvin-last.ensures)
