-- `station`: what the sheet and the whole numbers tell goes through, and the numbers are small enough to be figures (`numbers_small`). Assumes nothing.
use native.Mathlib.Omega.{arith}
use Rattle.marking.specs.StationLaws.{numbers_small}
use Rattle.marking.proofs.station.Goals as goal

pub figures-requires-clause-mk_in_float : goal.figures-requires-clause-mk_in_float
figures-requires-clause-mk_in_float c = let h = (numbers_small _ _ _ c.in_ok-numbers.ensures).mk_small in omega arith

pub figures-requires-clause-specific_in_float : goal.figures-requires-clause-specific_in_float
figures-requires-clause-specific_in_float c = let h = (numbers_small _ _ _ c.in_ok-numbers.ensures).specific_small in omega arith

pub figures-requires-clause-mass_in_float : goal.figures-requires-clause-mass_in_float
figures-requires-clause-mass_in_float c = let h = (numbers_small _ _ _ c.in_ok-numbers.ensures).mass_small in omega arith
