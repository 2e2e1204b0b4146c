-- The test of a look: psi at the kelvin, read in the lent column, is at most the target.
use Rattle.air.proofs.PsiSearch.{psi_figure, psi_tested}
use Rattle.air.proofs.search.fn.psi_reached.halve.Goals as goal

pub returns : goal.returns
returns c = psi_tested c.captures.target c.requires.1 (psi_figure _ c.requires.2 c.figure.ensures.0)
