-- `weigh`: within the limits on air and atoms every product and sum of the atomic weights fits: `masses_of`.
use borrow.Author.Rules.{rules}
use mathlib.Core.Path.{refl}
use mir.Syntax.{w64}
use mir.Val.{SFits}
use Rattle.signed.specs.Zed.{back}
use Rattle.burning.specs.Burning.{oxygen_used}
use Rattle.burning.specs.Burning.{masses_of}
use Rattle.burning.proofs.weights.weigh.Goals as goal

pub returns : goal.returns
unfolding masses_of oxygen_used
returns c = let f : SFits w64 c.of_u64.result = search rules in rw (back f, c.of_u64.ensures) refl
