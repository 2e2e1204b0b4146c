-- `lean`: the oxygen that the fuel uses against the oxygen of the air, both as the paper weighs them.
use borrow.Author.Rules.{rules}
use mathlib.Core.Path.{refl}
use mir.Syntax.{w64}
use mir.Val.{SFits}
use Rattle.signed.specs.Zed.{back}
use Rattle.burning.specs.Burning.{lean}
use Rattle.burning.specs.Burning.{masses_of}
use Rattle.burning.proofs.inner.lean.Goals as goal

pub returns : goal.returns
unfolding lean masses_of
returns c = let u : SFits w64 c.weigh-masses.result.used = search rules in
    let o : SFits w64 c.oxygen.result = search rules in
    rw (back u, back o, c.weigh-masses.ensures, c.oxygen.ensures) refl
