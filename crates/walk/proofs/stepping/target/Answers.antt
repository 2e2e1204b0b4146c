-- `target`: each sum on the way from the held heat to the asked one fits, by `InReach`, so it is read as it is.
use borrow.Author.Rules.{rules}
use mir.Val.{SFits}
use mir.Syntax.{w64}
use Rattle.signed.specs.Zed.{back}
use Rattle.walk.proofs.Asking.{held_fits, with_brought_fits, target_fits}
use Rattle.walk.proofs.stepping.target.Goals as goal

pub returns : goal.returns
returns c = let fit_heat : SFits w64 c.args.heat.0 =
    search rules in
    let fit_fifteen : SFits w64 c.args.fifteen.0 =
    search rules in
    let fit_brought : SFits w64 c.args.brought.0 =
    search rules in
    let fit_new : SFits w64 c.args.new.0 =
    search rules in
    rw (back fit_heat, back fit_fifteen, back (held_fits c.requires), back fit_brought, back (with_brought_fits c.requires), back fit_new) (back (target_fits c.requires))
