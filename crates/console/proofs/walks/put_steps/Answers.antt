-- `put_steps`: one step more from its places of the lists, and all of them at the end.
use borrow.Author.Rules.{rules}
use Prim.Native.Nat.{◌*◌, ◌+◌, ◌-◌}
use mathlib.Core.Path.{◌≡◌}
use lib.ListN.{get_or}
use lib.IntN.{pos}
use mir.Syntax.{w64}
use mir.Val.{SFits}
use native.Mathlib.Omega.{arith}
use Rattle.signed.specs.Zed.{back}
use Rattle.air.specs.Limits.{look_places}
use Rattle.console.specs.WalksLaws.{one_more, all_put}
use Rattle.console.proofs.walks.put_steps.Goals as goal

pub loop-i-preserved : goal.loop-i-preserved
loop-i-preserved c = let f0 : SFits w64 (get_or c.args.walked.temperatures.now c.loop-i.i (pos 0)) = search rules in
    let f1 : SFits w64 (get_or c.args.walked.rests.now c.loop-i.i (pos 0)) = search rules in
    let e : look_places * c.loop-i.i + look_places - look_places * c.loop-i.i ≡ look_places = omega arith in
    one_more c.args.layout c.steps_done-n.result c.args.walked.temperatures.now c.args.walked.rests.now c.args.walked.looks.now
    c.loop-i.invariant (omega arith) (rw (back f0, back f1, e) at c.put_step.ensures)

pub returns : goal.returns
returns c = rw c.steps_done-n.ensures at
    (all_put c.args.layout c.steps_done-n.result c.args.walked.temperatures.now c.args.walked.rests.now c.args.walked.looks.now c.loop-i.invariant (omega arith))
