-- `step_at`: the four numbers from the step's place on, the fuel by its two: the step that begins there.
use borrow.Author.Rules.{rules}
use native.Mathlib.Nat.{add-zero}
use Rattle.walk.specs.Limits.{step_numbers}
use Rattle.signed.specs.Zed.{back}
use mir.Val.{SFits}
use mir.Syntax.{w64}
use lib.ListN.{get_or}
use lib.IntN.{pos}
use Prim.Native.Nat.{◌+◌, ◌*◌}
use lib.Seq.{get_or-drop}
use Rattle.walk.proofs.run.step_at.Goals as goal

pub returns : goal.returns
returns c = let l = c.args.steps.now in
    let at = step_numbers * c.args.i in
    let f : SFits w64 (get_or l at (pos 0)) = search rules in
    let g : SFits w64 (get_or l (at + 1) (pos 0)) = search rules in
    let h : SFits w64 (get_or l (at + 2) (pos 0)) = search rules in
    let k : SFits w64 (get_or l (at + 3) (pos 0)) = search rules in
    rw (back h, back k, c.fuel_in.ensures, back f, back g) (simp (get_or-drop, add-zero))
