-- `put_first`: one look more of those that stand in the output, a tab before each.
use Rattle.std.proofs.Common.{arith, length-take-le, ◌<◌}
use Rattle.std.proofs.lemmas.List.{get_or-take}
use Rattle.text.specs.PutsLaws.{wrote_then, wrote_wider}
use Rattle.wording.specs.TextsLaws.{fields_more}
use Rattle.wording.proofs.put_first.Goals as goal

pub loop-look-preserved : goal.loop-look-preserved
loop-look-preserved c = let l = c.args.looks.now in
    let h : c.loop-look.look-index < c.args.n = omega (arith, length-take-le c.args.n l c.requires.0) in
    rw (fields_more l c.loop-look.look-index (omega (arith, h)))
    (wrote_wider (omega arith) (wrote_then c.loop-look.invariant (rw (get_or-take c.args.n l c.loop-look.look-index 0 h) at c.put_small.ensures)))
