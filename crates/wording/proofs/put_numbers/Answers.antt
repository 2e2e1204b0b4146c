-- `put_numbers`: one number more of those that stand in the output, a tab before each.
use Rattle.std.specs.Prelude.{pos, get_or}
use Rattle.std.proofs.Common.{rules, arith, SFits, w64}
use Rattle.signed.specs.Zed.{back}
use Rattle.text.specs.PutsLaws.{wrote_then, wrote_wider}
use Rattle.wording.specs.TextsLaws.{numbers_more}
use Rattle.wording.proofs.put_numbers.Goals as goal

pub loop-z-preserved : goal.loop-z-preserved
loop-z-preserved c = let l = c.args.numbers.now in
    let f : SFits w64 (get_or l c.loop-z.z-index (pos 0)) = search rules in
    rw (numbers_more l c.loop-z.z-index (omega arith)) (wrote_wider (omega arith) (wrote_then c.loop-z.invariant (rw (back f) at c.put_signed.ensures)))
