-- `put_in_line`: the mK, the rest, the number of looks and the looks, each behind the one before (`wrote_then`).
use Rattle.text.specs.PutsLaws.{wrote_then, wrote_wider}
use Rattle.signed.specs.Zed.{back}
use borrow.Author.Rules.{rules}
use mir.Syntax.{w64}
use mir.Val.{SFits}
use native.Mathlib.Omega.{arith}
use Rattle.console.proofs.walks.put_in_line.Goals as goal

pub returns : goal.returns
returns c = let f0 : SFits w64 c.args.step.mk = search rules in
    let f1 : SFits w64 c.args.step.rest = search rules in
    wrote_wider (omega (arith, c.args.step.few))
    (wrote_then (wrote_then (rw (back f0) at c.put_signed.ensures) (rw (back f1) at c.put_signed-2.ensures)) c.put_looks.ensures)
