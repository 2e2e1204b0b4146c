-- `put_on_page`: the step's number, mK, rest and number of looks, then the line feed, each behind the one before (`wrote_then`).
use Rattle.text.specs.PutsLaws.{wrote_text, wrote_decimal, wrote_then}
use Rattle.signed.specs.Zed.{back}
use borrow.Author.Rules.{rules}
use mir.Syntax.{w64}
use mir.Val.{SFits}
use Rattle.console.proofs.walks.put_on_page.Goals as goal

pub returns : goal.returns
returns c = let f0 : SFits w64 c.args.step.mk = search rules in
    let f1 : SFits w64 c.args.step.rest = search rules in
    wrote_then
    (wrote_then
    (wrote_then (wrote_then (wrote_decimal c.ranges.number c.put_decimal.ensures) (rw (back f0) at c.put_signed.ensures)) (rw (back f1) at c.put_signed-2.ensures))
    (rw c.count_looks.ensures at c.put_number.ensures))
    (wrote_text c.put_byte.ensures)
