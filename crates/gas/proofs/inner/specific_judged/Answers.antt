-- `specific_judged`: past the sheet, what `admit_at` tells: its refusal (`stopped_first`), or a gas whose specific content is told (`told_through`).
use borrow.Author.Rules.{rules}
use mathlib.Core.List.{[]}
use mathlib.Core.Path.{◌≡◌, ap, ◌∙◌}
use mir.Syntax.{w64}
use mir.Val.{SFits}
use Rattle.std.specs.Prelude.{Err}
use Rattle.signed.specs.Zed.{up, back}
use Rattle.refusal.specs.OrdersLaws.{told_through, stopped_first}
use Rattle.burning.specs.declared.Gas.{Gas}
use Rattle.burning.specs.Burning.{document01, gas_of}
use Rattle.gas.specs.Heat.{specific_content}
use Rattle.gas.specs.Answers.{paper_specific, heat_order}
use Rattle.gas.specs.AnswersLaws.{past_heat}
use Rattle.gas.proofs.inner.specific_judged.Goals as goal

pub returns-in_err-at : goal.returns-in_err-at
returns-in_err-at c =
    let a = c.args in
    let e : c.from_residual.result ≡ Err c.in_err-at.field-0.0 = search rules in
    ap paper_specific e ∙ stopped_first (heat_order document01 a.charge a.t.0 a.sheet.list.now) [] _ _ _ (past_heat a.sheet.accepted document01 a.charge a.t.0 c.in_err-at.ensures.told)

pub returns : goal.returns
returns c =
    let a = c.args in
    let f : SFits w64 c.specific_at.result = search rules in
    told_through (heat_order document01 a.charge a.t.0 a.sheet.list.now) (gas_of a.charge) (λ (g : Gas). specific_content document01 a.sheet.list.now g (up a.t.0))
    (past_heat a.sheet.accepted document01 a.charge a.t.0 c.in_ok-at.ensures.told)
    (back f ∙ rw c.in_ok-at.ensures.same at c.specific_at.ensures)
