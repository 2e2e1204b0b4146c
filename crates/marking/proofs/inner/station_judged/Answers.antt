-- `station_judged`: past the sheet, what `admit_at` tells: its refusal (`stopped_first`), or a gas whose whole numbers are told (`told_through`). Assumes nothing.
use borrow.Author.Rules.{rules}
use mathlib.Core.List.{[]}
use mathlib.Core.Path.{◌≡◌, refl, ap, ◌∙◌}
use mir.Syntax.{w64}
use mir.Val.{SFits}
use Rattle.std.specs.Prelude.{Err}
use Rattle.signed.specs.Zed.{back}
use Rattle.refusal.specs.OrdersLaws.{told_through, stopped_first}
use Rattle.burning.specs.Burning.{document01, gas_of}
use Rattle.gas.specs.Answers.{heat_order}
use Rattle.gas.specs.AnswersLaws.{past_heat}
use Rattle.marking.specs.Figures.{numbers_of, paper_numbers}
use Rattle.marking.proofs.inner.station_judged.Goals as goal

pub returns-in_err-at : goal.returns-in_err-at
returns-in_err-at c =
    let a = c.args in
    let e : c.from_residual.result ≡ Err c.in_err-at.field-0.0 = search rules in
    ap paper_numbers e ∙ stopped_first (heat_order document01 a.charge a.t.0 a.sheet.list.now) [] _ _ _ (past_heat a.sheet.accepted document01 a.charge a.t.0 c.in_err-at.ensures.told)

pub returns : goal.returns
returns c =
    let a = c.args in
    let t : SFits w64 a.t.0 = search rules in
    let f : SFits w64 c.specific_at-specific.result = search rules in
    let m : SFits w64 c.of_u64-mass.result = search rules in
    told_through (heat_order document01 a.charge a.t.0 a.sheet.list.now) (gas_of a.charge) (numbers_of a.sheet.list.now a.t.0)
    (past_heat a.sheet.accepted document01 a.charge a.t.0 c.in_ok-at.ensures.told)
    (rw (back t, back f ∙ c.specific_at-specific.ensures, back m ∙ c.of_u64-mass.ensures, c.total_mass.ensures, c.in_ok-at.ensures.same) refl)
