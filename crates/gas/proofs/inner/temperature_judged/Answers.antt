-- `temperature_judged`: the list first (`short_told`, which its attribute names), then the charge (`stopped_told`), then what `find` tells of the heat (`passed_told`).
use borrow.Author.Rules.{rules}
use mathlib.Core.Path.{◌≡◌}
use native.Mathlib.Omega.{arith}
use Prim.Native.Nat.{◌≤◌}
use lib.ListN.{length}
use Rattle.std.specs.Prelude.{Err}
use Rattle.refusal.specs.OrdersLaws.{given}
use Rattle.burning.specs.Burning.{document01, gas_of}
use Rattle.burning.specs.BurningLaws.{admitted}
use Rattle.gas.specs.Heat.{gas_heat}
use Rattle.gas.specs.Answers.{search_order}
use Rattle.gas.specs.AnswersLaws.{past_search, stopped_told, passed_told}
use Rattle.gas.proofs.inner.temperature_judged.Goals as goal

pub returns-in_err-gas : goal.returns-in_err-gas
returns-in_err-gas c =
    let a = c.args in
    let s = a.sheet.list.now in
    let n = length a.looks.now in
    let e : c.from_residual.result ≡ Err c.in_err-gas.field-0.0 = search rules in
    let room : 11 ≤ n = omega arith in
    rw e (stopped_told (gas_heat document01 s (gas_of a.charge)) a.target.0 a.looks.now (search_order document01 a.charge s n) _ _
    (past_search a.sheet.accepted document01 a.charge n room c.in_err-gas.ensures))

pub find-requires : goal.find-requires
find-requires c = (admitted document01 c.args.charge c.in_ok-gas.ensures, omega arith)

pub returns : goal.returns
returns c =
    let a = c.args in
    let s = a.sheet.list.now in
    let n = length a.looks.now in
    let lines = search_order document01 a.charge s n in
    let room : 11 ≤ n = omega arith in
    let e = past_search a.sheet.accepted document01 a.charge n room c.in_ok-gas.ensures in
    passed_told (gas_heat document01 s (gas_of a.charge)) a.target.0 a.looks.now lines _ e (rw (← given lines _ e) at c.find.ensures)
