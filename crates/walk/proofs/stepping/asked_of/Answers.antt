-- `asked_of`: refusals 4, 7 and 5 in this order; past them the new gas burns, so its heat at 15 °C and the target are those of `asked` (proofs/Halves.antt).
use borrow.Author.Rules.{rules}
use Rattle.std.specs.Prelude.{◌≡◌, Err}
use mathlib.Core.Path.{refl, sym}
use Rattle.signed.specs.Zed.{in_z}
use Rattle.walk.proofs.Halves.{fuel_right, in_limits, burns, asks_4, asks_7, asks_5, asks_for, in_reach}
use Rattle.walk.proofs.stepping.asked_of.Goals as goal

pub returns-in_err-gas : goal.returns-in_err-gas
returns-in_err-gas c =
    let e : c.from_residual.result ≡ Err c.in_err-gas.field-0.0 = search rules in
    rw e (asks_4 c.args.sheet.list.now c.args.st c.args.p c.in_err-gas.ensures)

pub returns-then-wrong_heat : goal.returns-then-wrong_heat
returns-then-wrong_heat c = asks_7 c.args.sheet.list.now c.args.st c.args.p c.in_ok-gas.ensures c.if-wrong_heat.ensures

pub lean-requires : goal.lean-requires
lean-requires c = in_limits c.args.sheet.list.now c.args.st c.args.p c.in_ok-gas.ensures

pub returns-then-not-lean : goal.returns-then-not-lean
returns-then-not-lean c = asks_5 c.args.sheet.list.now c.args.st c.args.p c.in_ok-gas.ensures c.if-wrong_heat.ensures c.if-not-lean.ensures

pub invariant_of-heat_at : goal.invariant_of-heat_at
unfolding in_z
invariant_of-heat_at c = record { burns = burns c.args.sheet.list.now c.args.st c.args.p c.in_ok-gas.ensures c.if-not-lean.ensures; covered = refl }

pub step_heat-requires : goal.step_heat-requires
step_heat-requires c =
    (c.requires.burns.limits, fuel_right c.args.sheet.list.now c.args.st c.args.p c.in_ok-gas.ensures, sym c.if-wrong_heat.ensures)

pub target-target-requires : goal.target-target-requires
target-target-requires c =
    in_reach c.args.sheet.list.now c.args.st c.args.p c.in_ok-gas.ensures c.requires c.if-wrong_heat.ensures c.if-not-lean.ensures
    c.args.sheet.accepted c.step_heat.ensures c.heat_at-fifteen.ensures

pub returns : goal.returns
returns c =
    asks_for c.args.sheet.list.now c.args.st c.args.p c.in_ok-gas.ensures c.requires c.if-wrong_heat.ensures c.if-not-lean.ensures
    c.step_heat.ensures c.heat_at-fifteen.ensures c.target-target.ensures
