-- `step_heat`: the fuel is not wrong, so its mass times a value in its range, and the plain heat, fit together.
use borrow.Author.Rules.{rules}
use mathlib.Core.Path.{ap, ◌∙◌}
use Prim.Native.Nat.{ℕ, ◌*◌, ◌≤◌}
use native.Mathlib.Omega.{arith}
use lib.IntN.{pos, ◌+ℤ◌, ◌*ℤ◌}
use mir.Val.{SFits}
use mir.Syntax.{w64}
use Rattle.burning.specs.FuelLaws.{mass_most}
use Rattle.signed.specs.Zed.{back}
use Rattle.walk.specs.Step.{burn_heat}
use Rattle.walk.proofs.Asking.{burn_fits, brought_fits}
use Rattle.walk.proofs.stepping.step_heat.Goals as goal

pub overflow_add-result : goal.overflow_add-result
overflow_add-result c = let fit_value : SFits w64 c.args.p.value =
    search rules in
    let fit_heat : SFits w64 c.args.p.heat =
    search rules in
    let small : c.mass_added.result ≤ 650950000 =
    omega (arith, c.mass_added.ensures, mass_most c.args.gas c.args.p.fuel c.requires.1) in
    let f : SFits w64 c.of_u64.result = search rules in
    rw
    (back f, back fit_value, back fit_heat, c.of_u64.ensures, back (burn_fits c.args.p c.requires.2 _ small))
    (brought_fits c.args.p c.requires.2 _ small)

pub returns : goal.returns
unfolding burn_heat
returns c = let fit_value : SFits w64 c.args.p.value =
    search rules in
    let fit_heat : SFits w64 c.args.p.heat =
    search rules in
    let small : c.mass_added.result ≤ 650950000 =
    omega (arith, c.mass_added.ensures, mass_most c.args.gas c.args.p.fuel c.requires.1) in
    let f : SFits w64 c.of_u64.result = search rules in
    rw
    (back f, back fit_value, back fit_heat, c.of_u64.ensures, back (burn_fits c.args.p c.requires.2 _ small))
    (back (brought_fits c.args.p c.requires.2 _ small)
    ∙ ap (λ (m : ℕ). pos (m * 1000) *ℤ c.args.p.value +ℤ c.args.p.heat) c.mass_added.ensures)
