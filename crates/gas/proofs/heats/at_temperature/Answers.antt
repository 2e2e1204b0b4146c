-- `at_temperature`: at the last temperature the last row alone (`last_heat`, which its attribute names); else on the line from the kelvin below to the next.
use borrow.Author.Rules.{rules}
use mathlib.Core.Path.{refl, sym, ap, ◌∙◌}
use Prim.Native.Nat.{◌+◌, ◌*◌, ◌/◌, ◌%◌, ◌<◌}
use native.Mathlib.Omega.{arith}
use mir.Syntax.{w64}
use mir.Val.{SFits}
use Rattle.signed.specs.Zed.{Tested, tested_plain, tested_nat}
use Rattle.air.specs.Limits.{coldest, hottest}
use Rattle.gas.specs.Heat.{heat_of}
use Rattle.gas.proofs.Lines.{heats_rise, along_heat}
use Rattle.gas.proofs.heats.at_temperature.Goals as goal

pub to_u64-mk-requires : goal.to_u64-mk-requires
to_u64-mk-requires c = let t_fits : SFits w64 c.args.t.0 =
    search rules in
    tested_plain coldest hottest t_fits (sym c.requires.1) refl

pub at_kelvin-requires-2 : goal.at_kelvin-requires-2
at_kelvin-requires-2 c = let t_fits : SFits w64 c.args.t.0 =
    search rules in
    let mk : Tested coldest hottest c.args.t.0 c.to_u64-mk.result =
    tested_nat coldest hottest t_fits (sym c.requires.1) refl c.to_u64-mk.ensures in
    (c.requires.0, omega (arith, mk.least), omega (arith, mk.most))

pub at_kelvin-requires-3 : goal.at_kelvin-requires-3
at_kelvin-requires-3 c = let t_fits : SFits w64 c.args.t.0 =
    search rules in
    let mk : Tested coldest hottest c.args.t.0 c.to_u64-mk.result =
    tested_nat coldest hottest t_fits (sym c.requires.1) refl c.to_u64-mk.ensures in
    let not_last : c.to_u64-mk.result < hottest =
    omega (arith, mk.most) in
    (c.requires.0, omega (arith, mk.least), omega (arith, not_last))

pub along-requires : goal.along-requires
along-requires c = let t_fits : SFits w64 c.args.t.0 =
    search rules in
    let mk : Tested coldest hottest c.args.t.0 c.to_u64-mk.result =
    tested_nat coldest hottest t_fits (sym c.requires.1) refl c.to_u64-mk.ensures in
    let not_last : c.to_u64-mk.result < hottest =
    omega (arith, mk.most) in
    let m = mk in
    (rw (c.at_kelvin-2.ensures, c.at_kelvin-3.ensures) (heats_rise c.requires.0 c.args.sheet.accepted _ (omega (arith, m.least)) (omega (arith, not_last))), omega arith)

pub returns : goal.returns
returns c = let t_fits : SFits w64 c.args.t.0 =
    search rules in
    let mk : Tested coldest hottest c.args.t.0 c.to_u64-mk.result =
    tested_nat coldest hottest t_fits (sym c.requires.1) refl c.to_u64-mk.ensures in
    let not_last : c.to_u64-mk.result < hottest =
    omega (arith, mk.most) in
    let n = c.to_u64-mk.result in
    let m = mk in
    c.along.ensures
    ∙ rw (c.at_kelvin-2.ensures, c.at_kelvin-3.ensures)
    (along_heat c.requires.0 c.args.sheet.accepted (n / 1000) (omega (arith, m.least)) (omega (arith, not_last)) (n % 1000) (omega arith))
    ∙ ap (heat_of c.args.gas c.args.sheet.list.now) {x = 1000 * (n / 1000) + n % 1000} {y = n} (omega arith)
    ∙ ap (heat_of c.args.gas c.args.sheet.list.now) m.number
