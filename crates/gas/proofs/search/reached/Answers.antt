-- `reached`: the heat at 2,000 K answers with no look; else the search keeps the row in which the division finds the temperature, and its looks are laid into the lent part.
use borrow.Author.Rules.{rules}
use mathlib.Core.Path.{◌≡◌}
use native.Mathlib.Omega.{arith}
use mir.Val.{SFits}
use mir.Syntax.{w64}
use Rattle.signed.specs.Zed.{le_read, zed}
use Rattle.air.specs.Limits.{hottest}
use Rattle.gas.specs.Heat.{heat_of}
use Rattle.gas.proofs.HeatSearch.{kept_by, at_last, row_least, row_most, holds_target, row_searched}
use Rattle.gas.proofs.search.reached.Goals as goal

pub returns-then-last-target : goal.returns-then-last-target
returns-then-last-target c =
    let f : SFits w64 c.args.last.0 = search rules in
    let g : SFits w64 c.args.target.0 = search rules in
    let e : c.args.target.0 ≡ heat_of c.args.gas c.args.sheet.list.now hottest =
    omega (zed, le_read f g c.if-last-target.true, c.requires.ready.2, c.requires.reached.1) in
    at_last c.requires.ready.0 c.args.sheet.accepted c.args.target.0 _ _ e c.lay.ensures

pub at_kelvin-here-requires : goal.at_kelvin-here-requires
at_kelvin-here-requires c =
    let f : SFits w64 c.args.last.0 = search rules in
    let g : SFits w64 c.args.target.0 = search rules in
    let k = kept_by c.requires.reached.0 c.requires.ready.2 f g c.if-last-target.false c.halve-row.ensures in
    (c.requires.ready.0, row_least c.requires.ready.0 c.args.sheet.accepted c.args.target.0 k, omega (arith, row_most c.requires.ready.0 c.args.sheet.accepted c.args.target.0 k))

pub overflow_add-row : goal.overflow_add-row
overflow_add-row c =
    let f : SFits w64 c.args.last.0 = search rules in
    let g : SFits w64 c.args.target.0 = search rules in
    let k = kept_by c.requires.reached.0 c.requires.ready.2 f g c.if-last-target.false c.halve-row.ensures in
    omega (arith, row_most c.requires.ready.0 c.args.sheet.accepted c.args.target.0 k)

pub at_kelvin-requires : goal.at_kelvin-requires
at_kelvin-requires c =
    let f : SFits w64 c.args.last.0 = search rules in
    let g : SFits w64 c.args.target.0 = search rules in
    let k = kept_by c.requires.reached.0 c.requires.ready.2 f g c.if-last-target.false c.halve-row.ensures in
    (c.requires.ready.0, omega (arith, row_least c.requires.ready.0 c.args.sheet.accepted c.args.target.0 k), omega (arith, row_most c.requires.ready.0 c.args.sheet.accepted c.args.target.0 k))

pub divide-requires : goal.divide-requires
divide-requires c =
    let f : SFits w64 c.args.last.0 = search rules in
    let g : SFits w64 c.args.target.0 = search rules in
    let k = kept_by c.requires.reached.0 c.requires.ready.2 f g c.if-last-target.false c.halve-row.ensures in
    holds_target c.requires.ready.0 c.args.sheet.accepted c.args.target.0 k c.at_kelvin-here.ensures c.at_kelvin.ensures

pub returns : goal.returns
returns c =
    let f : SFits w64 c.args.last.0 = search rules in
    let g : SFits w64 c.args.target.0 = search rules in
    let k = kept_by c.requires.reached.0 c.requires.ready.2 f g c.if-last-target.false c.halve-row.ensures in
    rw c.divide.ensures (row_searched c.requires.ready.0 c.args.sheet.accepted c.args.target.0 k c.at_kelvin-here.ensures c.at_kelvin.ensures c.lay-2.ensures)
