-- `gas_of`: in a charge within its limits no number is below zero (`inside_of`), so each is the same without a sign.
use borrow.Author.Rules.{rules}
use mir.Syntax.{w64}
use mir.Val.{SFits}
use Rattle.signed.specs.Zed.{back, apart, zed}
use Rattle.burning.specs.Burning.{document01}
use Rattle.burning.specs.BurningLaws.{inside_of}
use Rattle.burning.proofs.inner.gas_of.Goals as goal

pub to_u64-requires : goal.to_u64-requires
to_u64-requires c = let air_fits : SFits w64 c.args.charge.air =
    search rules in
    let i = inside_of document01 c.args.charge c.requires in
    rw (back air_fits) (omega (zed, apart c.args.charge.air))

pub to_u64-requires-2 : goal.to_u64-requires-2
to_u64-requires-2 c = let carbon_fits : SFits w64 c.args.charge.carbon =
    search rules in
    rw (back carbon_fits) (inside_of document01 c.args.charge c.requires).carbon_in.least

pub to_u64-requires-3 : goal.to_u64-requires-3
to_u64-requires-3 c = let hydrogen_fits : SFits w64 c.args.charge.hydrogen =
    search rules in
    rw (back hydrogen_fits) (inside_of document01 c.args.charge c.requires).hydrogen_in.least
