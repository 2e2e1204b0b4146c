-- `content_at`: the heat there less the heat at 15 °C, a temperature of the table; the difference fits (`content_fits`).
use mathlib.Core.Path.{◌≡◌, refl}
use mathlib.Core.Bool.{true}
use lib.IntN.{pos}
use Rattle.signed.specs.Zed.{up, in_z, in_range, apart, zed}
use Rattle.air.specs.Limits.{fifteen_degrees, coldest, hottest}
use Rattle.gas.specs.BoundsLaws.{content_fits}
use Rattle.gas.proofs.inner.content_at.Goals as goal

covered_15 : in_z (pos coldest) (pos hottest) (pos fifteen_degrees) ≡ true
unfolding in_z
covered_15 = refl

pub invariant_of-fifteen-clause-covered : goal.invariant_of-fifteen-clause-covered
invariant_of-fifteen-clause-covered c = covered_15

pub less-requires : goal.less-requires
less-requires c = let at = c.args.at in
    let i = in_range (pos coldest) (pos hottest) at.t.0 at.covered in
    rw (c.heat_at.ensures, c.heat_at-below.ensures) (content_fits at.burns c.args.sheet.accepted (up at.t.0) (omega (zed, apart at.t.0)) (omega (zed, apart at.t.0)))
