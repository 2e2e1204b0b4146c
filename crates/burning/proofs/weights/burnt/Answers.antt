-- `burnt`: in a lean charge the air has the oxygen that the fuel uses, so what is left of it is a number without sign.
use borrow.Author.Rules.{rules}
use mathlib.Core.Path.{refl, ap}
use Prim.Native.Nat.{◌*◌, ◌+◌}
use native.Mathlib.Omega.{arith}
use lib.Signed.{◌≤ℤ◌}
use lib.IntN.{pos, ◌-ℤ◌}
use mir.Syntax.{w64}
use mir.Val.{SFits}
use Rattle.signed.specs.Zed.{up, back, is_diff, fits_from, le_z_true, zed}
use Rattle.burning.specs.declared.Gas.{Gas}
use Rattle.burning.specs.Burning.{document01, lean, oxygen_used, Burns, products}
use Rattle.burning.specs.Burning.{masses_of}
use Rattle.burning.proofs.weights.burnt.Goals as goal

-- a lean charge uses no more than the oxygen of its air
oxygen_asks : {g : Gas} → Burns document01 g → (oxygen_used document01 g ≤ℤ pos (23186 * g.air)) × SFits w64 (pos (23186 * g.air) -ℤ oxygen_used document01 g)
unfolding lean oxygen_used
oxygen_asks {g} b =
    let l = b.limits in
    let k = le_z_true (oxygen_used document01 g) (pos (23186 * g.air)) b.is_lean in
    (omega zed, fits_from w64 (is_diff (23186 * g.air) (32000 * g.carbon + 8000 * g.hydrogen)) (omega arith) (omega arith))

pub gap-requires : goal.gap-requires
unfolding masses_of
gap-requires c = let u : SFits w64 c.weigh-masses.result.used = search rules in
    let o : SFits w64 c.oxygen.result = search rules in
    rw (back u, back o, c.weigh-masses.ensures, c.oxygen.ensures) (oxygen_asks c.requires)

pub returns : goal.returns
unfolding products masses_of
returns c = let u : SFits w64 c.weigh-masses.result.used = search rules in
    let o : SFits w64 c.oxygen.result = search rules in
    let e = rw (back u, back o, c.weigh-masses.ensures, c.oxygen.ensures) at c.gap.ensures in
    rw (c.weigh-masses.ensures, ap up e) refl
