-- `along`: the heat does not fall to the next kelvin, and a thousandth of the rise, f times, added to it still fits (proofs/Lines.antt).
use borrow.Author.Rules.{rules}
use mathlib.Core.Path.{◌≡◌, sym}
use Prim.Native.Nat.{◌/◌}
use mir.Val.{SFits}
use mir.Syntax.{w64}
use Rattle.signed.specs.Zed.{back}
use Rattle.gas.proofs.Lines.{slope_is, along_fits, along_is}
use Rattle.gas.proofs.heats.along.Goals as goal

pub returns : goal.returns
returns c =
    let f : SFits w64 c.args.here.0 = search rules in
    let g : SFits w64 c.args.next.0 = search rules in
    let h : SFits w64 c.of_u64.result = search rules in
    let slope : c.gap.result / 1000 ≡ c.requires.0.slope = slope_is c.requires.0 (rw (back f, back g) at c.gap.ensures) in
    rw (back f, back h, c.of_u64.ensures, slope, back (along_fits c.requires.0 c.requires.1 f g)) (sym (along_is c.requires.0 c.args.f))
