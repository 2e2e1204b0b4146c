-- `divide`: the whole mK over the row's kelvin are how far the target lies above it, by the slope, and the rest is what is left.
use borrow.Author.Rules.{rules}
use mathlib.Core.Path.{◌≡◌, refl, ap}
use lib.IntN.{pos, ◌-ℤ◌}
use mir.Val.{SFits}
use mir.Syntax.{w64}
use Rattle.signed.specs.Zed.{up, back}
use Rattle.gas.specs.inner.Search.{divided}
use Rattle.gas.proofs.search.divide.Goals as goal

pub returns : goal.returns
unfolding divided
returns c =
    let f : SFits w64 c.of_u64-mk.result = search rules in
    let g : SFits w64 c.of_u64.result = search rules in
    let h : SFits w64 c.args.here.0 = search rules in
    let t : SFits w64 c.args.target.0 = search rules in
    let n : SFits w64 c.args.next.0 = search rules in
    let over_is : pos c.gap-over.result ≡ c.args.target.0 -ℤ c.args.here.0 = rw (back h, back t) at c.gap-over.ensures in
    let rise : pos c.gap-slope.result ≡ c.args.next.0 -ℤ c.args.here.0 = rw (back h, back n) at c.gap-slope.ensures in
    rw (back f, back g, c.of_u64-mk.ensures, c.of_u64.ensures, c.thousandths.ensures, ← ap up over_is, ← ap up rise) refl
