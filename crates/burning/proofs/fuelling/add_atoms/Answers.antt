-- `add_atoms`: what comes on top is in its range before it is added, and the sum is tried after: together `wrong_count`, and nothing overflows.
use mathlib.Core.Bool.{not}
use mathlib.Core.Path.{◌≡◌, refl, sym, ap, ◌∙◌}
use native.Mathlib.Omega.{arith}
use lib.IntN.{pos}
use Rattle.signed.specs.Zed.{dn, apart, in_range, in_plain, tested, tested_plain, tested_nat, zed}
use Rattle.burning.specs.Burning.{document01}
use Rattle.burning.proofs.Adding.{count_outside, count_over, count_right}
use Rattle.burning.proofs.fuelling.add_atoms.Goals as goal

pub returns-then-not-inside : goal.returns-then-not-inside
returns-then-not-inside c = rw
    (count_outside _ _ c.requires
    (tested 0 document01.most_atoms c.ranges.more (in_plain _ _ c.ranges.more c.inside.ensures) (ap not c.if-not-inside.true))) refl

pub to_u64-requires : goal.to_u64-requires
to_u64-requires c = tested_plain 0 document01.most_atoms c.ranges.more (in_plain _ _ c.ranges.more c.inside.ensures) (ap not c.if-not-inside.false)

pub returns-then-sum-gt-MOST_ATOMS : goal.returns-then-sum-gt-MOST_ATOMS
returns-then-sum-gt-MOST_ATOMS c = let above : dn c.args.more ≡ 0 =
    omega
    (zed, apart c.args.more, (in_range (pos 0) (pos document01.most_atoms) c.args.more (sym (in_plain _ _ c.ranges.more c.inside.ensures) ∙ c.if-not-inside.false)).least) in
    let n =
    tested_nat 0 document01.most_atoms c.ranges.more (in_plain _ _ c.ranges.more c.inside.ensures)
    (ap not c.if-not-inside.false) c.to_u64.ensures in
    rw (count_over c.args.have c.args.more above (omega (arith, n.number))) refl

pub returns : goal.returns
returns c = let above : dn c.args.more ≡ 0 =
    omega
    (zed, apart c.args.more, (in_range (pos 0) (pos document01.most_atoms) c.args.more (sym (in_plain _ _ c.ranges.more c.inside.ensures) ∙ c.if-not-inside.false)).least) in
    let n =
    tested_nat 0 document01.most_atoms c.ranges.more (in_plain _ _ c.ranges.more c.inside.ensures)
    (ap not c.if-not-inside.false) c.to_u64.ensures in
    rw (count_right c.args.have c.args.more above (omega (arith, n.number)), n.number) refl
