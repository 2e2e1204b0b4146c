-- `lies`: the scaled significand, cut at its places, decides (proofs/Places.antt). Assumes nothing.
use borrow.Author.Rules.{rules}
use mathlib.Core.Path.{◌≡◌, sym}
use mathlib.Core.Bool.{◌&&◌}
use Prim.Native.Nat.{ℕ, ◌*◌, ◌^◌, ◌≤◌, ◌<◌}
use native.Mathlib.Omega.{arith}
use lib.IntN.{ℤ, pos}
use lib.Signed.{le_z, ◌≤ℤ◌}
use mir.Syntax.{w64}
use mir.Val.{SFits}
use Rattle.signed.specs.Zed.{back}
use Rattle.marking.specs.declared.exact.Fields.{Fields}
use Rattle.marking.specs.declared.exact.Cut.{Cut}
use Rattle.marking.specs.Exact.{significand, sized, spans, places, CutOf}
use Rattle.marking.proofs.Shifts.{floor_lt, ceiling_lt}
use Rattle.marking.proofs.Places.{significand_lt, placed}
use Rattle.marking.proofs.exact.lies.Goals as goal

-- the scaled significand of f, cut at its places
abbrev Placed : ℕ → Fields → Cut → Type 0
Placed s f cut = CutOf (s * significand f.exponent f.fraction) (2 ^ places f.exponent) cut

-- both roundings of it are signed 64-bit numbers
cut_fits : (s : ℕ) (f : Fields) (cut : Cut) → s ≤ 100000 → f.fraction < 2 ^ 52 → Placed s f cut → (cut.floor < 2 ^ 63) × (cut.ceiling < 2 ^ 63)
cut_fits s f cut S F at =
    let q = significand f.exponent f.fraction in
    let l = significand_lt f.exponent f.fraction F in
    let k = places f.exponent in
    (omega (arith, at.floor, floor_lt s q S l k (omega arith)), omega (arith, at.ceiling, ceiling_lt s q S l k (omega arith)))

-- and the ends held to them are the ends held to the size
cut_decides : (s : ℕ) (f : Fields) (cut : Cut) (lo hi : ℤ) → 0 < s → s ≤ 100000 → f.fraction < 2 ^ 52 → hi ≤ℤ pos 1000000100000 → Placed s f cut
    → spans (s * sized f.exponent f.fraction) (2 ^ 1074) lo hi ≡ le_z lo (pos cut.floor) && le_z (pos cut.ceiling) hi
cut_decides s f cut lo hi P S F H at = rw (at.floor, at.ceiling) (placed s f.exponent f.fraction lo hi P S F H)

pub of_u64-requires : goal.of_u64-requires
of_u64-requires c =
    (cut_fits c.args.scale c.args.fields c.cut_by-size.result c.requires.scale_most c.requires.fraction_most
    (rw (c.significand_of-digits.ensures, c.places_of.ensures) at c.cut_by-size.ensures)).0

pub of_u64-requires-2 : goal.of_u64-requires-2
of_u64-requires-2 c =
    (cut_fits c.args.scale c.args.fields c.cut_by-size.result c.requires.scale_most c.requires.fraction_most
    (rw (c.significand_of-digits.ensures, c.places_of.ensures) at c.cut_by-size.ensures)).1

pub returns : goal.returns
returns c =
    let f : SFits w64 c.of_u64.result = search rules in
    let g : SFits w64 c.of_u64-2.result = search rules in
    rw (back c.ranges.lo, back f, back g, back c.ranges.hi, c.of_u64.ensures, c.of_u64-2.ensures)
    (sym
    (cut_decides c.args.scale c.args.fields c.cut_by-size.result c.args.lo c.args.hi c.requires.scale_some c.requires.scale_most c.requires.fraction_most c.requires.end_most
    (rw (c.significand_of-digits.ensures, c.places_of.ensures) at c.cut_by-size.ensures)))
