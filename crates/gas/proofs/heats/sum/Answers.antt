-- `sum`: what the masses add and what the used oxygen takes away both fit (`added_most`, `taken_most`), and their difference is the heat (`sum_diff`).
use borrow.Author.Rules.{rules}
use Prim.Native.Nat.{ℕ}
use native.Mathlib.Omega.{arith}
use lib.IntN.{pos, ◌*ℤ◌}
use mir.Val.{SFits}
use mir.Syntax.{w64}
use Rattle.signed.specs.Zed.{back, fits_from}
use Rattle.gas.specs.HeatLaws.{sum_diff, added_most, taken_most, taken_is, sum_parts}
use Rattle.gas.specs.Heat.{heat_sum}
use Rattle.gas.specs.inner.Sizes.{Sized, PerPound}
use Rattle.burning.specs.declared.Masses.{Masses}
use Rattle.gas.proofs.heats.sum.Goals as goal

module _ {m : Masses} {a o c h : ℕ} (z : Sized m) (p : PerPound a o c h) where
  -- what the used oxygen takes away
  taken_fits : SFits w64 (m.used *ℤ pos o)
  taken_fits = fits_from w64 (taken_is z p) (omega (arith, taken_most z p)) (omega arith)

  -- the heat
  sum_fits : SFits w64 (heat_sum m a o c h)
  sum_fits = fits_from w64 (sum_parts z p) (omega (arith, added_most z p)) (omega (arith, taken_most z p))

pub overflow_mul-result : goal.overflow_mul-result
overflow_mul-result c =
    let u : SFits w64 c.args.gas.used = search rules in
    let o : SFits w64 c.of_u64-2.result = search rules in
    rw (back u, back o, c.of_u64-2.ensures) (taken_fits c.requires.0 c.requires.1)

pub overflow_sub-result : goal.overflow_sub-result
overflow_sub-result c =
    let a = c.args in
    let u : SFits w64 a.gas.used = search rules in
    let o : SFits w64 c.of_u64-2.result = search rules in
    let p : SFits w64 c.of_u64.result = search rules in
    rw (back u, back o, back p, c.of_u64-2.ensures, c.of_u64.ensures, back (taken_fits c.requires.0 c.requires.1), sum_diff a.gas a.air a.o2 a.co2 a.h2o)
    (sum_fits c.requires.0 c.requires.1)

pub returns : goal.returns
returns c =
    let a = c.args in
    let u : SFits w64 a.gas.used = search rules in
    let o : SFits w64 c.of_u64-2.result = search rules in
    let p : SFits w64 c.of_u64.result = search rules in
    rw (back u, back o, back p, c.of_u64-2.ensures, c.of_u64.ensures, back (taken_fits c.requires.0 c.requires.1), sum_diff a.gas a.air a.o2 a.co2 a.h2o)
    (back (sum_fits c.requires.0 c.requires.1))
