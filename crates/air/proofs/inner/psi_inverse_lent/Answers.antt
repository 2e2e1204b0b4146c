-- `psi_inverse_lent`: the list, then the two ends of the column, in document 01's order; what passes is inside the table, and the search answers.
use borrow.Author.Rules.{rules}
use borrow.Author.Tests.{le-ltb}
use mathlib.Core.Path.{◌≡◌, refl, ◌∙◌}
use mathlib.Core.Bool.{Bool}
use native.Mathlib.Omega.{arith}
use Prim.Native.Nat.{ℕ, ◌*◌}
use mathlib.Core.List.{List}
use lib.IntN.{ℤ, pos}
use Rattle.rows.specs.Rows.{rows_psi}
use Rattle.rows.specs.Table.{column}
use lib.ListN.{length}
use lib.Signed.{lt_z, ◌≤ℤ◌}
use mir.Syntax.{w64}
use mir.Val.{SFits, to_z, of_z}
use Rattle.signed.specs.Zed.{back, lt_read, zed}
use Rattle.std.specs.Prelude.{Err}
use Rattle.refusal.specs.declared.Refusal.TheVariants.{Below, Above}
use Rattle.rows.specs.Limits.{first_kelvin, last_kelvin}
use Rattle.air.specs.Limits.{look_places, coldest, hottest}
use Rattle.refusal.specs.Refusals.{here, after, none, clear}
use Rattle.air.specs.Answers.{psi_value}
use Rattle.air.proofs.PsiSearch.{psi_whole, psi_end, psi_refused, psi_answered}
use Rattle.air.proofs.inner.psi_inverse_lent.Goals as goal

-- a test against the first or the last psi, as read, is one of the target and the column's end
module _ {t v : ℤ} {rows : List ℕ} {r : ℕ} (f : SFits w64 t) (g : SFits w64 v) (e : rows ≡ rows_psi) where
  below_200 : r ≡ column rows first_kelvin → v ≡ pos (1000 * r) → {b : Bool} → lt_z (to_z w64 (of_z w64 t)) (to_z w64 (of_z w64 v)) ≡ b → lt_z t (psi_value coldest) ≡ b
  below_200 h q k = rw (psi_end first_kelvin (omega arith) e h q) at (lt_read f g k)

  above_2000 : r ≡ column rows last_kelvin → v ≡ pos (1000 * r) → {b : Bool} → lt_z (to_z w64 (of_z w64 v)) (to_z w64 (of_z w64 t)) ≡ b → lt_z (psi_value hottest) t ≡ b
  above_2000 h q k = rw (psi_end last_kelvin (omega arith) e h q) at (lt_read g f k)

pub returns-then-target-of_u64 : goal.returns-then-target-of_u64
returns-then-target-of_u64 c =
    let f : SFits w64 c.of_u64.result = search rules in
    let b = below_200 c.ranges.target f c.requires c.figure.ensures.0 c.of_u64.ensures c.if-target-of_u64.true in
    psi_refused _ _ (Err Below) (after (le-ltb (length c.args.looks.now) look_places (omega arith)) (here b)) refl

pub returns-then-of_u64-target : goal.returns-then-of_u64-target
returns-then-of_u64-target c =
    let f : SFits w64 c.of_u64.result = search rules in
    let g : SFits w64 c.of_u64-2.result = search rules in
    let b = below_200 c.ranges.target f c.requires c.figure.ensures.0 c.of_u64.ensures c.if-target-of_u64.false in
    let a = above_2000 c.ranges.target g c.requires c.figure-2.ensures.0 c.of_u64-2.ensures c.if-of_u64-target.true in
    psi_refused _ _ (Err Above) (after (le-ltb (length c.args.looks.now) look_places (omega arith)) (after b (here a))) refl

pub psi_reached-requires : goal.psi_reached-requires
psi_reached-requires c =
    let e = c.to_u64.ensures ∙ back c.ranges.target in
    let f : SFits w64 c.of_u64.result = search rules in
    let g : SFits w64 c.of_u64-2.result = search rules in
    let b = below_200 c.ranges.target f c.requires c.figure.ensures.0 c.of_u64.ensures c.if-target-of_u64.false in
    let a = above_2000 c.ranges.target g c.requires c.figure-2.ensures.0 c.of_u64-2.ensures c.if-of_u64-target.false in
    (c.requires, omega arith, omega (zed, e, b, psi_whole first_kelvin (omega arith)), omega (zed, e, a, psi_whole last_kelvin (omega arith)))

pub returns : goal.returns
returns c =
    let e = c.to_u64.ensures ∙ back c.ranges.target in
    let f : SFits w64 c.of_u64.result = search rules in
    let g : SFits w64 c.of_u64-2.result = search rules in
    let b = below_200 c.ranges.target f c.requires c.figure.ensures.0 c.of_u64.ensures c.if-target-of_u64.false in
    let a = above_2000 c.ranges.target g c.requires c.figure-2.ensures.0 c.of_u64-2.ensures c.if-of_u64-target.false in
    let from_200 : psi_value coldest ≤ℤ c.args.target = omega (zed, b) in
    psi_answered c.args.target c.args.looks.now (clear (le-ltb (length c.args.looks.now) look_places (omega arith)) (clear b (clear a none))) e (rw e from_200) c.psi_reached.ensures
