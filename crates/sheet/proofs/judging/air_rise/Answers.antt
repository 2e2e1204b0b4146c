-- `air_rise`: the lent column is air's (`air_from_to`), which rises from each kelvin to the next (`h_grows`), so the difference is not below zero.
use Rattle.std.proofs.Common.{◌≡◌, ℕ, ◌+◌, List, ◌∙◌, ap, add-one, arith}
use Prim.Native.Nat.{suc}
use Rattle.rows.specs.Rows.{rows_h}
use Rattle.rows.specs.Table.{air_h, column}
use Rattle.rows.proofs.TableLaws.{h_grows}
use Rattle.sheet.proofs.judging.air_rise.Goals as goal

-- a figure of the lent column is air's
air_figure : (rows : List ℕ) (k : ℕ) {n : ℕ} → rows ≡ rows_h → n ≡ column rows k → n ≡ air_h k
unfolding air_h
air_figure rows k e f = f ∙ ap (λ (l : List ℕ). column l k) e

air_from_to : (rows : List ℕ) (k : ℕ) {from to : ℕ} → rows ≡ rows_h → from ≡ column rows k → to ≡ column rows (k + 1) → (from ≡ air_h k) × (to ≡ air_h (suc k))
air_from_to rows k e f g = (air_figure rows k e f, air_figure rows (k + 1) e g ∙ ap air_h (add-one k))

pub overflow_sub-result : goal.overflow_sub-result
overflow_sub-result c = let k = c.args.kelvin in
    omega (arith, air_from_to c.args.sheet.heats.now k c.args.sheet.heats_are c.figure-2.ensures.0 c.figure.ensures.0, h_grows k (omega arith) (omega arith))

pub returns : goal.returns
returns c = let e = air_from_to c.args.sheet.heats.now c.args.kelvin c.args.sheet.heats_are c.figure-2.ensures.0 c.figure.ensures.0 in (omega (arith, e), omega arith)
