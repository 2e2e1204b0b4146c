-- `position_in`: each field in turn is held to the word (`position_at`), up to the first that is the same or the text's end (`position_none`).
use Rattle.fields.specs.WordsLaws.{position_at}
use mathlib.Core.Bool.{true, false}
use native.Mathlib.Omega.{arith}
use Rattle.std.proofs.lemmas.Bool.Decides.{Decides-eqb}
use Rattle.std.proofs.lemmas.Slice.Eq.{slice_eq-Decides}
use Rattle.fields.proofs.position_in.Goals as goal

pub returns-then-eq : goal.returns-then-eq
returns-then-eq c = omega (
  arith,
  c.loop-from.invariant.1,
  position_at c.args.word.now c.args.text.now c.loop-from.from c.field_end-end.result true (omega arith)
      c.field_end-end.ensures (slice_eq-Decides Decides-eqb _ _ _ c.eq.ensures) c.if-eq.true,
)

pub loop-from-preserved : goal.loop-from-preserved
loop-from-preserved c = (
  omega (arith, c.field_end-end.ensures),
  omega (
    arith,
    c.loop-from.invariant.1,
    position_at c.args.word.now c.args.text.now c.loop-from.from c.field_end-end.result false (omega arith)
        c.field_end-end.ensures (slice_eq-Decides Decides-eqb _ _ _ c.eq.ensures) c.if-eq.false,
  ),
)
