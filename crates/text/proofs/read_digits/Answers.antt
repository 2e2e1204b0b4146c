-- `read_digits`: a step for each byte reads what `digits_of` reads of the whole text (`run_more`).
use Rattle.std.proofs.Common.{sym, ◌∙◌, ap, arith, take_all, get_or}
use Rattle.text.specs.declared.Digits.TheVariants.{Empty}
use Rattle.text.specs.Wholes.{step_digits, digits_of}
use Rattle.text.specs.Fold.{run}
use Rattle.text.specs.FoldLaws.{run_more}
use Rattle.text.proofs.read_digits.Goals as goal

pub loop-b-preserved : goal.loop-b-preserved
loop-b-preserved c =
    c.step_digits-s.ensures
    ∙ ap (λ x. step_digits c.args.limit x (get_or c.args.text.now c.loop-b.b-index 0)) c.loop-b.invariant
    ∙ sym (run_more (step_digits c.args.limit) Empty c.args.text.now c.loop-b.b-index (omega arith))

pub returns : goal.returns
unfolding digits_of
returns c = c.loop-b.invariant ∙ ap (run (step_digits c.args.limit) Empty) (take_all c.loop-b.b-index c.args.text.now (omega arith))
