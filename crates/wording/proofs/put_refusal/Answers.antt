-- `put_refusal`: `refused` and the number, and the row behind it exactly where the refusal has one (`wrote_then`).
use Rattle.std.proofs.Common.{arith, sym, ◌∙◌}
use Rattle.refusal.specs.Refusals.{numbered}
use Rattle.text.specs.PutsLaws.{wrote_text, wrote_then, wrote_wider}
use Rattle.wording.specs.TextsLaws.{refusal_alone, refusal_with_row}
use Rattle.wording.proofs.put_refusal.Goals as goal

pub returns-in-Some : goal.returns-in-Some
returns-in-Some c = rw (refusal_with_row (numbered c.args.refusal) c.in-Some.row (sym c.row.ensures ∙ c.in-Some.is))
    (wrote_then (wrote_then (wrote_text c.put_text.ensures) (rw c.number.ensures at c.put_small.ensures)) c.put_small-in-Some.ensures)

pub returns-in_default : goal.returns-in_default
returns-in_default c = rw (refusal_alone (numbered c.args.refusal) (λ k e. c.in_default.not-Some k (c.row.ensures ∙ e)))
    (wrote_wider (omega arith) (wrote_then (wrote_text c.put_text.ensures) (rw c.number.ensures at c.put_small.ensures)))
