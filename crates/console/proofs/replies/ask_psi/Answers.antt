-- `ask_psi`: the search writes its looks into places that were all 0, so the used ones are its own (`psi_shown`).
use Rattle.text.specs.PutsLaws.{wrote_wider}
use Rattle.wording.specs.TextsLaws.{psi_shown}
use Rattle.signed.specs.Zed.{back}
use native.Mathlib.Omega.{arith}
use Rattle.console.proofs.replies.ask_psi.Goals as goal

pub returns : goal.returns
returns c = wrote_wider (omega arith)
    (rw (back c.ranges.target) at (rw (psi_shown c.psi_inverse_lent-answer.ensures) at c.put_psi.ensures))
