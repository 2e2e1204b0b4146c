-- `ask_temperature`: the search writes its looks into places that were all 0, so the used ones are its own (`temperature_shown`).
use Rattle.text.specs.PutsLaws.{wrote_wider}
use Rattle.wording.specs.TextsLaws.{temperature_shown}
use Rattle.signed.specs.Zed.{back}
use native.Mathlib.Omega.{arith}
use Rattle.console.proofs.replies.ask_temperature.Goals as goal

pub returns : goal.returns
returns c = wrote_wider (omega arith)
    (rw (back c.ranges.target)
    at (rw (temperature_shown c.args.charge _ c.args.sheet.list.now c.temperature_judged-answer.ensures) at c.put_temperature.ensures))
