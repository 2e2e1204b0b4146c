-- `reply_burn`: the numbers of a charge burn, any other fields are a misfit.
use mathlib.Core.Path.{refl}
use mathlib.Core.List.{List}
use lib.IntN.{ℤ, pos}
use lib.ListN.{replicate}
use Rattle.fields.specs.FieldsLaws.{exactly}
use Rattle.burning.specs.Burning.{document01, charge_numbers, charge_in}
use Rattle.burning.specs.Answers.{burn_told}
use Rattle.wording.specs.Texts.{burnt_text}
use Rattle.console.specs.Requests.{misfit_text}
use Rattle.console.specs.inner.Left.{fields_left}
use Rattle.console.proofs.replies.reply_burn.Goals as goal

pub returns : goal.returns
returns c = rw
    (← exactly (λ (l : List ℤ). burnt_text (burn_told document01 (charge_in l))) misfit_text (fields_left c.args.rest) (replicate charge_numbers (pos 0))
    c.read_exactly.new.list charge_numbers refl c.read_exactly.ensures.value c.if-not-read_exactly.false refl c.read_exactly.ensures.stored)
    (rw (c.burn.ensures, c.charge_in.ensures) at c.put_burnt.ensures)
