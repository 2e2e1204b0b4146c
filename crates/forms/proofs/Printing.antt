-- The walk of a question, by the numbers that are kept of it. Assumes nothing.
use Rattle.std.specs.Prelude.{ℕ, ◌*◌, ◌-◌, min, List, ◌≡◌, refl, ℤ, pos, get_or, take, drop}
use Rattle.std.proofs.Common.{SFits}
use Rattle.std.specs.Int.{w64}
use Rattle.signed.specs.Zed.{read, back}
use Rattle.burning.specs.declared.Charge.{Charge}
use Rattle.burning.specs.Burning.{charge_numbers, charge_in}
use Rattle.sheet.specs.Answers.{SheetAnswer}
use Rattle.walk.specs.Limits.{step_numbers}
use Rattle.console.specs.Walks.{walk_told}
use Rattle.forms.specs.Limits.{kept_lines}
use Rattle.forms.specs.inner.Taking.{question_told}

-- its charge, its temperature, which is a machine's number, and the steps of the lines that the list holds
pub question_walk : (verdict : SheetAnswer) (s : List ℕ) (numbers : List ℤ) (lines held : ℕ) {ch : Charge}
    → ch ≡ charge_in numbers → SFits w64 (get_or numbers charge_numbers (pos 0)) → held ≡ min lines kept_lines
    → walk_told verdict s ch (read (get_or numbers charge_numbers (pos 0))) (take (step_numbers * held - step_numbers) (drop step_numbers numbers)) ≡ question_told verdict s lines numbers
question_walk verdict s numbers lines held d f e = rw (d, back f, e) refl
