-- A question taken line by line: what was found so far, and the list that the numbers are kept in. `lines_read`, `lines_kept`, `question_printed` and `question_noted` of
-- QuestionsLaws.antt show that all lines taken are the question of Questions.antt.
use Rattle.std.specs.Prelude.{ℕ, suc, ◌*◌, ◌-◌, min, cond, List, [], ◌∷◌, ltb, ℤ, pos, take, drop, get_or, Ok, Err}
use Rattle.std.proofs.lemmas.List.Edits.{sets}
use Rattle.fields.specs.Fields.{holds_return, fields_of, values_of}
use Rattle.burning.specs.Burning.{charge_numbers, charge_in}
use Rattle.refusal.specs.Refusals.{Told}
use Rattle.sheet.specs.Answers.{SheetAnswer}
use Rattle.walk.specs.Limits.{step_numbers}
use Rattle.walk.specs.Walk.{Trace}
use Rattle.console.specs.Walks.{walk_told}
use Rattle.forms.specs.Limits.{kept_lines, most_counted}
use Rattle.forms.specs.Questions.{Question, is_line}
use Rattle.forms.specs.declared.questions.BadLine.TheVariants.{Numbers, Returned}

-- line k, counted from 0, stands in places of its own, as many as a step has numbers; a line past those that are kept is left out
abbrev pub kept_line : ℕ → List ℤ → List ℤ → List ℤ
kept_line k line numbers = cond (ltb k kept_lines) (sets numbers (step_numbers * k) line) numbers

-- one line more, as far as a count goes
abbrev pub one_more : ℕ → ℕ
one_more k = min (suc k) most_counted

-- the question with one line more: after the first line that is not so many numbers, or that has a carriage return, no line counts
abbrev pub with_next : ℕ → List ℕ → Question
with_next k line = cond (holds_return line) (Err (Returned (one_more k))) (cond (is_line (fields_of line)) (Ok (one_more k)) (Err (Numbers (one_more k))))

abbrev pub with_line : Question → List ℕ → Question
with_line (Ok k) line = with_next k line
with_line (Err bad) line = Err bad

-- and the numbers that are kept of it
abbrev pub numbers_next : ℕ → List ℕ → List ℤ → List ℤ
numbers_next k line numbers = cond (holds_return line) numbers (cond (is_line (fields_of line)) (kept_line k (values_of (fields_of line)) numbers) numbers)

abbrev pub numbers_with : Question → List ℕ → List ℤ → List ℤ
numbers_with (Ok k) line numbers = numbers_next k line numbers
numbers_with (Err bad) line numbers = numbers

-- ---- the list that they are kept in
-- the steps of the lines after it: of a question with more lines than the list has places for, one more than the longest walk has, so that it is refused with 13
abbrev pub steps_in : ℕ → List ℤ → List ℤ
steps_in lines numbers = take (step_numbers * min lines kept_lines - step_numbers) (drop step_numbers numbers)

-- the walk of a question of so many lines
abbrev pub question_told : SheetAnswer → List ℕ → ℕ → List ℤ → Told Trace
question_told verdict s lines numbers = walk_told verdict s (charge_in numbers) (get_or numbers charge_numbers (pos 0)) (steps_in lines numbers)

-- the lines taken one after the other
abbrev pub with_lines : Question → List (List ℕ) → Question
with_lines question [] = question
with_lines question (line ∷ lines) = with_lines (with_line question line) lines

abbrev pub numbers_after : Question → List (List ℕ) → List ℤ → List ℤ
numbers_after question [] numbers = numbers
numbers_after question (line ∷ lines) numbers = numbers_after (with_line question line) lines (numbers_with question line numbers)
