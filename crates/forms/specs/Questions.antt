-- A question (docs/PROGRAM.md), over its lines: the first is the start, A, c, h, mK; each further one a step, c, h, calorific value, q. How many lines there are, or the
-- first that is none; their numbers; and the walk of them, its page and the line that says whose refusal it ends in.
use Rattle.std.specs.Prelude.{ℕ, suc, Bool, cond, List, [], ◌∷◌, ◌++◌, ℤ, pos, drop, get_or, Result, Ok, Err}
use Rattle.fields.specs.Fields.{holds_return, fields_of, count_all, is_count, values_of}
use Rattle.burning.specs.Burning.{charge_numbers, charge_in}
use Rattle.refusal.specs.Refusals.{Told}
use Rattle.sheet.specs.Answers.{SheetAnswer}
use Rattle.walk.specs.Limits.{step_numbers}
use Rattle.walk.specs.Walk.{Trace, course}
use Rattle.console.specs.Walks.{walk_told, printed_walk}
use Rattle.forms.specs.Pages.{refusal_note}
use Rattle.forms.specs.declared.questions.BadLine.{BadLine}
use Rattle.forms.specs.declared.questions.BadLine.TheVariants.{Numbers, Returned}

-- how many lines there are, or the first that is none
abbrev pub Question : Type 0
Question = Result ℕ BadLine

-- a line's fields are as many whole numbers as a step has: a start, with its temperature, has as many
abbrev pub is_line : List (List ℕ) → Bool
is_line fs = is_count step_numbers (count_all 0 fs)

-- the numbers of all lines
abbrev pub numbers_in : List (List ℕ) → List ℤ
numbers_in [] = []
numbers_in (line ∷ lines) = values_of (fields_of line) ++ numbers_in lines

-- how many lines there are, or the first that is not so many numbers or that has a carriage return: k lines stand before these
abbrev pub read_from : ℕ → List (List ℕ) → Question
read_from k [] = Ok k
read_from k (line ∷ lines) = cond (holds_return line) (Err (Returned (suc k))) (cond (is_line (fields_of line)) (read_from (suc k) lines) (Err (Numbers (suc k))))

-- the walk of a question's numbers: the first line is the start, the lines after it are the steps
abbrev pub walk_in : SheetAnswer → List ℕ → List ℤ → Told Trace
walk_in verdict s numbers = walk_told verdict s (charge_in numbers) (get_or numbers charge_numbers (pos 0)) (drop step_numbers numbers)

-- what is printed of it, and what is said beside it
abbrev pub walk_page : SheetAnswer → List ℕ → List ℤ → List ℕ
walk_page verdict s numbers = printed_walk (walk_in verdict s numbers)

abbrev pub page_note : SheetAnswer → List ℕ → List ℤ → List ℕ
page_note verdict s numbers = refusal_note verdict (course (walk_in verdict s numbers))
