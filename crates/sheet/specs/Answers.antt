-- What the calls on a sheet tell (document 01, "The gas sheet" and refusals 1 to 3): the reader of a text, which judges its form only and fills the lent list,
-- and the judge of a list.
use Rattle.std.specs.Prelude.{◌≡◌, Bool, true, false, List, [], ◌∷◌, ℕ, ltb, Result, Ok, Err}
use Rattle.refusal.specs.declared.Refusal.{Refusal}
use Rattle.refusal.specs.Refusals.{Told, told_of, Line, ◌when◌, ◌at_place◌when◌, first}
use Rattle.rows.specs.Limits.{table_rows}
use Rattle.sheet_text.specs.Text.{IsSheet, FirstBad}
use Rattle.sheet.specs.Sheet.{not_long, first_bad_row}

-- a good sheet, with no value of its own, or the refusal
abbrev pub SheetAnswer : Type 0
SheetAnswer = Result (Unit {0}) Refusal

-- an answer as the paper has it
abbrev pub paper_sheet : SheetAnswer → Told (Unit {0})
paper_sheet = told_of

-- a text held against the form: the sheet of its numbers, or none, with its first bad row
pub data Form (text : List ℕ) : Type 0 where
  sheet_of : (numbers : List ℕ) → IsSheet text numbers → Form text
  no_sheet : (row : ℕ) → FirstBad text row → Form text

-- sheet text breaks its form
abbrev pub breaks : {text : List ℕ} → Form text → Bool
breaks (sheet_of numbers s) = false
breaks (no_sheet row b) = true

-- and the first bad row where it does
abbrev pub bad_row_of : {text : List ℕ} → Form text → ℕ
bad_row_of (sheet_of numbers s) = 0
bad_row_of (no_sheet row b) = row

-- the numbers where it does not
abbrev pub numbers_of : {text : List ℕ} → Form text → List ℕ
numbers_of (sheet_of numbers s) = numbers
numbers_of (no_sheet row b) = []

-- refusals 1 and 2, in the paper's order
abbrev pub read_told : {text : List ℕ} → List ℕ → Form text → Told (Unit {0})
read_told before form = first (1 when not_long before ∷ 2 at_place bad_row_of form when breaks form ∷ []) tt

-- the list on return: all numbers of a good sheet, and unchanged by a refusal
abbrev pub list_after : SheetAnswer → List ℕ → List ℕ → List ℕ
list_after (Ok u) numbers before = numbers
list_after (Err r) numbers before = before

-- the whole of a reading. Every text has one form, and no two (FormLaws.antt)
pub record SheetRead (text before : List ℕ) (answer : SheetAnswer) (later : List ℕ) : Type 0 where
  pub form : Form text
  pub told : paper_sheet answer ≡ read_told before form
  pub list : later ≡ list_after answer (numbers_of form) before

-- refusals 1 and 3, in the paper's order: the first lines of every call that takes a sheet list
abbrev pub sheet_lines : List ℕ → List Line
sheet_lines s = 1 when not_long s ∷ 3 at_place first_bad_row s when ltb (first_bad_row s) table_rows ∷ []

-- the whole of a judgement
abbrev pub judge_told : List ℕ → Told (Unit {0})
judge_told s = first (sheet_lines s) tt
