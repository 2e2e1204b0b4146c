-- A sheet whose text comes in pieces (document 02, request 3). A reading goes on over each piece, which may hold nothing and writes only the rows that it completes, and ends on a
-- closing call. Refusal 1 is tested first at each call, changes nothing and does not end the reading. Refusal 2 comes with the piece that holds the byte that decides it, or at the
-- close; it leaves the rows before the bad one filled and no others changed. After refusal 2 or a close each further call with a list of the right length changes nothing and
-- repeats the answer. What is handed in as a reading is taken as it is, whatever it is.
use Rattle.std.specs.Prelude.{◌≡◌, Bool, true, false, cond, List, [], ◌∷◌, ◌++◌, ℕ, eqb, Result, Ok, Err}
use Rattle.text.specs.Fold.{run}
use Rattle.rows.specs.Limits.{table_rows}
use Rattle.refusal.specs.declared.Refusal.{Refusal}
use Rattle.refusal.specs.Refusals.{Numbered, Plain, At, numbered, Told, told_of, Line, ◌when◌, ◌at_place◌when◌, first}
use Rattle.sheet_text.specs.Text.{RowsIn}
use Rattle.sheet_text.specs.Machine.{start, step_place, stored_place, State}
use Rattle.sheet.specs.declared.pieces.SheetReading.{SheetReading}
use Rattle.sheet.specs.declared.pieces.SheetReading.TheVariants.{Going, Refused, Accepted}
use Rattle.sheet.specs.declared.pieces.Progress.{Progress}
use Rattle.sheet.specs.declared.pieces.Taken.{Taken}
use Rattle.sheet.specs.declared.pieces.Closed.{Closed}
use Rattle.sheet.specs.Sheet.{not_long}
use Rattle.sheet.specs.Answers.{paper_sheet, Form, numbers_of, read_told, SheetAnswer}

-- ---- where a reading stands
-- a place of the one reader of a sheet's text, or the row for which that reader refuses it
abbrev pub reading_of : State → SheetReading
reading_of (Ok p) = Going p
reading_of (Err r) = Refused r

-- no byte has come
abbrev pub opened : SheetReading
opened = reading_of start

-- a reading, and the list that it fills
pub record Standing : Type 0 where
  pub reading : SheetReading
  pub list : List ℕ

abbrev pub standing : SheetReading → List ℕ → Standing
standing s l = record { reading = s; list = l }

-- one byte more: a row's numbers are written by the line feed that completes it. A reading that is over stays
abbrev pub on_byte : SheetReading → List ℕ → ℕ → Standing
on_byte (Going p) l b = standing (reading_of (step_place p b)) (stored_place p b l)
on_byte (Refused r) l b = standing (Refused r) l
on_byte Accepted l b = standing Accepted l

abbrev pub with_byte : Standing → ℕ → Standing
with_byte x b = on_byte x.reading x.list b

-- a piece, byte by byte
abbrev pub after_piece : SheetReading → List ℕ → List ℕ → Standing
after_piece s piece l = run with_byte (standing s l) piece

-- the close: accepted where all rows are read, else refused at the row at which the text ends. A reading that is over stays
abbrev pub after_close : SheetReading → SheetReading
after_close (Going p) = cond (eqb p.row table_rows) Accepted (Refused p.row)
after_close (Refused r) = Refused r
after_close Accepted = Accepted

-- ---- what is told
-- the bad row of a reading that is refused
abbrev pub is_refused : SheetReading → Bool
is_refused (Going p) = false
is_refused (Refused r) = true
is_refused Accepted = false

abbrev pub row_refused : SheetReading → ℕ
row_refused (Going p) = 0
row_refused (Refused r) = r
row_refused Accepted = 0

-- refusals 1 and 2, in the paper's order: of the list that is lent, and of the reading after the call
abbrev pub piece_lines : List ℕ → SheetReading → List Line
piece_lines l after = 1 when not_long l ∷ 2 at_place row_refused after when is_refused after ∷ []

-- what a piece is told that is not refused: more is expected, or the sheet is accepted (a reading that is refused is told by its line)
abbrev pub progress : SheetReading → Progress
progress (Going p) = Progress.More
progress (Refused r) = Progress.Accepted
progress Accepted = Progress.Accepted

-- an answer to a piece, as the paper has it
abbrev pub paper_piece : Result Progress Refusal → Told Progress
paper_piece = told_of

abbrev pub piece_told : SheetReading → List ℕ → List ℕ → Told Progress
piece_told s piece l = first (piece_lines l (after_piece s piece l).reading) (progress (after_piece s piece l).reading)

abbrev pub close_told : SheetReading → List ℕ → Told (Unit {0})
close_told s l = first (piece_lines l (after_close s)) tt

-- the whole of a call with a piece
pub record PieceRead (s : SheetReading) (piece before : List ℕ) (r : Taken) (later : List ℕ) : Type 0 where
  pub told : paper_piece r.answer ≡ piece_told s piece before
  pub reading : r.reading ≡ cond (not_long before) s (after_piece s piece before).reading
  pub list : later ≡ cond (not_long before) before (after_piece s piece before).list

-- the whole of a close, which is lent the list to look at
pub record ReadingClosed (s : SheetReading) (l : List ℕ) (r : Closed) : Type 0 where
  pub told : paper_sheet r.answer ≡ close_told s l
  pub reading : r.reading ≡ cond (not_long l) s (after_close s)

-- ---- the answer of a reading, to a piece and to the close
abbrev pub answer_of : SheetReading → Result Progress Refusal
answer_of (Going p) = Ok Progress.More
answer_of (Refused r) = Err (Refusal.Form r)
answer_of Accepted = Ok Progress.Accepted

abbrev pub refused_at : ℕ → Closed
refused_at r = record { reading = Refused r; answer = Err (Refusal.Form r) }

abbrev pub accepted_closed : Closed
accepted_closed = record { reading = Accepted; answer = Ok tt }

abbrev pub closed : SheetReading → Closed
closed (Going p) = cond (eqb p.row table_rows) accepted_closed (refused_at p.row)
closed (Refused r) = refused_at r
closed Accepted = accepted_closed

-- ---- the calls of a reading one after the other, and the pieces joined
-- from one standing to another: pieces that are lent the list, and between them calls that are lent a list of another length
pub data Calls : SheetReading → List ℕ → List ℕ → SheetReading → List ℕ → Type 0 where
  none : {s : SheetReading} {l : List ℕ} → Calls s l [] s l
  piece : {s t : SheetReading} {l m k p rest : List ℕ} {r : Taken} → PieceRead s p l r m → Calls r.reading m rest t k → Calls s l (p ++ rest) t k
  astray : {s t : SheetReading} {l k p rest other after : List ℕ} {r : Taken} → not_long other ≡ true → PieceRead s p other r after → Calls r.reading l rest t k → Calls s l rest t k
  astray_close : {s t : SheetReading} {l k rest other : List ℕ} {r : Closed} → not_long other ≡ true → ReadingClosed s other r → Calls r.reading l rest t k → Calls s l rest t k

-- some text has come, and the reading that was opened stands behind it
pub record Came (before : List ℕ) (s : SheetReading) (list : List ℕ) : Type 0 where
  pub text : List ℕ
  pub calls : Calls opened before text s list

-- the rows before the bad one, all where the sheet is accepted
abbrev pub row_at : Numbered → ℕ
row_at (Plain number) = 0
row_at (At number row) = row

abbrev pub rows_told : SheetAnswer → ℕ
rows_told (Ok u) = table_rows
rows_told (Err r) = row_at (numbered r)

-- the whole of a reading in pieces that was closed: what is told of the pieces joined, and those rows in the list, over what it held at first
pub record PiecesRead (text before : List ℕ) (answer : SheetAnswer) (later : List ℕ) : Type 0 where
  pub form : Form text
  pub told : paper_sheet answer ≡ read_told before form
  pub rows : RowsIn text before (rows_told answer) later
  pub whole : answer ≡ Ok tt → later ≡ numbers_of form
