-- What `keys sheet` prints (docs/PROGRAM.md): `accepted`, or the refusal of the text, and a line feed; and what `keys write` prints: the text of the sheet in
-- use and nothing else, or the refusal of that sheet and nothing of a text.
use Rattle.std.specs.Prelude.{ℕ, Bool, true, false, ◌&&◌, ◌≡◌, ltb, length, take, List, ◌++◌, Ok, Err}
use Rattle.refusal.specs.Refusals.{numbered}
use Rattle.text.specs.Bytes.{bytes_of}
use Rattle.text.specs.Puts.{Stands}
use Rattle.wording.specs.Texts.{refusal_text}
use Rattle.sheet_text.specs.Text.{sheet_text}
use Rattle.sheet.specs.Answers.{SheetAnswer}
use Rattle.sheet.specs.declared.pieces.SheetReading.{SheetReading}
use Rattle.sheet.specs.declared.pieces.SheetReading.TheVariants.{Going, Refused as ReadingRefused, Accepted as ReadingAccepted}
use Rattle.sheet.specs.Pieces.{standing, after_piece, closed}
use Rattle.fields.specs.Fields.{span_to}
use Rattle.console.specs.Answers.{JudgedAfter}
use Rattle.forms.specs.declared.sheets.Intake.{Intake}
use Rattle.forms.specs.declared.sheets.Judgement.{Judgement}

abbrev pub verdict_words : SheetAnswer → List ℕ
verdict_words (Ok u) = bytes_of "accepted"
verdict_words (Err r) = refusal_text (numbered r)

abbrev pub verdict_line : SheetAnswer → List ℕ
verdict_line verdict = verdict_words verdict ++ bytes_of "\n"

-- the sheet written
abbrev pub written_page : SheetAnswer → List ℕ → List ℕ
written_page (Ok u) s = sheet_text s
written_page (Err r) s = verdict_line (Err r)

-- ---- a sheet that comes in pieces
-- the reading expects more
abbrev pub goes_on : SheetReading → Bool
goes_on (Going p) = true
goes_on (ReadingRefused r) = false
goes_on ReadingAccepted = false

-- the bytes of a piece before its first carriage return, all where it has none
abbrev pub before_return : List ℕ → List ℕ
before_return piece = take (span_to 13 piece) piece

-- a carriage return decides that the sheet is refused: the piece has one, and up to the first the reading goes on
abbrev pub returned : SheetReading → List ℕ → List ℕ → Bool
returned s piece l = goes_on (after_piece s (before_return piece) l).reading && ltb (span_to 13 piece) (length piece)

-- what a piece leaves: the reading and the list after it, and whether a carriage return decided
pub record Takes (s : SheetReading) (piece before : List ℕ) (r : Intake) (later : List ℕ) : Type 0 where
  pub stands : standing r.reading later ≡ after_piece s piece before
  pub decided : r.returned ≡ returned s piece before

-- the report on a sheet of which no more comes: the verdict after the close, and the line that says it, whole
pub record Reported (s : SheetReading) (list out : List ℕ) (r : Judgement) (later : List ℕ) : Type 0 where
  pub judged : JudgedAfter (closed s).answer r.verdict list
  pub line : Stands (verdict_line r.verdict) out 0 r.end later
