-- What the writer of a sheet tells (document 02, request 1): from a list that passes, exactly the text that the reader accepts, into a lent buffer, with the byte count,
-- later bytes unchanged. Refusals 1 and 3 as of every call that takes a sheet list, then 14 if the buffer is shorter than the text; the buffer is unchanged by each.
use Rattle.std.specs.Prelude.{◌≡◌, List, [], ◌∷◌, ◌++◌, ℕ, ltb, length, drop, Result}
use Rattle.refusal.specs.declared.Refusal.{Refusal}
use Rattle.refusal.specs.Refusals.{Told, gives, refused, told_of, Line, ◌when◌, first}
use Rattle.sheet_text.specs.Text.{sheet_text, text_length}
use Rattle.sheet.specs.Answers.{sheet_lines}

-- the byte count, or the refusal
abbrev pub WriteAnswer : Type 0
WriteAnswer = Result ℕ Refusal

-- an answer as the paper has it
abbrev pub paper_write : WriteAnswer → Told ℕ
paper_write = told_of

-- refusals 1, 3 and 14, in the paper's order
abbrev pub write_lines : List ℕ → List ℕ → List Line
write_lines s buffer = sheet_lines s ++ (14 when ltb (length buffer) (text_length s) ∷ [])

abbrev pub write_told : List ℕ → List ℕ → Told ℕ
write_told s buffer = first (write_lines s buffer) (text_length s)

-- a buffer on return from a call that writes a text into it: the text and then the later bytes; unchanged by a refusal
abbrev pub buffer_after : Told ℕ → List ℕ → List ℕ → List ℕ
buffer_after (gives n) text before = text ++ drop n before
buffer_after (refused r) text before = before

-- the whole of a writing
pub record SheetWritten (s before : List ℕ) (answer : WriteAnswer) (later : List ℕ) : Type 0 where
  pub told : paper_write answer ≡ write_told s before
  pub buffer : later ≡ buffer_after (write_told s before) (sheet_text s) before
