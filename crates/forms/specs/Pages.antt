-- What `keys` prints whole (docs/PROGRAM.md): the built-in example with how to go on; and its lines on standard error.
use Rattle.std.specs.Prelude.{ℕ, ◌+◌, Bool, cond, List, [], ◌∷◌, ◌++◌, eqb, pos, Ok, Err}
use Rattle.text.specs.Bytes.{bytes_of}
use Rattle.text.specs.Decimal.{decimal}
use Rattle.refusal.specs.Refusals.{Numbered, Plain, At, numbered, Told, gives, refused, number_of}
use Rattle.sheet.specs.Answers.{SheetAnswer}
use Rattle.walk.specs.Walk.{Course, done, stopped}
use Rattle.burning.specs.Burning.{charge_in}
use Rattle.console.specs.Walks.{walk_told, printed_walk}

abbrev pub usage_text : List ℕ
usage_text =
    bytes_of "keys walk [FILE]   prints the walk of a question, from FILE or standard input\n"
    ++ bytes_of "keys ask           answers requests, one a line, from standard input\n"
    ++ bytes_of "keys sheet [FILE]  judges a sheet, from FILE or standard input\n"
    ++ bytes_of "keys write         prints the text of the sheet\n"
    ++ bytes_of "..   --sheet FILE  with another sheet than the built-in one\n"

-- document 01's walk: A 1, no fuel, from 200,000 mK, two steps of heat alone
abbrev pub example_page : SheetAnswer → List ℕ → List ℕ
example_page verdict s =
    (printed_walk (walk_told verdict s (charge_in (pos 1 ∷ pos 0 ∷ pos 0 ∷ [])) (pos 200000)
    (pos 0 ∷ pos 0 ∷ pos 0 ∷ pos 1200000001 ∷ pos 0 ∷ pos 0 ∷ pos 0 ∷ pos 2400000 ∷ [])) ++ bytes_of "\n") ++ usage_text

-- the version, and which sheet is built in
abbrev pub version_text : List ℕ
version_text = bytes_of "gas keys 2, built-in sheet: R. & M. 3099, Table 5\n"

-- ---- lines on standard error
abbrev pub misplaced_text : List ℕ
misplaced_text = bytes_of "keys: --sheet FILE stands at the end\n"

abbrev pub row_returned : ℕ → List ℕ
row_returned row = (bytes_of "row " ++ decimal row) ++ bytes_of " has a carriage return; lines end in a line feed alone\n"

abbrev pub line_returned : ℕ → List ℕ
line_returned line = (bytes_of "line " ++ decimal line) ++ bytes_of ": a carriage return; lines end in a line feed alone\n"

-- what the numbers of a line are
abbrev pub expected : ℕ → List ℕ
expected line = cond (eqb line 1) (bytes_of "A, c, h, mK\n") (bytes_of "c, h, calorific value, q\n")

abbrev pub line_bad : ℕ → List ℕ
line_bad line = ((bytes_of "line " ++ decimal line) ++ bytes_of ": expected four whole numbers parted by tabs: ") ++ expected line

-- ---- whose refusal a printed walk ends in, or why no text is printed
abbrev pub sheet_note : Numbered → List ℕ
sheet_note (Plain number) = (bytes_of "the sheet is refused with " ++ decimal number) ++ bytes_of "\n"
sheet_note (At number row) = ((bytes_of "the sheet is refused with " ++ decimal number) ++ bytes_of " at row ") ++ (decimal row ++ bytes_of "\n")

-- the step after those that were done, or the start; nothing where the walk was refused nowhere
abbrev pub walk_note : Told Course → List ℕ
walk_note (gives (done n ch mk)) = []
walk_note (gives (stopped n number ch mk)) = ((bytes_of "step " ++ decimal (n + 1)) ++ bytes_of " is refused with ") ++ (decimal number ++ bytes_of "\n")
walk_note (refused r) = (bytes_of "the start is refused with " ++ decimal (number_of r)) ++ bytes_of "\n"

-- what the sheet was refused with, nothing where it is good
abbrev pub verdict_note : SheetAnswer → List ℕ
verdict_note (Ok u) = []
verdict_note (Err r) = sheet_note (numbered r)

-- over a sheet that was refused no walk begins
abbrev pub refusal_note : SheetAnswer → Told Course → List ℕ
refusal_note (Ok u) told = walk_note told
refusal_note (Err r) told = sheet_note (numbered r)

-- ---- why the form of a sheet's text is refused: a line of it may end in a carriage return
-- said of the row for which it is refused, where the byte that decided so is one
abbrev pub row_note : Numbered → Bool → List ℕ
row_note (Plain number) returned = []
row_note (At number row) returned = cond returned (row_returned row) []

abbrev pub return_note : SheetAnswer → Bool → List ℕ
return_note (Ok u) returned = []
return_note (Err r) returned = row_note (numbered r) returned
