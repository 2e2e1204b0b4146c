-- Walks as the console shows them. The answer to the request `walk A c h mK n1 n2 ..` (docs/PROGRAM.md) is one line: `ok`, the number of steps, A, c, h, mK, or `stopped`,
-- the number of steps done, the refusal's number, A, c, h, mK; then mK, rest, number of looks and the looks of each step done. The printed walk (document 01, "Examples to hold
-- against it") is a header, a line for each step done and, where the walk was refused, `refused` and the number.
use Rattle.std.specs.Prelude.{ℕ, suc, Bool, false, cond, List, [], ◌∷◌, ◌++◌, leb, ℤ, pos, length, drop, get_or, Option, Some, None, Ok, Err}
use Rattle.text.specs.Bytes.{bytes_of}
use Rattle.text.specs.Decimal.{decimal, decimal_z}
use Rattle.walk.specs.Limits.{most_steps, most_looks}
use Rattle.fields.specs.Fields.{values_of, count_all}
use Rattle.refusal.specs.Refusals.{Told, gives, refused, numbered, number_of}
use Rattle.sheet.specs.Answers.{SheetAnswer, sheet_lines}
use Rattle.burning.specs.declared.Charge.{Charge}
use Rattle.burning.specs.Burning.{document01, charge_numbers, charge_in}
use Rattle.walk.specs.Step.{Out}
use Rattle.walk.specs.Walk.{Trace, Course, done, stopped, walked, course, outs_of}
use Rattle.console.specs.Limits.{start_numbers}
use Rattle.console.specs.declared.walks.Layout.{Layout}
use Rattle.console.specs.declared.walks.Layout.TheVariants.{Line, Page}
use Rattle.wording.specs.Texts.{refused_text, told_text, counted_text, course_text}
use Rattle.console.specs.Requests.{misfit_text}

-- a walk with lists for the longest, over a sheet list and the verdict that it was given when it was read
abbrev pub walk_told : SheetAnswer → List ℕ → Charge → ℤ → List ℤ → Told Trace
walk_told (Ok good) s ch mk numbers = walked (sheet_lines s) document01 s ch mk numbers most_steps most_steps most_looks
walk_told (Err r) s ch mk numbers = refused (numbered r)

-- a step in a line: mK, rest, number of looks, the looks
abbrev pub in_line : ℤ → ℤ → List ℕ → List ℕ
in_line mk rest ks = ((9 ∷ decimal_z mk) ++ (9 ∷ decimal_z rest)) ++ counted_text ks

-- a step on a page: its number, mK, rest, number of looks, and a line feed
abbrev pub on_page : ℕ → ℤ → ℤ → List ℕ → List ℕ
on_page i mk rest ks = (((decimal i ++ (9 ∷ decimal_z mk)) ++ (9 ∷ decimal_z rest)) ++ (9 ∷ decimal (length ks))) ++ (10 ∷ [])

abbrev pub step_text : Layout → ℕ → ℤ → ℤ → List ℕ → List ℕ
step_text Line i mk rest ks = in_line mk rest ks
step_text Page i mk rest ks = on_page i mk rest ks

-- the steps done, numbered from i on
abbrev pub steps_text : Layout → ℕ → List Out → List ℕ
steps_text layout i [] = []
steps_text layout i (o ∷ os) = step_text layout i (pos o.state.mk) o.rests o.seen ++ steps_text layout (suc i) os

-- the answer of a walk
unfoldable pub walk_text : Told Trace → List ℕ
walk_text told = told_text course_text (course told) ++ steps_text Line 1 (outs_of told)

-- walk A c h mK n1 n2 ..: the first numbers are the start, a charge and mK, those after them the steps
abbrev pub has_start : Option ℕ → Bool
has_start (Some n) = leb start_numbers n
has_start None = false

abbrev pub walk_of : SheetAnswer → List ℕ → List ℤ → List ℕ
walk_of verdict s zs = walk_text (walk_told verdict s (charge_in zs) (get_or zs charge_numbers (pos 0)) (drop start_numbers zs))

abbrev pub walk_request : SheetAnswer → List ℕ → List (List ℕ) → List ℕ
walk_request verdict s fs = cond (has_start (count_all 0 fs)) (walk_of verdict s (values_of fs)) misfit_text

-- ---- the printed walk
-- the line above the steps
abbrev pub header_text : List ℕ
header_text = bytes_of "step\tmK\trest\tlooks\n"

-- refused, a tab, the number and a line feed
abbrev pub refused_line : ℕ → List ℕ
refused_line number = (refused_text ++ (9 ∷ decimal number)) ++ (10 ∷ [])

-- what stands after the lines done
abbrev pub end_text : Told Course → List ℕ
end_text (gives (done n ch mk)) = []
end_text (gives (stopped n number ch mk)) = refused_line number
end_text (refused r) = refused_line (number_of r)

unfoldable pub printed_walk : Told Trace → List ℕ
printed_walk told = (header_text ++ steps_text Page 1 (outs_of told)) ++ end_text (course told)
