-- The form of a sheet's text (document 01, "The gas sheet"): 1,801 lines, each ending in one line feed, nothing after. Fields parted by one tab: kelvin, O2,
-- CO2, H2O; kelvins run 200 to 2,000 in order. Numbers are decimal digits, no sign, no leading zero except 0 itself, 0 to 200,000. The list of a sheet holds
-- the last three fields row by row: row r, at kelvin 200 + r, has the places 3r, 3r + 1 and 3r + 2.
use Rattle.std.specs.Prelude.{ℕ, zero, suc, ◌+◌, ◌*◌, ◌≤◌, cond, ◌≡◌, List, [], ◌∷◌, ◌++◌, length, get_or, eqb}
use Rattle.rows.specs.Limits.{first_kelvin, table_rows}
use Rattle.text.specs.Decimal.{decimal}
use Rattle.sheet_text.specs.Limits.{most_figure, sheet_numbers}

-- a line: four fields, a tab after each of the first three and a line feed after the last
unfoldable pub row_text : ℕ → ℕ → ℕ → ℕ → List ℕ
row_text k a b c = decimal k ++ (9 ∷ []) ++ decimal a ++ (9 ∷ []) ++ decimal b ++ (9 ∷ []) ++ decimal c ++ (10 ∷ [])

-- the first lines, from kelvin 200
abbrev pub rows_of : ℕ → List ℕ → List ℕ
rows_of zero l = []
rows_of (suc r) l = rows_of r l ++ row_text (first_kelvin + r) (get_or l (3 * r) 0) (get_or l (3 * r + 1) 0) (get_or l (3 * r + 2) 0)

-- the text of a sheet's numbers
unfoldable pub sheet_text : List ℕ → List ℕ
sheet_text l = rows_of table_rows l

-- its bytes: from 19,011 to 46,026 (TextLaws.antt)
abbrev pub text_length : List ℕ → ℕ
text_length l = length (sheet_text l)

-- 5,403 numbers of 0 to 200,000
pub record Numbers (l : List ℕ) : Type 0 where
  pub full : length l ≡ sheet_numbers
  pub small : (i : ℕ) → get_or l i 0 ≤ most_figure

-- the text is the good sheet of these numbers
pub record IsSheet (text numbers : List ℕ) : Type 0 where
  pub good : Numbers numbers
  pub is : text ≡ sheet_text numbers

-- a good sheet can follow
pub record Begins (text : List ℕ) : Type 0 where
  pub rest : List ℕ
  pub numbers : List ℕ
  pub sheet : IsSheet (text ++ rest) numbers

-- a list into which the first rows of a text are read: it holds their numbers, and every later place is as it was
pub record RowsIn (text before : List ℕ) (rows : ℕ) (later : List ℕ) : Type 0 where
  pub rest : List ℕ
  pub read : text ≡ rows_of rows later ++ rest
  pub others : (i : ℕ) → 3 * rows ≤ i → get_or later i 0 ≡ get_or before i 0
  pub long : length later ≡ length before

-- the row of the byte after a text: the number of line feeds before it
abbrev pub feeds : List ℕ → ℕ
feeds [] = 0
feeds (b ∷ bs) = cond (eqb b 10) (suc (feeds bs)) (feeds bs)

-- the first bad row: the one that holds the first byte after which no good sheet can follow or, if there is no such byte, the row at which the text ends too soon
pub data FirstBad (text : List ℕ) (row : ℕ) : Type 0 where
  byte : (p : List ℕ) (b : ℕ) (rest : List ℕ) → text ≡ p ++ (b ∷ rest) → Begins p → (Begins (p ++ (b ∷ [])) → ⊥) → feeds p ≡ row → FirstBad text row
  short : Begins text → ((numbers : List ℕ) → IsSheet text numbers → ⊥) → feeds text ≡ row → FirstBad text row
