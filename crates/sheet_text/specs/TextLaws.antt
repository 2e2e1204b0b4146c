-- A sheet's text row by row, and how long it is: in a row four bytes part and end the fields, and the kelvin has three digits below 1,000 K, four from there on. Assumes
-- nothing.
use Rattle.std.specs.Prelude.{◌≡◌, refl, Bool, true, false, List, [], ◌∷◌, ◌++◌, ℕ, zero, suc, ◌+◌, ◌*◌, ◌-◌, ◌≤◌, ◌<◌, ltb, length, get_or}
use Rattle.std.proofs.Common.{◌∙◌, append_assoc, suc-mul, add-one, arith, length-append, ltb-true, ltb-false}
use Rattle.std.proofs.Math.Path.{ap}
use Rattle.rows.specs.Limits.{first_kelvin, table_rows}
use Rattle.text.specs.Decimal.{decimal, ten_to}
use Rattle.text.specs.DigitsLaws.{digits_are, digits_some, digits_most}
use Rattle.sheet_text.specs.Limits.{sheet_numbers, least_text, most_text}
use Rattle.sheet_text.specs.Text.{row_text, rows_of, sheet_text, text_length, Numbers}

-- ---- a row, field by field
pub row_fields : (k a b c : ℕ) → row_text k a b c ≡ (decimal k ++ (9 ∷ [])) ++ ((decimal a ++ (9 ∷ [])) ++ ((decimal b ++ (9 ∷ [])) ++ (decimal c ++ (10 ∷ []))))
unfolding row_text
row_fields k a b c = simp append_assoc

pub field_length : (n b : ℕ) → length (decimal n ++ (b ∷ [])) ≡ suc (length (decimal n))
field_length n b = omega (arith, length-append (decimal n) (b ∷ []))

pub row_length : (k a b c : ℕ) → length (row_text k a b c) ≡ 4 + length (decimal k) + length (decimal a) + length (decimal b) + length (decimal c)
unfolding row_text
row_length k a b c = simp length-append (omega arith)

-- ---- the rows of a list
module _ (l : List ℕ) where
  -- row r, counted from 0
  abbrev pub row_at : ℕ → List ℕ
  row_at r = row_text (first_kelvin + r) (get_or l (3 * r) 0) (get_or l (3 * r + 1) 0) (get_or l (3 * r + 2) 0)

  pub rows_next : (r : ℕ) → length (rows_of (r + 1) l) ≡ length (rows_of r l) + length (row_at r)
  rows_next r = ap (λ (n : ℕ). length (rows_of n l)) (add-one r) ∙ length-append (rows_of r l) (row_at r)

  pub rows_last : (r : ℕ) → 0 < r → rows_of r l ≡ rows_of (r - 1) l ++ row_at (r - 1)
  rows_last zero h = absurd (omega arith)
  rows_last (suc r) h = let e : suc r - 1 ≡ r = omega arith in rw e refl

  pub rows_all : (r : ℕ) → r ≡ table_rows → rows_of r l ≡ sheet_text l
  unfolding sheet_text
  rows_all r e = ap (λ (n : ℕ). rows_of n l) e

-- ---- the kelvin of a row
abbrev three_digits : ℕ
three_digits = 1000 - first_kelvin

kelvin_digits : (r : ℕ) → r < table_rows → length (decimal (first_kelvin + r)) + (r - three_digits) ≡ 3 + (suc r - three_digits)
unfolding ten_to
kelvin_digits r h = go (ltb r three_digits) refl
  where
    go : (t : Bool) → ltb r three_digits ≡ t → length (decimal (first_kelvin + r)) + (r - three_digits) ≡ 3 + (suc r - three_digits)
    go true e = let l : r < three_digits = ltb-true _ _ e in omega (arith, digits_are 2 (first_kelvin + r) (λ q. omega arith) (omega arith))
    go false e = let l : three_digits ≤ r = ltb-false _ _ e in omega (arith, digits_are 3 (first_kelvin + r) (λ q. omega arith) (omega arith))

-- ---- the first rows, where every figure has at least, or at most, so many digits
module _ (l : List ℕ) where
  abbrev digits_at : ℕ → ℕ
  digits_at i = length (decimal (get_or l i 0))

  one_row_more : (r : ℕ) → r < table_rows
      → length (rows_of (suc r) l) + (r - three_digits) ≡ length (rows_of r l) + (suc r - three_digits) + 7 + digits_at (3 * r) + digits_at (3 * r + 1) + digits_at (3 * r + 2)
  one_row_more r h =
      omega (arith, length-append (rows_of r l) (row_at l r), row_length (first_kelvin + r) (get_or l (3 * r) 0) (get_or l (3 * r + 1) 0) (get_or l (3 * r + 2) 0), kelvin_digits r h)

  module _ (d : ℕ) where
    pub rows_least : ((i : ℕ) → i < sheet_numbers → d ≤ digits_at i) → (r : ℕ) → r ≤ table_rows → r * (7 + 3 * d) + (r - three_digits) ≤ length (rows_of r l)
    rows_least h zero q = omega arith
    rows_least h (suc r) q =
        let a = h (3 * r) (omega arith) in
        let b = h (3 * r + 1) (omega arith) in
        let c = h (3 * r + 2) (omega arith) in
        omega (arith, rows_least h r (omega arith), suc-mul r (7 + 3 * d), one_row_more r (omega arith))

    pub rows_most : ((i : ℕ) → i < sheet_numbers → digits_at i ≤ d) → (r : ℕ) → r ≤ table_rows → length (rows_of r l) ≤ r * (7 + 3 * d) + (r - three_digits)
    rows_most h zero q = omega arith
    rows_most h (suc r) q =
        let a = h (3 * r) (omega arith) in
        let b = h (3 * r + 1) (omega arith) in
        let c = h (3 * r + 2) (omega arith) in
        omega (arith, rows_most h r (omega arith), suc-mul r (7 + 3 * d), one_row_more r (omega arith))

-- ---- the whole text
module _ (l : List ℕ) where
  pub text_least : least_text ≤ text_length l
  unfolding sheet_text
  text_least = rows_least l 1 (λ i q. digits_some (get_or l i 0)) table_rows (omega arith)

  pub text_most : Numbers l → text_length l ≤ most_text
  unfolding sheet_text ten_to
  text_most g = rows_most l 6 (λ i q. digits_most 5 (get_or l i 0) (omega (arith, g.small i))) table_rows (omega arith)

  -- and both are reached: by figures of one digit all, and of six
  pub text_shortest : ((i : ℕ) → i < sheet_numbers → get_or l i 0 < 10) → text_length l ≡ least_text
  unfolding sheet_text ten_to
  text_shortest h = omega (arith, text_least, rows_most l 1 (λ i q. digits_most 0 (get_or l i 0) (omega (arith, h i q))) table_rows (omega arith))

  pub text_longest : Numbers l → ((i : ℕ) → i < sheet_numbers → 100000 ≤ get_or l i 0) → text_length l ≡ most_text
  unfolding sheet_text ten_to
  text_longest g h =
      omega (arith, text_most g, rows_least l 6 (λ i q. omega (arith, digits_are 5 (get_or l i 0) (λ x. omega (arith, h i q)) (omega (arith, g.small i)))) table_rows (omega arith))
