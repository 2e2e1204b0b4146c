-- A good sheet's text is read whole, to its own numbers. Assumes nothing.
use Rattle.std.specs.Prelude.{◌≡◌, refl, Bool, true, false, List, [], ◌∷◌, ◌++◌, ℕ, zero, suc, ◌+◌, ◌*◌, ◌-◌, ◌/◌, ◌%◌, ◌≤◌, ◌<◌, length, get_or, take, drop, set, Ok}
use Rattle.std.proofs.Common.{sym, ◌∙◌, ap, append-nil, add-one, arith, drop_of_length-le, drop-cons, take-suc, length-take-le, take_all}
use Rattle.std.proofs.Math.Numerals.{add-two}
use Rattle.std.proofs.lemmas.List.Edits.{sets}
use Rattle.std.proofs.lemmas.List.{set_at}
use Rattle.std.proofs.Math.Seq.{append_snoc}
use borrow.Author.Tests.{lt-ltb, eq-eqb, ne_eqb}
use Rattle.rows.specs.Limits.{first_kelvin, table_rows}
use Rattle.text.specs.Fold.{run}
use Rattle.text.specs.FoldLaws.{Runs, and_then}
use Rattle.text.specs.Decimal.{decimal}
use Rattle.text.specs.DecimalLaws.{digits_run}
use Rattle.text.specs.Wholes.{is_digit}
use Rattle.text.specs.WholesLaws.{first_follows, next_follows, is_digit_lem}
use Rattle.sheet_text.specs.Limits.{most_figure, sheet_numbers}
use Rattle.sheet_text.specs.declared.Place.{Place}
use Rattle.sheet_text.specs.Text.{row_text, rows_of, sheet_text, Numbers}
use Rattle.sheet_text.specs.Machine.{begins, start, takes_digit, with_digit, whole, closer, after, step_digit, ends_field, step_end, step_place, ends_row, stored_place, filled, fill_byte}
use Rattle.sheet_text.specs.MachineLaws.{place, row_start, begins_cases, begins_0, begins_1, begins_2, begins_3}

-- the place with another number in its field
abbrev at : Place → ℕ → Bool → Place
at p v s = place p.row p.field v s p.first p.second

-- a digit that may follow
pub digit_step : (p : Place) (d : ℕ) (l : List ℕ) → p.row < table_rows → d < 10 → takes_digit p d ≡ true → fill_byte (filled (Ok p) l) (48 + d) ≡ filled (Ok (with_digit p d)) l
unfolding step_place step_digit stored_place ends_row
digit_step p d l h hd t =
    let e : 48 + d - 48 ≡ d = omega arith in
    simp (lt-ltb p.row table_rows h, is_digit_lem d hd, e, t, ne_eqb (48 + d) 10 (omega arith))

-- the same, to the number that the digit makes
digit_to : (p : Place) (d : ℕ) (l : List ℕ) (n : ℕ) → p.row < table_rows → d < 10 → takes_digit p d ≡ true → 10 * p.value + d ≡ n
    → fill_byte (filled (Ok p) l) (48 + d) ≡ filled (Ok (at p n true)) l
unfolding with_digit
digit_to p d l n h hd t e = digit_step p d l h hd t ∙ ap (λ (v : ℕ). filled (Ok (at p v true)) l) e

-- a number field
pub number_run : (r f a b n : ℕ) (l : List ℕ) → r < table_rows → (f ≡ 0 → ⊥) → n ≤ most_figure
    → Runs fill_byte (filled (Ok (place r f 0 false a b)) l) (decimal n) (filled (Ok (place r f n true a b)) l)
unfolding takes_digit
number_run r f a b n l h hf hn =
    digits_run fill_byte (λ v s. filled (Ok (place r f v s a b)) l) (λ n. n ≤ most_figure)
    (λ d hd q. digit_to (place r f 0 false a b) d l d h hd (simp (ne_eqb f 0 hf) (first_follows most_figure d q)) (omega arith))
    (λ n hn q. digit_to (place r f (n / 10) true a b) (n % 10) l n h (omega arith) (simp (ne_eqb f 0 hf) (next_follows most_figure n hn q)) (omega arith))
    (λ n hn q. omega arith) n hn

-- the kelvin
begins_down : (k v : ℕ) → k < 10000 → 10 ≤ v → begins k v ≡ true → begins k (v / 10) ≡ true
begins_down k v hk h e =
    begins_cases k v e
    (λ q. begins_1 k (v / 10) (omega arith) (omega arith))
    (λ q. begins_2 k (v / 10) (omega arith) (omega arith))
    (λ q. begins_3 k (v / 10) (omega arith) (omega arith))
    (λ q. absurd (omega arith))

pub kelvin_run : (r a b : ℕ) (l : List ℕ) → r < table_rows
    → Runs fill_byte (filled (Ok (place r 0 0 false a b)) l) (decimal (first_kelvin + r)) (filled (Ok (place r 0 (first_kelvin + r) true a b)) l)
unfolding takes_digit
kelvin_run r a b l h =
    digits_run fill_byte (λ v s. filled (Ok (place r 0 v s a b)) l) (λ n. begins (first_kelvin + r) n ≡ true)
    (λ d hd q. let e : 10 * 0 + d ≡ d = omega arith in digit_to (place r 0 0 false a b) d l d h hd (rw e q) e)
    (λ n hn q. let e : 10 * (n / 10) + n % 10 ≡ n = omega arith in digit_to (place r 0 (n / 10) true a b) (n % 10) l n h (omega arith) (rw e q) e)
    (λ n hn q. begins_down (first_kelvin + r) n (omega arith) hn q) (first_kelvin + r) (begins_0 (first_kelvin + r) (first_kelvin + r) (omega arith) refl)

-- a row: its tabs and its line feed, then all of it
module _ (r : ℕ) (l : List ℕ) (h : r < table_rows) where
  pub tab_0 : (a b : ℕ) → Runs fill_byte (filled (Ok (place r 0 (first_kelvin + r) true a b)) l) (9 ∷ []) (filled (Ok (place r 1 0 false a b)) l)
  unfolding step_place step_end ends_field closer whole after stored_place ends_row is_digit
  tab_0 a b = record { to = simp (lt-ltb r table_rows h, eq-eqb (first_kelvin + r) (first_kelvin + r) refl) }

  pub tab_1 : (v a b : ℕ) → Runs fill_byte (filled (Ok (place r 1 v true a b)) l) (9 ∷ []) (filled (Ok (place r 2 0 false v b)) l)
  unfolding step_place step_end ends_field closer whole after stored_place ends_row is_digit
  tab_1 v a b = record { to = simp (lt-ltb r table_rows h) }

  pub tab_2 : (v a b : ℕ) → Runs fill_byte (filled (Ok (place r 2 v true a b)) l) (9 ∷ []) (filled (Ok (place r 3 0 false a v)) l)
  unfolding step_place step_end ends_field closer whole after stored_place ends_row is_digit
  tab_2 v a b = record { to = simp (lt-ltb r table_rows h) }

  pub feed_3 : (a b c : ℕ) → Runs fill_byte (filled (Ok (place r 3 c true a b)) l) (10 ∷ []) (filled (row_start (r + 1)) (sets l (3 * r) (a ∷ b ∷ c ∷ [])))
  unfolding step_place step_end ends_field closer whole after stored_place ends_row is_digit
  feed_3 a b c = record { to = simp (lt-ltb r table_rows h) }

  row_run : (a b c : ℕ) → a ≤ most_figure → b ≤ most_figure → c ≤ most_figure
      → Runs fill_byte (filled (row_start r) l) (row_text (first_kelvin + r) a b c) (filled (row_start (r + 1)) (sets l (3 * r) (a ∷ b ∷ c ∷ [])))
  unfolding row_text
  row_run a b c ha hb hc =
      and_then (and_then (and_then (and_then (and_then (and_then (and_then (kelvin_run r 0 0 l h) (tab_0 0 0))
      (number_run r 1 0 0 a l h (omega arith) ha)) (tab_1 a 0 0))
      (number_run r 2 a 0 b l h (omega arith) hb)) (tab_2 b a 0))
      (number_run r 3 a b c l h (omega arith) hc)) (feed_3 a b c)

-- the first j places from s, the rest from l
abbrev cover : List ℕ → List ℕ → ℕ → List ℕ
cover s l j = take j s ++ drop j l

cover_more : (s l : List ℕ) (j : ℕ) → j < length l → j < length s → set (cover s l j) j (get_or s j 0) ≡ cover s l (suc j)
cover_more s l j hl hs =
    ap (λ (x : List ℕ). set (take j s ++ x) j (get_or s j 0)) (drop-cons l j 0 hl)
    ∙ (set_at (take j s) (get_or l j 0) (drop (suc j) l) (get_or s j 0) j (length-take-le j s (omega arith))
    ∙ (sym (append_snoc (take j s) (get_or s j 0) (drop (suc j) l))
    ∙ ap (λ (x : List ℕ). x ++ drop (suc j) l) (sym (take-suc s j 0 hs))))

cover_three : (s l : List ℕ) (j : ℕ) → suc (suc j) < length l → suc (suc j) < length s
    → sets (cover s l j) j (get_or s j 0 ∷ get_or s (j + 1) 0 ∷ get_or s (j + 2) 0 ∷ []) ≡ cover s l (suc (suc (suc j)))
cover_three s l j hl hs =
    simp (add-one, add-two, cover_more s l j (omega arith) (omega arith), cover_more s l (suc j) (omega arith) (omega arith), cover_more s l (suc (suc j)) hl hs)

-- the first rows, then all
module _ (s l : List ℕ) (hs : length s ≡ sheet_numbers) (hl : length l ≡ sheet_numbers) (small : (i : ℕ) → get_or s i 0 ≤ most_figure) where
  pub rows_run : (r : ℕ) → r ≤ table_rows → Runs fill_byte (filled start l) (rows_of r s) (filled (row_start r) (cover s l (3 * r)))
  rows_run zero h = record { to = refl }
  rows_run (suc r) h =
      let e : 3 * suc r ≡ suc (suc (suc (3 * r))) = omega arith in
      let t : sets (cover s l (3 * r)) (3 * r) (get_or s (3 * r) 0 ∷ get_or s (3 * r + 1) 0 ∷ get_or s (3 * r + 2) 0 ∷ []) ≡ cover s l (suc (suc (suc (3 * r)))) =
      cover_three s l (3 * r) (omega arith) (omega arith) in
      and_then (rows_run r (omega arith))
      (rw (e, sym t, sym (add-one r))
      (row_run r (cover s l (3 * r)) (omega arith) (get_or s (3 * r) 0) (get_or s (3 * r + 1) 0) (get_or s (3 * r + 2) 0) (small (3 * r)) (small (3 * r + 1)) (small (3 * r + 2))))

pub complete : (s l : List ℕ) → Numbers s → length l ≡ sheet_numbers → run fill_byte (filled start l) (sheet_text s) ≡ filled (row_start table_rows) s
unfolding sheet_text
complete s l g hl =
    let hs : length s ≡ sheet_numbers = g.full in
    (rows_run s l hs hl g.small table_rows (omega arith)).to
    ∙ ap (filled (row_start table_rows))
    (ap (λ (x : List ℕ). x ++ drop sheet_numbers l) (take_all sheet_numbers s (omega arith)) ∙ (ap (λ (x : List ℕ). s ++ x) (drop_of_length-le l {i = sheet_numbers} (omega arith)) ∙ append-nil s))
