-- The machine's tests: what a test that passed says of its numbers, and what a byte does at a place. Assumes nothing.
use Rattle.std.specs.Prelude.{◌≡◌, refl, Bool, true, false, not, ◌&&◌, ◌||◌, cond, ◌⊎◌, List, [], ◌∷◌, ℕ, ◌+◌, ◌*◌, ◌-◌, ◌/◌, ◌≤◌, ◌<◌, ltb, eqb, length, Ok, Err}
use Rattle.std.proofs.Math.Bool.{or-true}
use Rattle.std.proofs.Common.{inl, inr, ⊎_elim, arith}
use Rattle.std.proofs.lemmas.List.Edits.{sets}
use Rattle.std.proofs.Math.Seq.{length-sets}
use borrow.Author.Tests.{eqb-true, ltb-true, ltb-false, lt-ltb, eq-eqb, ne_eqb, not-true}
use Rattle.rows.specs.Limits.{first_kelvin, table_rows}
use Rattle.text.specs.Wholes.{is_digit, may_follow}
use Rattle.text.specs.WholesLaws.{digit_range, follow_most, and_left, and_right}
use Rattle.sheet_text.specs.Limits.{most_figure}
use Rattle.sheet_text.specs.declared.Place.{Place}
use Rattle.sheet_text.specs.Machine.{begins, takes_digit, with_digit, whole, closer, after, step_digit, ends_field, step_end, step_place, ends_row, stored_place, stored, State}

-- a place, and the start of a row
abbrev pub place : ℕ → ℕ → ℕ → Bool → ℕ → ℕ → Place
place r f v s a b = record { row = r; field = f; value = v; seen = s; first = a; second = b }

abbrev pub row_start : ℕ → State
row_start r = Ok (place r 0 0 false 0 0)

-- ---- the kelvin: a number whose digits begin those of k is k without its last 0, 1, 2 or 3 digits
or_cases : (a b : Bool) → (a || b) ≡ true → (a ≡ true) ⊎ (b ≡ true)
or_cases true b e = inl refl
or_cases false b e = inr e

pub begins_some : (k v : ℕ) → begins k v ≡ true → 0 < v
unfolding begins
begins_some k v e = ltb-true 0 v (and_left _ _ e)

pub begins_cases : {A : Type 0} (k v : ℕ) → begins k v ≡ true → (v ≡ k → A) → (v ≡ k / 10 → A) → (v ≡ k / 100 → A) → (v ≡ k / 1000 → A) → A
unfolding begins
begins_cases k v e f0 f1 f2 f3 =
    ⊎_elim (λ q. f0 (eqb-true v k q))
    (λ q. ⊎_elim (λ q. f1 (eqb-true v (k / 10) q))
    (λ q. ⊎_elim (λ q. f2 (eqb-true v (k / 100) q)) (λ q. f3 (eqb-true v (k / 1000) q)) (or_cases (eqb v (k / 100)) _ q))
    (or_cases (eqb v (k / 10)) _ q))
    (or_cases (eqb v k) _ (and_right (ltb 0 v) _ e))

module _ (k v : ℕ) (h : 0 < v) where
  pub begins_0 : v ≡ k → begins k v ≡ true
  unfolding begins
  begins_0 e = simp (lt-ltb 0 v h, eq-eqb v k e)

  pub begins_1 : v ≡ k / 10 → begins k v ≡ true
  unfolding begins
  begins_1 e = simp (lt-ltb 0 v h, eq-eqb v (k / 10) e, or-true)

  pub begins_2 : v ≡ k / 100 → begins k v ≡ true
  unfolding begins
  begins_2 e = simp (lt-ltb 0 v h, eq-eqb v (k / 100) e, or-true)

  pub begins_3 : v ≡ k / 1000 → begins k v ≡ true
  unfolding begins
  begins_3 e = simp (lt-ltb 0 v h, eq-eqb v (k / 1000) e, or-true)

begins_le : (k v : ℕ) → begins k v ≡ true → v ≤ k
begins_le k v e = begins_cases k v e (λ q. omega arith) (λ q. omega arith) (λ q. omega arith) (λ q. omega arith)

-- ---- the bounds that keep the machine's numbers and places
pub takes_bound : (p : Place) (d : ℕ) → p.row < table_rows → takes_digit p d ≡ true → 10 * p.value + d ≤ most_figure
unfolding takes_digit
takes_bound p d h e = go (eqb p.field 0) e
  where
    go : (z : Bool) → cond z (begins (first_kelvin + p.row) (10 * p.value + d)) (may_follow most_figure p.seen p.value d) ≡ true → 10 * p.value + d ≤ most_figure
    go true e = omega (arith, begins_le (first_kelvin + p.row) (10 * p.value + d) e)
    go false e = follow_most most_figure p.seen p.value d e

pub row_bound : (p : Place) (b : ℕ) → ends_row p b ≡ true → p.row < table_rows
unfolding ends_row
row_bound p b e = ltb-true p.row table_rows (and_left _ _ e)

pub length_stored : (s : State) (b : ℕ) (l : List ℕ) → length (stored s b l) ≡ length l
unfolding stored_place
length_stored (Ok p) b l = go (ends_row p b)
  where
    go : (z : Bool) → length (cond z (sets l (3 * p.row) (p.first ∷ p.second ∷ p.value ∷ [])) l) ≡ length l
    go true = length-sets l (3 * p.row) (p.first ∷ p.second ∷ p.value ∷ [])
    go false = refl
length_stored (Err r) b l = refl

-- ---- what a byte does at a place: it is refused, or it is a digit that may follow, or it ends the field
pub data View (p : Place) (b : ℕ) (l : List ℕ) : State → List ℕ → Type 0 where
  dies : View p b l (Err p.row) l
  digit : (d : ℕ) → b ≡ 48 + d → d < 10 → p.row < table_rows → takes_digit p d ≡ true → View p b l (Ok (with_digit p d)) l
  ends : p.row < table_rows → ends_field p b ≡ true → View p b l (Ok (after p)) (stored_place p b l)

pub stored_same : (p : Place) (b : ℕ) (l : List ℕ) → p.row < table_rows → (b ≡ 10 → ⊥) → stored_place p b l ≡ l
unfolding stored_place ends_row
stored_same p b l h n = simp (lt-ltb p.row table_rows h, ne_eqb b 10 n)

-- a byte that ends a row ends its last field
row_ends_field : (p : Place) (b : ℕ) → ends_row p b ≡ true → ends_field p b ≡ true
unfolding ends_row ends_field closer whole
row_ends_field p b e =
    let e1 : (eqb b 10 && (not (ltb p.field 3) && p.seen)) ≡ true = and_right (ltb p.row table_rows) _ e in
    let e2 : (not (ltb p.field 3) && p.seen) ≡ true = and_right (eqb b 10) _ e1 in
    let f : ltb p.field 3 ≡ false = not-true _ (and_left _ _ e2) in
    let g : 3 ≤ p.field = ltb-false _ _ f in
    let n : eqb p.field 0 ≡ false = ne_eqb p.field 0 (omega arith) in
    let t : eqb b 10 ≡ true = and_left _ _ e1 in
    let s : p.seen ≡ true = and_right (not (ltb p.field 3)) _ e2 in
    simp (f, n, t, s)

stored_dead : (p : Place) (b : ℕ) (l : List ℕ) → ends_field p b ≡ false → stored_place p b l ≡ l
unfolding stored_place
stored_dead p b l e = go (ends_row p b) refl
  where
    go : (z : Bool) → ends_row p b ≡ z → cond z (sets l (3 * p.row) (p.first ∷ p.second ∷ p.value ∷ [])) l ≡ l
    go true k = let q : ends_field p b ≡ true = row_ends_field p b k in absurd cc
    go false k = refl

stored_late : (p : Place) (b : ℕ) (l : List ℕ) → ltb p.row table_rows ≡ false → stored_place p b l ≡ l
unfolding stored_place ends_row
stored_late p b l e = simp e

pub view : (p : Place) (b : ℕ) (l : List ℕ) → View p b l (step_place p b) (stored_place p b l)
unfolding step_place step_digit step_end
view p b l = go (ltb p.row table_rows) (is_digit b) (takes_digit p (b - 48)) (ends_field p b) refl refl refl refl
  where
    go : (x y z w : Bool) → ltb p.row table_rows ≡ x → is_digit b ≡ y → takes_digit p (b - 48) ≡ z → ends_field p b ≡ w
        → View p b l (cond x (cond y (cond z (Ok (with_digit p (b - 48))) (Err p.row)) (cond w (Ok (after p)) (Err p.row))) (Err p.row)) (stored_place p b l)
    go false y z w ex ey ez ew = rw (stored_late p b l ex) dies
    go true true true w ex ey ez ew =
        let h : p.row < table_rows = ltb-true _ _ ex in
        let r : (48 ≤ b) × (b ≤ 57) = digit_range b ey in
        rw (stored_same p b l h (omega arith)) (digit (b - 48) (omega arith) (omega arith) h ez)
    go true true false w ex ey ez ew =
        let h : p.row < table_rows = ltb-true _ _ ex in
        let r : (48 ≤ b) × (b ≤ 57) = digit_range b ey in
        rw (stored_same p b l h (omega arith)) dies
    go true false z true ex ey ez ew = ends (ltb-true _ _ ex) ew
    go true false z false ex ey ez ew = rw (stored_dead p b l ew) dies

-- a byte that is no digit, no tab and no line feed is refused wherever it stands
pub other_dies : (p : Place) (b : ℕ) → is_digit b ≡ false → (b ≡ 9 → ⊥) → (b ≡ 10 → ⊥) → step_place p b ≡ Err p.row
unfolding step_place step_end ends_field closer
other_dies p b d n m = go (ltb p.row table_rows) (ltb p.field 3)
  where
    go : (x y : Bool) → cond x (cond (is_digit b) (step_digit p (b - 48)) (cond (eqb b (cond y 9 10) && whole p) (Ok (after p)) (Err p.row))) (Err p.row) ≡ Err p.row
    go false y = refl
    go true true = rw (d, ne_eqb b 9 n) refl
    go true false = rw (d, ne_eqb b 10 m) refl
