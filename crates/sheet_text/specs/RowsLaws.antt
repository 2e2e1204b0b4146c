-- The list that the machine fills: the rows before the one that it stands in, or died in, and no other place. Assumes nothing.
use Rattle.std.specs.Prelude.{◌≡◌, refl, Bool, true, false, cond, List, [], ◌∷◌, ◌++◌, ℕ, suc, ◌+◌, ◌*◌, ◌≤◌, ltb, eqb, length, get_or, set, Ok, Err}
use Rattle.std.proofs.Common.{◌∙◌, arith, get_or-set_other}
use Rattle.std.proofs.lemmas.List.Edits.{sets}
use Rattle.std.proofs.lemmas.Bool.{not-true}
use Rattle.rows.specs.Limits.{table_rows}
use Rattle.text.specs.Fold.{run}
use Rattle.text.specs.WholesLaws.{and_left, and_right}
use Rattle.sheet_text.specs.Limits.{sheet_numbers}
use Rattle.sheet_text.specs.declared.Place.{Place}
use Rattle.sheet_text.specs.Text.{rows_of, RowsIn}
use Rattle.sheet_text.specs.Machine.{start, with_digit, after, step, row_of, ends_row, stored_place, stored, filled, fill_byte, State}
use Rattle.sheet_text.specs.MachineLaws.{length_stored, view, View, dies, digit, ends}
use Rattle.sheet_text.specs.HeldLaws.{HeldBy, held_text, same_state}

-- ---- a byte leaves the places from the row on that follows it, and never goes back a row
others_set : (l : List ℕ) (j a b c i : ℕ) → j + 3 ≤ i → get_or (sets l j (a ∷ b ∷ c ∷ [])) i 0 ≡ get_or l i 0
others_set l j a b c i h =
    get_or-set_other (set (set l j a) (suc j) b) (suc (suc j)) i c 0 (omega arith) ∙ (get_or-set_other (set l j a) (suc j) i b 0 (omega arith) ∙ get_or-set_other l j i a 0 (omega arith))

ends_last : (p : Place) (b : ℕ) → ends_row p b ≡ true → ltb p.field 3 ≡ false
unfolding ends_row
ends_last p b e = not-true _ (and_left _ _ (and_right (eqb b 10) _ (and_right (ltb p.row table_rows) _ e)))

after_row : (p : Place) → ltb p.field 3 ≡ false → (after p).row ≡ p.row + 1
unfolding after
after_row p e = simp e

after_same : (p : Place) → ltb p.field 3 ≡ true → (after p).row ≡ p.row
unfolding after
after_same p e = simp e

after_on : (p : Place) → p.row ≤ (after p).row
after_on p = go (ltb p.field 3) refl
  where
    go : (z : Bool) → ltb p.field 3 ≡ z → p.row ≤ (after p).row
    go true e = omega (arith, after_same p e)
    go false e = omega (arith, after_row p e)

stored_others : (p : Place) (b : ℕ) (l : List ℕ) (i : ℕ) → 3 * (after p).row ≤ i → get_or (stored_place p b l) i 0 ≡ get_or l i 0
unfolding stored_place
stored_others p b l i h = go (ends_row p b) refl
  where
    go : (z : Bool) → ends_row p b ≡ z → get_or (cond z (sets l (3 * p.row) (p.first ∷ p.second ∷ p.value ∷ [])) l) i 0 ≡ get_or l i 0
    go true e = let q : (after p).row ≡ p.row + 1 = after_row p (ends_last p b e) in others_set l (3 * p.row) p.first p.second p.value i (omega arith)
    go false e = refl

-- what a byte does to a row and to the places behind it
record Kept (r : ℕ) (l : List ℕ) (s : State) (m : List ℕ) : Type 0 where
  on : r ≤ row_of s
  others : (i : ℕ) → 3 * row_of s ≤ i → get_or m i 0 ≡ get_or l i 0

step_keeps : (s : State) (b : ℕ) (l : List ℕ) → Kept (row_of s) l (step s b) (stored s b l)
unfolding with_digit
step_keeps (Err r) b l = record { on = omega arith; others = λ i h. refl }
step_keeps (Ok p) b l = go (view p b l)
  where
    go : {s : State} {m : List ℕ} → View p b l s m → Kept p.row l s m
    go dies = record { on = omega arith; others = λ i h. refl }
    go (digit d e hd h k) = record { on = omega arith; others = λ i h. refl }
    go (ends h e) = record { on = after_on p; others = stored_others p b l }

run_keeps : (xs : List ℕ) (s : State) (l : List ℕ) → Kept (row_of s) l (run fill_byte (filled s l) xs).state (run fill_byte (filled s l) xs).list
run_keeps [] s l = record { on = omega arith; others = λ i h. refl }
run_keeps (b ∷ xs) s l =
    let k = step_keeps s b l in
    let r = run_keeps xs (step s b) (stored s b l) in
    record { on = omega (arith, k.on, r.on); others = λ i h. r.others i h ∙ k.others i (omega (arith, r.on)) }

run_length : (xs : List ℕ) (s : State) (l : List ℕ) → length (run fill_byte (filled s l) xs).list ≡ length l
run_length [] s l = refl
run_length (b ∷ xs) s l = run_length xs (step s b) (stored s b l) ∙ length_stored s b l

-- ---- so the list holds the rows before the one at hand, or before the bad one, over what it held at first
rest_of : (t : List ℕ) (s : State) (m : List ℕ) → HeldBy t s m → (rest : List ℕ) × (t ≡ rows_of (row_of s) m ++ rest)
rest_of t (Ok p) m o = (_, o.text)
rest_of t (Err r) m o = o

pub rows_in : (text l : List ℕ) → length l ≡ sheet_numbers → RowsIn text l (row_of (run step start text)) (run fill_byte (filled start l) text).list
rows_in text l h =
    let e = same_state text start l in
    let q = rest_of text (run step start text) (run fill_byte (filled start l) text).list (held_text text l h) in
    record {
      rest = q.0;
      read = q.1;
      others = λ i j. (run_keeps text start l).others i (rw e j);
      long = run_length text start l;
    }
