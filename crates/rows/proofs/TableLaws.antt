-- The rules of Table 1 (document 01, "The air table"), each one test over the whole table, carried to each kelvin: H − H15 is 68.87 in every row, and H
-- and psi are larger in each row than in the row before. Assumes nothing.
use Rattle.std.proofs.Common.{lt-ltb, le-ltb, sym, ap, ◌∙◌, subst₂, ⊎_elim, inl, inr, eq-or-lt_of_le, le_refl, le_of_lt, lt_trans, arith, eqb→eq}
use Rattle.std.specs.Prelude.{◌≡◌, refl, Bool, false, List, ◌⊎◌, ℕ, suc, ◌-◌, ◌<◌, ◌≤◌, T, eqb, ℤ, pos, negsuc, ◌-ℤ◌, length, get_or}
use Rattle.std.proofs.Math.Decide.{dec_lt}
use Rattle.std.proofs.Math.ListN.{get_or-eq_default}
use Rattle.rows.specs.Limits.{first_kelvin, last_kelvin, table_rows}
use Rattle.rows.specs.Rows.{rows_h, rows_psi, rows_h15}
use Rattle.rows.specs.Table.{column, air_h, air_psi, air_h15}
use Rattle.rows.specs.Growth.{growing, each2}
use Rattle.rows.specs.GrowthLaws.{growing_at, each2_at, grows}

is : ℕ → ℤ → Bool
is n (pos m) = eqb m n
is n (negsuc m) = false

is_eq : (n : ℕ) (z : ℤ) → T (is n z) → z ≡ pos n
unfolding is
is_eq n (pos m) t = ap pos (eqb→eq m n t)
is_eq n (negsuc m) t = absurd t

-- ---- the tests
h_length : length rows_h ≡ table_rows
unfolding rows_h
h_length = refl

psi_length : length rows_psi ≡ table_rows
unfolding rows_psi
psi_length = refl

h_growing : T (growing rows_h)
unfolding rows_h
h_growing = tt

psi_growing : T (growing rows_psi)
unfolding rows_psi
psi_growing = tt

h_apart : T (each2 (λ x y. is 6887 (pos x -ℤ y)) rows_h rows_h15)
unfolding rows_h rows_h15 is
h_apart = tt

-- ---- a column by kelvin
module _ (rows : List ℕ) (k : ℕ) where
  column_low : k < first_kelvin → 0 ≡ column rows k
  unfolding column
  column_low h = simp (lt-ltb k first_kelvin h)

  pub column_in : first_kelvin ≤ k → get_or rows (k - first_kelvin) 0 ≡ column rows k
  unfolding column
  column_in h = simp (le-ltb k first_kelvin h)

  column_high : length rows ≡ table_rows → last_kelvin < k → 0 ≡ column rows k
  column_high e h = sym (get_or-eq_default rows 0 (omega arith)) ∙ column_in (omega arith)

  -- what grows from row to row grows from kelvin to kelvin
  column_step : length rows ≡ table_rows → T (growing rows) → first_kelvin ≤ k → k < last_kelvin → column rows k < column rows (suc k)
  column_step e t l u =
      subst₂ (λ (a b : ℕ). a < b)
      (column_in l)
      (ap (λ (i : ℕ). get_or rows i 0) {x = suc (k - first_kelvin)} {y = suc k - first_kelvin} (omega arith) ∙ column_next (omega arith))
      (growing_at rows t (k - first_kelvin) (omega arith))
    where
      column_next : first_kelvin ≤ suc k → get_or rows (suc k - first_kelvin) 0 ≡ column rows (suc k)
      column_next h = unfold column in simp (le-ltb (suc k) first_kelvin h)

-- none is above the last
module _ (rows : List ℕ) (e : length rows ≡ table_rows) (t : T (growing rows)) where
  column_most : (k : ℕ) → column rows k ≤ column rows last_kelvin
  column_most k =
      ⊎_elim (λ h. omega (arith, column_low rows k h))
      (λ l.
      ⊎_elim (λ h. omega (arith, column_high rows k e h))
      (λ u. ⊎_elim (λ q. rw q (le_refl _))
      (λ h. le_of_lt (grows ◌<◌ (λ x y z. lt_trans) (column rows) first_kelvin last_kelvin (λ j. column_step rows j e t) k last_kelvin l h (le_refl _)))
      (eq-or-lt_of_le u))
      (lt_or_le last_kelvin k))
      (lt_or_le k first_kelvin)
    where
      lt_or_le : (a b : ℕ) → (a < b) ⊎ (b ≤ a)
      lt_or_le a b = elim (dec_lt a b) [ yes h ↦ inl h | no h ↦ inr (omega arith) ]

-- ---- the rules at each kelvin
-- H − H15 is 68.87
pub h_h15 : (k : ℕ) → first_kelvin ≤ k → k ≤ last_kelvin → pos (air_h k) -ℤ air_h15 k ≡ pos 6887
unfolding air_h air_h15
h_h15 k l u =
    rw (← column_in rows_h k l)
    (is_eq 6887 _ (each2_at (λ x y. is 6887 (pos x -ℤ y)) rows_h rows_h15 h_apart (pos 0) (k - first_kelvin) (omega (arith, h_length))))

-- H and psi are larger than in the row before
pub h_grows : (k : ℕ) → first_kelvin ≤ k → k < last_kelvin → air_h k < air_h (suc k)
unfolding air_h
h_grows k l u = column_step rows_h k h_length h_growing l u

pub psi_grows : (k : ℕ) → first_kelvin ≤ k → k < last_kelvin → air_psi k < air_psi (suc k)
unfolding air_psi
psi_grows k l u = column_step rows_psi k psi_length psi_growing l u

-- ---- the ends, and that no figure is above the last
pub h_first : air_h first_kelvin ≡ 4776
unfolding air_h column rows_h
h_first = refl

pub h_last : air_h last_kelvin ≡ 53789
unfolding air_h column rows_h
h_last = refl

pub psi_first : air_psi first_kelvin ≡ 95264
unfolding air_psi column rows_psi
psi_first = refl

pub h_most : (k : ℕ) → air_h k ≤ 53789
unfolding air_h
h_most k = omega (arith, h_last, column_most rows_h h_length h_growing k)
