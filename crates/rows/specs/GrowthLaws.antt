-- A rule of a table that was tested once over the whole list holds at each of its entries. Assumes nothing.
use Rattle.std.proofs.Common.{sym, subst, ⊎_elim, le_of_suc-le-suc, not-suc-le-zero, eq-or-lt_of_le, arith, ltb→lt}
use Rattle.std.specs.Prelude.{Bool, true, false, ◌&&◌, List, [], ◌∷◌, ℕ, zero, suc, ◌<◌, ◌≤◌, T, ltb, ℤ, length, get_or}
use Rattle.rows.specs.Growth.{above, growing, each2}

both_left : (a b : Bool) → T (a && b) → T a
both_left true b t = tt
both_left false b t = t

both_right : (a b : Bool) → T (a && b) → T b
both_right true b t = t
both_right false b t = absurd t

above_at : (x : ℕ) (xs : List ℕ) → T (above x xs) → (i : ℕ) → i < length xs → get_or (x ∷ xs) i 0 < get_or xs i 0
above_at x [] t i h = absurd (not-suc-le-zero h)
above_at x (y ∷ ys) t zero h = ltb→lt x y (both_left (ltb x y) (above y ys) t)
above_at x (y ∷ ys) t (suc i) h = above_at y ys (both_right (ltb x y) (above y ys) t) i (le_of_suc-le-suc h)

pub growing_at : (xs : List ℕ) → T (growing xs) → (i : ℕ) → suc i < length xs → get_or xs i 0 < get_or xs (suc i) 0
growing_at [] t i h = absurd (not-suc-le-zero h)
growing_at (x ∷ xs) t i h = above_at x xs t i (le_of_suc-le-suc h)

pub each2_at : (f : ℕ → ℤ → Bool) (xs : List ℕ) (ys : List ℤ) → T (each2 f xs ys) → (d : ℤ) (i : ℕ) → i < length xs → T (f (get_or xs i 0) (get_or ys i d))
each2_at f [] ys t d i h = absurd (not-suc-le-zero h)
each2_at f (x ∷ xs) [] t d i h = absurd t
each2_at f (x ∷ xs) (y ∷ ys) t d zero h = both_left (f x y) (each2 f xs ys) t
each2_at f (x ∷ xs) (y ∷ ys) t d (suc i) h = each2_at f xs ys (both_right (f x y) (each2 f xs ys) t) d i (le_of_suc-le-suc h)

-- what grows from each number to the next, in any order of values, grows from each to any later one
module _ {X : Type 0} (R : X → X → Type 0) (trans : (x y z : X) → R x y → R y z → R x z)
    (f : ℕ → X) (lo hi : ℕ) (step : (k : ℕ) → lo ≤ k → k < hi → R (f k) (f (suc k))) where
  pub grows : (k j : ℕ) → lo ≤ k → k < j → j ≤ hi → R (f k) (f j)
  grows k zero l h u = absurd (not-suc-le-zero h)
  grows k (suc j) l h u =
      ⊎_elim
      (λ e. subst (λ (m : ℕ). R (f m) (f (suc j))) (sym e) (step j (omega arith) (omega arith)))
      (λ h'. trans (f k) (f j) (f (suc j)) (grows k j l h' (omega arith)) (step j (omega arith) (omega arith)))
      (eq-or-lt_of_le (le_of_suc-le-suc h))
