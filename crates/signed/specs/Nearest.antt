-- The whole number nearest to a quotient, a tie going to the even number (document 02, request 2). `Nearest` is the rule; `nearest_z` is the number
-- that keeps it, worked out. That it keeps it, and that no other number does, are laws: `nearest_keeps` and `nearest_one` of NearestLaws.antt.
use Rattle.std.specs.Prelude.{◌≡◌, cond, ℕ, suc, ◌+◌, ◌*◌, ◌-◌, ◌/◌, ◌%◌, ◌≤◌, ltb, ℤ, pos, negsuc, neg_ℤ, nat_abs, ◌-ℤ◌, ◌*ℤ◌}

-- "nearest whole, a tie going to the even number": x less q times n is at most half of n in size, and where it is exactly half, q is even
pub record Nearest (x : ℤ) (n : ℕ) (q : ℤ) : Type 0 where
  pub near : 2 * nat_abs (x -ℤ q *ℤ pos n) ≤ n
  pub even : 2 * nat_abs (x -ℤ q *ℤ pos n) ≡ n → nat_abs q % 2 ≡ 0

-- what a quotient gains where so much lies over and so much lacks to the next: nothing, one, or at a tie what makes it even
unfoldable pub carry_of : ℕ → ℕ → ℕ → ℕ
carry_of q over lack = cond (ltb over lack) 0 (cond (ltb lack over) 1 (q % 2))

-- a size by n: its quotient and what that gains
unfoldable pub nearest_ℕ : ℕ → ℕ → ℕ
nearest_ℕ m n = m / n + carry_of (m / n) (m % n) (n - m % n)

-- alike on either side of zero
unfoldable pub nearest_z : ℤ → ℕ → ℤ
nearest_z (pos m) n = pos (nearest_ℕ m n)
nearest_z (negsuc m) n = neg_ℤ (pos (nearest_ℕ (suc m) n))
