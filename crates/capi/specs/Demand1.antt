-- Demand 1 as a caller from C or Rust sees it, in a struct's `refusal`, `row` and `placed`: the number of the first line whose condition holds, its row and whether it has one,
-- exactly then, and 0 exactly
-- when none holds. Definitions only.
use Rattle.std.specs.Prelude.{Bool, true, false, cond, List, [], ◌∷◌, ◌↔◌, ◌≡◌, ℕ, ◌<◌, ltb}
use Rattle.refusal.specs.Refusals.{Line, refusal_of, line_number, First, Clear}
use Rattle.telling.specs.declared.WalkTold.{WalkTold}
use Rattle.telling.specs.Flat.{row_in, placed_in}

-- the row of a line, 0 where it has none
abbrev pub line_row : Line → ℕ
line_row l = row_in (refusal_of l)

-- 1 where a line has a row, else 0
abbrev pub line_placed : Line → ℕ
line_placed l = placed_in (refusal_of l)

-- no refusal of an order has the number 0, which stands for none
abbrev pub numbered : List Line → Bool
numbered [] = true
numbered (l ∷ ls) = cond (ltb 0 (line_number l)) (numbered ls) false

pub record FlatDemand1 (order : List Line) (refusal row placed : ℕ) : Type 0 where
  pub refused_with : (n k p : ℕ) → 0 < n → ((refusal ≡ n) × (row ≡ k) × (placed ≡ p)) ↔ ((l : Line) × First order l × (line_number l ≡ n) × (line_row l ≡ k) × (line_placed l ≡ p))
  pub answered : (refusal ≡ 0) ↔ Clear order

-- of a walk, its start: `begun` is 0 exactly where it is refused, with that number and row
pub record WalkDemand1 (order : List Line) (o : WalkTold) : Type 0 where
  pub refused_with : (n k p : ℕ) → ((o.begun ≡ 0) × (o.refusal ≡ n) × (o.row ≡ k) × (o.placed ≡ p)) ↔ ((l : Line) × First order l × (line_number l ≡ n) × (line_row l ≡ k) × (line_placed l ≡ p))
  pub began : (o.begun ≡ 1) ↔ Clear order
