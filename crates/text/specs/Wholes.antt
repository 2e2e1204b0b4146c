-- The reading of a number byte by byte: which byte may follow under a limit, and what the text then says. That a text is read as a number exactly
-- where it is that number in decimal is in WholesLaws.antt (`read_of_decimal`, `decimal_of_read`).
use Rattle.std.specs.Prelude.{ℕ, zero, suc, ◌+◌, ◌*◌, ◌-◌, ◌≤◌, Bool, true, false, ◌&&◌, not, cond, List, [], ◌∷◌, leb, eqb, drop, ℤ, pos, negsuc, Option, Some, None}
use Rattle.text.specs.Fold.{run}
use Rattle.text.specs.declared.Digits.{Digits}
use Rattle.text.specs.declared.Digits.TheVariants.{Empty, Value, Bad}

unfoldable pub is_digit : ℕ → Bool
is_digit b = leb 48 b && leb b 57

-- after the digits of v, or after none where seen is false, the digit d may follow: no zero in front, and the limit kept
unfoldable pub may_follow : ℕ → Bool → ℕ → ℕ → Bool
may_follow limit seen v d = not (eqb v 0 && seen) && leb (10 * v + d) limit

unfoldable pub extended : ℕ → Bool → ℕ → ℕ → Digits
extended limit seen v d = cond (may_follow limit seen v d) (Value (10 * v + d)) Bad

abbrev pub step_digit : ℕ → Digits → ℕ → Digits
step_digit limit Empty d = extended limit false 0 d
step_digit limit (Value v) d = extended limit true v d
step_digit limit Bad d = Bad

-- one byte more
unfoldable pub step_digits : ℕ → Digits → ℕ → Digits
step_digits limit s b = cond (is_digit b) (step_digit limit s (b - 48)) Bad

-- the number that the text is in decimal, up to the limit
unfoldable pub digits_of : ℕ → List ℕ → Digits
digits_of limit text = run (step_digits limit) Empty text

-- a number that was read keeps the limit
abbrev pub Within : ℕ → Digits → Type 0
Within limit Empty = Unit {0}
Within limit (Value v) = v ≤ limit
Within limit Bad = Unit {0}

-- digits with no sign, and digits after a minus sign
abbrev pub plus_of : Digits → Option ℤ
plus_of Empty = None
plus_of (Value v) = Some (pos v)
plus_of Bad = None

abbrev pub minus_of : Digits → Option ℤ
minus_of Empty = None
minus_of (Value zero) = None
minus_of (Value (suc n)) = Some (negsuc n)
minus_of Bad = None

abbrev pub minus_first : List ℕ → Bool
minus_first [] = false
minus_first (b ∷ bs) = eqb b 45

-- the whole number of 64 bits that the text is in decimal
unfoldable pub whole_of : List ℕ → Option ℤ
whole_of text = cond (minus_first text) (minus_of (digits_of 9223372036854775808 (drop 1 text))) (plus_of (digits_of 9223372036854775807 text))
