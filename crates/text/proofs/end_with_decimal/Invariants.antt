-- `end_with_decimal`: the last digit, then before it those of a tenth of the number, down to one digit (`last_digit`, `one_digit`).
-- Invariant: of the number's digits those behind what is left of it stand before the place. Measure: what is left.
use Prim.Native.Nat.{◌≤◌}
use Rattle.text.specs.Decimal.{decimal}
use Rattle.text.specs.Puts.{Behind}
use Rattle.text.proofs.end_with_decimal.Given as goal

abbrev pub invariant-loop-rest : goal.invariant-loop-rest
invariant-loop-rest l = (l.rest ≤ l.n) × Behind (decimal l.n) (decimal l.rest) l.initial.buf l.at l.end l.buf

abbrev pub decreases-loop-rest : goal.decreases-loop-rest
decreases-loop-rest l = l.rest
