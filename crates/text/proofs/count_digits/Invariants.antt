-- `count_digits`: a number from 10^k to below 10^(k + 1) has k + 1 digits (`digits_are`).
-- Invariant: the unit is ten to the count less one, and no more than the number once the count is above 1. Measure: what is left up to the number.
use Prim.Native.Nat.{suc, ◌-◌, ◌≤◌, ◌<◌}
use mathlib.Core.Path.{◌≡◌}
use Rattle.text.specs.Decimal.{ten_to}
use Rattle.text.proofs.count_digits.Given as goal

abbrev pub invariant-loop-unit : goal.invariant-loop-unit
invariant-loop-unit l = (1 ≤ l.count) × (l.count ≤ l.unit) × (l.unit ≡ ten_to (l.count - 1)) × (1 < l.count → l.unit ≤ l.n)

abbrev pub decreases-loop-unit : goal.decreases-loop-unit
decreases-loop-unit l = suc l.n - l.unit
