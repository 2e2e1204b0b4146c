-- `count_digits`: a number from 10^k to below 10^(k + 1) has k + 1 digits (`digits_are`).
use Prim.Native.Nat.{ℕ, zero, suc, ◌+◌, ◌-◌, ◌*◌, ◌≤◌, ◌<◌}
use mathlib.Core.Path.{◌≡◌, refl, sym, ap}
use native.Mathlib.Omega.{arith}
use lib.ListN.{length}
use Rattle.text.specs.Decimal.{decimal, ten_to}
use Rattle.text.specs.DigitsLaws.{digits_are, decimal_most}
use Rattle.text.proofs.count_digits.Goals as goal

less_one : (k : ℕ) → suc k - 1 ≡ k
less_one k = omega arith

next_unit : (unit count : ℕ) → 1 ≤ count → unit ≡ ten_to (count - 1) → unit * 10 ≡ ten_to (count + 1 - 1)
unfolding ten_to
next_unit unit zero h e = absurd (omega arith)
next_unit unit (suc k) h e = let q : suc k + 1 - 1 ≡ suc k = omega arith in rw q (omega (arith, ap ten_to (less_one k)))

counted : (n unit count : ℕ) → 1 ≤ count → unit ≡ ten_to (count - 1) → (1 < count → unit ≤ n) → n < 10 * unit → length (decimal n) ≡ count
unfolding ten_to
counted n unit zero h e l m = absurd (omega arith)
counted n unit (suc k) h e l m =
    let t = ap ten_to (less_one k) in
    digits_are k n (λ q. let u : unit ≤ n = l (omega arith) in omega arith) (omega arith)

pub loop-unit-init : goal.loop-unit-init
unfolding ten_to
loop-unit-init c = (omega arith, omega arith, refl, λ q. absurd (omega arith))

pub loop-unit-preserved : goal.loop-unit-preserved
loop-unit-preserved c = let l = c.loop-unit in
    (omega arith, omega arith, next_unit l.unit l.count l.invariant.0 l.invariant.2, λ q. omega arith)

pub returns : goal.returns
returns c = let l = c.loop-unit in
    let e : length (decimal c.args.n) ≡ l.count = counted c.args.n l.unit l.count l.invariant.0 l.invariant.2 l.invariant.3 (omega arith) in
    (sym e, omega (arith, decimal_most c.args.n c.ranges.n))
