-- A scaled significand by a power of two in two goes, rounded down and rounded up: some places off the two parts of the product, then the others. Assumes nothing.
use mathlib.Core.Path.{◌≡◌, sym, ap, ◌∙◌}
use Prim.Native.Nat.{ℕ, ◌+◌, ◌-◌, ◌*◌, ◌/◌, ◌%◌, ◌^◌, ◌≤◌, ◌<◌}
use native.Mathlib.Nat.{add_comm, add_assoc, add-zero, mul_assoc, mul-add, mul-le-mul, mul-add-div_right, div-add-mod', div-lt_iff_lt-mul, lt_of_le_of_lt, le_of_lt, le-add_right}
use native.Mathlib.Omega.{arith}
use lib.Dec.{lit<}
use lib.Pow.{shr-shr, shr_mono, ones_split, pow_pos, pow_mono}
use Rattle.marking.specs.Exact.{rounded_up}

-- a product part by part, whatever is added to round it
parted : (s m b a : ℕ) → 0 < b → s * (m / b) + (s * (m % b) + a) / b ≡ (s * m + a) / b
parted s m b a B =
    sym (mul-add-div_right B (s * (m / b)) (s * (m % b) + a))
    ∙ ap (λ (x : ℕ). x / b) (sym (add_assoc (s * (m / b) * b) (s * (m % b)) a) ∙ ap (λ (x : ℕ). x + a) joined)
  where
    joined : s * (m / b) * b + s * (m % b) ≡ s * m
    joined = ap (λ (x : ℕ). x + s * (m % b)) (mul_assoc s (m / b) b) ∙ sym (mul-add s (m / b * b) (m % b)) ∙ ap (λ (x : ℕ). s * x) (div-add-mod' m b)

-- rounded up by i places and then by j is rounded up by both; rounded down, it is the library's `shr-shr`
up_up : (n i j : ℕ) → rounded_up (rounded_up n (2 ^ i)) (2 ^ j) ≡ rounded_up n (2 ^ (i + j))
up_up n i j =
    let a = 2 ^ i - 1 in
    let b = 2 ^ j - 1 in
    ap (λ (x : ℕ). x / 2 ^ j) (add_comm ((n + a) / 2 ^ i) b ∙ sym (mul-add-div_right (pow_pos i) b (n + a)))
    ∙ shr-shr (b * 2 ^ i + (n + a)) i j
    ∙ ap (λ (x : ℕ). x / 2 ^ (i + j)) (sym (add_assoc (b * 2 ^ i) n a) ∙ ap (λ (x : ℕ). x + a) (add_comm (b * 2 ^ i) n) ∙ add_assoc n (b * 2 ^ i) a)
    ∙ ap (λ (x : ℕ). (n + x) / 2 ^ (i + j)) (sym (ones_split j i) ∙ ap (λ (x : ℕ). 2 ^ x - 1) (add_comm j i))

-- i places and then j, k in all
module _ (s m i j k : ℕ) (e : i + j ≡ k) where
  pub floor_is : (s * (m / 2 ^ i) + s * (m % 2 ^ i) / 2 ^ i) / 2 ^ j ≡ s * m / 2 ^ k
  floor_is =
      ap (λ (x : ℕ). (s * (m / 2 ^ i) + x / 2 ^ i) / 2 ^ j) (sym (add-zero (s * (m % 2 ^ i))))
      ∙ ap (λ (x : ℕ). x / 2 ^ j) (parted s m (2 ^ i) 0 (pow_pos i) ∙ ap (λ (x : ℕ). x / 2 ^ i) (add-zero (s * m)))
      ∙ shr-shr (s * m) i j
      ∙ ap (λ (x : ℕ). s * m / 2 ^ x) e

  pub ceiling_is : rounded_up (s * (m / 2 ^ i) + rounded_up (s * (m % 2 ^ i)) (2 ^ i)) (2 ^ j) ≡ rounded_up (s * m) (2 ^ k)
  ceiling_is =
      ap (λ (x : ℕ). rounded_up x (2 ^ j)) (parted s m (2 ^ i) (2 ^ i - 1) (pow_pos i))
      ∙ up_up (s * m) i j
      ∙ ap (λ (x : ℕ). rounded_up (s * m) (2 ^ x)) e

-- ---- at most 70 binary places, and fewer than 60 once 12 are gone
module _ (s m : ℕ) (S : s ≤ 100000) (M : m < 2 ^ 53) where
  pub product_lt : s * m < 2 ^ 70
  product_lt = lt_of_le_of_lt (mul-le-mul S (le_of_lt M)) (lit< tt)

  pub ceiling_lt : (k : ℕ) → 12 ≤ k → rounded_up (s * m) (2 ^ k) < 2 ^ 59
  ceiling_lt k K =
      let h : 2 ^ 12 ≤ 2 ^ k = pow_mono K in
      (div-lt_iff_lt-mul (pow_pos k)).1 (omega (arith, product_lt))

  pub floor_lt : (k : ℕ) → 12 ≤ k → s * m / 2 ^ k < 2 ^ 59
  floor_lt k K = lt_of_le_of_lt (shr_mono k (le-add_right (s * m) (2 ^ k - 1))) (ceiling_lt k K)
