-- The rule of the nearest whole number (document 02, request 2), over any divisor above zero: the number worked out keeps it, no other does, and how
-- large it can be. Assumes nothing.
use Rattle.std.proofs.Common.{lt-ltb, le-ltb, mod-lt, mul-le-mul_left, mul-le-mul_right, le-div_iff_mul-le, le_antisymm, arith}
use Rattle.std.specs.Prelude.{◌≡◌, refl, ℕ, zero, suc, ◌+◌, ◌*◌, ◌-◌, ◌/◌, ◌%◌, ◌<◌, ◌≤◌, ℤ, pos, negsuc, neg_ℤ, nat_abs, ◌-ℤ◌, ◌*ℤ◌}
use Rattle.std.proofs.Math.Nat.{mod-add-div'}
use Rattle.std.proofs.Math.Decide.{dec_le, dec_lt}
use Rattle.signed.specs.Zed.{up, dn, Is, is_pos, is_self, is_neg, is_minus, is_mul, apart, abs_parts, same}
use Rattle.signed.specs.Nearest.{Nearest, carry_of, nearest_ℕ, nearest_z}

-- what x less q times n is, by the parts
less : {x q : ℤ} (n : ℕ) {a b c d : ℕ} → Is x a b → Is q c d → Is (x -ℤ q *ℤ pos n) (a + d * n) (b + c * n)
less {x} {q} n {a} {b} {c} {d} h k = record { is = omega (arith, is_minus h (is_mul k (is_pos n))) }

-- its size, where one side stands r above the other
size_above : {z : ℤ} {a b : ℕ} (r : ℕ) → Is z a b → a ≡ b + r → nat_abs z ≡ r
size_above {z} r h e = omega (arith, abs_parts z, apart z)

size_below : {z : ℤ} {a b : ℕ} (r : ℕ) → Is z a b → b ≡ a + r → nat_abs z ≡ r
size_below {z} r h e = omega (arith, abs_parts z, apart z)

nearest_at : {x q : ℤ} {n : ℕ} (r : ℕ) → nat_abs (x -ℤ q *ℤ pos n) ≡ r → 2 * r ≤ n → (2 * r ≡ n → nat_abs q % 2 ≡ 0) → Nearest x n q
nearest_at r e h k = record { near = rw e h; even = λ t. k (rw e at t) }

-- ---- what the carry gains makes the nearest number
carry_cases : (k over lack : ℕ) (P : ℕ → Type 0) → (over < lack → P 0) → (lack < over → P 1) → (over ≡ lack → P (k % 2)) → P (carry_of k over lack)
unfolding carry_of
carry_cases k over lack P f g h =
    elim (dec_lt over lack) [
      | yes l ↦ rw (lt-ltb over lack l) (f l)
      | no l ↦ rw (le-ltb over lack (omega arith)) (elim (dec_lt lack over) [
        | yes m ↦ rw (lt-ltb lack over m) (g m)
        | no m ↦ rw (le-ltb lack over (omega arith)) (h (omega arith))
      ])
    ]

module _ (k over lack : ℕ) {n : ℕ} (e : over + lack ≡ n) where
  stays : 2 * over ≤ n → (2 * over ≡ n → (k + 0) % 2 ≡ 0) → Nearest (pos (k * n + over)) n (pos (k + 0))
  stays = nearest_at over (size_above over (less n (is_pos (k * n + over)) (is_pos (k + 0))) (omega arith))

  goes_on : 2 * lack ≤ n → (2 * lack ≡ n → (k + 1) % 2 ≡ 0) → Nearest (pos (k * n + over)) n (pos (k + 1))
  goes_on = nearest_at lack (size_below lack (less n (is_pos (k * n + over)) (is_pos (k + 1))) (omega arith))

  to_even : over ≡ lack → (c : ℕ) → k % 2 ≡ c → Nearest (pos (k * n + over)) n (pos (k + c))
  to_even t zero h = stays (omega arith) (λ d. omega arith)
  to_even t (suc zero) h = goes_on (omega arith) (λ d. omega arith)
  to_even t (suc (suc c)) h = absurd (omega arith)

  pub carried : Nearest (pos (k * n + over)) n (pos (k + carry_of k over lack))
  carried = carry_cases k over lack (λ c. Nearest (pos (k * n + over)) n (pos (k + c)))
      (λ h. stays (omega arith) (λ d. absurd (omega arith)))
      (λ h. goes_on (omega arith) (λ d. absurd (omega arith)))
      (λ h. to_even h (k % 2) refl)

  -- and is no larger than what was divided
  pub carried_most : 0 < n → k + carry_of k over lack ≤ k * n + over
  carried_most o =
      let c : carry_of k over lack ≤ over = carry_cases k over lack (λ c. c ≤ over) (λ h. omega arith) (λ h. omega arith) (λ h. omega arith) in
      omega (arith, mul-le-mul_left k o)

-- ---- alike on either side of zero
pub turned : {x q : ℤ} {n : ℕ} → Nearest x n q → Nearest (neg_ℤ x) n (neg_ℤ q)
turned {x} {q} {n} h =
    let z = x -ℤ q *ℤ pos n in
    let y = neg_ℤ x -ℤ neg_ℤ q *ℤ pos n in
    let s : nat_abs y ≡ nat_abs z =
    omega (arith, less n (is_neg (is_self x)) (is_neg (is_self q)), less n (is_self x) (is_self q), abs_parts y, abs_parts z, apart y, apart z) in
    record { near = rw s h.near; even = λ t. let d = h.even (rw s at t) in omega (arith, abs_parts q, abs_parts (neg_ℤ q), is_neg (is_self q), apart q, apart (neg_ℤ q)) }

-- ---- the number worked out keeps the rule
natural : (m : ℕ) {n : ℕ} → 0 < n → Nearest (pos m) n (pos (nearest_ℕ m n))
unfolding nearest_ℕ
natural m {n} h =
    let e : m / n * n + m % n ≡ m = omega (arith, mod-add-div' m n) in
    rw e at (carried (m / n) (m % n) (n - m % n) {n = n} (omega (arith, mod-lt m h)))

pub nearest_keeps : (x : ℤ) {n : ℕ} → 0 < n → Nearest x n (nearest_z x n)
unfolding nearest_z
nearest_keeps (pos m) h = natural m h
nearest_keeps (negsuc m) h = turned (natural (suc m) h)

-- ---- no other does. One that stood above another would make both a tie, so both even, so two apart: too far for either
not_above : {x : ℤ} {n : ℕ} {p q : ℤ} → 0 < n → Nearest x n p → Nearest x n q → up p + dn q ≤ up q + dn p
not_above {x} {n} {p} {q} o h k =
    let u = x -ℤ p *ℤ pos n in
    let v = x -ℤ q *ℤ pos n in
    let a : 2 * (up u + dn u) ≤ n = omega (arith, h.near, abs_parts u) in
    let b : 2 * (up v + dn v) ≤ n = omega (arith, k.near, abs_parts v) in
    let d : (up p + dn q) * n + (up u + dn v) ≡ (up q + dn p) * n + (dn u + up v) = omega (arith, less n (is_self x) (is_self p), less n (is_self x) (is_self q)) in
    elim (dec_le (up p + dn q) (up q + dn p)) [
      | yes l ↦ l
      | no l ↦
          let one : suc (up q + dn p) ≤ up p + dn q = omega arith in
          let e = h.even (omega (arith, abs_parts u, mul-le-mul_right n one)) in
          let f = k.even (omega (arith, abs_parts v, mul-le-mul_right n one)) in
          let two : suc (suc (up q + dn p)) ≤ up p + dn q = omega (arith, abs_parts p, abs_parts q) in
          absurd (omega (arith, mul-le-mul_right n two))
    ]

pub nearest_one : {x : ℤ} {n : ℕ} {p q : ℤ} → 0 < n → Nearest x n p → Nearest x n q → p ≡ q
nearest_one {p} {q} o h k = same (le_antisymm (not_above o h k) (not_above o k h))

-- ---- how large it can be: by no more than one over the size of x by any number up to n
most_by : (u m : ℕ) {n d : ℕ} → 0 < d → d ≤ n → 2 * (u * n) ≤ 2 * m + n → u ≤ m / d + 1
most_by zero m o l h = omega arith
most_by (suc v) m {n} {d} o l h = let k : v ≤ m / d = (le-div_iff_mul-le o).1 (omega (arith, mul-le-mul_left v l)) in omega arith

pub nearest_up : {x : ℤ} {n : ℕ} {q : ℤ} {d : ℕ} → 0 < d → d ≤ n → Nearest x n q → up q ≤ up x / d + 1
nearest_up {x} {n} {q = pos k} o l h = most_by k (up x) o l (omega (arith, h.near, abs_parts (x -ℤ pos k *ℤ pos n), less n (is_self x) (is_pos k)))
nearest_up {q = negsuc k} o l h = omega arith

pub nearest_dn : {x : ℤ} {n : ℕ} {q : ℤ} {d : ℕ} → 0 < d → d ≤ n → Nearest x n q → dn q ≤ dn x / d + 1
nearest_dn {q = pos k} o l h = omega arith
nearest_dn {x} {n} {q = negsuc k} o l h = most_by (suc k) (dn x) o l (omega (arith, h.near, abs_parts (x -ℤ negsuc k *ℤ pos n), less n (is_self x) (is_self (negsuc k))))
