-- The two ways of `nearest`: what each adds up fits, and is the nearest number, for it keeps the rule and no other number does. Assumes nothing.
use Prim.Native.Nat.{ℕ, suc, ◌+◌, ◌-◌, ◌*◌, ◌/◌, ◌%◌, ◌<◌, ◌≤◌}
use mathlib.Core.Path.{◌≡◌, refl, sym, ◌∙◌}
use native.Mathlib.Nat.{mod-lt, mod-add-div', le_trans, lt_of_le_of_lt}
use native.Mathlib.Omega.{arith}
use lib.IntN.{ℤ, pos, negsuc, neg_ℤ, ◌+ℤ◌, ◌-ℤ◌}
use mir.Syntax.{w64}
use mir.Val.{SFits}
use Rattle.signed.specs.Zed.{read, back, same_by, is_pos, is_minus, is_neg, fits_from, fits_up, gap_gives, gap_most}
use Rattle.signed.specs.Nearest.{Nearest, carry_of, nearest_z}
use Rattle.signed.specs.NearestLaws.{carried, carried_most, turned, nearest_keeps, nearest_one}

-- with its carry it is the nearest number, and no larger than the size
record Rounds (m b r : ℕ) : Type 0 where
  most : r ≤ m
  nearest : Nearest (pos m) b (pos r)

rounds : (k over lack : ℕ) {m b : ℕ} → 0 < b → over + lack ≡ b → k * b + over ≡ m → Rounds m b (k + carry_of k over lack)
rounds k over lack {b = b} o l e =
    let r : Rounds (k * b + over) b (k + carry_of k over lack) = record { most = carried_most k over lack l o; nearest = carried k over lack l } in
    rw e at r

neg_fits : {m : ℕ} → m ≤ 9223372036854775808 → SFits w64 (neg_ℤ (pos m))
neg_fits {m} h = fits_from w64 (is_neg (is_pos m)) (omega arith) (omega arith)

-- the quotient turned
minus_fits : {q : ℤ} {k : ℕ} → SFits w64 q → q ≡ pos k → SFits w64 (pos 0 -ℤ read q)
minus_fits {k} f e =
    let h : k < 9223372036854775808 = rw e at (fits_up f) in
    rw (back f, e) (fits_from w64 (is_minus (is_pos 0) (is_pos k)) (omega arith) (omega arith))

-- the quotient and its carry
module _ {q c : ℤ} {k g : ℕ} (fq : SFits w64 q) (fc : SFits w64 c) (eq : q ≡ pos k) (ec : c ≡ pos g) where
  sum_is : read q +ℤ read c ≡ pos (k + g)
  sum_is = rw (back fq, back fc, eq, ec) refl

  less_is : read (pos 0 -ℤ read q) -ℤ read c ≡ neg_ℤ (pos (k + g))
  less_is = rw (back (minus_fits fq eq), back fq, back fc, eq, ec) (same_by (is_minus (is_minus (is_pos 0) (is_pos k)) (is_pos g)) (is_neg (is_pos (k + g))) (omega arith))

-- a number that is not below zero
size_lt : {a : ℤ} {n : ℕ} → SFits w64 a → pos n ≡ read a → n < 9223372036854775808
size_lt f e = rw (sym (e ∙ back f)) at (fits_up f)

module _ {a q c : ℤ} {n b : ℕ} (o : 0 < b) (f : SFits w64 a) (e : pos n ≡ read a) (fq : SFits w64 q) (eq : q ≡ pos (n / b)) (fc : SFits w64 c)
    (ec : c ≡ pos (carry_of (n / b) (n % b) (b - n % b))) where
  above : Rounds n b (n / b + carry_of (n / b) (n % b) (b - n % b))
  above = rounds (n / b) (n % b) (b - n % b) o (omega (arith, mod-lt n o)) (omega (arith, mod-add-div' n b))

  pub sum_fits : SFits w64 (read q +ℤ read c)
  sum_fits = rw (sum_is fq fc eq ec) (record { sfits = lt_of_le_of_lt above.most (size_lt f e) })

  pub sum_nearest : read (read q +ℤ read c) ≡ nearest_z a b
  sum_nearest = back sum_fits ∙ sum_is fq fc eq ec ∙ nearest_one o (rw (e ∙ back f) at above.nearest) (nearest_keeps a o)

-- a number below zero: n is how far it lies below -1
module _ {a q c : ℤ} {n b : ℕ} (o : 0 < b) (f : SFits w64 a) (e : pos n ≡ negsuc 0 -ℤ read a) (fq : SFits w64 q) (eq : q ≡ pos (n / b)) (fc : SFits w64 c)
    (ec : c ≡ pos (carry_of (n / b) (n % b + 1) (b - n % b - 1))) where
  below : Rounds (suc n) b (n / b + carry_of (n / b) (n % b + 1) (b - n % b - 1))
  below = rounds (n / b) (n % b + 1) (b - n % b - 1) o (omega (arith, mod-lt n o)) (omega (arith, mod-add-div' n b))

  pub less_fits : SFits w64 (read (pos 0 -ℤ read q) -ℤ read c)
  less_fits = rw (less_is fq fc eq ec) (neg_fits (le_trans below.most (gap_most f e)))

  pub less_nearest : read (read (pos 0 -ℤ read q) -ℤ read c) ≡ nearest_z a b
  less_nearest = back less_fits ∙ less_is fq fc eq ec ∙ nearest_one o (rw (sym (gap_gives f e)) at (turned below.nearest)) (nearest_keeps a o)
