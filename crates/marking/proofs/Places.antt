-- The scaled significand, cut at its places, decides an answer: past the 70th place nothing is left, and from exponent 1063 on no window is near, with twelve cut off
-- or with none. Over any scale. Assumes nothing.
use mathlib.Core.Path.{◌≡◌, refl, sym, ap, ◌∙◌}
use mathlib.Core.Bool.{Bool, true, false, ◌&&◌}
use Prim.Native.Nat.{ℕ, zero, suc, ◌+◌, ◌-◌, ◌*◌, ◌/◌, ◌^◌, ◌≤◌, ◌<◌}
use native.Mathlib.Nat.{le_trans, lt_of_lt_of_le, mul_assoc, mul-le-mul, le-div_iff_mul-le, le-add_right, div-eq_of_lt, mul-add-div_right}
use native.Mathlib.Decide.{dec_le}
use native.Mathlib.Omega.{arith}
use lib.Dec.{lit≤}
use lib.IntN.{ℤ, pos}
use lib.Signed.{le_z, ◌≤ℤ◌}
use lib.Pow.{pow-add, pow_pos, pow_mono}
use Rattle.signed.specs.Zed.{no_le_z, zed}
use Rattle.marking.specs.Exact.{significand, sized, spans, places, rounded_up}
use Rattle.marking.proofs.Spans.{cut_spans, spans_same, spans_cut}
use Rattle.marking.proofs.Shifts.{product_lt}

pub significand_lt : (e f : ℕ) → f < 2 ^ 52 → significand e f < 2 ^ 53
significand_lt zero f h = omega arith
significand_lt (suc e) f h = omega arith

significand_ge : (e f : ℕ) → 0 < e → 2 ^ 52 ≤ significand e f
significand_ge zero f h = absurd (omega arith)
significand_ge (suc e) f h = le-add_right (2 ^ 52) f

-- ---- a size of 2^40 or more
both_false : (b : Bool) → b && false ≡ false
both_false true = refl
both_false false = refl

above : (n : ℕ) (hi : ℤ) → 2 ^ 40 ≤ n → hi ≤ℤ pos 1000000100000 → le_z (pos n) hi ≡ false
above n hi N H = no_le_z (pos n) hi (omega zed)

past : (n d : ℕ) (lo hi : ℤ) → 0 < d → 2 ^ 40 * d ≤ n → hi ≤ℤ pos 1000000100000 → cut_spans n d lo hi ≡ false
past n d lo hi D N H =
    let up : 2 ^ 40 ≤ rounded_up n d = (le-div_iff_mul-le D).1 (le_trans N (le-add_right n (d - 1))) in
    rw (above (rounded_up n d) hi up H) (both_false (le_z lo (pos (n / d))))

far_placed : (s e f : ℕ) (lo hi : ℤ) → 0 < s → 1063 < e → hi ≤ℤ pos 1000000100000 → spans (s * sized e f) (2 ^ 1074) lo hi ≡ cut_spans (s * significand e f) (2 ^ places e) lo hi
far_placed s e f lo hi S E H =
    let q = significand e f in
    let l : 2 ^ 52 ≤ q = significand_ge e f (omega arith) in
    let i : 1062 ≤ e - 1 = omega arith in
    let k : places e ≡ 12 = omega arith in
    let size : 2 ^ 40 * 2 ^ 1074 ≤ s * sized e f = le_trans (lit≤ tt) (mul-le-mul S (mul-le-mul l (pow_mono i))) in
    let scaled : 2 ^ 40 * 2 ^ places e ≤ s * q = rw k (le_trans (lit≤ tt) (mul-le-mul S l)) in
    spans_cut (s * sized e f) (2 ^ 1074) (pow_pos 1074) lo hi
    ∙ past (s * sized e f) (2 ^ 1074) lo hi (pow_pos 1074) size H
    ∙ sym (past (s * q) (2 ^ places e) lo hi (pow_pos (places e)) scaled H)

-- ---- a smaller one
-- below one every denominator leaves the same: rounded down 0, and rounded up 0 or 1
up_one : (n d : ℕ) → suc n < d → rounded_up (suc n) d ≡ 1
up_one n d h =
    let e : suc n + (d - 1) ≡ 1 * d + n = omega arith in
    ap (λ (x : ℕ). x / d) e ∙ mul-add-div_right (omega arith) 1 n ∙ ap (λ (x : ℕ). 1 + x) (div-eq_of_lt (omega arith))

up_below : (n d c : ℕ) → n < d → n < c → rounded_up n d ≡ rounded_up n c
up_below zero d c h g = div-eq_of_lt (omega arith) ∙ sym (div-eq_of_lt (omega arith))
up_below (suc n) d c h g = up_one n d h ∙ sym (up_one n c g)

cut_below : (n d c : ℕ) (lo hi : ℤ) → n < d → n < c → cut_spans n d lo hi ≡ cut_spans n c lo hi
cut_below n d c lo hi h g = rw (div-eq_of_lt h, div-eq_of_lt g, up_below n d c h g) refl

at_places : (n e : ℕ) (lo hi : ℤ) → n < 2 ^ 70 → e ≤ 1063 → cut_spans n (2 ^ (1074 - (e - 1))) lo hi ≡ cut_spans n (2 ^ places e) lo hi
at_places n e lo hi N E = by (dec_le 1005 e)
  where
    by : Dec (1005 ≤ e) → cut_spans n (2 ^ (1074 - (e - 1))) lo hi ≡ cut_spans n (2 ^ places e) lo hi
    by (yes h) = let k : 1074 - (e - 1) ≡ places e = omega arith in ap (λ (i : ℕ). cut_spans n (2 ^ i) lo hi) k
    by (no h) =
        let i : 70 ≤ 1074 - (e - 1) = omega arith in
        let k : 70 ≤ places e = omega arith in
        cut_below n (2 ^ (1074 - (e - 1))) (2 ^ places e) lo hi (lt_of_lt_of_le N (pow_mono i)) (lt_of_lt_of_le N (pow_mono k))

near_placed : (s e f : ℕ) (lo hi : ℤ) → s ≤ 100000 → f < 2 ^ 52 → e ≤ 1063 → spans (s * sized e f) (2 ^ 1074) lo hi ≡ cut_spans (s * significand e f) (2 ^ places e) lo hi
near_placed s e f lo hi S F E =
    let q = significand e f in
    let i = 1074 - (e - 1) in
    let j : e - 1 + i ≡ 1074 = omega arith in
    spans_same (s * (q * 2 ^ (e - 1))) (2 ^ 1074) (s * q) (2 ^ i) (pow_pos 1074) (pow_pos i)
    (ap (λ (x : ℕ). x * 2 ^ i) (sym (mul_assoc s q (2 ^ (e - 1)))) ∙ mul_assoc (s * q) (2 ^ (e - 1)) (2 ^ i) ∙ ap (λ (x : ℕ). s * q * x) (sym (pow-add 2 (e - 1) i) ∙ ap (λ (x : ℕ). 2 ^ x) j)) lo hi
    ∙ spans_cut (s * q) (2 ^ i) (pow_pos i) lo hi
    ∙ at_places (s * q) e lo hi (product_lt s q S (significand_lt e f F)) E

-- ---- every exponent
pub placed : (s e f : ℕ) (lo hi : ℤ) → 0 < s → s ≤ 100000 → f < 2 ^ 52 → hi ≤ℤ pos 1000000100000
    → spans (s * sized e f) (2 ^ 1074) lo hi ≡ cut_spans (s * significand e f) (2 ^ places e) lo hi
placed s e f lo hi P S F H = by (dec_le e 1063)
  where
    by : Dec (e ≤ 1063) → spans (s * sized e f) (2 ^ 1074) lo hi ≡ cut_spans (s * significand e f) (2 ^ places e) lo hi
    by (yes h) = near_placed s e f lo hi S F h
    by (no h) = far_placed s e f lo hi P (omega arith) H
