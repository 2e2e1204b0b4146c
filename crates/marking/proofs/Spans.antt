-- `spans n d lo hi`, that the fraction n / d lies from lo to hi: it sees only the fraction's value, it is decided by n / d rounded down and rounded up,
-- and it is what `near` asks of an answer's exact value. Over any scale. Assumes nothing.
use mathlib.Core.Path.{◌≡◌, refl, sym, ap, ◌∙◌}
use mathlib.Core.Bool.{Bool, true, false, ◌&&◌}
use Prim.Native.Nat.{ℕ, zero, suc, ◌+◌, ◌-◌, ◌*◌, ◌/◌, ◌≤◌, ◌<◌}
use native.Mathlib.Nat.{le_trans, le_of_eq, mul_right_comm, mul_assoc, mul-pos, mul-le-mul_right, le_of_mul-le-mul_right, le-div_iff_mul-le, div-lt_iff_lt-mul, zero-lt-suc}
use native.Mathlib.Omega.{arith}
use lib.Dec.{T, leb, leb→le, le→leb}
use lib.IntN.{ℤ, pos, negsuc, neg_ℤ, nat_abs, ◌+ℤ◌, ◌-ℤ◌, ◌*ℤ◌}
use lib.Signed.{le_z}
use lib.Ieee.{Float, nan, inf, fin, up, down}
use lib.Ieee.Exact.{HasValue}
use lib.Ieee.Fits.{down_pos}
use Rattle.signed.specs.Zed.{in_z, is_pos, is_self, is_neg, is_add, is_minus, is_mul, same_by, yes_le_z, apart, abs_parts, zed}
use Rattle.marking.specs.Marking.{signed, near}
use Rattle.marking.specs.Exact.{turned, spans, rounded_up}

pub same_test : (a b : Bool) → (T a → T b) → (T b → T a) → a ≡ b
same_test true true p q = refl
same_test true false p q = absurd (p tt)
same_test false true p q = absurd (q tt)
same_test false false p q = refl

leb_same : (a b c d : ℕ) → (a ≤ b → c ≤ d) → (c ≤ d → a ≤ b) → leb a b ≡ leb c d
leb_same a b c d p q = same_test (leb a b) (leb c d) (λ t. le→leb c d (p (leb→le a b t))) (λ t. le→leb a b (q (leb→le c d t)))

-- ---- an end below zero: under every fraction
low_below : (k n : ℕ) → le_z (neg_ℤ (pos k)) (pos n) ≡ true
low_below zero n = yes_le_z (pos 0) (pos n) (omega arith)
low_below (suc k) n = refl

high_below : (k n : ℕ) → 0 < k → le_z (pos n) (neg_ℤ (pos k)) ≡ false
high_below zero n h = absurd (omega arith)
high_below (suc k) n h = refl

-- ---- the value alone: n / d and m / c are one fraction
le_scaled : (x y d u v c : ℕ) → 0 < d → x * c ≡ u * d → y * c ≡ v * d → x ≤ y → u ≤ v
le_scaled x y d u v c D p q h = le_of_mul-le-mul_right (le_trans (le_of_eq (sym p)) (le_trans (mul-le-mul_right c h) (le_of_eq q))) D

module _ (n d m c : ℕ) (D : 0 < d) (C : 0 < c) (e : n * c ≡ m * d) where
  low_same : (lo : ℤ) → le_z (lo *ℤ pos d) (pos n) ≡ le_z (lo *ℤ pos c) (pos m)
  low_same (pos a) = leb_same (a * d) n (a * c) m (le_scaled (a * d) n d (a * c) m c D (mul_right_comm a d c) e) (le_scaled (a * c) m c (a * d) n d C (mul_right_comm a c d) (sym e))
  low_same (negsuc a) = low_below (suc a * d) n ∙ sym (low_below (suc a * c) m)

  high_same : (hi : ℤ) → le_z (pos n) (hi *ℤ pos d) ≡ le_z (pos m) (hi *ℤ pos c)
  high_same (pos a) = leb_same n (a * d) m (a * c) (le_scaled n (a * d) d m (a * c) c D e (mul_right_comm a d c)) (le_scaled m (a * c) c n (a * d) d C (sym e) (mul_right_comm a c d))
  high_same (negsuc a) = high_below (suc a * d) n (mul-pos (zero-lt-suc a) D) ∙ sym (high_below (suc a * c) m (mul-pos (zero-lt-suc a) C))

  pub spans_same : (lo hi : ℤ) → spans n d lo hi ≡ spans m c lo hi
  unfolding in_z
  spans_same lo hi = rw (low_same lo, high_same hi)

-- ---- n / d rounded down and rounded up
-- rounded down it is not below lo, and rounded up not above hi
abbrev pub cut_spans : ℕ → ℕ → ℤ → ℤ → Bool
cut_spans n d lo hi = ◌&&◌ (le_z lo (pos (n / d))) (le_z (pos (rounded_up n d)) hi)

module _ (n d : ℕ) (D : 0 < d) where
  low_cut : (lo : ℤ) → le_z (lo *ℤ pos d) (pos n) ≡ le_z lo (pos (n / d))
  low_cut (pos a) = leb_same (a * d) n a (n / d) (le-div_iff_mul-le D).1 (le-div_iff_mul-le D).0
  low_cut (negsuc a) = low_below (suc a * d) n

  high_cut : (hi : ℤ) → le_z (pos n) (hi *ℤ pos d) ≡ le_z (pos (rounded_up n d)) hi
  high_cut (pos a) =
      leb_same n (a * d) (rounded_up n d) a
      (λ h. let g : rounded_up n d < suc a = (div-lt_iff_lt-mul D).1 (omega arith) in omega arith)
      (λ h. let g : n + (d - 1) < suc a * d = (div-lt_iff_lt-mul D).0 (omega arith) in omega arith)
  high_cut (negsuc a) = high_below (suc a * d) n (mul-pos (zero-lt-suc a) D)

  pub spans_cut : (lo hi : ℤ) → spans n d lo hi ≡ cut_spans n d lo hi
  unfolding in_z
  spans_cut lo hi = rw (low_cut lo, high_cut hi)

-- ---- |±n − K·d| ≤ w·d, as n / d from K − w to K + w, K turned over with a negative answer
by_ends : (a b c : Bool) → (a ≡ true → b ≡ true) → (a ≡ true → c ≡ true) → (b ≡ true → c ≡ true → a ≡ true) → a ≡ b && c
by_ends true b c f g h = sym (rw (f refl, g refl) refl)
by_ends false true true f g h = h refl refl
by_ends false true false f g h = refl
by_ends false false c f g h = refl

abs_neg : (z : ℤ) → nat_abs (neg_ℤ z) ≡ nat_abs z
abs_neg (pos zero) = refl
abs_neg (pos (suc n)) = refl
abs_neg (negsuc n) = refl

turn_over : (s : Bool) (n d : ℕ) (key : ℤ) → nat_abs (signed s n -ℤ key *ℤ pos d) ≡ nat_abs (pos n -ℤ turned s key *ℤ pos d)
turn_over true n d key =
    ap nat_abs (same_by (is_minus (is_neg (is_pos n)) (is_mul (is_self key) (is_pos d))) (is_neg (is_minus (is_pos n) (is_mul (is_neg (is_self key)) (is_pos d)))) (omega arith))
    ∙ abs_neg (pos n -ℤ neg_ℤ key *ℤ pos d)
turn_over false n d key = refl

within : (n d : ℕ) (k w : ℤ) → le_z (pos (nat_abs (pos n -ℤ k *ℤ pos d))) (w *ℤ pos d) ≡ spans n d (k -ℤ w) (k +ℤ w)
unfolding in_z
within n d k w =
    let y = pos n -ℤ k *ℤ pos d in
    let gap = is_minus (is_pos n) (is_mul (is_self k) (is_pos d)) in
    let room = is_mul (is_self w) (is_pos d) in
    let low = is_mul (is_minus (is_self k) (is_self w)) (is_pos d) in
    let high = is_mul (is_add (is_self k) (is_self w)) (is_pos d) in
    by_ends (le_z (pos (nat_abs y)) (w *ℤ pos d)) (le_z ((k -ℤ w) *ℤ pos d) (pos n)) (le_z (pos n) ((k +ℤ w) *ℤ pos d))
    (λ t. yes_le_z ((k -ℤ w) *ℤ pos d) (pos n) (omega (zed, abs_parts y)))
    (λ t. yes_le_z (pos n) ((k +ℤ w) *ℤ pos d) (omega (zed, abs_parts y)))
    (λ a b. yes_le_z (pos (nat_abs y)) (w *ℤ pos d) (omega (zed, abs_parts y, apart y)))

scaled : (s : Bool) (scale n : ℕ) → pos scale *ℤ signed s n ≡ signed s (scale * n)
scaled true scale n = same_by (is_mul (is_pos scale) (is_neg (is_pos n))) (is_neg (is_pos (scale * n))) (omega arith)
scaled false scale n = refl

-- the comparison sees the exact value alone, whatever fraction a / c it is written as
pub near_value : (scale : ℕ) (x : Float) (s : Bool) (a c : ℕ) (key w : ℤ) → 0 < c → HasValue x s a c
    → near scale x key w ≡ spans (scale * a) c (turned s key -ℤ w) (turned s key +ℤ w)
unfolding near
near_value scale nan s a c key w C v = absurd v
near_value scale (inf t) s a c key w C v = absurd v
near_value scale (fin t m e) s a c key w C v =
    let n = scale * (m * up e) in
    let d = down e in
    ap (λ (z : ℤ). le_z (pos (nat_abs (z -ℤ key *ℤ pos d))) (w *ℤ pos d)) (scaled t scale (m * up e))
    ∙ ap (λ (z : ℕ). le_z (pos z) (w *ℤ pos d)) (turn_over t n d key)
    ∙ within n d (turned t key) w
    ∙ spans_same n d (scale * a) c (down_pos e) C (mul_assoc scale (m * up e) c ∙ ap (λ (z : ℕ). scale * z) v.1 ∙ sym (mul_assoc scale a d)) (turned t key -ℤ w) (turned t key +ℤ w)
    ∙ ap (λ (b : Bool). spans (scale * a) c (turned b key -ℤ w) (turned b key +ℤ w)) v.0
