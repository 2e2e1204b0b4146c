-- Figures lose nothing, and the difference of two is exact: one float subtraction of two whole numbers rounds their whole-number difference, once.
-- Assumes nothing.
use borrow.Author.Tests.{lt-ltb, le-ltb}
use Rattle.std.specs.Prelude.{◌≡◌, Bool, ◌&&◌, ℤ, nat_abs, ◌-ℤ◌, T, Float}
use Rattle.std.proofs.Math.Path.{refl, sym, ap}
use Rattle.std.proofs.Common.{◌∙◌, mul-one, mul-pos, mul-le-mul_right, mul-lt-mul_of_pos_right, zero-lt-suc, leb→le, le→leb, ltb→lt, lt→ltb}
use Rattle.std.proofs.Math.Bool.{true, false, not}
use Prim.Native.Nat.{ℕ, suc, ◌+◌, ◌-◌, ◌*◌, ◌^◌, ◌≤◌, ◌<◌}
use Rattle.std.proofs.Math.Nat.{mul_assoc, mul_comm, mul-sub, add-mul}
use Rattle.std.proofs.Math.Decide.{dec_lt}
use native.Mathlib.Omega.{arith}
use Rattle.std.proofs.Math.IntN.{pos, negsuc}
use Rattle.std.proofs.Math.Dec.{ltb}
use Rattle.std.specs.Float.Ieee.{nan, prec, up, down, round, sum, add, sub, neg, of_int, in_float}
use Rattle.std.specs.Float.{inf, fin, Format, binary64}
use Rattle.std.specs.Float.Ieee.Fits.{down_pos}
use Rattle.std.specs.Float.Ieee.Exact.{HasValue}
use Rattle.std.specs.Float.Ieee.Scale.{round_same}
use Rattle.std.specs.Float.Ieee.Back.{round_whole}
use Rattle.signed.specs.Zed.{same, is_self, is_diff, is_minus, apart, abs_parts}
use Rattle.marking.specs.Figures.{figure, below0, Exactly}

-- ---- a whole number up to 2^53 in size is a float
pub in_float_lem : (z : ℤ) → nat_abs z ≤ 2 ^ 53 → T (in_float binary64 z)
unfolding in_float
in_float_lem (pos n) h = le→leb n (2 ^ 53) h
in_float_lem (negsuc n) h = lt→ltb n (2 ^ 53) h

of_int_value : (f : Format) (z : ℤ) → T (in_float f z) → HasValue (of_int f z) (below0 z) (nat_abs z) 1
unfolding of_int in_float
of_int_value f (pos n) t = round_whole f false n (leb→le n (2 ^ prec f) t)
of_int_value f (negsuc n) t = round_whole f true (suc n) (ltb→lt n (2 ^ prec f) t)

-- "converted with no loss"
pub figure_exact : (z : ℤ) → nat_abs z ≤ 2 ^ 53 → Exactly z (figure z)
figure_exact z h = of_int_value binary64 z (in_float_lem z h)

-- ---- a sum of two fractions of one denominator c is that of their numerators
ltb_scale : (a b c : ℕ) → 0 < c → ltb (a * c) (b * c) ≡ ltb a b
ltb_scale a b c C = by (dec_lt a b)
  where
    by : Dec (a < b) → ltb (a * c) (b * c) ≡ ltb a b
    by (yes h) = lt-ltb (a * c) (b * c) (mul-lt-mul_of_pos_right h C) ∙ sym (lt-ltb a b h)
    by (no h) = let k : b ≤ a = omega (arith, h) in le-ltb (a * c) (b * c) (mul-le-mul_right c k) ∙ sym (le-ltb a b k)

sub_mul : (a b c : ℕ) → a * c - b * c ≡ (a - b) * c
sub_mul a b c = ap (λ (x : ℕ). x - b * c) (mul_comm a c) ∙ ap (λ (x : ℕ). c * a - x) (mul_comm b c) ∙ sym (mul-sub c a b) ∙ mul_comm c (a - b)

module _ (f : Format) where
  round_down : (s : Bool) (n c : ℕ) → 0 < c → round f s (n * c) c ≡ round f s n 1
  round_down s n c C = round_same f s (n * c) c n 1 C (zero-lt-suc 0) (mul-one (n * c))

  sum_scale : (s t : Bool) (a b c : ℕ) → 0 < c → sum f s (a * c) t (b * c) c ≡ sum f s a t b 1
  unfolding sum
  sum_scale s t a b c C =
      rw (ltb_scale a b c C, ltb_scale b a c C, ← add-mul a b c, sub_mul a b c, sub_mul b a c, round_down s (a + b) c C, round_down t (b - a) c C, round_down (s && ltb b a) (a - b) c C)

  add_whole : (x y : Float) (s t : Bool) (a b : ℕ) → HasValue x s a 1 → HasValue y t b 1 → add f x y ≡ sum f s a t b 1
  unfolding add
  add_whole nan y s t a b v w = absurd v
  add_whole (inf u) y s t a b v w = absurd v
  add_whole (fin u m e) nan s t a b v w = absurd w
  add_whole (fin u m e) (inf z) s t a b v w = absurd w
  add_whole (fin u m e) (fin z n d) s t a b v w =
      rw (v.0, w.0, over (m * up e) a (down e) (down d) v.1, over (n * up d) b (down d) (down e) w.1, mul_comm (down d) (down e))
      (sum_scale s t a b (down e * down d) (mul-pos (down_pos e) (down_pos d)))
    where
      over : (x a k l : ℕ) → x * 1 ≡ a * k → x * l ≡ a * (k * l)
      over x a k l h = ap (λ (z : ℕ). z * l) (sym (mul-one x) ∙ h) ∙ mul_assoc a k l

  -- ---- and the signed sizes sum to the whole-number difference
  less : (p q : ℕ) → p < q → of_int f (pos p -ℤ pos q) ≡ round f true (q - p) 1
  unfolding of_int
  less p q h =
      let e : pos p -ℤ pos q ≡ negsuc (q - suc p) = same (omega (arith, is_diff p q)) in
      let k : suc (q - suc p) ≡ q - p = omega arith in
      ap (of_int f) e ∙ ap (λ (n : ℕ). round f true n 1) k

  at_least : (p q : ℕ) → q ≤ p → of_int f (pos p -ℤ pos q) ≡ round f false (p - q) 1
  unfolding of_int
  at_least p q h = let e : pos p -ℤ pos q ≡ pos (p - q) = same (omega (arith, is_diff p q)) in ap (of_int f) e

  pos_pos : (p q : ℕ) → sum f false p true q 1 ≡ of_int f (pos p -ℤ pos q)
  unfolding sum
  pos_pos p q = by (dec_lt p q)
    where
      by : Dec (p < q) → sum f false p true q 1 ≡ of_int f (pos p -ℤ pos q)
      by (yes h) = rw (lt-ltb p q h) (sym (less p q h))
      by (no h) = let k : q ≤ p = omega (arith, h) in rw (le-ltb p q k) (sym (at_least p q k))

  neg_neg : (p q : ℕ) → sum f true p false q 1 ≡ of_int f (pos q -ℤ pos p)
  unfolding sum
  neg_neg p q = by (dec_lt p q) (dec_lt q p)
    where
      by : Dec (p < q) → Dec (q < p) → sum f true p false q 1 ≡ of_int f (pos q -ℤ pos p)
      by (yes h) d = let k : p ≤ q = omega arith in rw (lt-ltb p q h) (sym (at_least q p k))
      by (no h) (yes g) = let k : q ≤ p = omega arith in rw (le-ltb p q k, lt-ltb q p g) (sym (less q p g))
      by (no h) (no g) = let k : p ≡ q = omega (arith, h, g) in rw (k, le-ltb q q (omega arith)) (sym (at_least q q (omega arith)))

  signed_sum : (x y : ℤ) → sum f (below0 x) (nat_abs x) (not (below0 y)) (nat_abs y) 1 ≡ of_int f (x -ℤ y)
  unfolding sum of_int
  signed_sum (pos a) (pos b) = pos_pos a b
  signed_sum (pos a) (negsuc b) = refl
  signed_sum (negsuc a) (pos b) =
      let e : negsuc a -ℤ pos b ≡ negsuc (a + b) = same (omega (arith, is_minus (is_self (negsuc a)) (is_self (pos b)))) in
      let k : suc a + b ≡ suc (a + b) = omega arith in
      ap (λ (n : ℕ). round f true n 1) k ∙ sym (ap (of_int f) e)
  signed_sum (negsuc a) (negsuc b) = neg_neg (suc a) (suc b)

  neg_value : (x : Float) (s : Bool) (a : ℕ) → HasValue x s a 1 → HasValue (neg x) (not s) a 1
  unfolding neg
  neg_value nan s a v = absurd v
  neg_value (inf t) s a v = absurd v
  neg_value (fin t m e) s a v = (ap not v.0, v.1)

  -- both sides round x − y, so no bound on it is asked; x − x is +0
  pub sub_whole : (x y : ℤ) → T (in_float f x) → T (in_float f y) → sub f (of_int f x) (of_int f y) ≡ of_int f (x -ℤ y)
  unfolding sub
  sub_whole x y t u =
      add_whole (of_int f x) (neg (of_int f y)) (below0 x) (not (below0 y)) (nat_abs x) (nat_abs y) (of_int_value f x t) (neg_value (of_int f y) (below0 y) (nat_abs y) (of_int_value f y u))
      ∙ signed_sum x y

-- ---- differences of figures
pub difference_exact : (x y : ℤ) → nat_abs x ≤ 2 ^ 53 → nat_abs y ≤ 2 ^ 53 → nat_abs (x -ℤ y) ≤ 2 ^ 53 → Exactly (x -ℤ y) (sub binary64 (figure x) (figure y))
difference_exact x y h k l = rw (sub_whole binary64 x y (in_float_lem x h) (in_float_lem y k)) (figure_exact (x -ℤ y) l)

-- "the difference of two like figures .. equals the whole-number difference": with no condition on it, for figures up to 2^52 in size
pub like_figures : (x y : ℤ) → nat_abs x ≤ 2 ^ 52 → nat_abs y ≤ 2 ^ 52 → Exactly (x -ℤ y) (sub binary64 (figure x) (figure y))
like_figures x y h k = difference_exact x y (omega arith) (omega arith) (omega (arith, abs_parts x, abs_parts y, abs_parts (x -ℤ y), is_minus (is_self x) (is_self y), apart (x -ℤ y)))

-- and a figure less itself is +0
pub less_itself : (x : ℤ) → nat_abs x ≤ 2 ^ 53 → Exactly (pos 0) (sub binary64 (figure x) (figure x))
less_itself x h =
    let e : x -ℤ x ≡ pos 0 = same (omega (arith, is_minus (is_self x) (is_self x))) in
    rw (sub_whole binary64 x x (in_float_lem x h) (in_float_lem x h), e) (figure_exact (pos 0) (omega arith))
