-- What the reading of a typed number keeps; bit patterns. Assumes nothing.
use Prim.Native.Nat.{ℕ, ◌+◌, ◌*◌, ◌-◌, ◌/◌, ◌%◌, ◌^◌, ◌≤◌, ◌<◌}
use mathlib.Core.Path.{◌≡◌, refl, sym, ◌∙◌, ap}
use mathlib.Core.Bool.{Bool, true, false, ◌&&◌, not, cond, true≢false}
use mathlib.Core.List.{List, [], ◌∷◌}
use Rattle.std.specs.Prelude.{Some, None}
use native.Mathlib.Omega.{arith}
use borrow.Author.Tests.{leb-true, leb-false, eq-eqb, ne_eqb, eqb-true}
use lib.Dec.{T, leb, eqb, le→leb}
use lib.IntN.{pos}
use lib.ListN.{length, get_or, take, drop, length-drop}
use Rattle.std.proofs.Common.{add-one, drop-cons}
use Rattle.std.proofs.Math.Seq.{drop-length}
use lib.Seq.{take_all}
use lib.Pow.{field}
use lib.Bits.{bit_and, and_mask}
use lib.Ieee.{Float, nan, inf, fin, binary64, is_nan, of_bits, nan_bits, div, in_float}
use lib.Ieee.Bits.{nan_bits_is}
use Rattle.text.specs.Fold.{run}
use Rattle.text.specs.Wholes.{is_digit, minus_first, may_follow}
use Rattle.text.specs.WholesLaws.{and_left, and_right, digit_range}
use Rattle.typed.specs.Typed.{takes, first_part, next_whole, next_fraction, step_part, part_of, Small, hex_digit, step_hex, is_pattern}
use Rattle.typed.specs.declared.Part.{Part}
use Rattle.typed.specs.declared.Part.TheVariants.{Start, Whole, Point, Fraction, Bad}

-- ---- 15 digits, 22 of them after the point
pub taken_most : (m b : ℕ) → takes m b ≡ true → 10 * m + (b - 48) < 1000000000000000
unfolding takes
taken_most m b e = omega (arith, leb-true (10 * m + (b - 48)) 999999999999999 (and_right (is_digit b) (leb (10 * m + (b - 48)) 999999999999999) e))

pub taken_digit : (m b : ℕ) → takes m b ≡ true → 48 ≤ b
unfolding takes
taken_digit m b e = (digit_range b (and_left (is_digit b) (leb (10 * m + (b - 48)) 999999999999999) e)).0

small_if : (t : Bool) (a b : Part) → (t ≡ true → Small a) → (t ≡ false → Small b) → Small (cond t a b)
small_if true a b h k = h refl
small_if false a b h k = k refl

small_next : (m k b : ℕ) → Small (next_fraction m k b)
unfolding next_fraction
small_next m k b =
    small_if (leb 22 k) Bad (cond (takes m b) (Fraction (10 * m + (b - 48)) (k + 1)) Bad) (λ e. tt)
    (λ e. small_if (takes m b) (Fraction (10 * m + (b - 48)) (k + 1)) Bad (λ q. (taken_most m b q, omega (arith, leb-false 22 k e))) (λ q. tt))

small_step : (s : Part) (b : ℕ) → Small s → Small (step_part s b)
unfolding first_part next_whole
small_step Start b h = small_if (takes 0 b) (Whole (b - 48)) Bad (λ q. omega (arith, taken_most 0 b q)) (λ q. tt)
small_step (Whole m) b h =
    small_if (eqb b 46) (Point m) (cond (takes m b) (Whole (10 * m + (b - 48))) Bad) (λ e. h)
    (λ e. small_if (takes m b) (Whole (10 * m + (b - 48))) Bad (taken_most m b) (λ q. tt))
small_step (Point m) b h = small_next m 0 b
small_step (Fraction m k) b h = small_next m k b
small_step Bad b h = tt

small_run : (s : Part) (text : List ℕ) → Small s → Small (run step_part s text)
small_run s [] h = h
small_run s (b ∷ text) h = small_run (step_part s b) text (small_step s b h)

pub small : (text : List ℕ) → Small (part_of text)
unfolding part_of
small text = small_run Start text tt

pub in_float_lem : (m : ℕ) → m < 1000000000000000 → T (in_float binary64 (pos m))
unfolding in_float
in_float_lem m h = le→leb m 9007199254740992 (omega arith)

-- ---- a byte among others
among_most : (b lo hi : ℕ) → (leb lo b && leb b hi) ≡ true → b ≤ hi
among_most b lo hi e =
    let q : leb lo b ≡ true = and_left (leb lo b) (leb b hi) e in
    leb-true b hi (rw q at e)

hex_cond : (t u v : Bool) (b d : ℕ) → (t ≡ true → b ≤ 57) → (u ≡ true → b ≤ 102) → (v ≡ true → b ≤ 70)
    → cond t (Some (b - 48)) (cond u (Some (b - 87)) (cond v (Some (b - 55)) None)) ≡ Some d → d ≤ 15
hex_cond true u v b d h k l e = let q = h refl in let z : b - 48 ≡ d = cc in omega arith
hex_cond false true v b d h k l e = let q = k refl in let z : b - 87 ≡ d = cc in omega arith
hex_cond false false true b d h k l e = let q = l refl in let z : b - 55 ≡ d = cc in omega arith
hex_cond false false false b d h k l e = cc

pub hex_most : (b d : ℕ) → hex_digit b ≡ Some d → d ≤ 15
unfolding hex_digit
hex_most b d = hex_cond (leb 48 b && leb b 57) (leb 97 b && leb b 102) (leb 65 b && leb b 70) b d (among_most b 48 57) (among_most b 97 102) (among_most b 65 70)

-- ---- a pattern's first byte
pub is_no : (l : List ℕ) → (length l ≡ 17 → ⊥) → false ≡ is_pattern l
unfolding is_pattern
is_no l h = rw (ne_eqb (length l) 17 h) refl

pub is_yes : (l : List ℕ) → length l ≡ 17 → eqb (get_or l 0 0) 120 ≡ is_pattern l
unfolding is_pattern
is_yes l h = rw (eq-eqb (length l) 17 h) refl

pub long_pattern : (l : List ℕ) → is_pattern l ≡ true → 1 ≤ length l
unfolding is_pattern
long_pattern l e = omega (arith, eqb-true (length l) 17 (and_left (eqb (length l) 17) (eqb (get_or l 0 0) 120) e))

-- ---- bit patterns
field_is : (b : ℕ) → bit_and (b / 2 ^ 52) 2047 ≡ b % 2 ^ 63 / 2 ^ 52
field_is b = and_mask (b / 2 ^ 52) 11 ∙ sym (field b 11 52)

nan_is : (b : ℕ) → nan_bits binary64 b ≡ (eqb (bit_and (b / 2 ^ 52) 2047) 2047 && not (eqb (bit_and b 4503599627370495) 0))
unfolding nan_bits
nan_is b = ap (λ (k : ℕ). eqb k 2047 && not (eqb (b % 2 ^ 52) 0)) (sym (field_is b)) ∙ ap (λ (k : ℕ). eqb (bit_and (b / 2 ^ 52) 2047) 2047 && not (eqb k 0)) (sym (and_mask b 52))

pub nan_yes : (b : ℕ) → bit_and (b / 2 ^ 52) 2047 ≡ 2047 → not (eqb (bit_and b 4503599627370495) 0) ≡ nan_bits binary64 b
nan_yes b h = sym (nan_is b ∙ ap (λ (t : Bool). t && not (eqb (bit_and b 4503599627370495) 0)) (eq-eqb (bit_and (b / 2 ^ 52) 2047) 2047 h))

pub nan_no : (b : ℕ) → (bit_and (b / 2 ^ 52) 2047 ≡ 2047 → ⊥) → eqb (bit_and (b / 2 ^ 52) 2047) 2047 ≡ nan_bits binary64 b
nan_no b h = rw (nan_is b, ne_eqb (bit_and (b / 2 ^ 52) 2047) 2047 h) refl

one_nan : (x : Float) → is_nan x ≡ true → nan ≡ x
unfolding is_nan
one_nan nan e = refl
one_nan (inf s) e = absurd (true≢false (sym e))
one_nan (fin s m k) e = absurd (true≢false (sym e))

pub nan_value : (b : ℕ) → nan_bits binary64 b ≡ true → div binary64 (of_bits binary64 0) (of_bits binary64 0) ≡ of_bits binary64 b
unfolding div of_bits
nan_value b e = one_nan (of_bits binary64 b) (sym (nan_bits_is binary64 b) ∙ e)

pub from_asks : (b : ℕ) → nan_bits binary64 b ≡ false → T (not (nan_bits binary64 b))
from_asks b e = rw e tt

-- ---- the text after its first byte
pub tail_is : (l : List ℕ) → take (length l - 1) (drop 1 l) ≡ drop 1 l
tail_is l = take_all (length l - 1) (drop 1 l) (omega (arith, length-drop 1 l))

pub first_long : (l : List ℕ) → minus_first l ≡ true → 1 ≤ length l
first_long [] e = absurd (true≢false (sym e))
first_long (b ∷ l) e = omega arith

-- ---- a digit's byte
pub digit_least : (b : ℕ) → is_digit b ≡ true → 48 ≤ b
digit_least b e = (digit_range b e).0

-- ---- where no digit counts as seen, any may follow that keeps the limit
pub unseen : (limit v d : ℕ) → may_follow limit false v d ≡ leb (10 * v + d) limit
unfolding may_follow
unseen limit v d = go (eqb v 0)
  where
    go : (t : Bool) → (not (t && false) && leb (10 * v + d) limit) ≡ leb (10 * v + d) limit
    go true = refl
    go false = refl

-- ---- a machine over what is left of a text
pub run_next : {S : Type 0} (f : S → ℕ → S) (s : S) (l : List ℕ) (i : ℕ) → i < length l → run f s (drop i l) ≡ run f (f s (get_or l i 0)) (drop (i + 1) l)
run_next f s l i h = rw (add-one i, drop-cons l i 0 h) refl

pub run_end : {S : Type 0} (f : S → ℕ → S) (s : S) (l : List ℕ) → run f s (drop (length l) l) ≡ s
run_end f s l = rw (drop-length l) refl

pub hex_stays : (l : List ℕ) → run step_hex None l ≡ None
hex_stays [] = refl
hex_stays (b ∷ l) = hex_stays l
