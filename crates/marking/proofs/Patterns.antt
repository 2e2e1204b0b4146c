-- The three fields of a binary64 pattern, by shifts and masks, and the number that they stand for. Assumes nothing.
use mathlib.Core.Path.{◌≡◌, refl, sym, ◌∙◌}
use mathlib.Core.Bool.{Bool, true, false, cond}
use Prim.Native.Nat.{ℕ, zero, suc, ◌+◌, ◌-◌, ◌/◌, ◌%◌, ◌^◌, ◌≤◌, ◌<◌}
use native.Mathlib.Omega.{arith}
use lib.Dec.{T, leb, eqb, leb→le, le→leb, eqb→eq, not_T}
use lib.Pow.{field}
use lib.Bits.{bit_and, and_mask, mask_lt}
use lib.Ieee.{Float, nan, inf, fin, binary64, odd, fits, of_fields, of_bits, to_bits}
use lib.Ieee.Scale.{finite}
use lib.Ieee.Fits.{eq→eqb}
use lib.Ieee.Bits.{of_bits-to_bits, to_bits-lt, cond_no}
use lib.Ieee.Exact.{HasValue, odd_sign}
use Rattle.std.specs.Float.{float_is_finite}
use Rattle.marking.specs.Exact.{FieldsOf, sized}
use Rattle.marking.proofs.Spans.{same_test}

-- ---- the shifts and masks
of_bits_is : (b : ℕ) → of_bits binary64 b ≡ of_fields binary64 (leb (2 ^ 63) b) (b % 2 ^ 63 / 2 ^ 52) (b % 2 ^ 52)
unfolding of_bits
of_bits_is b = refl

sign_is : (b : ℕ) → b < 2 ^ 64 → eqb (b / 2 ^ 63) 1 ≡ leb (2 ^ 63) b
sign_is b h =
    same_test (eqb (b / 2 ^ 63) 1) (leb (2 ^ 63) b)
    (λ t. le→leb (2 ^ 63) b (above b (eqb→eq (b / 2 ^ 63) 1 t)))
    (λ t. eq→eqb (one b h (leb→le (2 ^ 63) b t)))
  where
    above : (b : ℕ) → b / 9223372036854775808 ≡ 1 → 9223372036854775808 ≤ b
    above b e = omega arith

    one : (b : ℕ) → b < 18446744073709551616 → 9223372036854775808 ≤ b → b / 9223372036854775808 ≡ 1
    one b e f = omega arith

exponent_is : (b : ℕ) → bit_and (b / 2 ^ 52) 2047 ≡ b % 2 ^ 63 / 2 ^ 52
exponent_is b = and_mask (b / 2 ^ 52) 11 ∙ sym (field b 11 52)

pub fields_are : (x : Float) → T (fits binary64 x)
    → FieldsOf x record { negative = eqb (to_bits binary64 x / 2 ^ 63) 1; exponent = bit_and (to_bits binary64 x / 2 ^ 52) 2047; fraction = bit_and (to_bits binary64 x) 4503599627370495 }
fields_are x F =
    let b = to_bits binary64 x in
    record {
      is = rw (sign_is b (to_bits-lt binary64 x F), exponent_is b, and_mask b 52) (sym (of_bits_is b) ∙ of_bits-to_bits binary64 x F);
      exponent_lt = mask_lt (b / 2 ^ 52) 11;
      fraction_lt = mask_lt b 52;
    }

-- ---- what the fields stand for: below 2047 a number
pub fields_value : (s : Bool) (e f : ℕ) → e < 2047 → HasValue (of_fields binary64 s e f) s (sized e f) (2 ^ 1074)
unfolding of_fields
fields_value s zero f h = odd_sign 53 s f 0 1074
fields_value s (suc e) f h =
    rw (cond_no (eqb (suc e) 2047) (cond (eqb f 0) (inf s) nan) (odd 53 s (2 ^ 52 + f) e 1074) (not_T (eqb (suc e) 2047) (λ t. under e h (eqb→eq (suc e) 2047 t))), less_one e)
    (odd_sign 53 s (2 ^ 52 + f) e 1074)
  where
    under : (e : ℕ) → suc e < 2047 → suc e ≡ 2047 → ⊥
    under e h i = omega arith

    less_one : (e : ℕ) → suc e - 1 ≡ e
    less_one e = omega arith

-- 2047: none
pub top_none : (s : Bool) (f : ℕ) → finite (of_fields binary64 s 2047 f) ≡ false
unfolding of_fields
top_none s f = go (eqb f 0)
  where
    go : (b : Bool) → finite (cond b (inf s) nan) ≡ false
    go true = refl
    go false = refl

-- std's test of a finite number
pub finite_same : (x : Float) → float_is_finite x ≡ finite x
unfolding float_is_finite
finite_same nan = refl
finite_same (inf s) = refl
finite_same (fin s m e) = refl
