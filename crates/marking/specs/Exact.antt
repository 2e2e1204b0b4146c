-- The exact size of an answer in whole numbers: what the leaves of marking promise one another. Definitions only.
use Rattle.std.specs.Prelude.{◌≡◌, Bool, true, false, ℕ, zero, suc, ◌+◌, ◌-◌, ◌*◌, ◌/◌, ◌^◌, ◌<◌, min, max, ℤ, pos, neg_ℤ, ◌*ℤ◌, Float, Option, Some, None}
use Rattle.std.specs.Float.{binary64}
use Rattle.std.specs.Float.Ieee.{of_fields}
use Rattle.signed.specs.Zed.{in_z}
use Rattle.marking.specs.declared.Typed.{Typed}
use Rattle.marking.specs.declared.Typed.TheVariants.{Kelvins, Content, Blank}
use Rattle.marking.specs.declared.exact.Fields.{Fields}
use Rattle.marking.specs.declared.exact.Cut.{Cut}

-- a typed answer's number with the scale of its kind
abbrev pub scaled_of : Typed → Option (ℕ × Float)
scaled_of (Kelvins x) = Some (1000, x)
scaled_of (Content x) = Some (100000, x)
scaled_of Blank = None

-- the sign, exponent and fraction fields of x
pub record FieldsOf (x : Float) (f : Fields) : Type 0 where
  pub is : of_fields binary64 f.negative f.exponent f.fraction ≡ x
  pub exponent_lt : f.exponent < 2048
  pub fraction_lt : f.fraction < 2 ^ 52

-- the fraction field with the leading one put back, which a subnormal number has not
abbrev pub significand : ℕ → ℕ → ℕ
significand zero fraction = fraction
significand (suc exponent) fraction = 2 ^ 52 + fraction

-- the size of these fields in units of 2^−1074
abbrev pub sized : ℕ → ℕ → ℕ
sized exponent fraction = significand exponent fraction * 2 ^ (exponent - 1)

-- the key, turned over with an answer below zero so that its size can be compared
abbrev pub turned : Bool → ℤ → ℤ
turned true key = neg_ℤ key
turned false key = key

-- n / d lies from lo to hi
abbrev pub spans : ℕ → ℕ → ℤ → ℤ → Bool
spans n d lo hi = in_z (lo *ℤ pos d) (hi *ℤ pos d) (pos n)

-- binary places of the scaled significand that are cut off: those below one unit; past the 70th all are 0, and a size of which fewer than twelve stand there is past every window
abbrev pub places : ℕ → ℕ
places exponent = max 12 (min 70 (1075 - exponent))

-- n / d rounded up
abbrev pub rounded_up : ℕ → ℕ → ℕ
rounded_up n d = (n + (d - 1)) / d

-- n / d rounded down and rounded up
pub record CutOf (n d : ℕ) (c : Cut) : Type 0 where
  pub floor : c.floor ≡ n / d
  pub ceiling : c.ceiling ≡ rounded_up n d
