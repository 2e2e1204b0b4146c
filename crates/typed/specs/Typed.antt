-- A typed number as text (docs/PROGRAM.md): digits with an optional minus sign and an optional point, at most 15 of them significant and at most 22 after the point,
-- read as one division rounds; or `x` and the 16 hexadecimal digits of a bit pattern. That w.f with k decimals is read as w·10^k + f over 10^k is in TypedLaws.antt.
use Rattle.std.specs.Prelude.{ℕ, ◌+◌, ◌*◌, ◌-◌, ◌<◌, ◌^◌, Bool, true, false, ◌&&◌, cond, List, ltb, leb, eqb, drop, get_or, length, pos, Float, Option, Some, None}
use Rattle.std.specs.Float.{binary64}
use Rattle.std.specs.Float.Ieee.{div, neg, of_int, of_bits}
use Rattle.text.specs.Fold.{run}
use Rattle.text.specs.Wholes.{is_digit, minus_first}
use Rattle.typed.specs.declared.Part.{Part}
use Rattle.typed.specs.declared.Part.TheVariants.{Start, Whole, Point, Fraction, Bad}

-- a digit that keeps the digits of m at 15 significant ones
unfoldable pub takes : ℕ → ℕ → Bool
takes m b = is_digit b && leb (10 * m + (b - 48)) 999999999999999

-- the first byte, one before the point, one after k digits behind the point
unfoldable pub first_part : ℕ → Part
first_part b = cond (takes 0 b) (Whole (b - 48)) Bad

unfoldable pub next_whole : ℕ → ℕ → Part
next_whole m b = cond (eqb b 46) (Point m) (cond (takes m b) (Whole (10 * m + (b - 48))) Bad)

unfoldable pub next_fraction : ℕ → ℕ → ℕ → Part
next_fraction m k b = cond (leb 22 k) Bad (cond (takes m b) (Fraction (10 * m + (b - 48)) (k + 1)) Bad)

-- one byte more
abbrev pub step_part : Part → ℕ → Part
step_part Start b = first_part b
step_part (Whole m) b = next_whole m b
step_part (Point m) b = next_fraction m 0 b
step_part (Fraction m k) b = next_fraction m k b
step_part Bad b = Bad

-- the parts of a text with no sign
unfoldable pub part_of : List ℕ → Part
part_of text = run step_part Start text

-- at most 15 significant digits, at most 22 after the point
abbrev pub Small : Part → Type 0
Small Start = Unit {0}
Small (Whole m) = m < 1000000000000000
Small (Point m) = m < 1000000000000000
Small (Fraction m k) = (m < 1000000000000000) × (k < 23)
Small Bad = Unit {0}

-- m / 10^k, rounded once
unfoldable pub quotient_of : ℕ → ℕ → Float
quotient_of m k = div binary64 (of_int binary64 (pos m)) (of_int binary64 (pos (10 ^ k)))

-- with its sign
abbrev pub with_sign : Bool → Float → Float
with_sign true x = neg x
with_sign false x = x

-- the number that the parts say: digits on both sides of a point, if there is one
abbrev pub finish_of : Bool → Part → Option Float
finish_of s Start = None
finish_of s (Whole m) = Some (with_sign s (quotient_of m 0))
finish_of s (Point m) = None
finish_of s (Fraction m k) = Some (with_sign s (quotient_of m k))
finish_of s Bad = None

-- with or without a minus sign
unfoldable pub decimal_of : List ℕ → Option Float
decimal_of text = cond (minus_first text) (finish_of true (part_of (drop 1 text))) (finish_of false (part_of text))

-- the value of a hexadecimal digit
unfoldable pub hex_digit : ℕ → Option ℕ
hex_digit b =
    cond (leb 48 b && leb b 57) (Some (b - 48))
    (cond (leb 97 b && leb b 102) (Some (b - 87))
    (cond (leb 65 b && leb b 70) (Some (b - 55)) None))

-- one digit more of a bit pattern
abbrev pub next_hex : ℕ → Option ℕ → Option ℕ
next_hex v (Some d) = cond (ltb v 1152921504606846976) (Some (16 * v + d)) None
next_hex v None = None

abbrev pub step_hex : Option ℕ → ℕ → Option ℕ
step_hex (Some v) b = next_hex v (hex_digit b)
step_hex None b = None

-- the bits that the digits are
unfoldable pub hex_of : List ℕ → Option ℕ
hex_of text = run step_hex (Some 0) text

-- the float of a bit pattern
abbrev pub pattern_of : Option ℕ → Option Float
pattern_of (Some v) = Some (of_bits binary64 v)
pattern_of None = None

-- x and 16 more bytes
unfoldable pub is_pattern : List ℕ → Bool
is_pattern text = eqb (length text) 17 && eqb (get_or text 0 0) 120

-- the number that a text is
unfoldable pub number_of : List ℕ → Option Float
number_of text = cond (is_pattern text) (pattern_of (hex_of (drop 1 text))) (decimal_of text)
