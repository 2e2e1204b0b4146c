-- A number in decimal, with or without digits after a point, is read as its digits and their place: w.f with k decimals is w·10^k + f over 10^k. Assumes nothing.
use Rattle.std.specs.Prelude.{ℕ, zero, suc, ◌+◌, ◌*◌, ◌-◌, ◌/◌, ◌%◌, ◌<◌, ◌≤◌, ◌≡◌, refl, Bool, true, false, List, [], ◌∷◌, ◌++◌}
use Rattle.std.proofs.Common.{◌∙◌, ap, arith, le-leb, ne_eqb}
use Rattle.std.proofs.lemmas.Bool.{lt-leb}
use Rattle.text.specs.FoldLaws.{Runs, and_then}
use Rattle.text.specs.Decimal.{decimal}
use Rattle.text.specs.DecimalLaws.{digits_run}
use Rattle.text.specs.WholesLaws.{is_digit_lem}
use Rattle.typed.specs.Typed.{takes, first_part, next_whole, next_fraction, step_part, part_of}
use Rattle.typed.specs.declared.Part.{Part}
use Rattle.typed.specs.declared.Part.TheVariants.{Start, Whole, Point, Fraction}

-- f in k digits, and w with k zeros behind it
abbrev pub fixed : ℕ → ℕ → List ℕ
fixed zero f = []
fixed (suc k) f = fixed k (f / 10) ++ ((48 + f % 10) ∷ [])

abbrev pub shifted : ℕ → ℕ → ℕ
shifted w zero = w
shifted w (suc k) = 10 * shifted w k

taken : (m d : ℕ) → d < 10 → 10 * m + d < 1000000000000000 → takes m (48 + d) ≡ true
unfolding takes
taken m d h k =
    let e : 48 + d - 48 ≡ d = omega arith in
    rw (is_digit_lem d h, e, le-leb (10 * m + d) 999999999999999 (omega arith)) refl

at : ℕ → Bool → Part
at v true = Whole v
at v false = Start

first : (d : ℕ) → d < 10 → d < 1000000000000000 → step_part (at 0 false) (48 + d) ≡ at d true
unfolding at first_part
first d h k = let e : 48 + d - 48 ≡ d = omega arith in rw (taken 0 d h (omega arith), e) refl

next : (n : ℕ) → 10 ≤ n → n < 1000000000000000 → step_part (at (n / 10) true) (48 + n % 10) ≡ at n true
unfolding at next_whole
next n h k =
    let e : 48 + n % 10 - 48 ≡ n % 10 = omega arith in
    let q : 10 * (n / 10) + n % 10 ≡ n = omega arith in
    rw (ne_eqb (48 + n % 10) 46 (omega arith), taken (n / 10) (n % 10) (omega arith) (omega arith), e, q) refl

whole_run : (w : ℕ) → w < 1000000000000000 → Runs step_part Start (decimal w) (Whole w)
unfolding at
whole_run w h = digits_run step_part at (λ n. n < 1000000000000000) first next (λ n a b. omega arith) w h

pub reads_whole : (w : ℕ) → w < 1000000000000000 → part_of (decimal w) ≡ Whole w
unfolding part_of
reads_whole w h = (whole_run w h).to

-- after the point
digit_more : (m k d n : ℕ) → k < 22 → d < 10 → 10 * m + d ≡ n → n < 1000000000000000 → next_fraction m k (48 + d) ≡ Fraction n (k + 1)
unfolding next_fraction
digit_more m k d n h i q b = let e : 48 + d - 48 ≡ d = omega arith in rw (lt-leb 22 k h, taken m d i (omega arith), e, q) refl

fraction_run : (w k f : ℕ) → k < 22 → f < shifted 1 (suc k) → shifted w (suc k) + f < 1000000000000000
    → Runs step_part (Point w) (fixed (suc k) f) (Fraction (shifted w (suc k) + f) (suc k))
fraction_run w zero f h i b = record { to = digit_more w 0 (f % 10) (10 * w + f) h (omega arith) (omega arith) b }
fraction_run w (suc k) f h i b =
    let e : suc k + 1 ≡ suc (suc k) = omega arith in
    and_then (fraction_run w k (f / 10) (omega arith) (omega arith) (omega arith))
    (record { to = digit_more (shifted w (suc k) + f / 10) (suc k) (f % 10) (shifted w (suc (suc k)) + f) h (omega arith) (omega arith) b ∙ ap (Fraction (shifted w (suc (suc k)) + f)) e })

pub reads_fraction : (w k f : ℕ) → k < 22 → w < 1000000000000000 → f < shifted 1 (suc k) → shifted w (suc k) + f < 1000000000000000
    → part_of (decimal w ++ (46 ∷ fixed (suc k) f)) ≡ Fraction (shifted w (suc k) + f) (suc k)
unfolding part_of next_whole
reads_fraction w k f h v i b = (and_then (whole_run w v) (record { to = (fraction_run w k f h i b).to })).to
