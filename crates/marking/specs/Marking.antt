-- When a typed answer counts (document 01, "Figures for the pages and typed answers"; 11 and 12 of "Refusal numbers"). Definitions only.
-- A key and a window are whole thousandths of a kelvin for kelvins, and whole 0.00001 C.H.U./lb for a specific content.
use Rattle.std.specs.Prelude.{Bool, true, false, not, ◌||◌, List, [], ◌∷◌, ℕ, ◌*◌, ℤ, pos, neg_ℤ, nat_abs, ◌-ℤ◌, ◌*ℤ◌, Float, Result}
use Rattle.std.specs.Int.Signed.{le_z}
use Rattle.std.specs.Float.{nan, inf, fin}
use Rattle.std.specs.Float.Ieee.{up, down}
use Rattle.std.specs.Float.Ieee.Scale.{finite}
use Rattle.signed.specs.Zed.{in_z}
use Rattle.refusal.specs.declared.Refusal.{Refusal}
use Rattle.refusal.specs.Refusals.{Told, told_as, Line, ◌when◌, first}
use Rattle.marking.specs.declared.Typed.{Typed}
use Rattle.marking.specs.declared.Typed.TheVariants.{Kelvins, Content, Blank}
use Rattle.marking.specs.declared.Marked.{Marked}
use Rattle.marking.specs.declared.Marked.TheVariants.{Counts, Misses}

-- n with a float's sign; −0 is 0
abbrev pub signed : Bool → ℕ → ℤ
signed true n = neg_ℤ (pos n)
signed false n = pos n

-- the exact value of a float is numerator / denominator: m · 2^e with its sign. An infinity and a NaN have none, and 0 / 1 stands there
abbrev pub numerator : Float → ℤ
numerator nan = pos 0
numerator (inf s) = pos 0
numerator (fin s m e) = signed s (m * up e)

abbrev pub denominator : Float → ℕ
denominator nan = 1
denominator (inf s) = 1
denominator (fin s m e) = down e

-- "|scale·x − K| ≤ w for the exact value of x": both sides times the denominator, so whole numbers are compared and nothing is rounded
unfoldable pub near : ℕ → Float → ℤ → ℤ → Bool
near scale x key window = le_z (pos (nat_abs (pos scale *ℤ numerator x -ℤ key *ℤ pos (denominator x)))) (window *ℤ pos (denominator x))

-- "Scale: 1,000 or 100,000"
abbrev pub counts : Typed → ℤ → ℤ → Bool
counts (Kelvins x) key window = near 1000 x key window
counts (Content x) key window = near 100000 x key window
counts Blank key window = false

-- "key K (−10^12 to 10^12) and window w (0 to 100,000)"
abbrev pub key_in_range : ℤ → Bool
key_in_range key = in_z (neg_ℤ (pos 1000000000000)) (pos 1000000000000) key

abbrev pub window_in_range : ℤ → Bool
window_in_range window = in_z (pos 0) (pos 100000) window

-- refusal 12, "window or key outside range"
unfoldable pub out_of_range : ℤ → ℤ → Bool
out_of_range key window = not (window_in_range window) || not (key_in_range key)

-- refusal 11, "answer blank, infinite or not a number"
abbrev pub no_number : Typed → Bool
no_number (Kelvins x) = not (finite x)
no_number (Content x) = not (finite x)
no_number Blank = true

-- "Marking: 12, 11"
abbrev pub order : Typed → ℤ → ℤ → List Line
order typed key window = 12 when out_of_range key window ∷ 11 when no_number typed ∷ []

-- what the mark of a typed answer tells: the first refusal of the order that holds, else whether the answer counts
abbrev pub marked : Typed → ℤ → ℤ → Told Bool
marked typed key window = first (order typed key window) (counts typed key window)

-- each case of a mark: whether the answer counts, or the refusal's number
abbrev pub does_count : Marked → Bool
does_count Counts = true
does_count Misses = false

abbrev pub paper_mark : Result Marked Refusal → Told Bool
paper_mark = told_as does_count
