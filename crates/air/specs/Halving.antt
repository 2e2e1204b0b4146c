-- The halving rule (document 01, "Temperature from heat") over any test of whole kelvins, and the highest number that passes a test.
use Rattle.std.specs.Prelude.{Bool, cond, List, [], ◌∷◌, ◌++◌, ◌≡◌, ℕ, zero, suc, ◌+◌, ◌-◌, ◌/◌, ◌≤◌, leb, length, replicate}
use Rattle.std.proofs.lemmas.List.Edits.{sets}
use Rattle.rows.specs.Limits.{first_kelvin, last_kelvin}
use Rattle.air.specs.Limits.{look_places}

-- look at the middle, half the sum rounded down
abbrev pub middle : ℕ → ℕ → ℕ
middle lo hi = (lo + hi) / 2

-- what a search leaves: the lower of its last two ends, and its looks in order
pub record SearchLeft : Type 0 where
  pub row : ℕ
  pub looks : List ℕ

abbrev pub lookless : ℕ → SearchLeft
lookless lo = record { row = lo; looks = [] }

abbrev pub looked : ℕ → SearchLeft → SearchLeft
looked m s = record { row = s.row; looks = m ∷ s.looks }

-- stop when the ends differ by 1; else look at the middle, and ask the same rule of the upper half if the test passes there, else of the lower.
-- The first number bounds the looks: the kept half is always narrower, so the width is enough.
unfoldable pub halvings : (ℕ → Bool) → ℕ → ℕ → ℕ → SearchLeft
halvings p zero lo hi = lookless lo
halvings p (suc n) lo hi =
    let upper : SearchLeft = halvings p n (middle lo hi) hi in
    let lower : SearchLeft = halvings p n lo (middle lo hi) in
    let more : SearchLeft = looked (middle lo hi) (cond (p (middle lo hi)) upper lower) in
    cond (leb hi (lo + 1)) (lookless lo) more

unfoldable pub halving : (ℕ → Bool) → ℕ → ℕ → SearchLeft
halving p lo hi = halvings p (hi - lo) lo hi

-- the highest number from `from` to `to` that passes the test, by counting down
unfoldable pub highest_by : (ℕ → Bool) → ℕ → ℕ → ℕ
highest_by p from zero = from
highest_by p from (suc n) = cond (p (from + suc n)) (from + suc n) (highest_by p from n)

unfoldable pub highest : (ℕ → Bool) → ℕ → ℕ → ℕ
highest p from to = highest_by p from (to - from)

-- a test that a program makes of a whole kelvin of the table answers as p does
pub record Tests (answers : ℕ → Bool → Type 0) (p : ℕ → Bool) : Type 0 where
  pub as_p : (k : ℕ) (b : Bool) → first_kelvin ≤ k → k ≤ last_kelvin → answers k b → b ≡ p k

-- looks in eleven places, 0 where unused
unfoldable pub eleven : List ℕ → List ℕ
eleven looks = looks ++ replicate (look_places - length looks) 0

-- a lent list has room for all the looks of a search over the test p between lo and hi, from the place `at` on
pub record Room (p : ℕ → Bool) (lo hi at : ℕ) (list : List ℕ) : Type 0 where
  pub room : at + length (halving p lo hi).looks ≤ length list

-- what that search did: the row that it kept, and the lent list with its looks
pub record Halved (p : ℕ → Bool) (lo hi at : ℕ) (before : List ℕ) (row : ℕ) (after : List ℕ) : Type 0 where
  pub row_is : row ≡ (halving p lo hi).row
  pub list_is : after ≡ sets before at (halving p lo hi).looks
