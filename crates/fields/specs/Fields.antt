-- The fields of a line, parted by tabs, and the whole numbers that they are, each written in decimal as a number is printed.
use Rattle.std.specs.Prelude.{ℕ, suc, ◌+◌, min, Bool, true, false, cond, ◌≡◌, List, [], ◌∷◌, leb, eqb, length, drop, get_or, ℤ, pos, Option, Some, None}
use Rattle.std.proofs.lemmas.List.Edits.{sets}
use Rattle.text.specs.Wholes.{whole_of}

-- how many bytes stand before the first that is c: all, where none is
abbrev pub span_to : ℕ → List ℕ → ℕ
span_to c [] = 0
span_to c (b ∷ bs) = cond (eqb b c) 0 (suc (span_to c bs))

-- before the first tab
abbrev pub span_of : List ℕ → ℕ
span_of l = span_to 9 l

-- a carriage return stands in the line
abbrev pub holds_return : List ℕ → Bool
holds_return [] = false
holds_return (b ∷ bs) = cond (eqb b 13) true (holds_return bs)

-- a byte in front of the first field
abbrev pub on_head : ℕ → List (List ℕ) → List (List ℕ)
on_head b [] = (b ∷ []) ∷ []
on_head b (f ∷ fs) = (b ∷ f) ∷ fs

-- the fields of a text: at least one
abbrev pub fields_of : List ℕ → List (List ℕ)
fields_of [] = [] ∷ []
fields_of (b ∷ bs) = cond (eqb b 9) ([] ∷ fields_of bs) (on_head b (fields_of bs))

-- the fields from a place on; none where the place is past the line's end
unfoldable pub fields_from : List ℕ → ℕ → List (List ℕ)
fields_from line p = cond (leb p (length line)) (fields_of (drop p line)) []

-- the numbers of the fields, 0 for one that is none
abbrev pub value_of : Option ℤ → ℤ
value_of (Some z) = z
value_of None = pos 0

abbrev pub values_of : List (List ℕ) → List ℤ
values_of [] = []
values_of (f ∷ fs) = value_of (whole_of f) ∷ values_of fs

-- how many numbers the fields are, from n on; None where one is none
abbrev pub count_next : Option ℤ → Option ℕ → Option ℕ
count_next (Some z) r = r
count_next None r = None

abbrev pub count_all : ℕ → List (List ℕ) → Option ℕ
count_all n [] = Some n
count_all n (f ∷ fs) = count_next (whole_of f) (count_all (n + 1) fs)

-- the numbers of the fields before the first that is none
abbrev pub leading_next : Option ℤ → List ℤ → List ℤ
leading_next (Some z) zs = z ∷ zs
leading_next None zs = []

abbrev pub leading_of : List (List ℕ) → List ℤ
leading_of [] = []
leading_of (f ∷ fs) = leading_next (whole_of f) (leading_of fs)

-- where all are numbers they stand in the list from its start, as far as it reaches; where one is none, those before it
abbrev pub Stored : List (List ℕ) → List ℤ → Option ℕ → List ℤ → Type 0
Stored fs before (Some n) later = later ≡ sets before 0 (values_of fs)
Stored fs before None later = later ≡ sets before 0 (leading_of fs)

-- how many numbers a list of so many places holds
abbrev pub held_of : Option ℕ → ℕ → ℕ
held_of (Some n) places = min n places
held_of None places = 0

-- there are exactly k numbers
abbrev pub is_count : ℕ → Option ℕ → Bool
is_count k (Some n) = eqb n k
is_count k None = false

-- one number, two, and no more
abbrev pub one_of : List (List ℕ) → Option ℤ
one_of fs = cond (is_count 1 (count_all 0 fs)) (Some (get_or (values_of fs) 0 (pos 0))) None

abbrev pub two_of : List (List ℕ) → Option (ℤ × ℤ)
two_of fs = cond (is_count 2 (count_all 0 fs)) (Some (get_or (values_of fs) 0 (pos 0), get_or (values_of fs) 1 (pos 0))) None
