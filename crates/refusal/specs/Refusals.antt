-- What a call tells (document 01, "Refusal numbers"): the values that it gives, or a refusal. An entry's refusals are one list of lines in the paper's
-- order, each a number with the condition that it is given for; the call tells the first line whose condition holds, else its values.
use Rattle.std.specs.Prelude.{Bool, true, false, cond, List, [], ◌∷◌, ◌↔◌, ◌≡◌, ℕ, Option, Some, None, Result, Ok, Err}
use Rattle.refusal.specs.declared.Refusal.{Refusal}
use Rattle.refusal.specs.declared.Refusal.TheVariants.{ListLength, Form, BadRow, Limit, Rich, Temperature, StepHeat, Below, Above, ShortList, NoNumber, OutOfRange, Steps, ShortBuffer, Other}

-- a refusal as the paper numbers it; for 2 and 3 with the place that it is given for, the row
pub data Numbered : Type 0 where
  Plain : ℕ → Numbered
  At : ℕ → ℕ → Numbered

-- any number, given for a row or for none
abbrev pub numbered_at : ℕ → Option ℕ → Numbered
numbered_at n None = Plain n
numbered_at n (Some row) = At n row

-- the paper's number of each
abbrev pub numbered : Refusal → Numbered
numbered ListLength = Plain 1
numbered (Form row) = At 2 row
numbered (BadRow row) = At 3 row
numbered Limit = Plain 4
numbered Rich = Plain 5
numbered Temperature = Plain 6
numbered StepHeat = Plain 7
numbered Below = Plain 8
numbered Above = Plain 9
numbered ShortList = Plain 10
numbered NoNumber = Plain 11
numbered OutOfRange = Plain 12
numbered Steps = Plain 13
numbered ShortBuffer = Plain 14
numbered (Other u) = numbered_at u.number u.row

-- the values of an answer, or a refusal
pub data Told (A : Type 0) : Type 0 where
  gives : A → Told A
  refused : Numbered → Told A

-- the answer of a call as the paper has it, its values seen as f has them
abbrev pub told_as : {A B : Type 0} → (A → B) → Result A Refusal → Told B
told_as f (Ok a) = gives (f a)
told_as f (Err r) = refused (numbered r)

-- and its values as they are
abbrev pub told_of : {A : Type 0} → Result A Refusal → Told A
told_of = told_as (λ a. a)

-- a refusal that is told, and one that is told with its place
abbrev pub refuses : {A : Type 0} → ℕ → Told A
refuses n = refused (Plain n)

abbrev pub refuses_at : {A : Type 0} → ℕ → ℕ → Told A
refuses_at n k = refused (At n k)

-- the number of a refusal
abbrev pub number_of : Numbered → ℕ
number_of (Plain n) = n
number_of (At n k) = n

-- and the place that it is given for
abbrev pub place_of : Numbered → Option ℕ
place_of (Plain n) = None
place_of (At n k) = Some k

-- a line of an order: a refusal when its condition holds
infix 70 ◌when◌
infix 70 ◌at_place◌when◌
pub data Line : Type 0 where
  ◌when◌ : ℕ → Bool → Line
  ◌at_place◌when◌ : ℕ → ℕ → Bool → Line

-- the refusal of a line, what a call tells by it, its number, and its condition
abbrev pub refusal_of : Line → Numbered
refusal_of (n when c) = Plain n
refusal_of (n at_place k when c) = At n k

abbrev pub told_by : {A : Type 0} → Line → Told A
told_by l = refused (refusal_of l)

abbrev pub line_number : Line → ℕ
line_number l = number_of (refusal_of l)

abbrev pub condition : Line → Bool
condition (n when c) = c
condition (n at_place k when c) = c

-- the first refusal in the order whose condition holds, else the values
abbrev pub first : {A : Type 0} → List Line → A → Told A
first [] a = gives a
first (l ∷ ls) a = cond (condition l) (told_by l) (first ls a)

-- what is told and, if it is no refusal, what is told of its values
abbrev pub and_then : {A B : Type 0} → Told A → (A → Told B) → Told B
and_then (gives a) f = f a
and_then (refused r) f = refused r

-- the line is the first of its order: its condition holds, and no condition before it does
pub data First : List Line → Line → Type 0 where
  here : {l : Line} {ls : List Line} → condition l ≡ true → First (l ∷ ls) l
  after : {l m : Line} {ls : List Line} → condition m ≡ false → First ls l → First (m ∷ ls) l

-- no condition of the order holds
pub data Clear : List Line → Type 0 where
  none : Clear []
  clear : {l : Line} {ls : List Line} → condition l ≡ false → Clear ls → Clear (l ∷ ls)

-- demand 1, of what a call tells by an order of refusals and the values else: a refusal exactly when it is that of the first line whose condition holds, and the
-- values exactly when no condition holds
pub record Demand1 {A : Type 0} (order : List Line) (values : A) (told : Told A) : Type 0 where
  pub refusal : (r : Numbered) → (told ≡ refused r) ↔ ((l : Line) × First order l × (told_by {A = A} l ≡ refused r))
  pub answer : (a : A) → (told ≡ gives a) ↔ (Clear order × (values ≡ a))
