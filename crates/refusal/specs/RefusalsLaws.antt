-- Demand 1, over any order of refusals (`demand_1`): a call tells refusal n exactly when n's condition holds and none before it does, and gives its values
-- exactly when no condition holds. Every entry's promise is an equation with `first`; `demand_1_NAME` in its crate's Demand1Laws.antt is this law for the entry NAME. Assumes nothing.
use Rattle.std.specs.Prelude.{◌≡◌, refl, cond, eqb, true, false, List, [], ◌∷◌, ◌⊎◌, ℕ, Option, Some, None, Result, Ok, Err}
use Rattle.std.proofs.Common.{sym, ap, ◌∙◌, inl, inr, ⊎_elim, arith}
use Rattle.refusal.specs.declared.Refusal.{Refusal}
use Rattle.refusal.specs.declared.Refusal.TheVariants.{ListLength, Form, BadRow, Limit, Rich, Temperature, StepHeat, Below, Above, ShortList, NoNumber, OutOfRange, Steps, ShortBuffer, Other}
use Rattle.refusal.specs.Named.{is_named}
use Rattle.refusal.specs.Refusals.{Numbered, Plain, At, numbered_at, numbered, number_of, place_of}
use Rattle.refusal.specs.Refusals.{told_as, told_of, Told, gives, refused, Line, told_by, condition, first, First, here, after, Clear, none, clear, Demand1}
use Rattle.refusal.specs.BoolLaws.{by_bool, by_true, by_false}

-- the values are no refusal
pub no_refusal : {A : Type 0} (a : A) (r : Numbered) → gives a ≡ refused r → ⊥
no_refusal a r h = let z : ◌≡◌ {A = ℕ} 0 1 = cc in omega arith

-- an order has a first line whose condition holds, or none
pub first_or_clear : (ls : List Line) → ((l : Line) × First ls l) ⊎ Clear ls
first_or_clear [] = inr none
first_or_clear (l ∷ ls) =
    by_bool (condition l)
    (λ h. inl (l, here h))
    (λ h. ⊎_elim (λ w. inl (w.0, after h w.1)) (λ w. inr (clear h w)) (first_or_clear ls))

module _ {A : Type 0} (a : A) where
  -- a refusal is given where its condition is the first that holds
  pub refusal_given : {ls : List Line} {l : Line} → First ls l → first ls a ≡ told_by l
  refusal_given (here h) = rw h refl
  refusal_given (after h f) = rw h (refusal_given f)

  -- the values are given where no condition holds
  pub values_given : {ls : List Line} → Clear ls → first ls a ≡ gives a
  values_given none = refl
  values_given (clear h f) = rw h (values_given f)

  -- and only then: whatever is told is the first refusal that holds, or the values with none that holds
  told_exactly : (ls : List Line) (t : Told A) → first ls a ≡ t → ((l : Line) × First ls l × (told_by l ≡ t)) ⊎ (Clear ls × (gives a ≡ t))
  told_exactly ls t e =
      ⊎_elim (λ w. inl (w.0, w.1, sym (refusal_given w.1) ∙ e)) (λ w. inr (w, sym (values_given w) ∙ e)) (first_or_clear ls)

-- where the values are given, no condition holds, and they are the call's own
pub gives_clear : {A : Type 0} (ls : List Line) {a b : A} → first ls a ≡ gives b → Clear ls × (a ≡ b)
gives_clear ls {a} {b} e =
    ⊎_elim (λ w. absurd (no_refusal b _ (sym w.2))) (λ w. (w.0, let h : gives a ≡ gives b = w.1 in cc)) (told_exactly a ls (gives b) e)

-- demand 1, both ways, of whatever is told by an order
pub demand_1 : {A : Type 0} (order : List Line) (values : A) {told : Told A} → told ≡ first order values → Demand1 order values told
demand_1 order values e = record {
  refusal = λ r. (
    λ h. ⊎_elim (λ w. w) (λ w. absurd (no_refusal values r w.1)) (told_exactly values order (refused r) (sym e ∙ h)),
    λ w. e ∙ refusal_given values w.1 ∙ w.2,
  );
  answer = λ a. (λ h. gives_clear order (sym e ∙ h), λ w. e ∙ values_given values w.0 ∙ ap gives w.1);
}

-- an answer whose telling can be read back is the only one that tells the same
pub one_told : {A R : Type 0} (paper : R → Told A) (back : Told A → R) → ((r : R) → back (paper r) ≡ r) → {t : Told A} (r s : R) → paper r ≡ t → paper s ≡ t → r ≡ s
one_told paper back left r s p q = sym (left r) ∙ ap back (p ∙ sym q) ∙ left s

-- ---- every number is that of one refusal, and no two answers are told alike
-- the refusal of a number that the paper names
abbrev named : Numbered → Refusal
named (Plain n) =
    cond (eqb n 1) ListLength
    (cond (eqb n 4) Limit
    (cond (eqb n 5) Rich
    (cond (eqb n 6) Temperature
    (cond (eqb n 7) StepHeat
    (cond (eqb n 8) Below
    (cond (eqb n 9) Above
    (cond (eqb n 10) ShortList
    (cond (eqb n 11) NoNumber
    (cond (eqb n 12) OutOfRange
    (cond (eqb n 13) Steps ShortBuffer))))))))))
named (At n k) = cond (eqb n 2) (Form k) (BadRow k)

named_number : (r : Numbered) → is_named (number_of r) (place_of r) ≡ true → numbered (named r) ≡ r
named_number (Plain n) h = grind arith
named_number (At n k) h = grind arith

-- that of one that it does not name
abbrev other : (r : Numbered) → is_named (number_of r) (place_of r) ≡ false → Refusal
other r h = Other (record { number = number_of r; row = place_of r; unnamed = h })

other_number : (r : Numbered) (h : is_named (number_of r) (place_of r) ≡ false) → numbered (other r h) ≡ r
other_number (Plain n) h = refl
other_number (At n k) h = refl

-- and of any
abbrev read : Numbered → Refusal
read r = by_bool (is_named (number_of r) (place_of r)) (λ h. named r) (other r)

-- each number, given for a row or for none, is that of a refusal, whose own numbers are the same: it is one wherever they have 32 bits
pub every_number : (r : Numbered) → (x : Refusal) × (numbered x ≡ r)
every_number r = by_bool (is_named (number_of r) (place_of r)) (λ h. (named r, named_number r h)) (λ h. (other r h, other_number r h))

read_other : (n : ℕ) (row : Option ℕ) (h : is_named n row ≡ false) → read (numbered_at n row) ≡ Other (record { number = n; row = row; unnamed = h })
read_other n None h = by_false _ _ _ h
read_other n (Some row) h = by_false _ _ _ h

read_numbered : (r : Refusal) → read (numbered r) ≡ r
read_numbered ListLength = by_true _ _ _ refl
read_numbered (Form row) = by_true _ _ _ refl
read_numbered (BadRow row) = by_true _ _ _ refl
read_numbered Limit = by_true _ _ _ refl
read_numbered Rich = by_true _ _ _ refl
read_numbered Temperature = by_true _ _ _ refl
read_numbered StepHeat = by_true _ _ _ refl
read_numbered Below = by_true _ _ _ refl
read_numbered Above = by_true _ _ _ refl
read_numbered ShortList = by_true _ _ _ refl
read_numbered NoNumber = by_true _ _ _ refl
read_numbered OutOfRange = by_true _ _ _ refl
read_numbered Steps = by_true _ _ _ refl
read_numbered ShortBuffer = by_true _ _ _ refl
read_numbered (Other u) = read_other u.number u.row u.unnamed

-- a refusal is known by its number and its place
pub one_numbered : (r s : Refusal) → numbered r ≡ numbered s → r ≡ s
one_numbered r s e = sym (read_numbered r) ∙ ap read e ∙ read_numbered s

-- an answer whose values can be read back from what is told is the only one that tells the same
module _ {A B : Type 0} (f : A → B) (back : B → A) (left : (a : A) → back (f a) ≡ a) where
  abbrev read_back : Told B → Result A Refusal
  read_back (gives b) = Ok (back b)
  read_back (refused r) = Err (read r)

  reads_back : (r : Result A Refusal) → read_back (told_as f r) ≡ r
  reads_back (Ok a) = ap Ok (left a)
  reads_back (Err r) = ap Err (read_numbered r)

  pub one_told_as : {t : Told B} (r s : Result A Refusal) → told_as f r ≡ t → told_as f s ≡ t → r ≡ s
  one_told_as = one_told (told_as f) read_back reads_back

pub one_told_of : {A : Type 0} {t : Told A} (r s : Result A Refusal) → told_of r ≡ t → told_of s ≡ t → r ≡ s
one_told_of = one_told_as (λ a. a) (λ a. a) (λ a. refl)
