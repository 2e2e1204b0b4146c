-- Orders of refusals in parts: the second part of an order is asked where the first tells no refusal. Every entry that tests in steps cites these. Assumes
-- nothing.
use Rattle.std.specs.Prelude.{◌≡◌, refl, List, [], ◌∷◌, ◌++◌, Bool, true, false, ℕ}
use Rattle.std.proofs.Common.{sym, ap, ◌∙◌}
use Rattle.refusal.specs.Refusals.{Numbered, Told, gives, refused, Line, ◌when◌, condition, first, and_then, Clear, none, clear}
use Rattle.refusal.specs.BoolLaws.{by_bool}
use Rattle.refusal.specs.RefusalsLaws.{no_refusal, values_given, gives_clear}

-- an order in two parts, the second over the values of the first
pub one_order : {A B : Type 0} (ls : List Line) (a : A) (f : A → Told B) (ms : List Line) (b : B) → f a ≡ first ms b → first (ls ++ ms) b ≡ and_then (first ls a) f
one_order [] a f ms b e = sym e
one_order (l ∷ ls) a f ms b e = by_bool (condition l) (λ h. rw h refl) (λ h. rw h (one_order ls a f ms b e))

pub in_parts : {A B : Type 0} (ls ms : List Line) (a : A) (b : B) → first (ls ++ ms) b ≡ and_then (first ls a) (λ x. first ms b)
in_parts ls ms a b = one_order ls a (λ x. first ms b) ms b refl

module _ {A B : Type 0} (ls ms : List Line) (a : A) (b : B) where
  -- a refusal of the first part is the answer
  pub stopped_first : (r : Numbered) → refused r ≡ first ls a → refused r ≡ first (ls ++ ms) b
  stopped_first r e = sym (in_parts ls ms a b ∙ ap (λ (t : Told A). and_then t (λ x. first ms b)) (sym e))

  -- and where it gives its values, the second part decides
  pub passed : {x : A} → gives x ≡ first ls a → first (ls ++ ms) b ≡ first ms b
  passed e = in_parts ls ms a b ∙ ap (λ (t : Told A). and_then t (λ x. first ms b)) (sym e)

-- an order that gives its values is clear
module _ {A : Type 0} (ls : List Line) (a : A) {x : A} (e : gives x ≡ first ls a) where
  pub clear_order : Clear ls
  clear_order = (gives_clear ls (sym e)).0

  pub given : a ≡ x
  given = (gives_clear ls (sym e)).1

-- and so are its parts
pub clear_left : (ls ms : List Line) → Clear (ls ++ ms) → Clear ls
clear_left [] ms c = none
clear_left (l ∷ ls) ms (clear h c) = clear h (clear_left ls ms c)

pub clear_right : (ls ms : List Line) → Clear (ls ++ ms) → Clear ms
clear_right [] ms c = c
clear_right (l ∷ ls) ms (clear h c) = clear_right ls ms c

-- the values of a later answer, worked out from those of an order that gives its own
pub told_through : {A B : Type 0} (ls : List Line) (a : A) (f : A → B) {x : A} {y : B} → gives x ≡ first ls a → y ≡ f x → gives y ≡ first ls (f a)
told_through ls a f e q = ap gives (q ∙ ap f (sym (given ls a e))) ∙ sym (values_given (f a) (clear_order ls a e))

-- ---- an order of one line
module _ {A : Type 0} (n : ℕ) (b : Bool) (a : A) where
  pub line_held : {r : Numbered} → refused r ≡ first (n when b ∷ []) a → b ≡ true
  line_held {r} e = by_bool b (λ h. h) (λ h. absurd (no_refusal a r (sym (e ∙ rw h refl))))

  pub line_clear : {x : A} → gives x ≡ first (n when b ∷ []) a → (b ≡ false) × (a ≡ x)
  line_clear e = (alone (clear_order (n when b ∷ []) a e), given (n when b ∷ []) a e)
    where
      alone : Clear (n when b ∷ []) → b ≡ false
      alone (clear h c) = h
