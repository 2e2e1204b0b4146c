-- Words compared, the place of a word among the fields of a text, and a place past a table. Assumes nothing.
use Rattle.std.specs.Prelude.{ℕ, zero, suc, ◌+◌, ◌-◌, ◌≤◌, ◌<◌, ◌≡◌, refl, Bool, true, false, cond, List, [], ◌∷◌, map, eqb, length, take, drop}
use Rattle.std.proofs.Common.{sym, ◌∙◌, ap, true≢false, arith, eq-eqb, eqb-true}
use Rattle.std.proofs.lemmas.List.{length-map}
use Rattle.std.proofs.Math.ListN.{get_or-eq_default}
use Rattle.text.specs.WholesLaws.{and_left, and_right}
use Rattle.fields.specs.Fields.{span_of, fields_of, fields_from}
use Rattle.fields.specs.FieldsLaws.{from_is, fields_at, fields_none}
use Rattle.fields.specs.Words.{same_text, position_of, Worded, named_at, NoneBelow}

-- ---- two texts
same_refl : (a : List ℕ) → same_text a a ≡ true
same_refl [] = refl
same_refl (x ∷ a) = rw (eq-eqb x x refl, same_refl a) refl

same_eq : (a b : List ℕ) → same_text a b ≡ true → a ≡ b
same_eq [] [] e = refl
same_eq [] (y ∷ b) e = absurd (true≢false (sym e))
same_eq (x ∷ a) [] e = absurd (true≢false (sym e))
same_eq (x ∷ a) (y ∷ b) e =
    ap (λ (n : ℕ). n ∷ a) (eqb-true x y (and_left (eqb x y) (same_text a b) e)) ∙ ap (λ (l : List ℕ). y ∷ l) (same_eq a b (and_right (eqb x y) (same_text a b) e))

-- what a comparison of two texts answers
pub same_is : (a b : List ℕ) {r t : Bool} → (r ≡ true → a ≡ b) × (a ≡ b → r ≡ true) → r ≡ t → same_text a b ≡ t
same_is a b {r} {t} h e = go t e (same_text a b) refl
  where
    go : (t : Bool) → r ≡ t → (u : Bool) → same_text a b ≡ u → u ≡ t
    go true e true q = refl
    go true e false q = sym q ∙ (ap (same_text a) (sym (h.0 e)) ∙ same_refl a)
    go false e true q = absurd (true≢false (sym (h.1 (same_eq a b q)) ∙ e))
    go false e false q = refl

-- ---- the place of a word among the fields of a text
pub position_all : (w text : List ℕ) → position_of w (fields_from text 0) ≡ position_of w (fields_of text)
position_all w text = ap (position_of w) (from_is text 0 (omega arith))

pub position_at : (w text : List ℕ) (p e : ℕ) {r : Bool} (t : Bool) → p ≤ length text → e ≡ p + span_of (drop p text)
    → (r ≡ true → w ≡ take (e - p) (drop p text)) × (w ≡ take (e - p) (drop p text) → r ≡ true) → r ≡ t
    → position_of w (fields_from text p) ≡ cond t 0 (suc (position_of w (fields_from text (e + 1))))
position_at w text p e t h q s k = rw (fields_at text p e h q, same_is w (take (e - p) (drop p text)) s k) refl

pub position_none : (w text : List ℕ) (p : ℕ) → length text < p → position_of w (fields_from text p) ≡ 0
position_none w text p h = ap (position_of w) (fields_none text p h)

-- ---- past a table
none_below : (n p : ℕ) → NoneBelow n p → n ≤ p
none_below zero p h = omega arith
none_below (suc n) p h = omega (arith, none_below n p h.0, h.1)

pub past_table : {A : Type 0} (table : List (Worded A)) (none : A) (p : ℕ) → NoneBelow (length table) p → none ≡ named_at table none p
past_table table none p h =
    sym (get_or-eq_default (map (λ e. e.named) table) none (omega (arith, length-map table (λ e. e.named), none_below (length table) p h)))
