-- The fields of a line one by one, and their numbers. Assumes nothing.
use Rattle.std.specs.Prelude.{ℕ, suc, ◌+◌, ◌-◌, ◌≤◌, ◌<◌, ◌≡◌, refl, Bool, true, false, cond, List, [], ◌∷◌, ◌++◌, ltb, leb, eqb, length, take, drop, get_or, set, ℤ, Option, Some, None}
use Rattle.std.specs.Bool.{then_some}
use Rattle.std.proofs.Common.{sym, ◌∙◌, ap, true≢false, append-nil, arith, add-one, eqb-true, le-leb, lt-ltb, le-ltb, eq-eqb, ne_eqb, ltb-true, ltb-false, length-drop, drop-cons, drop-drop}
use Rattle.std.proofs.lemmas.Bool.{lt-leb}
use Rattle.std.proofs.lemmas.List.Edits.{sets, sets-eq}
use Rattle.text.specs.Wholes.{whole_of}
use Rattle.fields.specs.Fields.{span_to, span_of, on_head, fields_of, fields_from, holds_return, value_of, values_of, count_next, count_all, leading_next, leading_of, Stored, held_of, is_count}

pub span_most : (c : ℕ) (l : List ℕ) → span_to c l ≤ length l
span_most c [] = omega arith
span_most c (b ∷ l) = go (eqb b c) (span_most c l)
  where
    go : (t : Bool) → span_to c l ≤ length l → cond t 0 (suc (span_to c l)) ≤ suc (length l)
    go true h = omega arith
    go false h = omega arith

pub span_from : (l : List ℕ) (i : ℕ) → i ≤ length l → i + span_of (drop i l) ≤ length l
span_from l i h = omega (arith, span_most 9 (drop i l), length-drop i l)

pub span_here : (c : ℕ) (l : List ℕ) (i : ℕ) → i < length l → get_or l i 0 ≡ c → span_to c (drop i l) ≡ 0
span_here c l i h e = rw (drop-cons l i 0 h, eq-eqb (get_or l i 0) c e) refl

pub span_more : (c : ℕ) (l : List ℕ) (i : ℕ) → i < length l → (get_or l i 0 ≡ c → ⊥) → span_to c (drop i l) ≡ suc (span_to c (drop (i + 1) l))
span_more c l i h e = rw (add-one i, drop-cons l i 0 h, ne_eqb (get_or l i 0) c e) refl

pub span_end : (c : ℕ) (l : List ℕ) (i : ℕ) → length l ≤ i → span_to c (drop i l) ≡ 0
span_end c l i h = omega (arith, span_most c (drop i l), length-drop i l)

ltb_suc : (a b : ℕ) → ltb (suc a) (suc b) ≡ ltb a b
ltb_suc a b = go (ltb a b) refl
  where
    go : (t : Bool) → ltb a b ≡ t → ltb (suc a) (suc b) ≡ t
    go true e = let h = ltb-true a b e in lt-ltb (suc a) (suc b) (omega arith)
    go false e = let h = ltb-false a b e in le-ltb (suc a) (suc b) (omega arith)

-- the first field, and those after its tab
rest : List ℕ → ℕ → List (List ℕ)
rest l s = cond (ltb s (length l)) (fields_of (drop (s + 1) l)) []

rest_suc : (b : ℕ) (l : List ℕ) (s : ℕ) → rest (b ∷ l) (suc s) ≡ rest l s
unfolding rest
rest_suc b l s =
    let e : suc s + 1 ≡ suc (s + 1) = omega arith in
    ap (λ (n : ℕ). cond (ltb (suc s) (suc (length l))) (fields_of (drop n (b ∷ l))) []) e
    ∙ ap (λ (t : Bool). cond t (fields_of (drop (s + 1) l)) []) (ltb_suc s (length l))

fields_split : (l : List ℕ) → fields_of l ≡ take (span_of l) l ∷ rest l (span_of l)
unfolding rest
fields_split [] = refl
fields_split (b ∷ l) = go (eqb b 9) (fields_split l)
  where
    go : (t : Bool) → fields_of l ≡ take (span_of l) l ∷ rest l (span_of l)
        → cond t ([] ∷ fields_of l) (on_head b (fields_of l)) ≡ take (cond t 0 (suc (span_of l))) (b ∷ l) ∷ rest (b ∷ l) (cond t 0 (suc (span_of l)))
    go true h = rw (lt-ltb 0 (suc (length l)) (omega arith)) refl
    go false h = ap (on_head b) h ∙ ap (λ (x : List (List ℕ)). (b ∷ take (span_of l) l) ∷ x) (sym (rest_suc b l (span_of l)))

leb_shift : (p s n : ℕ) → p ≤ n → ltb s (n - p) ≡ leb (p + s + 1) n
leb_shift p s n h = go (ltb s (n - p)) refl
  where
    go : (t : Bool) → ltb s (n - p) ≡ t → t ≡ leb (p + s + 1) n
    go true e = let k = ltb-true s (n - p) e in sym (le-leb (p + s + 1) n (omega arith))
    go false e = let k = ltb-false s (n - p) e in sym (lt-leb (p + s + 1) n (omega arith))

rest_from : (l : List ℕ) (p s : ℕ) → p ≤ length l → rest (drop p l) s ≡ fields_from l (p + s + 1)
unfolding rest fields_from
rest_from l p s h =
    let e : p + (s + 1) ≡ p + s + 1 = omega arith in
    ap (λ (n : ℕ). cond (ltb s n) (fields_of (drop (s + 1) (drop p l))) []) (length-drop p l)
    ∙ (ap (λ (t : Bool). cond t (fields_of (drop (s + 1) (drop p l))) []) (leb_shift p s (length l) h)
    ∙ (ap (λ (x : List ℕ). cond (leb (p + s + 1) (length l)) (fields_of x) []) (drop-drop (s + 1) p l)
    ∙ ap (λ (n : ℕ). cond (leb (p + s + 1) (length l)) (fields_of (drop n l)) []) e))

pub from_is : (l : List ℕ) (p : ℕ) → p ≤ length l → fields_from l p ≡ fields_of (drop p l)
unfolding fields_from
from_is l p h = rw (le-leb p (length l) h) refl

pub fields_none : (l : List ℕ) (p : ℕ) → length l < p → fields_from l p ≡ []
unfolding fields_from
fields_none l p h = rw (lt-leb p (length l) h) refl

pub fields_at : (l : List ℕ) (p e : ℕ) → p ≤ length l → e ≡ p + span_of (drop p l) → fields_from l p ≡ take (e - p) (drop p l) ∷ fields_from l (e + 1)
fields_at l p e h q =
    let s : span_of (drop p l) ≡ e - p = omega arith in
    from_is l p h
    ∙ (fields_split (drop p l)
    ∙ (ap (λ (n : ℕ). take n (drop p l) ∷ rest (drop p l) (span_of (drop p l))) s
    ∙ (ap (λ (x : List (List ℕ)). take (e - p) (drop p l) ∷ x) (rest_from l p (span_of (drop p l)) h)
    ∙ ap (λ (n : ℕ). take (e - p) (drop p l) ∷ fields_from l (n + 1)) (sym q))))

-- ---- numbers
pub count_next_lem : (l : List ℕ) (p e n : ℕ) (z : ℤ) → p ≤ length l → e ≡ p + span_of (drop p l) → whole_of (take (e - p) (drop p l)) ≡ Some z
    → count_all n (fields_from l p) ≡ count_all (n + 1) (fields_from l (e + 1))
count_next_lem l p e n z h q r = rw (fields_at l p e h q, r) refl

pub count_bad : (l : List ℕ) (p e n : ℕ) → p ≤ length l → e ≡ p + span_of (drop p l) → whole_of (take (e - p) (drop p l)) ≡ None → count_all n (fields_from l p) ≡ None
count_bad l p e n h q r = rw (fields_at l p e h q, r) refl

pub leading_next_lem : (l : List ℕ) (p e n : ℕ) (z : ℤ) (list : List ℤ) → p ≤ length l → e ≡ p + span_of (drop p l) → whole_of (take (e - p) (drop p l)) ≡ Some z
    → sets list n (leading_of (fields_from l p)) ≡ sets (set list n z) (n + 1) (leading_of (fields_from l (e + 1)))
leading_next_lem l p e n z list h q r = rw (add-one n, fields_at l p e h q, r) refl

pub leading_bad : (l : List ℕ) (p e : ℕ) → p ≤ length l → e ≡ p + span_of (drop p l) → whole_of (take (e - p) (drop p l)) ≡ None → leading_of (fields_from l p) ≡ []
leading_bad l p e h q r = rw (fields_at l p e h q, r) refl

-- where all are numbers, all lead
pub leading_all : (fs : List (List ℕ)) (n k : ℕ) → count_all n fs ≡ Some k → leading_of fs ≡ values_of fs
leading_all [] n k e = refl
leading_all (f ∷ fs) n k e = go (whole_of f) e (λ q. leading_all fs (n + 1) k q)
  where
    go : (w : Option ℤ) → count_next w (count_all (n + 1) fs) ≡ Some k → (count_all (n + 1) fs ≡ Some k → leading_of fs ≡ values_of fs) → leading_next w (leading_of fs) ≡ value_of w ∷ values_of fs
    go (Some z) e i = ap (λ (zs : List ℤ). z ∷ zs) (i e)
    go None e i = absurd (let z : ◌≡◌ {A = ℕ} 0 1 = cc in omega arith)

-- ---- a carriage return stands in a line exactly where the bytes before the first are not all
pub return_span : (l : List ℕ) → holds_return l ≡ ltb (span_to 13 l) (length l)
return_span [] = refl
return_span (b ∷ l) = go (eqb b 13) (return_span l)
  where
    go : (t : Bool) → holds_return l ≡ ltb (span_to 13 l) (length l) → cond t true (holds_return l) ≡ ltb (cond t 0 (suc (span_to 13 l))) (suc (length l))
    go true h = sym (lt-ltb 0 (suc (length l)) (omega arith))
    go false h = h ∙ sym (ltb_suc (span_to 13 l) (length l))

-- all numbers are counted
pub count_is : (fs : List (List ℕ)) (n k : ℕ) → count_all n fs ≡ Some k → k ≡ n + length (values_of fs)
count_is [] n k e = let q : n ≡ k = cc in omega arith
count_is (f ∷ fs) n k e = go (whole_of f) refl e (λ q. count_is fs (n + 1) k q)
  where
    go : (w : Option ℤ) → whole_of f ≡ w → count_next w (count_all (n + 1) fs) ≡ Some k → (count_all (n + 1) fs ≡ Some k → k ≡ n + 1 + length (values_of fs)) → k ≡ n + suc (length (values_of fs))
    go (Some z) q e i = omega (arith, i e)
    go None q e i = absurd (let z : ◌≡◌ {A = ℕ} 0 1 = cc in omega arith)

-- where there are exactly k numbers, there are as many values
pub count_exactly : (fs : List (List ℕ)) (k : ℕ) → is_count k (count_all 0 fs) ≡ true → length (values_of fs) ≡ k
count_exactly fs k t = go (count_all 0 fs) refl t
  where
    go : (n : Option ℕ) → count_all 0 fs ≡ n → is_count k n ≡ true → length (values_of fs) ≡ k
    go (Some m) e t = omega (arith, count_is fs 0 m e, eqb-true m k t)
    go None e t = absurd (true≢false (sym t))

no_more : (vs l : List ℤ) → length l ≡ length vs → sets l 0 vs ≡ vs
no_more vs l e =
    sets-eq vs l 0 (omega arith) ∙ (ap (λ x. vs ++ x) (none (drop (0 + length vs) l) (omega (arith, length-drop (0 + length vs) l))) ∙ append-nil vs)
  where
    none : (x : List ℤ) → length x ≡ 0 → x ≡ []
    none [] h = refl
    none (a ∷ x) h = absurd (omega arith)

-- where there are exactly k, a list of k places holds them all, and nothing else
pub all_stored : (fs : List (List ℕ)) (before later : List ℤ) (k : ℕ) (n : Option ℕ)
    → n ≡ count_all 0 fs → is_count k n ≡ true → length before ≡ k → Stored fs before n later → later ≡ values_of fs
all_stored fs before later k (Some m) e t h s =
    s ∙ no_more (values_of fs) before (omega (arith, count_is fs 0 m (sym e), eqb-true m k t))
all_stored fs before later k None e t h s = absurd (true≢false (sym t))

pub exactly : {A : Type 0} (F : List ℤ → A) (other : A) (fs : List (List ℕ)) (before later : List ℤ) (k : ℕ) {n : Option ℕ} {r : Bool}
    → n ≡ count_all 0 fs → r ≡ is_count k n → r ≡ true → length before ≡ k → Stored fs before n later
    → F later ≡ cond (is_count k (count_all 0 fs)) (F (values_of fs)) other
exactly F other fs before later k {n} {r} e q t h s =
    rw (all_stored fs before later k n e (sym q ∙ t) h s, ← e, ← q, t) refl

pub not_exactly : {A : Type 0} (a other : A) (fs : List (List ℕ)) (k : ℕ) {n : Option ℕ} {r : Bool}
    → n ≡ count_all 0 fs → r ≡ is_count k n → r ≡ false → other ≡ cond (is_count k (count_all 0 fs)) a other
not_exactly a other fs k e q t = rw (← e, ← q, t) refl

-- a list holds no more numbers than it has places
pub held_most : (numbers : Option ℕ) (places : ℕ) → held_of numbers places ≤ places
held_most (Some n) places = omega arith
held_most None places = omega arith

-- what a list of k places holds after them, where there are exactly k
pub exactly_some : {A : Type 0} (F : List ℤ → A) (fs : List (List ℕ)) (before later : List ℤ) (k : ℕ) (r : Bool)
    → length before ≡ k → r ≡ is_count k (count_all 0 fs) → Stored fs before (count_all 0 fs) later
    → then_some r (F later) ≡ cond (is_count k (count_all 0 fs)) (Some (F (values_of fs))) None
exactly_some F fs before later k true h q s = exactly (λ l. Some (F l)) None fs before later k refl q refl h s
exactly_some F fs before later k false h q s = not_exactly (Some (F (values_of fs))) None fs k refl q refl
