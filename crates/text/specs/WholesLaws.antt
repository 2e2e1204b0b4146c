-- A text is read as a number exactly where it is that number in decimal, and the number keeps the limit. Assumes nothing.
use Rattle.std.specs.Prelude.{ℕ, zero, suc, ◌+◌, ◌*◌, ◌-◌, ◌/◌, ◌%◌, ◌≤◌, ◌<◌, ◌≡◌, refl, Bool, true, false, ◌&&◌, not, cond, List, [], ◌∷◌, ◌++◌, leb, eqb, ℤ, pos, negsuc, Some, length, drop}
use Rattle.std.proofs.Common.{◌∙◌, ap, subst, append_assoc, append-nil, arith, leb-true, eqb-true, ne_eqb, le-leb, SFits}
use Rattle.std.proofs.lemmas.Bool.{eqb-false}
use Rattle.std.specs.Int.{w64}
use Rattle.text.specs.Fold.{run}
use Rattle.text.specs.Decimal.{decimal, decimal_z}
use Rattle.text.specs.DecimalLaws.{one_digit, last_digit, push_digit, by_digits, digits_run}
use Rattle.text.specs.Wholes.{is_digit, may_follow, extended, step_digit, step_digits, digits_of, Within, minus_first, plus_of, minus_of, whole_of}
use Rattle.text.specs.declared.Digits.{Digits}
use Rattle.text.specs.declared.Digits.TheVariants.{Empty, Value, Bad}

-- ---- tests of Bool, taken apart
pub and_left : (a b : Bool) → (a && b) ≡ true → a ≡ true
and_left true b e = refl
and_left false b e = e

pub and_right : (a b : Bool) → (a && b) ≡ true → b ≡ true
and_right true b e = e
and_right false b e = let z : ◌≡◌ {A = Bool} false true = e in cc

-- ---- digits
pub digit_range : (b : ℕ) → is_digit b ≡ true → (48 ≤ b) × (b ≤ 57)
unfolding is_digit
digit_range b e = (leb-true 48 b (and_left _ _ e), leb-true b 57 (and_right (leb 48 b) _ e))

pub is_digit_lem : (d : ℕ) → d < 10 → is_digit (48 + d) ≡ true
unfolding is_digit
is_digit_lem d h = simp (le-leb 48 (48 + d) (omega arith), le-leb (48 + d) 57 (omega arith))

-- what may follow keeps the limit, and follows no zero
pub follow_most : (limit : ℕ) (seen : Bool) (v d : ℕ) → may_follow limit seen v d ≡ true → 10 * v + d ≤ limit
unfolding may_follow
follow_most limit seen v d e = leb-true _ _ (and_right (not (eqb v 0 && seen)) _ e)

pub follow_some : (limit v d : ℕ) → may_follow limit true v d ≡ true → 0 < v
unfolding may_follow
follow_some limit v d e = go (eqb v 0) refl (and_left _ _ e)
  where
    go : (z : Bool) → eqb v 0 ≡ z → not (z && true) ≡ true → 0 < v
    go true e q = let z : ◌≡◌ {A = ℕ} 0 1 = cc in absurd (omega arith)
    go false e q = let n : v ≡ 0 → ⊥ = eqb-false v 0 e in omega arith

-- the digits of a number up to the limit may follow one another
pub first_follows : (limit d : ℕ) → d ≤ limit → may_follow limit false 0 d ≡ true
unfolding may_follow
first_follows limit d h = let e : 10 * 0 + d ≤ limit = omega arith in simp (le-leb (10 * 0 + d) limit e)

pub next_follows : (limit n : ℕ) → 10 ≤ n → n ≤ limit → may_follow limit true (n / 10) (n % 10) ≡ true
unfolding may_follow
next_follows limit n h k = simp (ne_eqb (n / 10) 0 (omega arith), le-leb (10 * (n / 10) + n % 10) limit (omega arith))

-- the digits of v, or none
abbrev pub spelled : Bool → ℕ → List ℕ
spelled true v = decimal v
spelled false v = []

-- a digit that may follow makes the decimal text of the longer number
pub grown : (seen : Bool) (v d : ℕ) → (seen ≡ false → v ≡ 0) → (seen ≡ true → 0 < v) → d < 10 → decimal (10 * v + d) ≡ spelled seen v ++ ((48 + d) ∷ [])
grown true v d n p h = push_digit v d (p refl) h
grown false v d n p h = let z : v ≡ 0 = n refl in let e : 10 * v + d ≡ d = omega arith in rw e (one_digit d h)

-- ---- a number that was read keeps the limit, and the text is its decimal text
Says : ℕ → List ℕ → Digits → Type 0
Says limit p Empty = p ≡ []
Says limit p (Value v) = (p ≡ decimal v) × (v ≤ limit)
Says limit p Bad = Unit {0}

says_extended : (limit : ℕ) (seen : Bool) (v b : ℕ) (p : List ℕ) → 48 ≤ b → b ≤ 57 → p ≡ spelled seen v → (seen ≡ false → v ≡ 0) → Says limit (p ++ (b ∷ [])) (extended limit seen v (b - 48))
unfolding Says extended
says_extended limit seen v b p l m h n = go (may_follow limit seen v (b - 48)) refl
  where
    byte : 48 + (b - 48) ≡ b
    byte = omega arith

    some : (s : Bool) → may_follow limit s v (b - 48) ≡ true → s ≡ true → 0 < v
    some true t q = follow_some limit v (b - 48) t
    some false t q = let z : ◌≡◌ {A = ℕ} 0 1 = cc in absurd (omega arith)

    go : (t : Bool) → may_follow limit seen v (b - 48) ≡ t → Says limit (p ++ (b ∷ [])) (cond t (Value (10 * v + (b - 48))) Bad)
    go true t = (rw (h, grown seen v (b - 48) n (some seen t) (omega arith), byte) refl, follow_most limit seen v (b - 48) t)
    go false t = tt

says_step : (limit : ℕ) (s : Digits) (b : ℕ) (p : List ℕ) → Says limit p s → Says limit (p ++ (b ∷ [])) (step_digits limit s b)
unfolding Says step_digits
says_step limit s b p h = go (is_digit b) refl s h
  where
    never : {A : Type 0} → true ≡ false → A
    never e = let z : ◌≡◌ {A = ℕ} 0 1 = cc in absurd (omega arith)

    go : (t : Bool) → is_digit b ≡ t → (s : Digits) → Says limit p s → Says limit (p ++ (b ∷ [])) (cond t (step_digit limit s (b - 48)) Bad)
    go true e Empty h = says_extended limit false 0 b p (digit_range b e).0 (digit_range b e).1 h (λ q. refl)
    go true e (Value v) h = says_extended limit true v b p (digit_range b e).0 (digit_range b e).1 h.0 never
    go true e Bad h = tt
    go false e s h = tt

says_run : (limit : ℕ) (s : Digits) (p text : List ℕ) → Says limit p s → Says limit (p ++ text) (run (step_digits limit) s text)
says_run limit s p [] h = simp append-nil h
says_run limit s p (b ∷ text) h =
    subst (λ (x : List ℕ). Says limit x (run (step_digits limit) (step_digits limit s b) text)) (append_assoc p (b ∷ []) text)
    (says_run limit (step_digits limit s b) (p ++ (b ∷ [])) text (says_step limit s b p h))

says_text : (limit : ℕ) (text : List ℕ) → Says limit text (digits_of limit text)
unfolding digits_of Says
says_text limit text = says_run limit Empty [] text refl

pub digits_sound : (limit : ℕ) (text : List ℕ) (v : ℕ) → digits_of limit text ≡ Value v → (text ≡ decimal v) × (v ≤ limit)
unfolding Says
digits_sound limit text v e = subst (Says limit text) e (says_text limit text)

pub within : (limit : ℕ) (text : List ℕ) → Within limit (digits_of limit text)
unfolding Says
within limit text = go (digits_of limit text) (says_text limit text)
  where
    go : (d : Digits) → Says limit text d → Within limit d
    go Empty h = tt
    go (Value v) h = h.1
    go Bad h = tt

-- ---- the decimal text of a number up to the limit is read as that number
at : ℕ → Bool → Digits
at v true = Value v
at v false = Empty

digit_step : (limit : ℕ) (s : Digits) (d : ℕ) → d < 10 → step_digits limit s (48 + d) ≡ step_digit limit s d
unfolding step_digits
digit_step limit s d h = let b : 48 + d - 48 ≡ d = omega arith in rw (is_digit_lem d h, b) refl

extended_is : (limit : ℕ) (seen : Bool) (v d n : ℕ) → may_follow limit seen v d ≡ true → 10 * v + d ≡ n → extended limit seen v d ≡ Value n
unfolding extended
extended_is limit seen v d n t e = rw (t, e) refl

pub digits_complete : (limit n : ℕ) → n ≤ limit → digits_of limit (decimal n) ≡ Value n
unfolding digits_of at
digits_complete limit n h =
    (digits_run (step_digits limit) at (λ m. m ≤ limit)
    (λ d hd k. digit_step limit Empty d hd ∙ extended_is limit false 0 d d (first_follows limit d k) (omega arith))
    (λ m hm k. digit_step limit (Value (m / 10)) (m % 10) (omega arith) ∙ extended_is limit true (m / 10) (m % 10) m (next_follows limit m hm k) (omega arith))
    (λ m a b. omega arith) n h).to

-- ---- whole numbers with their sign
Plain : List ℕ → Type 0
Plain l = (minus_first l ≡ false) × (0 < length l)

plain_more : (l m : List ℕ) → Plain l → Plain (l ++ m)
unfolding Plain
plain_more [] m h = absurd (omega (arith, h.1))
plain_more (b ∷ l) m h = (h.0, omega arith)

plain : (n : ℕ) → Plain (decimal n)
unfolding Plain
plain = by_digits (λ n. Plain (decimal n))
    (λ d h. rw (one_digit d h) (ne_eqb (48 + d) 45 (omega arith), omega arith))
    (λ n h k. rw (last_digit n h) (plain_more (decimal (n / 10)) ((48 + n % 10) ∷ []) k))

pub read_of_decimal : (z : ℤ) → SFits w64 z → whole_of (decimal_z z) ≡ Some z
unfolding whole_of Plain
read_of_decimal (pos n) f = let h = f.sfits in rw ((plain n).0, digits_complete 9223372036854775807 n (omega arith)) refl
read_of_decimal (negsuc n) f = let h = f.sfits in rw (digits_complete 9223372036854775808 (suc n) (omega arith)) refl

-- what is read is that number in decimal, and fits
pub record Read (text : List ℕ) (z : ℤ) : Type 0 where
  pub text_is : text ≡ decimal_z z
  pub fits : SFits w64 z

plus_back : (d : Digits) (z : ℤ) (text : List ℕ) → ((v : ℕ) → d ≡ Value v → (text ≡ decimal v) × (v ≤ 9223372036854775807)) → plus_of d ≡ Some z → Read text z
plus_back Empty z text k e = absurd (let q : ◌≡◌ {A = ℕ} 0 1 = cc in omega arith)
plus_back (Value v) z text k e =
    let q : pos v ≡ z = cc in
    subst (Read text) q (record { text_is = (k v refl).0; fits = record { sfits = omega (arith, (k v refl).1) } })
plus_back Bad z text k e = absurd (let q : ◌≡◌ {A = ℕ} 0 1 = cc in omega arith)

minus_back : (d : Digits) (z : ℤ) (text : List ℕ) → ((v : ℕ) → d ≡ Value v → (text ≡ 45 ∷ decimal v) × (v ≤ 9223372036854775808)) → minus_of d ≡ Some z → Read text z
minus_back Empty z text k e = absurd (let q : ◌≡◌ {A = ℕ} 0 1 = cc in omega arith)
minus_back (Value zero) z text k e = absurd (let q : ◌≡◌ {A = ℕ} 0 1 = cc in omega arith)
minus_back (Value (suc n)) z text k e =
    let q : negsuc n ≡ z = cc in
    subst (Read text) q (record { text_is = (k (suc n) refl).0; fits = record { sfits = omega (arith, (k (suc n) refl).1) } })
minus_back Bad z text k e = absurd (let q : ◌≡◌ {A = ℕ} 0 1 = cc in omega arith)

split_first : (text : List ℕ) → minus_first text ≡ true → text ≡ 45 ∷ drop 1 text
split_first [] e = absurd (let q : ◌≡◌ {A = Bool} false true = e in let r : ◌≡◌ {A = ℕ} 0 1 = cc in omega arith)
split_first (b ∷ text) e = ap (λ (x : ℕ). x ∷ text) (eqb-true b 45 e)

pub decimal_of_read : (text : List ℕ) (z : ℤ) → whole_of text ≡ Some z → Read text z
unfolding whole_of
decimal_of_read text z e = go (minus_first text) refl e
  where
    go : (t : Bool) → minus_first text ≡ t → cond t (minus_of (digits_of 9223372036854775808 (drop 1 text))) (plus_of (digits_of 9223372036854775807 text)) ≡ Some z → Read text z
    go true q e =
        minus_back (digits_of 9223372036854775808 (drop 1 text)) z text
        (λ v h. let s = digits_sound 9223372036854775808 (drop 1 text) v h in (split_first text q ∙ ap (λ (x : List ℕ). 45 ∷ x) s.0, s.1)) e
    go false q e = plus_back (digits_of 9223372036854775807 text) z text (digits_sound 9223372036854775807 text) e
