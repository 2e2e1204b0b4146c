-- A number in decimal, digit by digit, and any machine over its text. Assumes nothing.
use Rattle.std.specs.Prelude.{ℕ, zero, suc, ◌+◌, ◌*◌, ◌/◌, ◌%◌, ◌≤◌, ◌<◌, ◌≡◌, refl, Bool, true, false, List, [], ◌∷◌, ◌++◌, ltb}
use Rattle.std.proofs.Common.{sym, ◌∙◌, ap, arith, ltb-true, ltb-false, lt-ltb, le-ltb}
use Rattle.text.specs.Decimal.{decimal_by, decimal}
use Rattle.text.specs.FoldLaws.{Runs, and_then}

by_short : (f n : ℕ) → n < 10 → decimal_by f n ≡ (48 + n) ∷ []
by_short zero n h = refl
by_short (suc f) n h = rw (lt-ltb n 10 h, decimal_by) refl

by_long : (f n : ℕ) → 10 ≤ n → decimal_by (suc f) n ≡ decimal_by f (n / 10) ++ ((48 + n % 10) ∷ [])
by_long f n h = rw (le-ltb n 10 h, decimal_by) refl

-- a bound that is enough is as good as another
bound_enough : (f g n : ℕ) → n ≤ f + 9 → n ≤ g + 9 → decimal_by f n ≡ decimal_by g n
bound_enough zero g n hf hg = by_short zero n (omega arith) ∙ sym (by_short g n (omega arith))
bound_enough (suc f) zero n hf hg = by_short (suc f) n (omega arith) ∙ sym (by_short zero n (omega arith))
bound_enough (suc f) (suc g) n hf hg = go (ltb n 10) refl (λ h. bound_enough f g (n / 10) (omega arith) (omega arith))
  where
    go : (z : Bool) → ltb n 10 ≡ z → (10 ≤ n → decimal_by f (n / 10) ≡ decimal_by g (n / 10)) → decimal_by (suc f) n ≡ decimal_by (suc g) n
    go true e k = by_short (suc f) n (ltb-true _ _ e) ∙ sym (by_short (suc g) n (ltb-true _ _ e))
    go false e k =
        let h : 10 ≤ n = ltb-false _ _ e in
        by_long f n h ∙ (ap (λ (x : List ℕ). x ++ ((48 + n % 10) ∷ [])) (k h) ∙ sym (by_long g n h))

pub one_digit : (d : ℕ) → d < 10 → decimal d ≡ (48 + d) ∷ []
unfolding decimal
one_digit d h = by_short d d h

pub last_digit : (n : ℕ) → 10 ≤ n → decimal n ≡ decimal (n / 10) ++ ((48 + n % 10) ∷ [])
unfolding decimal
last_digit zero h = absurd (omega arith)
last_digit (suc m) h = by_long m (suc m) h ∙ ap (λ (x : List ℕ). x ++ ((48 + suc m % 10) ∷ [])) (bound_enough m (suc m / 10) (suc m / 10) (omega arith) (omega arith))

pub push_digit : (v d : ℕ) → 0 < v → d < 10 → decimal (10 * v + d) ≡ decimal v ++ ((48 + d) ∷ [])
push_digit v d hv hd =
    let q : (10 * v + d) / 10 ≡ v = omega arith in
    let r : (10 * v + d) % 10 ≡ d = omega arith in
    last_digit (10 * v + d) (omega arith) ∙ (ap (λ (x : ℕ). decimal x ++ ((48 + (10 * v + d) % 10) ∷ [])) q ∙ ap (λ (x : ℕ). decimal v ++ ((48 + x) ∷ [])) r)

-- what holds of the one-digit numbers, and of a number where it holds of the number without its last digit, holds of all
pub by_digits : (P : ℕ → Type 0) → ((d : ℕ) → d < 10 → P d) → ((n : ℕ) → 10 ≤ n → P (n / 10) → P n) → (n : ℕ) → P n
by_digits P short long n = go n n (omega arith)
  where
    go : (f m : ℕ) → m ≤ f + 9 → P m
    go zero m h = short m (omega arith)
    go (suc f) m h = by_length (ltb m 10) refl (go f (m / 10) (omega arith))
      where
        by_length : (z : Bool) → ltb m 10 ≡ z → P (m / 10) → P m
        by_length true e k = short m (ltb-true _ _ e)
        by_length false e k = long m (ltb-false _ _ e) k

-- any machine over the decimal text of a number: at v seen is its state after the digits of v, or after none where seen is false; Q says which numbers it takes
module _ {S : Type 0} (f : S → ℕ → S) (at : ℕ → Bool → S) (Q : ℕ → Type 0)
    (first : (d : ℕ) → d < 10 → Q d → f (at 0 false) (48 + d) ≡ at d true)
    (next : (n : ℕ) → 10 ≤ n → Q n → f (at (n / 10) true) (48 + n % 10) ≡ at n true)
    (down : (n : ℕ) → 10 ≤ n → Q n → Q (n / 10)) where
  pub digits_run : (n : ℕ) → Q n → Runs f (at 0 false) (decimal n) (at n true)
  digits_run = by_digits (λ n. Q n → Runs f (at 0 false) (decimal n) (at n true))
      (λ d hd q. rw (one_digit d hd) (record { to = first d hd q }))
      (λ n hn ih q. rw (last_digit n hn) (and_then (ih (down n hn q)) (record { to = next n hn q })))
