-- The halving rule over any test p of whole numbers, and the highest number that passes a test.
--     halving-stop, halving-upper, halving-lower    the rule, one look at a time: all that a proof needs of the definition
--     halving-ind     what holds where the ends differ by 1 and is kept by a look holds of every halving
--     kept            the row that is kept passes the test, and the row after it does not
--     at_most, at_least    a width of at most 2 ^ n has at most n looks, and one of at least 2 ^ n at least n: ten or eleven from 200 to 2,000
--     highest-is      a number that passes, above which none does, is the highest
-- Assumes nothing.
use Rattle.std.proofs.Common.{le-leb, leb-true, leb-false, sym, ◌∙◌, subst, ⊎_elim, eq-or-lt_of_le, le_of_suc-le-suc, add-one, arith, lit<, lit≤, pow_pos, length-set, length-append}
use Rattle.std.proofs.lemmas.Bool.{lt-leb}
use Rattle.std.specs.Prelude.{◌≡◌, Bool, true, false, List, ◌++◌, leb, length, drop, replicate, set}
use Rattle.std.proofs.Math.Path.{refl, ap, ap₂}
use Rattle.std.proofs.Math.Bool.{cond}
use Prim.Native.Nat.{ℕ, zero, suc, ◌+◌, ◌-◌, ◌^◌, ◌<◌, ◌≤◌}
use Rattle.std.proofs.Math.Nat.{pow-succ'}
use Rattle.std.proofs.lemmas.List.{length-replicate}
use Rattle.std.proofs.lemmas.List.Edits.{sets, sets-eq}
use Rattle.rows.specs.Limits.{first_kelvin, last_kelvin}
use Rattle.air.specs.Limits.{look_places}
use Rattle.air.specs.Halving.{middle, SearchLeft, looked, lookless, halvings, halving, highest_by, highest, eleven, Room, Halved}
use Rattle.refusal.specs.BoolLaws.{by_bool}

module _ (p : ℕ → Bool) where
  stop : (n lo hi : ℕ) → hi ≤ lo + 1 → halvings p n lo hi ≡ lookless lo
  unfolding halvings
  stop zero lo hi h = refl
  stop (suc n) lo hi h =
      ap (λ (b : Bool). cond b (lookless lo) (looked (middle lo hi) (cond (p (middle lo hi)) (halvings p n (middle lo hi) hi) (halvings p n lo (middle lo hi))))) (le-leb hi (lo + 1) h)

  more : (n lo hi : ℕ) → lo + 1 < hi → halvings p (suc n) lo hi ≡ looked (middle lo hi) (cond (p (middle lo hi)) (halvings p n (middle lo hi) hi) (halvings p n lo (middle lo hi)))
  unfolding halvings
  more n lo hi h = ap (λ (b : Bool). cond b (lookless lo) (looked (middle lo hi) (cond (p (middle lo hi)) (halvings p n (middle lo hi) hi) (halvings p n lo (middle lo hi))))) (lt-leb hi (lo + 1) h)

  -- any bound that is wide enough gives the same
  enough : (n m lo hi : ℕ) → hi ≤ lo + suc n → hi ≤ lo + suc m → halvings p n lo hi ≡ halvings p m lo hi
  enough zero m lo hi h k = stop zero lo hi (omega arith) ∙ sym (stop m lo hi (omega arith))
  enough (suc n) zero lo hi h k = stop (suc n) lo hi (omega arith) ∙ sym (stop zero lo hi (omega arith))
  enough (suc n) (suc m) lo hi h k =
      by_bool (leb hi (lo + 1))
      (λ e. stop (suc n) lo hi (leb-true hi (lo + 1) e) ∙ sym (stop (suc m) lo hi (leb-true hi (lo + 1) e)))
      (λ e. wide (leb-false hi (lo + 1) e) (enough n m (middle lo hi) hi) (enough n m lo (middle lo hi)))
    where
      wide : lo + 1 < hi → (hi ≤ middle lo hi + suc n → hi ≤ middle lo hi + suc m → halvings p n (middle lo hi) hi ≡ halvings p m (middle lo hi) hi)
          → (middle lo hi ≤ lo + suc n → middle lo hi ≤ lo + suc m → halvings p n lo (middle lo hi) ≡ halvings p m lo (middle lo hi))
          → halvings p (suc n) lo hi ≡ halvings p (suc m) lo hi
      wide w u l =
          more n lo hi w
          ∙ ap₂ (λ (a b : SearchLeft). looked (middle lo hi) (cond (p (middle lo hi)) a b)) (u (omega arith) (omega arith)) (l (omega arith) (omega arith))
          ∙ sym (more m lo hi w)

  pub halving_stop : (lo hi : ℕ) → hi ≤ lo + 1 → halving p lo hi ≡ lookless lo
  unfolding halving
  halving_stop lo hi h = stop (hi - lo) lo hi h

  halving_more : (lo hi : ℕ) → lo + 1 < hi → halving p lo hi ≡ looked (middle lo hi) (cond (p (middle lo hi)) (halving p (middle lo hi) hi) (halving p lo (middle lo hi)))
  unfolding halving
  halving_more lo hi w =
      enough (hi - lo) (suc (hi - lo)) lo hi (omega arith) (omega arith)
      ∙ more (hi - lo) lo hi w
      ∙ ap₂ (λ (a b : SearchLeft). looked (middle lo hi) (cond (p (middle lo hi)) a b))
      (enough (hi - lo) (hi - middle lo hi) (middle lo hi) hi (omega arith) (omega arith))
      (enough (hi - lo) (middle lo hi - lo) lo (middle lo hi) (omega arith) (omega arith))

  pub halving_upper : (lo hi : ℕ) → lo + 1 < hi → p (middle lo hi) ≡ true → halving p lo hi ≡ looked (middle lo hi) (halving p (middle lo hi) hi)
  halving_upper lo hi w e = halving_more lo hi w ∙ ap (λ (b : Bool). looked (middle lo hi) (cond b (halving p (middle lo hi) hi) (halving p lo (middle lo hi)))) e

  pub halving_lower : (lo hi : ℕ) → lo + 1 < hi → p (middle lo hi) ≡ false → halving p lo hi ≡ looked (middle lo hi) (halving p lo (middle lo hi))
  halving_lower lo hi w e = halving_more lo hi w ∙ ap (λ (b : Bool). looked (middle lo hi) (cond b (halving p (middle lo hi) hi) (halving p lo (middle lo hi)))) e

  module _ (P : ℕ → ℕ → SearchLeft → Type 0)
      (ends : (lo : ℕ) → P lo (lo + 1) (lookless lo))
      (upper : (lo hi : ℕ) (s : SearchLeft) → lo + 1 < hi → p (middle lo hi) ≡ true → P (middle lo hi) hi s → P lo hi (looked (middle lo hi) s))
      (lower : (lo hi : ℕ) (s : SearchLeft) → lo + 1 < hi → p (middle lo hi) ≡ false → P lo (middle lo hi) s → P lo hi (looked (middle lo hi) s)) where
    at_ends : (lo hi : ℕ) → lo < hi → hi ≤ lo + 1 → P lo hi (halving p lo hi)
    at_ends lo hi l h =
        let e : lo + 1 ≡ hi = omega arith in
        subst (λ (s : SearchLeft). P lo hi s) (sym (halving_stop lo hi h)) (subst (λ (j : ℕ). P lo j (lookless lo)) e (ends lo))

    within : (n lo hi : ℕ) → lo < hi → hi ≤ lo + suc n → P lo hi (halving p lo hi)
    within zero lo hi l h = at_ends lo hi l (omega arith)
    within (suc n) lo hi l h =
        by_bool (leb hi (lo + 1))
        (λ e. at_ends lo hi l (leb-true hi (lo + 1) e))
        (λ e. wide (leb-false hi (lo + 1) e) (within n (middle lo hi) hi) (within n lo (middle lo hi)))
      where
        wide : lo + 1 < hi → (middle lo hi < hi → hi ≤ middle lo hi + suc n → P (middle lo hi) hi (halving p (middle lo hi) hi))
            → (lo < middle lo hi → middle lo hi ≤ lo + suc n → P lo (middle lo hi) (halving p lo (middle lo hi)))
            → P lo hi (halving p lo hi)
        wide w u d =
            by_bool (p (middle lo hi))
            (λ e. subst (λ (s : SearchLeft). P lo hi s) (sym (halving_upper lo hi w e)) (upper lo hi (halving p (middle lo hi) hi) w e (u (omega arith) (omega arith))))
            (λ e. subst (λ (s : SearchLeft). P lo hi s) (sym (halving_lower lo hi w e)) (lower lo hi (halving p lo (middle lo hi)) w e (d (omega arith) (omega arith))))

    pub halving_ind : (lo hi : ℕ) → lo < hi → P lo hi (halving p lo hi)
    halving_ind lo hi l = within (hi - lo) lo hi l (omega arith)

-- what is kept
pub record Kept (p : ℕ → Bool) (lo hi : ℕ) (s : SearchLeft) : Type 0 where
  pub least : lo ≤ s.row
  pub most : s.row < hi
  pub passes : p s.row ≡ true
  pub fails : p (s.row + 1) ≡ false

pub kept : (p : ℕ → Bool) (lo hi : ℕ) → lo < hi → p lo ≡ true → p hi ≡ false → Kept p lo hi (halving p lo hi)
kept p lo hi =
    halving_ind p (λ lo hi s. p lo ≡ true → p hi ≡ false → Kept p lo hi s)
    (λ lo t f. record { least = omega arith; most = omega arith; passes = t; fails = f })
    (λ lo hi s w e h t f. let k = h e f in record { least = omega (arith, k.least); most = k.most; passes = k.passes; fails = k.fails })
    (λ lo hi s w e h t f. let k = h t e in record { least = k.least; most = omega (arith, k.most); passes = k.passes; fails = k.fails })
    lo hi

-- how many looks: at most n where the width is at most 2 ^ n, and at least n where it is at least 2 ^ n
pub at_most : (p : ℕ → Bool) (lo hi : ℕ) → lo < hi → (n : ℕ) → hi ≤ lo + 2 ^ n → length (halving p lo hi).looks ≤ n
at_most p lo hi =
    halving_ind p (λ lo hi s. (n : ℕ) → hi ≤ lo + 2 ^ n → length s.looks ≤ n)
    (λ lo n u. omega arith)
    (λ lo hi s w e h. look lo hi w (middle lo hi) hi s (omega arith) h)
    (λ lo hi s w e h. look lo hi w lo (middle lo hi) s (omega arith) h)
    lo hi
  where
    look : (lo hi : ℕ) → lo + 1 < hi → (a b : ℕ) (s : SearchLeft) → b - a + (b - a) ≤ hi + 1 - lo
        → ((n : ℕ) → b ≤ a + 2 ^ n → length s.looks ≤ n) → (n : ℕ) → hi ≤ lo + 2 ^ n → suc (length s.looks) ≤ n
    look lo hi w a b s y h zero u = omega arith
    look lo hi w a b s y h (suc n) u = omega (arith, h n (omega (arith, pow-succ' 2 n)))

pub at_least : (p : ℕ → Bool) (lo hi : ℕ) → lo < hi → (n : ℕ) → lo + 2 ^ n ≤ hi → n ≤ length (halving p lo hi).looks
at_least p lo hi =
    halving_ind p (λ lo hi s. (n : ℕ) → lo + 2 ^ n ≤ hi → n ≤ length s.looks)
    ends
    (λ lo hi s w e h. look lo hi w (middle lo hi) hi s (omega arith) h)
    (λ lo hi s w e h. look lo hi w lo (middle lo hi) s (omega arith) h)
    lo hi
  where
    ends : (lo n : ℕ) → lo + 2 ^ n ≤ lo + 1 → n ≤ 0
    ends lo zero l = omega arith
    ends lo (suc n) l = absurd (omega (arith, pow-succ' 2 n, pow_pos n))

    look : (lo hi : ℕ) → lo + 1 < hi → (a b : ℕ) (s : SearchLeft) → hi ≤ lo + (b - a) + (b - a) + 1
        → ((n : ℕ) → a + 2 ^ n ≤ b → n ≤ length s.looks) → (n : ℕ) → lo + 2 ^ n ≤ hi → n ≤ suc (length s.looks)
    look lo hi w a b s x h zero l = omega arith
    look lo hi w a b s x h (suc n) l = omega (arith, h n (omega (arith, pow-succ' 2 n, pow_pos n)))

-- from 200 to 2,000 there are ten looks or eleven
pub at_least_ten : (p : ℕ → Bool) → 10 ≤ length (halving p first_kelvin last_kelvin).looks
at_least_ten p = at_least p first_kelvin last_kelvin (lit< tt) 10 (lit≤ tt)

pub at_most_eleven : (p : ℕ → Bool) → length (halving p first_kelvin last_kelvin).looks ≤ look_places
at_most_eleven p = at_most p first_kelvin last_kelvin (lit< tt) look_places (lit≤ tt)

-- ---- the highest
highest_by_lem : (p : ℕ → Bool) (from n d : ℕ) → d ≤ n → (0 < d → p (from + d) ≡ true) → ((u : ℕ) → d < u → u ≤ n → p (from + u) ≡ false) → highest_by p from n ≡ from + d
unfolding highest_by
highest_by_lem p from zero d l e h = omega arith
highest_by_lem p from (suc n) d l e h =
    ⊎_elim
    (λ x. rw (← x, e (omega arith)) refl)
    (λ x. rw (h (suc n) x (omega arith)) (highest_by_lem p from n d (le_of_suc-le-suc x) e (λ u a b. h u a (omega arith))))
    (eq-or-lt_of_le l)

-- a number that passes, above which none does, is the highest
pub highest_is : (p : ℕ → Bool) (from to t : ℕ) → from ≤ t → t ≤ to → p t ≡ true → ((u : ℕ) → t < u → u ≤ to → p u ≡ false) → highest p from to ≡ t
unfolding highest
highest_is p from to t a b e h =
    let s : from + (t - from) ≡ t = omega arith in
    highest_by_lem p from (to - from) (t - from) (omega arith) (λ _. ap p s ∙ e) (λ u x y. h (from + u) (omega arith) (omega arith)) ∙ s

-- where the least passes, the highest passes, and it lies from the one to the other
passes_by : (p : ℕ → Bool) (from n : ℕ) → p from ≡ true → (p (highest_by p from n) ≡ true) × (from ≤ highest_by p from n) × (highest_by p from n ≤ from + n)
unfolding highest_by
passes_by p from zero e = (e, omega arith, omega arith)
passes_by p from (suc n) e =
    by_bool (p (from + suc n))
    (λ h. rw h (h, omega arith, omega arith))
    (λ h. let k = passes_by p from n e in rw h (k.0, k.1, omega (arith, k.2)))

-- above the highest none passes
fails_by : (p : ℕ → Bool) (from n u : ℕ) → highest_by p from n < u → u ≤ from + n → p u ≡ false
unfolding highest_by
fails_by p from zero u a b = absurd (omega arith)
fails_by p from (suc n) u a b =
    by_bool (p (from + suc n))
    (λ h. absurd (let k : from + suc n < u = rw h at a in omega arith))
    (λ h. ⊎_elim (λ e. ap p e ∙ h) (λ c. fails_by p from n u (rw h at a) (omega arith)) (eq-or-lt_of_le b))

pub highest_above : (p : ℕ → Bool) (from to u : ℕ) → from ≤ to → highest p from to < u → u ≤ to → p u ≡ false
unfolding highest
highest_above p from to u l a b = fails_by p from (to - from) u a (omega arith)

module _ (p : ℕ → Bool) (from to : ℕ) (l : from ≤ to) (e : p from ≡ true) where
  pub highest_passes : p (highest p from to) ≡ true
  unfolding highest
  highest_passes = (passes_by p from (to - from) e).0

  pub highest_least : from ≤ highest p from to
  unfolding highest
  highest_least = (passes_by p from (to - from) e).1

  pub highest_most : highest p from to ≤ to
  unfolding highest
  highest_most = omega (arith, (passes_by p from (to - from) e).2)

-- ---- the turns of a search that writes its looks to a lent list
-- a look at the middle of lo and hi, after which the ends are lo' and hi'
pub record Turn (p : ℕ → Bool) (lo hi lo' hi' : ℕ) : Type 0 where
  pub turn : halving p lo hi ≡ looked (middle lo hi) (halving p lo' hi')

pub to_upper : {p : ℕ → Bool} {lo hi : ℕ} → lo + 1 < hi → p (middle lo hi) ≡ true → Turn p lo hi (middle lo hi) hi
to_upper {p} {lo} {hi} w e = record { turn = halving_upper p lo hi w e }

pub to_lower : {p : ℕ → Bool} {lo hi : ℕ} → lo + 1 < hi → p (middle lo hi) ≡ false → Turn p lo hi lo (middle lo hi)
to_lower {p} {lo} {hi} w e = record { turn = halving_lower p lo hi w e }

pub ended : {p : ℕ → Bool} {lo hi at : ℕ} {l : List ℕ} → hi ≤ lo + 1 → Halved p lo hi at l lo l
ended {p} {lo} {hi} {at} {l} h =
    let e = halving_stop p lo hi h in
    record { row_is = sym (ap (λ (s : SearchLeft). s.row) e); list_is = sym (ap (λ (s : SearchLeft). sets l at s.looks) e) }

module _ {p : ℕ → Bool} {lo hi lo' hi' at : ℕ} {l : List ℕ} (t : Turn p lo hi lo' hi') where
  room_here : Room p lo hi at l → at < length l
  room_here r = omega (arith, ap (λ (s : SearchLeft). length s.looks) t.turn)

  pub room_next : Room p lo hi at l → Room p lo' hi' (at + 1) (set l at (middle lo hi))
  room_next r = record { room = omega (arith, ap (λ (s : SearchLeft). length s.looks) t.turn, length-set l at (middle lo hi)) }

  pub turned : {row : ℕ} {after : List ℕ} → Halved p lo' hi' (at + 1) (set l at (middle lo hi)) row after → Halved p lo hi at l row after
  turned h = record {
    row_is = h.row_is ∙ sym (ap (λ (s : SearchLeft). s.row) t.turn);
    list_is =
        h.list_is
        ∙ ap (λ (i : ℕ). sets (set l at (middle lo hi)) i (halving p lo' hi').looks) (add-one at)
        ∙ sym (ap (λ (s : SearchLeft). sets l at s.looks) t.turn);
  }

-- whichever half is kept, there is a look
pub room_first : {p : ℕ → Bool} {lo hi at : ℕ} {l : List ℕ} → lo + 1 < hi → Room p lo hi at l → at < length l
room_first {p} {lo} {hi} w r = by_bool (p (middle lo hi)) (λ e. room_here (to_upper w e) r) (λ e. room_here (to_lower w e) r)

-- a look halves the width, and there is one look for each halving
pub narrower : (lo hi at : ℕ) → lo + 1 < hi → at ≤ look_places → hi ≤ lo + 2 ^ (look_places - at)
    → (at + 1 ≤ look_places) × (hi ≤ middle lo hi + 2 ^ (look_places - (at + 1))) × (middle lo hi ≤ lo + 2 ^ (look_places - (at + 1)))
narrower lo hi at w l = go (look_places - at) refl
  where
    go : (n : ℕ) → look_places - at ≡ n → hi ≤ lo + 2 ^ n
        → (at + 1 ≤ look_places) × (hi ≤ middle lo hi + 2 ^ (look_places - (at + 1))) × (middle lo hi ≤ lo + 2 ^ (look_places - (at + 1)))
    go zero e h = absurd (omega arith)
    go (suc n) e h =
        let m : look_places - (at + 1) ≡ n = omega arith in
        rw m (omega arith, omega (arith, pow-succ' 2 n), omega (arith, pow-succ' 2 n))

-- ---- eleven places that were 0, with the looks of a search written from their start
drop_replicate : (n m v : ℕ) → drop n (replicate m v) ≡ replicate (m - n) v
drop_replicate zero m v = ap (λ (k : ℕ). replicate k v) {x = m} {y = m - 0} (omega arith)
drop_replicate (suc n) zero v = ap (λ (k : ℕ). replicate k v) {x = 0} {y = 0 - suc n} (omega arith)
drop_replicate (suc n) (suc m) v = drop_replicate n m v ∙ ap (λ (k : ℕ). replicate k v) {x = m - n} {y = suc m - suc n} (omega arith)

pub length_eleven : (xs : List ℕ) → length xs ≤ look_places → length (eleven xs) ≡ look_places
unfolding eleven
length_eleven xs h = length-append xs (replicate (look_places - length xs) 0) ∙ omega (arith, length-replicate {A = ℕ} (look_places - length xs) 0)

looks_placed : (vs : List ℕ) → length vs ≤ look_places → sets (replicate look_places 0) 0 vs ≡ eleven vs
unfolding eleven
looks_placed vs h =
    sets-eq vs (replicate look_places 0) 0 (omega (arith, length-replicate {A = ℕ} look_places 0))
    ∙ ap (λ (n : ℕ). vs ++ drop n (replicate look_places 0)) {x = 0 + length vs} {y = length vs} (omega arith)
    ∙ ap (λ (r : List ℕ). vs ++ r) (drop_replicate (length vs) look_places 0)

-- the row that a search from 200 and 2,000 keeps, and its looks in those places
pub places_are : {p : ℕ → Bool} {row : ℕ} {places : List ℕ} → Halved p first_kelvin last_kelvin 0 (replicate look_places 0) row places → places ≡ eleven (halving p first_kelvin last_kelvin).looks
places_are {p} h = h.list_is ∙ looks_placed (halving p first_kelvin last_kelvin).looks (at_most_eleven p)
