-- Lists that are written from the front, and a part `&mut s[a..]` that was lent and has come back.
-- Assumes nothing.
use mathlib.Core.Path.{◌≡◌, ap, ◌∙◌}
use mathlib.Core.List.{List, [], ◌∷◌, ◌++◌, append_assoc, append-nil}
use Prim.Native.Nat.{ℕ, suc, ◌-◌, ◌≤◌, ◌<◌}
use native.Mathlib.Nat.{le_refl}
use native.Mathlib.Numerals.{add-one}
use native.Mathlib.Omega.{arith}
use lib.ListN.{length, get_or, take, drop, set, length-append, length-drop, drop_of_length-le}
use lib.Seq.{take_all, take_at, drop_at, drop-drop, set_at, drop-cons}
use Rattle.walk.specs.Lists.{laid}

module _ {A : Type 0} where
  -- what is lent of `&mut s[a..]`
  lent : (a : ℕ) (xs : List A) → take (length xs - a) (drop a xs) ≡ drop a xs
  lent a xs = take_all (length xs - a) (drop a xs) (simp length-drop (le_refl (length xs - a)))

  -- the whole, once the part has come back at ys
  back : (a : ℕ) (xs ys : List A) → take a xs ++ (ys ++ drop (length xs - a) (drop a xs)) ≡ take a xs ++ ys
  back a xs ys =
      let h : length (drop a xs) ≤ length xs - a = simp length-drop (le_refl (length xs - a)) in
      let e : drop (length xs - a) (drop a xs) ≡ [] = drop_of_length-le (drop a xs) h in
      simp (e, append-nil)

  -- the whole, where the callee wrote the part's first places
  pub back_laid : (a : ℕ) (xs us ys : List A) → ys ≡ laid us (take (length xs - a) (drop a xs)) →
      take a xs ++ (ys ++ drop (length xs - a) (drop a xs)) ≡ take a xs ++ laid us (drop a xs)
  back_laid a xs us ys e = back a xs ys ∙ ap (λ (r : List A). take a xs ++ r) (e ∙ ap (laid us) (lent a xs))

  -- the part's first places, over a whole whose places before the part were written
  pub laid_part : (n : ℕ) (us vs l : List A) → length us ≡ n →
      take n (laid us l) ++ laid vs (drop n (laid us l)) ≡ laid (us ++ vs) l
  laid_part n us vs l e =
      let t : take n (laid us l) ≡ us = take_at us _ n e in
      let d : drop n (laid us l) ≡ drop (length us) l = drop_at us _ n e in
      simp (t, d, drop-drop, append_assoc, length-append)

  -- one place more
  pub laid_set : (n : ℕ) (us l : List A) (v : A) → length us ≡ n → n < length l →
      set (laid us l) n v ≡ laid (us ++ (v ∷ [])) l
  laid_set n us l v e h =
      let k : length us < length l = omega arith in
      let d : drop (length us) l ≡ get_or l (length us) v ∷ drop (suc (length us)) l = drop-cons l (length us) v k in
      ap (λ (r : List A). set (us ++ r) n v) d ∙ set_at us _ _ v n e
      ∙ simp (append_assoc, length-append, add-one)

  pub length_laid : (us l : List A) → length us ≤ length l → length (laid us l) ≡ length l
  length_laid us l h = simp (length-append, length-drop) (omega arith)
