-- Laws of taking lines: a taking goes on, so that a piece comes to its end; a line that fits is held byte for byte, and one that does not is too long. Assumes nothing.
use Rattle.std.specs.Prelude.{ℕ, suc, Some, None, ◌+◌, ◌<◌, ◌≤◌, Bool, true, false, List, [], ◌∷◌, ◌≡◌, refl, ltb, length, drop, get_or, set}
use Rattle.std.proofs.Common.{ap, ◌∙◌, arith, add-one, lt-ltb, ltb-true, eq-eqb, ne_eqb, length-set, length-drop, drop-cons}
use Rattle.std.proofs.lemmas.List.Edits.{sets}
use Rattle.stream.specs.Taking.{line_in, ends, pushed_all}

-- ---- from a place inside a piece: its byte is a line feed, or one of the line
module _ (piece : List ℕ) (i : ℕ) (h : i < length piece) where
  pub feed_line : get_or piece i 0 ≡ 10 → line_in (drop i piece) ≡ []
  feed_line e = rw (drop-cons piece i 0 h, eq-eqb (get_or piece i 0) 10 e) refl

  pub feed_ends : get_or piece i 0 ≡ 10 → ends (drop i piece) ≡ true
  feed_ends e = rw (drop-cons piece i 0 h, eq-eqb (get_or piece i 0) 10 e) refl

  pub byte_line : (get_or piece i 0 ≡ 10 → ⊥) → line_in (drop i piece) ≡ get_or piece i 0 ∷ line_in (drop (i + 1) piece)
  byte_line e = rw (add-one i, drop-cons piece i 0 h, ne_eqb (get_or piece i 0) 10 e) refl

  pub byte_ends : (get_or piece i 0 ≡ 10 → ⊥) → ends (drop i piece) ≡ ends (drop (i + 1) piece)
  byte_ends e = rw (add-one i, drop-cons piece i 0 h, ne_eqb (get_or piece i 0) 10 e) refl

-- and from its end there is nothing to take
pub none_left : (piece : List ℕ) (i : ℕ) → length piece ≤ i → drop i piece ≡ []
none_left piece i h = none (drop i piece) (omega (arith, length-drop i piece))
  where
    none : (x : List ℕ) → length x ≡ 0 → x ≡ []
    none [] e = refl
    none (a ∷ x) e = absurd (omega arith)

-- ---- a line that fits is held byte for byte
pub line_held : (n : ℕ) (buffer t : List ℕ) → n + length t ≤ length buffer → pushed_all (Some n) buffer t ≡ record { held = Some (n + length t); buffer = sets buffer n t }
line_held n buffer [] h = let e : n ≡ n + 0 = omega arith in ap (λ (m : ℕ). record { held = Some m; buffer = buffer }) e
line_held n buffer (b ∷ t) h =
    let e : n + 1 + length t ≡ n + suc (length t) = omega arith in
    rw (lt-ltb n (length buffer) (omega arith))
    (line_held (n + 1) (set buffer n b) t (omega (arith, length-set buffer n b)) ∙ rw (e, add-one n) refl)

-- and one that does not is too long, whatever follows
over_stays : (buffer t : List ℕ) → (pushed_all None buffer t).held ≡ None
over_stays buffer [] = refl
over_stays buffer (b ∷ t) = over_stays buffer t

pub line_too_long : (n : ℕ) (buffer t : List ℕ) → n ≤ length buffer → length buffer < n + length t → (pushed_all (Some n) buffer t).held ≡ None
line_too_long n buffer [] l h = absurd (omega arith)
line_too_long n buffer (b ∷ t) l h = go (ltb n (length buffer)) refl (λ k. line_too_long (n + 1) (set buffer n b) t (omega (arith, length-set buffer n b)) (omega (arith, length-set buffer n b)))
  where
    go : (s : Bool) → ltb n (length buffer) ≡ s → (n < length buffer → (pushed_all (Some (n + 1)) (set buffer n b) t).held ≡ None) → (pushed_all (Some n) buffer (b ∷ t)).held ≡ None
    go true e more = rw (e, pushed_all) (more (ltb-true n (length buffer) e))
    go false e more = rw (e, pushed_all) (over_stays buffer t)
