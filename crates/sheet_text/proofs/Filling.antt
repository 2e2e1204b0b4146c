-- The reader's loop: a byte more from a place, and a bad byte, after which the rest of the text changes nothing. Assumes nothing.
use mathlib.Core.Path.{◌≡◌, refl, sym, ◌∙◌, ap, ap₂}
use mathlib.Core.List.{List, [], ◌∷◌, ◌++◌}
use Prim.Native.Nat.{ℕ, zero, suc, ◌+◌, ◌<◌}
use lib.ListN.{length, get_or, take, drop}
use Rattle.text.specs.Fold.{run}
use Rattle.text.specs.FoldLaws.{run_more, run_append}
use Rattle.sheet_text.specs.declared.Place.{Place}
use Rattle.std.specs.Prelude.{Ok, Err}
use Rattle.sheet_text.specs.Machine.{step_place, stored_place, Filled, filled, fill_byte, State}

module _ (from : Filled) (text : List ℕ) where
  pub byte_more : (i : ℕ) (p : Place) (l : List ℕ) → i < length text → filled (Ok p) l ≡ run fill_byte from (take i text)
      → {s : State} {later : List ℕ} → s ≡ step_place p (get_or text i 0) → later ≡ stored_place p (get_or text i 0) l → filled s later ≡ run fill_byte from (take (i + 1) text)
  byte_more i p l h e q w = ap₂ filled q w ∙ (ap (λ (x : Filled). fill_byte x (get_or text i 0)) e ∙ sym (run_more fill_byte from text i h))

  parts : (i : ℕ) (xs : List ℕ) → take i xs ++ drop i xs ≡ xs
  parts zero xs = refl
  parts (suc i) [] = refl
  parts (suc i) (x ∷ xs) = ap (λ (r : List ℕ). x ∷ r) (parts i xs)

  bad_fills : (r : ℕ) (l xs : List ℕ) → run fill_byte (filled (Err r) l) xs ≡ filled (Err r) l
  bad_fills r l [] = refl
  bad_fills r l (x ∷ xs) = bad_fills r l xs

  pub bad_whole : (i r : ℕ) (l : List ℕ) → filled (Err r) l ≡ run fill_byte from (take i text) → filled (Err r) l ≡ run fill_byte from text
  bad_whole i r l e =
      sym (bad_fills r l (drop i text))
      ∙ (ap (λ (x : Filled). run fill_byte x (drop i text)) e ∙ (sym (run_append fill_byte from (take i text) (drop i text)) ∙ ap (run fill_byte from) (parts i text)))
