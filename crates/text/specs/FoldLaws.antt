-- A machine over a text: cut anywhere, the runs join. Assumes nothing.
use Rattle.std.specs.Prelude.{ℕ, ◌<◌, ◌+◌, ◌≡◌, refl, List, [], ◌∷◌, ◌++◌, length, take, get_or}
use Rattle.std.proofs.Common.{add-one, ◌∙◌, ap, take-suc}
use Rattle.text.specs.Fold.{run}

module _ {ℓ} {S : Type ℓ} (f : S → ℕ → S) where
  pub run_append : (s : S) (xs ys : List ℕ) → run f s (xs ++ ys) ≡ run f (run f s xs) ys
  run_append s [] ys = refl
  run_append s (b ∷ xs) ys = run_append (f s b) xs ys

  -- one byte more, as a loop over the text goes
  pub run_more : (s : S) (l : List ℕ) (i : ℕ) → i < length l → run f s (take (i + 1) l) ≡ f (run f s (take i l)) (get_or l i 0)
  run_more s l i h = ap (λ (n : ℕ). run f s (take n l)) (add-one i) ∙ (ap (run f s) (take-suc l i 0 h) ∙ run_append s (take i l) (get_or l i 0 ∷ []))

-- a run as a record, so that its ends are found where runs are joined
pub record Runs {S : Type 0} (f : S → ℕ → S) (s : S) (xs : List ℕ) (t : S) : Type 0 where
  pub to : run f s xs ≡ t

pub and_then : {S : Type 0} {f : S → ℕ → S} {s t u : S} {xs ys : List ℕ} → Runs f s xs t → Runs f t ys u → Runs f s (xs ++ ys) u
and_then {f} {s} {xs} {ys} p q = record { to = run_append f s xs ys ∙ (ap (λ x. run f x ys) p.to ∙ q.to) }
