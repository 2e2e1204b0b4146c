-- The words seen one after the other tell the form of the arguments. Assumes nothing.
use Rattle.std.specs.Prelude.{ℕ, suc, ◌≤◌, List, [], ◌∷◌, ◌≡◌, refl, Option, Some, None, length}
use Rattle.std.specs.Option.{option_or}
use Rattle.std.proofs.Common.{ap, arith, ne_eqb, lit≤}
use Rattle.forms.specs.declared.arguments.Word.{Word}
use Rattle.forms.specs.Arguments.{word_of, form_at, option_at, option_from, form_of}
use Rattle.forms.specs.inner.Seen.{no_words, seen}

-- past the first word: it stays, and so does the place of an option that was seen
seen_on : (first : Word) (ws : List (List ℕ)) (option : Option ℕ) (i : ℕ) → 2 ≤ i
    → seen (record { first = first; option = option }) i ws ≡ record { first = first; option = option_or option (option_from i ws) }
seen_on first [] None i h = refl
seen_on first [] (Some n) i h = refl
seen_on first (w ∷ ws) None i h = rw (ne_eqb i 1 (λ e. omega arith)) (seen_on first ws (option_at i (word_of w)) (suc i) (omega arith))
seen_on first (w ∷ ws) (Some n) i h = rw (ne_eqb i 1 (λ e. omega arith)) (seen_on first ws (Some n) (suc i) (omega arith))

pub form_seen : (ws : List (List ℕ)) → form_at (suc (length ws)) (seen no_words 1 ws) ≡ form_of ws
form_seen [] = refl
form_seen (w ∷ ws) = ap (form_at (suc (suc (length ws)))) (seen_on (word_of w) ws (option_at 1 (word_of w)) 2 (lit≤ tt))
