-- A machine run over the bytes of a text, from a state.
use Rattle.std.specs.Prelude.{ℕ, List, [], ◌∷◌}

abbrev pub run {ℓ} : {S : Type ℓ} → (S → ℕ → S) → S → List ℕ → S
run f s [] = s
run f s (b ∷ bs) = run f (f s b) bs
