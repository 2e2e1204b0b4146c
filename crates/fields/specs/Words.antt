-- Words (docs/PROGRAM.md): when two texts are the same, the place of a word among others, and a table of words with what each names.
use Rattle.std.specs.Prelude.{ℕ, zero, suc, ◌≡◌, Bool, true, false, ◌&&◌, cond, List, [], ◌∷◌, map, eqb, get_or}
use Prim.Native.String.{String}
use Rattle.text.specs.Bytes.{bytes_of}

-- two texts have the same bytes
abbrev pub same_text : List ℕ → List ℕ → Bool
same_text [] [] = true
same_text [] (b ∷ bs) = false
same_text (a ∷ x) [] = false
same_text (a ∷ x) (b ∷ y) = eqb a b && same_text x y

-- the place of a word among words; their number where it is none of them
abbrev pub position_of : List ℕ → List (List ℕ) → ℕ
position_of w [] = 0
position_of w (x ∷ xs) = cond (same_text w x) 0 (suc (position_of w xs))

-- ---- a table: words, and what each names
pub record Worded (A : Type 0) : Type 0 where
  pub word : List ℕ
  pub named : A

infix 80 ◌names◌
abbrev pub ◌names◌ : {A : Type 0} → String → A → Worded A
s names a = record { word = bytes_of s; named = a }

abbrev pub words_in : {A : Type 0} → List (Worded A) → List (List ℕ)
words_in table = map (λ e. e.word) table

-- what stands at a place of the table; past its end what no word names
abbrev pub named_at : {A : Type 0} → List (Worded A) → A → ℕ → A
named_at table none p = get_or (map (λ e. e.named) table) p none

-- what a word names
abbrev pub named_by : {A : Type 0} → List (Worded A) → A → List ℕ → A
named_by table none w = named_at table none (position_of w (words_in table))

-- p is none of the numbers below n, said as a `match` on 0, 1, .. leaves it at its `_`
abbrev pub NoneBelow : ℕ → ℕ → Type 0
NoneBelow zero p = Unit {0}
NoneBelow (suc n) p = NoneBelow n p × (p ≡ n → ⊥)
