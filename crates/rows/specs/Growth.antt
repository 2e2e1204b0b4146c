-- Rules of a table (document 01, "The air table": "H and ψ are larger in each row than in the row before"), each one test over the whole list.
use Rattle.std.specs.Prelude.{Bool, true, false, ◌&&◌, List, [], ◌∷◌, ℕ, ltb, ℤ}

-- each entry is above the one before it, the first above x
abbrev pub above : ℕ → List ℕ → Bool
above x [] = true
above x (y ∷ ys) = ltb x y && above y ys

abbrev pub growing : List ℕ → Bool
growing [] = true
growing (x ∷ xs) = above x xs

-- the test f passes at each entry of the first list and the entry of the second at the same place
abbrev pub each2 : (ℕ → ℤ → Bool) → List ℕ → List ℤ → Bool
each2 f [] ys = true
each2 f (x ∷ xs) [] = false
each2 f (x ∷ xs) (y ∷ ys) = f x y && each2 f xs ys
