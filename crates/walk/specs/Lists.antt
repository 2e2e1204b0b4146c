-- The three lists that a caller lends for a walk, and what a lent list holds after its first places were written (document 01, "The walk": "Places past the last step keep their bytes").
use Rattle.std.specs.Prelude.{List, ◌++◌, ℕ, ℤ, length, drop}

-- the temperatures, the rests and the looks
pub record Lists : Type 0 where
  pub temperatures : List ℤ
  pub rests : List ℤ
  pub looks : List ℕ

abbrev pub lists : List ℤ → List ℤ → List ℕ → Lists
lists t r l = record { temperatures = t; rests = r; looks = l }

-- the news in the first places, the later places as they were
abbrev pub laid : {A : Type 0} → List A → List A → List A
laid news old = news ++ drop (length news) old
