-- Which refusals the paper names (document 01, "Refusal numbers"). It stands below the type of the refusals, whose last variant is any other number. Assumes nothing.
use Rattle.std.specs.Prelude.{Bool, eqb, leb, ◌&&◌, ◌||◌, ℕ, Option, Some, None}

-- whether the paper names the number: 2 and 3 with a row, 1 and 4 to 14 with none
abbrev pub is_named : ℕ → Option ℕ → Bool
is_named n None = eqb n 1 || (leb 4 n && leb n 14)
is_named n (Some row) = eqb n 2 || eqb n 3
