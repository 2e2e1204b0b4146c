-- The limits of a walk (document 01, "The walk"), each said here once; the others are worked out from them. The constants of src/lib.rt are proved to be these by the promises of
-- the calls that test them.
use Rattle.std.specs.Prelude.{ℕ, ◌*◌}
use Rattle.air.specs.Limits.{look_places}

-- each step is four signed 64-bit numbers
abbrev pub step_numbers : ℕ
step_numbers = 4

-- a walk has up to 64 steps
abbrev pub most_steps : ℕ
most_steps = 64

-- the numbers of the longest walk, and the places for its looks
abbrev pub most_numbers : ℕ
most_numbers = step_numbers * most_steps

abbrev pub most_looks : ℕ
most_looks = look_places * most_steps
