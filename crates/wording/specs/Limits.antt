-- The most bytes that each text of an answer has, from the widths of machine words alone: a number of 64 bits has at most 20 bytes in decimal, its minus sign counted, and one of
-- 32 bits at most 10 (specs/DigitsLaws.antt of text).
use Rattle.std.specs.Prelude.{ℕ, ◌+◌, ◌*◌}
use Rattle.burning.specs.Burning.{charge_numbers}

-- a tab and a number of 64 bits
abbrev pub field : ℕ
field = 1 + 20

-- a tab and a number of 32 bits
abbrev pub small : ℕ
small = 1 + 10

-- refused, its number and its row
abbrev pub refusal_room : ℕ
refusal_room = 7 + 2 * small

-- ok and up to five numbers, or a refusal, or a mark
abbrev pub values_room : ℕ
values_room = 2 + 5 * field

-- the number of looks, and the looks that so many places hold
abbrev pub looks_room : ℕ → ℕ
looks_room places = field + small * places

-- ok, mK, rest, the number of looks, and the looks
abbrev pub inverse_room : ℕ → ℕ
inverse_room places = (2 + 2 * field) + looks_room places

-- the numbers of a charge, and mK
abbrev pub state_room : ℕ
state_room = field * charge_numbers + field

-- stopped, the number of steps, the refusal's number, the charge and mK
abbrev pub course_room : ℕ
course_room = (7 + 2 * small) + state_room
