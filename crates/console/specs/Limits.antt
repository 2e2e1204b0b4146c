-- The limits of the console (docs/PROGRAM.md), each said here once.
use Rattle.std.specs.Prelude.{ℕ, ◌+◌, ◌*◌}
use Rattle.air.specs.Limits.{look_places}
use Rattle.burning.specs.Burning.{charge_numbers}
use Rattle.walk.specs.Limits.{most_steps, most_numbers}
use Rattle.wording.specs.Limits.{field, small, looks_room, course_room}

-- the numbers of a start: those of a charge, and mK
abbrev pub start_numbers : ℕ
start_numbers = charge_numbers + 1

-- places for the numbers of a request: a start, the steps of the longest walk, and one more, by which too many are known
abbrev pub held_numbers : ℕ
held_numbers = start_numbers + most_numbers + 1

-- ---- the most bytes of a text, from those of its parts (specs/Limits.antt of wording)
-- a step in a line: mK, rest, the number of looks, and the looks
abbrev pub in_line_room : ℕ
in_line_room = (field + field) + looks_room look_places

-- a step on a page: its number, mK, rest, the number of looks, and a line feed
abbrev pub on_page_room : ℕ
on_page_room = (20 + 3 * field) + 1

-- what stands behind the steps of a page: refused, the number and a line feed
abbrev pub end_room : ℕ
end_room = (7 + small) + 1

-- a reply: that of the longest walk, how it ended and its steps
abbrev pub reply_room : ℕ
reply_room = course_room + in_line_room * most_steps

-- an answer line: a reply and a line feed
abbrev pub answer_room : ℕ
answer_room = reply_room + 1

-- a printed walk: the header, the lines of the steps, and what stands behind them
abbrev pub page_room : ℕ
page_room = (19 + on_page_room * most_steps) + end_room
