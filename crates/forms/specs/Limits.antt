-- The limits of a question (docs/PROGRAM.md), worked out from those of a walk; and the most bytes of what is printed.
use Rattle.std.specs.Prelude.{ℕ, ◌+◌, ◌*◌}
use Rattle.wording.specs.Limits.{refusal_room}
use Rattle.walk.specs.Limits.{step_numbers, most_steps}
use Rattle.console.specs.Limits.{page_room}

-- the lines that are kept: the start, the steps of the longest walk, and one more, by which too many are known
abbrev pub kept_lines : ℕ
kept_lines = most_steps + 2

-- each has as many numbers as a step
abbrev pub kept_numbers : ℕ
kept_numbers = step_numbers * kept_lines

-- lines are counted as far as 64 bits go
abbrev pub most_counted : ℕ
most_counted = 18446744073709551615

-- ---- the most bytes of a text
-- how to go on
abbrev pub usage_room : ℕ
usage_room = 318

-- the built-in example: a printed walk, a line feed and how to go on
abbrev pub example_room : ℕ
example_room = (page_room + 1) + usage_room

-- a line on standard error: the longest names a line by its number and says what was expected there
abbrev pub note_room : ℕ
note_room = ((5 + 20) + 46) + 25

-- the line of a verdict
abbrev pub report_room : ℕ
report_room = refusal_room + 1
