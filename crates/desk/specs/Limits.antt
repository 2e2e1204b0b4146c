-- The limits of the desk (docs/PROGRAM.md): of the bytes that are held.
use Rattle.std.specs.Prelude.{ℕ, ◌*◌}
use Rattle.console.specs.Limits.{answer_room}

-- the longest line that is read
abbrev pub longest_line : ℕ
longest_line = 65536

-- answers are written where they fill half of this
abbrev pub output_room : ℕ
output_room = 8 * answer_room
