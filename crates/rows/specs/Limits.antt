-- The range of Table 1 (document 01, "The air table"), said here once. The constants of src/lib.rt are proved to be these by the promises of `figure` and of the columns.
use Rattle.std.specs.Prelude.{ℕ, ◌+◌, ◌-◌}

-- the first and the last whole kelvin
abbrev pub first_kelvin : ℕ
first_kelvin = 200

abbrev pub last_kelvin : ℕ
last_kelvin = 2000

-- a row for each: 1,801
abbrev pub table_rows : ℕ
table_rows = last_kelvin - first_kelvin + 1
