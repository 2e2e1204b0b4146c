-- The limits of a sheet (document 01, "The gas sheet"), each said here once. The constants of src/lib.rt are proved to be these by the promises of the calls that test them.
use Rattle.std.specs.Prelude.{ℕ, ◌*◌}
use Rattle.rows.specs.Limits.{table_rows}

-- three numbers a row: 5,403
abbrev pub sheet_numbers : ℕ
sheet_numbers = 3 * table_rows

-- no value is over it
abbrev pub most_figure : ℕ
most_figure = 200000

-- the bytes of a sheet's text, at least and at most
abbrev pub least_text : ℕ
least_text = 19011

abbrev pub most_text : ℕ
most_text = 46026
