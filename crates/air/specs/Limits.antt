-- The limits of the calls on air (document 01, "The air table" and "Temperature from heat"), each said here once. The constants of src/lib.rt are proved to be these by the
-- promises of the calls that test them.
use Rattle.std.specs.Prelude.{ℕ, ◌*◌}
use Rattle.rows.specs.Limits.{first_kelvin, last_kelvin}

-- the range of temperatures in mK: 200,000 to 2,000,000
abbrev pub coldest : ℕ
coldest = 1000 * first_kelvin

abbrev pub hottest : ℕ
hottest = 1000 * last_kelvin

-- places for the looks of a search
abbrev pub look_places : ℕ
look_places = 11

-- 15 °C in mK
abbrev pub fifteen_degrees : ℕ
fifteen_degrees = 288160
