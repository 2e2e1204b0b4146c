-- A sheet list and its acceptance (document 01, "The gas sheet"): 5,403 numbers row by row, O2, CO2 and H2O of each kelvin from 200 to 2,000, in hundredths of
-- C.H.U./lb above 0 K. Row r is kelvin 200 + r.
use Rattle.std.specs.Prelude.{◌≡◌, Bool, false, not, ◌||◌, cond, List, ℕ, zero, suc, ◌+◌, ◌-◌, ◌*◌, ◌≤◌, ◌<◌, ltb, eqb, length, get_or, Option, Some, None}
use Rattle.rows.specs.Limits.{first_kelvin, last_kelvin, table_rows}
use Rattle.rows.specs.Table.{air_h}
use Rattle.sheet_text.specs.Limits.{most_figure, sheet_numbers}

-- the three columns by kelvin
unfoldable pub o2 : List ℕ → ℕ → ℕ
o2 s k = get_or s (3 * (k - first_kelvin)) 0

unfoldable pub co2 : List ℕ → ℕ → ℕ
co2 s k = get_or s (3 * (k - first_kelvin) + 1) 0

unfoldable pub h2o : List ℕ → ℕ → ℕ
h2o s k = get_or s (3 * (k - first_kelvin) + 2) 0

-- a lent sheet list is not 5,403 long
abbrev pub not_long : List ℕ → Bool
not_long s = not (eqb (length s) sheet_numbers)

-- a value over 200,000
unfoldable pub over_limit : List ℕ → ℕ → Bool
over_limit s k = ltb most_figure (o2 s k) || (ltb most_figure (co2 s k) || ltb most_figure (h2o s k))

-- step rule, from each kelvin to the next: no gas falls, and O2 rises by at most four times the rise of air
abbrev pub falls : (ℕ → ℕ) → ℕ → Bool
falls gas k = ltb (gas (suc k)) (gas k)

abbrev pub rise : (ℕ → ℕ) → ℕ → ℕ
rise col k = col (suc k) - col k

unfoldable pub breaks_step : List ℕ → ℕ → Bool
breaks_step s k = falls (o2 s) k || (falls (co2 s) k || (falls (h2o s) k || ltb (4 * rise air_h k) (rise (o2 s) k)))

-- the list keeps it from each kelvin to the next
pub record KeepsStepRule (s : List ℕ) : Type 0 where
  pub kept : (k : ℕ) → first_kelvin ≤ k → k < last_kelvin → breaks_step s k ≡ false

-- a row is bad if it holds a value over 200,000 or breaks the step rule against the row before it
abbrev pub bad_row : List ℕ → ℕ → Bool
bad_row s zero = over_limit s first_kelvin
bad_row s (suc r) = over_limit s (first_kelvin + suc r) || breaks_step s (first_kelvin + r)

-- the first of n numbers from r on that passes a test, r + n where none does
abbrev pub first_from : (ℕ → Bool) → ℕ → ℕ → ℕ
first_from test zero r = r
first_from test (suc n) r = cond (test r) r (first_from test n (suc r))

-- rows are judged in order from 0; 1,801 where none is bad
unfoldable pub first_bad_row : List ℕ → ℕ
first_bad_row s = first_from (bad_row s) table_rows 0

-- the first bad row, where there is one
abbrev pub bad_row_found : List ℕ → Option ℕ
bad_row_found s = cond (ltb (first_bad_row s) table_rows) (Some (first_bad_row s)) None

-- an accepted sheet passes all three: length, the 200,000 limit and the step rule
pub record Accepted (s : List ℕ) : Type 0 where
  pub long : length s ≡ sheet_numbers
  pub no_bad_row : (r : ℕ) → r < table_rows → bad_row s r ≡ false
