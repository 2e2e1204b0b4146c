-- The air table by kelvin (document 01, "The air table"): H and H15 in hundredths of C.H.U./lb, Cp and psi in ten-thousandths.
use Rattle.std.specs.Prelude.{cond, List, ℕ, ◌-◌, ltb, ℤ, pos, get_or}
use Rattle.rows.specs.Limits.{first_kelvin}
use Rattle.rows.specs.Rows.{rows_h, rows_cp, rows_psi, rows_h15}

-- the figure of a whole kelvin in a column that starts at 200, and 0 where the column has none
unfoldable pub column : List ℕ → ℕ → ℕ
column rows k = cond (ltb k first_kelvin) 0 (get_or rows (k - first_kelvin) 0)

-- the columns H, Cp, psi and H15
unfoldable pub air_h : ℕ → ℕ
air_h k = column rows_h k

unfoldable pub air_cp : ℕ → ℕ
air_cp k = column rows_cp k

unfoldable pub air_psi : ℕ → ℕ
air_psi k = column rows_psi k

unfoldable pub air_h15 : ℕ → ℤ
air_h15 k = get_or rows_h15 (k - first_kelvin) (pos 0)
