-- Sheets given by their columns, as examples that acceptance is not empty and where it ends.
use Rattle.std.specs.Prelude.{cond, List, [], ◌∷◌, ℕ, zero, suc, ◌+◌, ◌-◌, ◌*◌, eqb}
use Rattle.rows.specs.Table.{air_h}

-- n rows from kelvin k on: gas 0 is O2, gas 1 CO2, gas 2 H2O
unfoldable pub laid_from : (ℕ → ℕ → ℕ) → ℕ → ℕ → List ℕ
laid_from gas zero k = []
laid_from gas (suc n) k = gas 0 k ∷ gas 1 k ∷ gas 2 k ∷ laid_from gas n (suc k)

-- the sheet of three gases by kelvin
unfoldable pub laid : (ℕ → ℕ → ℕ) → List ℕ
laid gas = laid_from gas 1801 200

-- the same three values in all rows
abbrev pub level : ℕ → ℕ → ℕ → ℕ → ℕ → ℕ
level a b c zero k = a
level a b c (suc zero) k = b
level a b c (suc (suc j)) k = c

abbrev pub flat : ℕ → ℕ → ℕ → List ℕ
flat a b c = laid (level a b c)

-- O2 from 0, rising by exactly four times the rise of air; no other gas
abbrev pub steepest : ℕ → ℕ → ℕ
steepest zero k = 4 * (air_h k - air_h 200)
steepest (suc j) k = 0

-- the same, with one more at kelvin m
abbrev pub one_more : ℕ → ℕ → ℕ → ℕ
one_more m zero k = cond (eqb k m) (steepest 0 k + 1) (steepest 0 k)
one_more m (suc j) k = 0
