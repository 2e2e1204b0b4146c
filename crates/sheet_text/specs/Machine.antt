-- The reader's machine, byte by byte: where in the sheet it stands, and what a byte does there. Contracts inside the crate cite it; that it means the form
-- of Text.antt is proved in HeldLaws.antt, WholeLaws.antt and FirstBadLaws.antt.
use Rattle.std.specs.Prelude.{ℕ, ◌+◌, ◌*◌, ◌-◌, ◌/◌, Bool, true, false, not, ◌&&◌, ◌||◌, cond, List, [], ◌∷◌, ltb, eqb, Result, Ok, Err}
use Rattle.std.proofs.lemmas.List.Edits.{sets}
use Rattle.rows.specs.Limits.{first_kelvin, table_rows}
use Rattle.text.specs.Wholes.{is_digit, may_follow}
use Rattle.sheet_text.specs.Limits.{most_figure}
use Rattle.sheet_text.specs.declared.Place.{Place}

-- a place from which a good sheet can follow, or the row of the byte after which none can
abbrev pub State : Type 0
State = Result Place ℕ

abbrev pub start : State
start = Ok (record { row = 0; field = 0; value = 0; seen = false; first = 0; second = 0 })

-- the digits of v begin those of k, a number of at most four digits
unfoldable pub begins : ℕ → ℕ → Bool
begins k v = ltb 0 v && (eqb v k || (eqb v (k / 10) || (eqb v (k / 100) || eqb v (k / 1000))))

-- may the digit d follow in the field at hand? Field 0 is the kelvin, which the row fixes
unfoldable pub takes_digit : Place → ℕ → Bool
takes_digit p d = cond (eqb p.field 0) (begins (first_kelvin + p.row) (10 * p.value + d)) (may_follow most_figure p.seen p.value d)

unfoldable pub with_digit : Place → ℕ → Place
with_digit p d = record { row = p.row; field = p.field; value = 10 * p.value + d; seen = true; first = p.first; second = p.second }

-- may the field at hand end here?
unfoldable pub whole : Place → Bool
whole p = cond (eqb p.field 0) (eqb p.value (first_kelvin + p.row)) p.seen

-- the byte that ends the field: a tab, after the last a line feed
unfoldable pub closer : Place → ℕ
closer p = cond (ltb p.field 3) 9 10

-- the place after the field's end
unfoldable pub after : Place → Place
after p =
    cond (ltb p.field 3)
    (record {
      row = p.row;
      field = p.field + 1;
      value = 0;
      seen = false;
      first = cond (eqb p.field 1) p.value p.first;
      second = cond (eqb p.field 2) p.value p.second;
    })
    (record { row = p.row + 1; field = 0; value = 0; seen = false; first = 0; second = 0 })

unfoldable pub step_digit : Place → ℕ → State
step_digit p d = cond (takes_digit p d) (Ok (with_digit p d)) (Err p.row)

unfoldable pub ends_field : Place → ℕ → Bool
ends_field p b = eqb b (closer p) && whole p

unfoldable pub step_end : Place → ℕ → State
step_end p b = cond (ends_field p b) (Ok (after p)) (Err p.row)

unfoldable pub step_place : Place → ℕ → State
step_place p b = cond (ltb p.row table_rows) (cond (is_digit b) (step_digit p (b - 48)) (step_end p b)) (Err p.row)

-- one byte more. A bad row stays
abbrev pub step : State → ℕ → State
step (Ok p) b = step_place p b
step (Err r) b = Err r

-- the row that the machine stands in, or died in
abbrev pub row_of : State → ℕ
row_of (Ok p) = p.row
row_of (Err r) = r

-- all rows read, and nothing after
abbrev pub whole_sheet : State → Bool
whole_sheet (Ok p) = eqb p.row table_rows
whole_sheet (Err r) = false

-- does the byte end a row?
unfoldable pub ends_row : Place → ℕ → Bool
ends_row p b = ltb p.row table_rows && (eqb b 10 && (not (ltb p.field 3) && p.seen))

-- the list after the byte: a row's three numbers are written when the row ends
unfoldable pub stored_place : Place → ℕ → List ℕ → List ℕ
stored_place p b l = cond (ends_row p b) (sets l (3 * p.row) (p.first ∷ p.second ∷ p.value ∷ [])) l

abbrev pub stored : State → ℕ → List ℕ → List ℕ
stored (Ok p) b l = stored_place p b l
stored (Err r) b l = l

-- the machine and the list that it fills, as one state
pub record Filled : Type 0 where
  pub state : State
  pub list : List ℕ

abbrev pub filled : State → List ℕ → Filled
filled s l = record { state = s; list = l }

abbrev pub fill_byte : Filled → ℕ → Filled
fill_byte x b = filled (step x.state b) (stored x.state b x.list)
