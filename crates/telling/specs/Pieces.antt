-- What the calls on a sheet in pieces tell, as one struct by value, and the reading in it as seven numbers: at stage 0 the place from which it goes on, at stage 1 the row for which
-- it is refused, at stage 2 that it is accepted, and 0 in every field that a stage does not have. Every value that is handed in means a reading. Definitions only.
use Rattle.std.specs.Prelude.{Bool, true, false, not, cond, ℕ, ltb, eqb}
use Rattle.refusal.specs.Refusals.{Told, gives, refused}
use Rattle.sheet_text.specs.declared.Place.{Place}
use Rattle.sheet.specs.declared.pieces.SheetReading.{SheetReading}
use Rattle.sheet.specs.declared.pieces.SheetReading.TheVariants.{Going, Refused, Accepted}
use Rattle.sheet.specs.declared.pieces.Progress.{Progress}
use Rattle.telling.specs.declared.SheetTold.{SheetTold}
use Rattle.telling.specs.declared.pieces.ReadingState.{ReadingState}
use Rattle.telling.specs.declared.pieces.PieceTold.{PieceTold}
use Rattle.telling.specs.Flat.{number, row, placed}

-- the numbers of a reading that is over, and of any
abbrev pub over_at : ℕ → ℕ → ReadingState
over_at stage r = record { stage = stage; row = r; field = 0; seen = 0; value = 0; first = 0; second = 0 }

-- 1 where the field at hand has a digit
abbrev pub seen_of : Bool → ℕ
seen_of false = 0
seen_of true = 1

abbrev pub state_of : SheetReading → ReadingState
state_of (Going p) = record { stage = 0; row = p.row; field = p.field; seen = seen_of p.seen; value = p.value; first = p.first; second = p.second }
state_of (Refused r) = over_at 1 r
state_of Accepted = over_at 2 0

-- the place of the numbers that are handed in: a field over 3 is the last, H2O, and a digit is there unless `seen` is 0
unfoldable pub place_in : ReadingState → Place
place_in s = record { row = s.row; field = cond (ltb s.field 3) s.field 3; value = s.value; seen = not (eqb s.seen 0); first = s.first; second = s.second }

-- the reading that is handed in: at a stage that is neither 0 nor 2 it is refused at the row
abbrev pub reading_in : ReadingState → SheetReading
reading_in s = cond (eqb s.stage 0) (Going (place_in s)) (cond (eqb s.stage 2) Accepted (Refused s.row))

-- ---- what is told
abbrev pub told_with : SheetTold → ℕ → SheetReading → PieceTold
told_with t n s = record { refusal = t.refusal; row = t.row; placed = t.placed; more = n; reading = state_of s }

-- 1 where more is expected
abbrev pub more_in : Told Progress → ℕ
more_in (gives Progress.More) = 1
more_in (gives Progress.Accepted) = 0
more_in (refused r) = 0

abbrev pub flat_piece : Told Progress → SheetReading → PieceTold
flat_piece t s = record { refusal = number t; row = row t; placed = placed t; more = more_in t; reading = state_of s }

abbrev pub flat_closed : Told (Unit {0}) → SheetReading → PieceTold
flat_closed t s = record { refusal = number t; row = row t; placed = placed t; more = 0; reading = state_of s }
