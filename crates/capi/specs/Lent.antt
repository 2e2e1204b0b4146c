-- The calls that write into lent lists, whole: the struct that comes back and every lent place. Each is the entry's own promise with its answer flattened. Definitions only.
use Rattle.std.specs.Prelude.{cond, List, [], ◌∷◌, ◌≡◌, ℕ, ℤ, length}
use Rattle.refusal.specs.Refusals.{Told, gives, refused, ◌when◌, first}
use Rattle.air.specs.Inverse.{looks, written}
use Rattle.air.specs.Answers.{psi_value, psi_inverse_told}
use Rattle.sheet.specs.Sheet.{not_long}
use Rattle.sheet_text.specs.Text.{sheet_text}
use Rattle.sheet.specs.Answers.{Form, read_told, numbers_of, sheet_lines}
use Rattle.sheet.specs.Writing.{write_told, buffer_after}
use Rattle.sheet.specs.declared.pieces.SheetReading.{SheetReading}
use Rattle.sheet.specs.Pieces.{after_piece, after_close, piece_told, close_told}
use Rattle.built_in.specs.BuiltIn.{built_in}
use Rattle.burning.specs.declared.Charge.{Charge}
use Rattle.burning.specs.Burning.{Weights, document01, gas_of}
use Rattle.gas.specs.Heat.{gas_heat}
use Rattle.gas.specs.Answers.{temperature_told}
use Rattle.walk.specs.Lists.{Lists}
use Rattle.walk.specs.Walk.{Trace, walked_into, course, filled}
use Rattle.telling.specs.declared.SheetTold.{SheetTold}
use Rattle.telling.specs.declared.WrittenTold.{WrittenTold}
use Rattle.telling.specs.declared.pieces.ReadingState.{ReadingState}
use Rattle.telling.specs.declared.pieces.PieceTold.{PieceTold}
use Rattle.telling.specs.Pieces.{reading_in, flat_piece, flat_closed}
use Rattle.telling.specs.declared.TemperatureTold.{TemperatureTold}
use Rattle.telling.specs.declared.PsiTold.{PsiTold}
use Rattle.telling.specs.declared.WalkTold.{WalkTold}
use Rattle.telling.specs.Flat.{flat_sheet, flat_written, flat_temperature, flat_psi, flat_walk}

-- the list of a sheet after a call that fills it: all numbers of the sheet, and unchanged by a refusal
abbrev pub list_told : Told (Unit {0}) → List ℕ → List ℕ → List ℕ
list_told (gives a) numbers before = numbers
list_told (refused r) numbers before = before

pub record SheetIs (text before : List ℕ) (r : SheetTold) (later : List ℕ) : Type 0 where
  pub form : Form text
  pub told : r ≡ flat_sheet (read_told before form)
  pub list : later ≡ list_told (read_told before form) (numbers_of form) before

-- the built-in sheet into a lent list: refusal 1 alone
abbrev pub built_in_told : List ℕ → Told (Unit {0})
built_in_told before = first (1 when not_long before ∷ []) tt

pub record BuiltInIs (before : List ℕ) (r : SheetTold) (later : List ℕ) : Type 0 where
  pub told : r ≡ flat_sheet (built_in_told before)
  pub list : later ≡ list_told (built_in_told before) built_in before

pub record WrittenIs (s before : List ℕ) (r : WrittenTold) (later : List ℕ) : Type 0 where
  pub told : r ≡ flat_written (write_told s before)
  pub buffer : later ≡ buffer_after (write_told s before) (sheet_text s) before

-- a piece of a sheet: the reading that is handed in by its numbers, and what is told of it
pub record PieceIs (state : ReadingState) (piece before : List ℕ) (r : PieceTold) (later : List ℕ) : Type 0 where
  pub told : r ≡ flat_piece (piece_told (reading_in state) piece before) (cond (not_long before) (reading_in state) (after_piece (reading_in state) piece before).reading)
  pub list : later ≡ cond (not_long before) before (after_piece (reading_in state) piece before).list

-- its close
abbrev pub closed_told : SheetReading → List ℕ → PieceTold
closed_told s l = flat_closed (close_told s l) (cond (not_long l) s (after_close s))

pub record TemperatureIs (w : Weights) (ch : Charge) (target : ℤ) (s before : List ℕ) (r : TemperatureTold) (after : List ℕ) : Type 0 where
  pub told : r ≡ flat_temperature (temperature_told w ch target s (length before))
  pub list : after ≡ written (temperature_told w ch target s (length before)) (looks (gas_heat w s (gas_of ch)) target) before

pub record PsiIs (target : ℤ) (before : List ℕ) (r : PsiTold) (after : List ℕ) : Type 0 where
  pub told : r ≡ flat_psi (psi_inverse_told (length before) target)
  pub list : after ≡ written (psi_inverse_told (length before) target) (looks psi_value target) before

pub record WalkIs (told : Told Trace) (before : Lists) (o : WalkTold) (after : Lists) : Type 0 where
  pub answer : o ≡ flat_walk (course told)
  pub lent : after ≡ filled told before

-- what the call of a walk promises: the promise of `walk`, flattened
abbrev pub WalkCall : List ℕ → Charge → ℤ → List ℤ → Lists → WalkTold → Lists → Type 0
WalkCall s ch mk numbers before o after = WalkIs (walked_into before (sheet_lines s) document01 s ch mk numbers) before o after
