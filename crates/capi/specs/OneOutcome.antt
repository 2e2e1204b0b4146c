-- No two outcomes satisfy the promise of a call: `one_NAME` for each call NAME. A promise is an equation for the struct and one for each lent list. Assumes nothing.
use Rattle.std.specs.Prelude.{◌≡◌, refl, List, ℕ, ℤ, Float}
use Rattle.std.proofs.Common.{sym, ◌∙◌, ap, ap₂}
use Rattle.refusal.specs.Refusals.{Told}
use Rattle.air.specs.Answers.{air_heat_told, psi_told as airPsiTold, cp_told as airCpTold}
use Rattle.sheet.specs.Answers.{read_told, judge_told}
use Rattle.sheet.specs.FormLaws.{one_form}
use Rattle.burning.specs.declared.Charge.{Charge}
use Rattle.burning.specs.Burning.{Weights}
use Rattle.burning.specs.Answers.{burn_told}
use Rattle.gas.specs.Answers.{heat_told, content_told, specific_told}
use Rattle.walk.specs.Lists.{Lists}
use Rattle.walk.specs.Walk.{Trace}
use Rattle.marking.specs.Marking.{marked}
use Rattle.marking.specs.Figures.{station_told}
use Rattle.telling.specs.declared.SheetTold.{SheetTold}
use Rattle.telling.specs.declared.WrittenTold.{WrittenTold}
use Rattle.telling.specs.declared.ReadingTold.{ReadingTold}
use Rattle.telling.specs.declared.BurnTold.{BurnTold}
use Rattle.telling.specs.declared.HeatTold.{HeatTold}
use Rattle.telling.specs.declared.TemperatureTold.{TemperatureTold}
use Rattle.telling.specs.declared.PsiTold.{PsiTold}
use Rattle.telling.specs.declared.WalkTold.{WalkTold}
use Rattle.telling.specs.declared.StationTold.{StationTold}
use Rattle.telling.specs.declared.MarkTold.{MarkTold}
use Rattle.telling.specs.Flat.{flat_sheet, flat_reading, flat_burn, flat_heat, flat_station, flat_mark, typed_of}
use Rattle.sheet.specs.declared.pieces.SheetReading.{SheetReading}
use Rattle.sheet.specs.Pieces.{opened}
use Rattle.telling.specs.declared.pieces.ReadingState.{ReadingState}
use Rattle.telling.specs.declared.pieces.PieceTold.{PieceTold}
use Rattle.telling.specs.Pieces.{state_of}
use Rattle.capi.specs.Lent.{list_told, SheetIs, BuiltInIs, WrittenIs, PieceIs, closed_told, TemperatureIs, PsiIs, WalkIs}

pub one_gaskeys_version_2 : (r q : ℕ) → r ≡ 2 → q ≡ 2 → r ≡ q
one_gaskeys_version_2 r q p o = p ∙ sym o

pub one_gaskeys_read_sheet : {text before later after : List ℕ} {r q : SheetTold} → SheetIs text before r later → SheetIs text before q after → (r ≡ q) × (later ≡ after)
one_gaskeys_read_sheet {before = before} p o =
    let s = one_form p.form o.form in
    let l : read_told before p.form ≡ read_told before o.form = rw (s.breaks_same, s.row_same) refl in
    (p.told ∙ (ap flat_sheet l ∙ sym o.told), p.list ∙ (ap₂ (λ (x : Told (Unit {0})) (y : List ℕ). list_told x y before) l s.numbers_same ∙ sym o.list))

pub one_gaskeys_judge_sheet : (s : List ℕ) (r q : SheetTold) → r ≡ flat_sheet (judge_told s) → q ≡ flat_sheet (judge_told s) → r ≡ q
one_gaskeys_judge_sheet s r q p o = p ∙ sym o

pub one_gaskeys_built_in_sheet : {before later after : List ℕ} {r q : SheetTold} → BuiltInIs before r later → BuiltInIs before q after → (r ≡ q) × (later ≡ after)
one_gaskeys_built_in_sheet p o = (p.told ∙ sym o.told, p.list ∙ sym o.list)

pub one_gaskeys_write_sheet : {s before later after : List ℕ} {r q : WrittenTold} → WrittenIs s before r later → WrittenIs s before q after → (r ≡ q) × (later ≡ after)
one_gaskeys_write_sheet p o = (p.told ∙ sym o.told, p.buffer ∙ sym o.buffer)

pub one_gaskeys_open_reading : (r q : ReadingState) → r ≡ state_of opened → q ≡ state_of opened → r ≡ q
one_gaskeys_open_reading r q p o = p ∙ sym o

pub one_gaskeys_read_piece : {state : ReadingState} {piece before after later : List ℕ} {r q : PieceTold}
    → PieceIs state piece before r after → PieceIs state piece before q later → (r ≡ q) × (after ≡ later)
one_gaskeys_read_piece p o = (p.told ∙ sym o.told, p.list ∙ sym o.list)

pub one_gaskeys_close_reading : (s : SheetReading) (l : List ℕ) (r q : PieceTold) → r ≡ closed_told s l → q ≡ closed_told s l → r ≡ q
one_gaskeys_close_reading s l r q p o = p ∙ sym o

pub one_gaskeys_air_heat : (mk : ℤ) (r q : ReadingTold) → r ≡ flat_reading (air_heat_told mk) → q ≡ flat_reading (air_heat_told mk) → r ≡ q
one_gaskeys_air_heat mk r q p o = p ∙ sym o

pub one_gaskeys_air_psi : (mk : ℤ) (r q : ReadingTold) → r ≡ flat_reading (airPsiTold mk) → q ≡ flat_reading (airPsiTold mk) → r ≡ q
one_gaskeys_air_psi mk r q p o = p ∙ sym o

pub one_gaskeys_air_cp : (kelvin : ℤ) (r q : ReadingTold) → r ≡ flat_reading (airCpTold kelvin) → q ≡ flat_reading (airCpTold kelvin) → r ≡ q
one_gaskeys_air_cp kelvin r q p o = p ∙ sym o

pub one_gaskeys_burn : (w : Weights) (ch : Charge) (r q : BurnTold) → r ≡ flat_burn (burn_told w ch) → q ≡ flat_burn (burn_told w ch) → r ≡ q
one_gaskeys_burn w ch r q p o = p ∙ sym o

module _ (w : Weights) (ch : Charge) (mk : ℤ) (s : List ℕ) (r q : HeatTold) where
  pub one_gaskeys_gas_heat : r ≡ flat_heat (heat_told w ch mk s) → q ≡ flat_heat (heat_told w ch mk s) → r ≡ q
  one_gaskeys_gas_heat p o = p ∙ sym o

  pub one_gaskeys_content : r ≡ flat_heat (content_told w ch mk s) → q ≡ flat_heat (content_told w ch mk s) → r ≡ q
  one_gaskeys_content p o = p ∙ sym o

  pub one_gaskeys_specific_content : r ≡ flat_heat (specific_told w ch mk s) → q ≡ flat_heat (specific_told w ch mk s) → r ≡ q
  one_gaskeys_specific_content p o = p ∙ sym o

pub one_gaskeys_temperature : {w : Weights} {ch : Charge} {target : ℤ} {s before after later : List ℕ} {r q : TemperatureTold}
    → TemperatureIs w ch target s before r after → TemperatureIs w ch target s before q later → (r ≡ q) × (after ≡ later)
one_gaskeys_temperature p o = (p.told ∙ sym o.told, p.list ∙ sym o.list)

pub one_gaskeys_psi_inverse : {target : ℤ} {before after later : List ℕ} {r q : PsiTold} → PsiIs target before r after → PsiIs target before q later → (r ≡ q) × (after ≡ later)
one_gaskeys_psi_inverse p o = (p.told ∙ sym o.told, p.list ∙ sym o.list)

pub one_gaskeys_walk : {told : Told Trace} {before after later : Lists} {a b : WalkTold} → WalkIs told before a after → WalkIs told before b later → (a ≡ b) × (after ≡ later)
one_gaskeys_walk p o = (p.answer ∙ sym o.answer, p.lent ∙ sym o.lent)

pub one_gaskeys_station : (ch : Charge) (mk : ℤ) (s : List ℕ) (r q : StationTold) → r ≡ flat_station (station_told ch mk s) → q ≡ flat_station (station_told ch mk s) → r ≡ q
one_gaskeys_station ch mk s r q p o = p ∙ sym o

pub one_gaskeys_mark : (kind : ℕ) (x : Float) (key window : ℤ) (r q : MarkTold)
    → r ≡ flat_mark (marked (typed_of kind x) key window) → q ≡ flat_mark (marked (typed_of kind x) key window) → r ≡ q
one_gaskeys_mark kind x key window r q p o = p ∙ sym o
