-- Demand 1 for each call for C and Rust, both ways: `demand_1_NAME`, of every struct that meets the promise of NAME. Assumes nothing.
use Rattle.std.proofs.Common.{ltb-true, sym, ◌∙◌, true≢false, ⊎_elim, arith}
use Rattle.std.specs.Prelude.{◌≡◌, refl, true, List, [], ◌∷◌, ◌++◌, ℕ, ◌/◌, ◌<◌, ltb, ℤ, pos, Float, length}
use Rattle.std.proofs.Math.Path.{ap}
use Rattle.signed.specs.Zed.{outside}
use Rattle.refusal.specs.Refusals.{Told, gives, Line, ◌when◌, ◌at_place◌when◌, line_number, first, First, here, after, Clear}
use Rattle.refusal.specs.BoolLaws.{by_bool}
use Rattle.refusal.specs.RefusalsLaws.{first_or_clear, refusal_given, values_given}
use Rattle.rows.specs.Limits.{first_kelvin, last_kelvin}
use Rattle.air.specs.Limits.{coldest, hottest}
use Rattle.air.specs.Inverse.{unreached}
use Rattle.air.specs.Answers.{air_heat_told, psi_told as airPsiTold, cp_told as airCpTold, psi_order}
use Rattle.sheet.specs.Sheet.{not_long}
use Rattle.sheet.specs.Answers.{breaks, bad_row_of, sheet_lines, judge_told}
use Rattle.burning.specs.declared.Charge.{Charge}
use Rattle.burning.specs.Burning.{Weights, document01, gas_of}
use Rattle.gas.specs.Heat.{gas_heat}
use Rattle.burning.specs.Answers.{charge_lines, burn_told}
use Rattle.gas.specs.Answers.{heat_order, search_order, heat_told, content_told, specific_told}
use Rattle.walk.specs.Limits.{step_numbers}
use Rattle.walk.specs.Lists.{Lists}
use Rattle.walk.specs.Walk.{Trace, End, ended, cut, run, steps_of, start_lines, start_state, walked, walked_into, course_of, course}
use Rattle.marking.specs.Marking.{order as markOrder, marked}
use Rattle.marking.specs.Figures.{station_told}
use Rattle.sheet.specs.Writing.{write_lines}
use Rattle.telling.specs.declared.SheetTold.{SheetTold}
use Rattle.telling.specs.declared.WrittenTold.{WrittenTold}
use Rattle.telling.specs.declared.ReadingTold.{ReadingTold}
use Rattle.telling.specs.declared.BurnTold.{BurnTold}
use Rattle.telling.specs.declared.HeatTold.{HeatTold}
use Rattle.telling.specs.declared.TemperatureTold.{TemperatureTold}
use Rattle.telling.specs.declared.PsiTold.{PsiTold}
use Rattle.telling.specs.declared.WalkTold.{WalkTold}
use Rattle.telling.specs.declared.StationTold.{StationTold}
use Rattle.telling.specs.declared.MarkTold.{MarkTold}
use Rattle.telling.specs.Flat.{number, row, placed, flat_sheet, flat_reading, flat_burn, flat_heat, flat_station, flat_mark, flat_unbegun, flat_walk, typed_of}
use Rattle.sheet.specs.declared.pieces.SheetReading.{SheetReading}
use Rattle.sheet.specs.Pieces.{after_piece, after_close, piece_lines}
use Rattle.telling.specs.declared.pieces.ReadingState.{ReadingState}
use Rattle.telling.specs.declared.pieces.PieceTold.{PieceTold}
use Rattle.telling.specs.Pieces.{reading_in}
use Rattle.capi.specs.Lent.{SheetIs, BuiltInIs, WrittenIs, PieceIs, closed_told, TemperatureIs, PsiIs, WalkIs}
use Rattle.capi.specs.Demand1.{line_row, line_placed, numbered, FlatDemand1, WalkDemand1}

-- ---- once over any order
not_0 : (ls : List Line) {l : Line} → numbered ls ≡ true → First ls l → 0 < line_number l
not_0 [] e f = elim f [ ]
not_0 (l ∷ ls) e (here h) = by_bool (ltb 0 (line_number l)) (λ p. ltb-true 0 (line_number l) p) (λ p. absurd (true≢false (sym e ∙ rw p refl)))
not_0 (m ∷ ls) e (after h f) = by_bool (ltb 0 (line_number m)) (λ p. not_0 ls (rw p at e) f) (λ p. absurd (true≢false (sym e ∙ rw p refl)))

flat_demand_1 : {A : Type 0} (order : List Line) (values : A) → numbered order ≡ true → FlatDemand1 order (number (first order values)) (row (first order values)) (placed (first order values))
flat_demand_1 order values some = record {
  refused_with = λ n k p some-n. (
    λ e. ⊎_elim
        (λ w. (w.0, w.1, sym (number_of w.0 w.1) ∙ e.0, sym (row_of w.0 w.1) ∙ e.1, sym (placed_of w.0 w.1) ∙ e.2))
        (λ c. absurd (let z : 0 ≡ n = sym (ap number (values_given values c)) ∙ e.0 in omega arith))
        (first_or_clear order),
    λ w. (number_of w.0 w.1 ∙ w.2, row_of w.0 w.1 ∙ w.3, placed_of w.0 w.1 ∙ w.4),
  );
  answered = (
    λ e. ⊎_elim (λ w. absurd (let z = not_0 order some w.1 in let q = sym (number_of w.0 w.1) ∙ e in omega arith)) (λ c. c) (first_or_clear order),
    λ c. ap number (values_given values c),
  );
}
  where
    number_of : (l : Line) → First order l → number (first order values) ≡ line_number l
    number_of l f = ap number (refusal_given values f)

    row_of : (l : Line) → First order l → row (first order values) ≡ line_row l
    row_of l f = ap row (refusal_given values f)

    placed_of : (l : Line) → First order l → placed (first order values) ≡ line_placed l
    placed_of l f = ap placed (refusal_given values f)

-- ---- the sheet
pub demand_1_gaskeys_read_sheet : {text before later : List ℕ} {r : SheetTold} (h : SheetIs text before r later)
    → FlatDemand1 (1 when not_long before ∷ 2 at_place bad_row_of h.form when breaks h.form ∷ []) r.refusal r.row r.placed
demand_1_gaskeys_read_sheet h = rw h.told (flat_demand_1 _ tt refl)

pub demand_1_gaskeys_judge_sheet : (s : List ℕ) (r : SheetTold) → r ≡ flat_sheet (judge_told s) → FlatDemand1 (sheet_lines s) r.refusal r.row r.placed
demand_1_gaskeys_judge_sheet s r e = rw e (flat_demand_1 _ tt refl)

pub demand_1_gaskeys_built_in_sheet : {before later : List ℕ} {r : SheetTold} → BuiltInIs before r later → FlatDemand1 (1 when not_long before ∷ []) r.refusal r.row r.placed
demand_1_gaskeys_built_in_sheet h = rw h.told (flat_demand_1 _ tt refl)

pub demand_1_gaskeys_write_sheet : {s before later : List ℕ} {r : WrittenTold} → WrittenIs s before r later → FlatDemand1 (write_lines s before) r.refusal r.row r.placed
demand_1_gaskeys_write_sheet h = rw h.told (flat_demand_1 _ _ refl)

pub demand_1_gaskeys_read_piece : {state : ReadingState} {piece before later : List ℕ} {r : PieceTold} → PieceIs state piece before r later
    → FlatDemand1 (piece_lines before (after_piece (reading_in state) piece before).reading) r.refusal r.row r.placed
demand_1_gaskeys_read_piece h = rw h.told (flat_demand_1 _ _ refl)

pub demand_1_gaskeys_close_reading : (s : SheetReading) (l : List ℕ) (r : PieceTold) → r ≡ closed_told s l → FlatDemand1 (piece_lines l (after_close s)) r.refusal r.row r.placed
demand_1_gaskeys_close_reading s l r e = rw e (flat_demand_1 _ tt refl)

-- ---- air
pub demand_1_gaskeys_air_heat : (mk : ℤ) (r : ReadingTold) → r ≡ flat_reading (air_heat_told mk) → FlatDemand1 (6 when outside (pos coldest) (pos hottest) mk ∷ []) r.refusal r.row r.placed
demand_1_gaskeys_air_heat mk r e = rw e (flat_demand_1 _ _ refl)

pub demand_1_gaskeys_air_psi : (mk : ℤ) (r : ReadingTold) → r ≡ flat_reading (airPsiTold mk) → FlatDemand1 (6 when outside (pos coldest) (pos hottest) mk ∷ []) r.refusal r.row r.placed
demand_1_gaskeys_air_psi mk r e = rw e (flat_demand_1 _ _ refl)

pub demand_1_gaskeys_air_cp : (kelvin : ℤ) (r : ReadingTold) → r ≡ flat_reading (airCpTold kelvin)
    → FlatDemand1 (6 when outside (pos first_kelvin) (pos last_kelvin) kelvin ∷ []) r.refusal r.row r.placed
demand_1_gaskeys_air_cp kelvin r e = rw e (flat_demand_1 _ _ refl)

pub demand_1_gaskeys_psi_inverse : {target : ℤ} {before after : List ℕ} {r : PsiTold} → PsiIs target before r after → FlatDemand1 (psi_order (length before) target) r.refusal r.row r.placed
demand_1_gaskeys_psi_inverse h = rw h.told (flat_demand_1 _ _ refl)

-- ---- the gas
module _ (w : Weights) (ch : Charge) where
  pub demand_1_gaskeys_burn : (r : BurnTold) → r ≡ flat_burn (burn_told w ch) → FlatDemand1 (charge_lines w ch) r.refusal r.row r.placed
  demand_1_gaskeys_burn r e = rw e (flat_demand_1 _ _ refl)

  module _ (mk : ℤ) (s : List ℕ) where
    pub demand_1_gaskeys_gas_heat : (r : HeatTold) → r ≡ flat_heat (heat_told w ch mk s) → FlatDemand1 (heat_order w ch mk s) r.refusal r.row r.placed
    demand_1_gaskeys_gas_heat r e = rw e (flat_demand_1 _ _ refl)

    pub demand_1_gaskeys_content : (r : HeatTold) → r ≡ flat_heat (content_told w ch mk s) → FlatDemand1 (heat_order w ch mk s) r.refusal r.row r.placed
    demand_1_gaskeys_content r e = rw e (flat_demand_1 _ _ refl)

    pub demand_1_gaskeys_specific_content : (r : HeatTold) → r ≡ flat_heat (specific_told w ch mk s) → FlatDemand1 (heat_order w ch mk s) r.refusal r.row r.placed
    demand_1_gaskeys_specific_content r e = rw e (flat_demand_1 _ _ refl)

  pub demand_1_gaskeys_temperature : {target : ℤ} {s before after : List ℕ} {r : TemperatureTold} → TemperatureIs w ch target s before r after
      → FlatDemand1 (search_order w ch s (length before) ++ unreached (gas_heat w s (gas_of ch)) target) r.refusal r.row r.placed
  demand_1_gaskeys_temperature h = rw h.told (flat_demand_1 _ _ refl)

-- ---- figures and marks
pub demand_1_gaskeys_station : (ch : Charge) (mk : ℤ) (s : List ℕ) (r : StationTold) → r ≡ flat_station (station_told ch mk s)
    → FlatDemand1 (heat_order document01 ch mk s) r.refusal r.row r.placed
demand_1_gaskeys_station ch mk s r e = rw e (flat_demand_1 _ _ refl)

pub demand_1_gaskeys_mark : (kind : ℕ) (x : Float) (key window : ℤ) (r : MarkTold) → r ≡ flat_mark (marked (typed_of kind x) key window)
    → FlatDemand1 (markOrder (typed_of kind x) key window) r.refusal r.row r.placed
demand_1_gaskeys_mark kind x key window r e = rw e (flat_demand_1 _ _ refl)

-- ---- the walk
begun : (n : ℕ) (e : End) → (flat_walk (gives (course_of n e))).begun ≡ 1
begun n (ended st) = refl
begun n (cut m st) = refl

module _ (lines : List Line) (w : Weights) (s : List ℕ) (start : Charge) (from : ℤ) (numbers : List ℤ) {before : Lists} {o : WalkTold} {after : Lists}
    (h : WalkIs (walked_into before lines w s start from numbers) before o after) where
  abbrev order : List Line
  order = lines ++ start_lines w start from (length numbers) (length before.temperatures) (length before.rests) (length before.looks)

  abbrev T : Trace
  T = run w s (start_state start from) (steps_of (length numbers / step_numbers) numbers)

  refused_start : (m : Line) → First order m → o ≡ flat_unbegun (line_number m) (line_row m) (line_placed m)
  unfolding walked
  refused_start m f = h.answer ∙ ap (λ (x : Told Trace). flat_walk (course x)) (refusal_given T f)

  begun_start : Clear order → o.begun ≡ 1
  unfolding walked
  begun_start c = ap (λ (x : WalkTold). x.begun) (h.answer ∙ ap (λ (x : Told Trace). flat_walk (course x)) (values_given T c)) ∙ begun (length T.outs) T.end

  pub demand_1_gaskeys_walk : WalkDemand1 order o
  demand_1_gaskeys_walk = record {
    refused_with = λ n k p. (
      λ e. ⊎_elim
          (λ m. let q = refused_start m.0 m.1 in
          (m.0, m.1, sym (ap (λ (x : WalkTold). x.refusal) q) ∙ e.1, sym (ap (λ (x : WalkTold). x.row) q) ∙ e.2, sym (ap (λ (x : WalkTold). x.placed) q) ∙ e.3))
          (λ c. absurd (let z : ◌≡◌ {A = ℕ} 0 1 = sym e.0 ∙ begun_start c in omega arith))
          (first_or_clear order),
      λ m. let q = refused_start m.0 m.1 in
          (ap (λ (x : WalkTold). x.begun) q, ap (λ (x : WalkTold). x.refusal) q ∙ m.2, ap (λ (x : WalkTold). x.row) q ∙ m.3, ap (λ (x : WalkTold). x.placed) q ∙ m.4),
    );
    began = (
      λ e. ⊎_elim (λ m. absurd (let z : ◌≡◌ {A = ℕ} 0 1 = sym (ap (λ (x : WalkTold). x.begun) (refused_start m.0 m.1)) ∙ e in omega arith)) (λ c. c) (first_or_clear order),
      begun_start,
    );
  }
