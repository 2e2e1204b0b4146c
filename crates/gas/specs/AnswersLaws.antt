-- What an order of refusals that is clear says of the inputs, and the temperature of a heat past its lines. Assumes nothing.
use Rattle.std.proofs.lemmas.Bool.{not-false}
use Rattle.std.proofs.Common.{ltb-false, lt-ltb, le-ltb, sym, ap, ◌∙◌}
use Rattle.std.specs.Prelude.{◌≡◌, refl, true, List, [], ◌∷◌, ◌++◌, ℕ, ◌≤◌, ◌<◌, ltb, ℤ, pos, Result, Ok, Err}
use Rattle.signed.specs.Zed.{in_z}
use Rattle.refusal.specs.declared.Refusal.{Refusal}
use Rattle.refusal.specs.Refusals.{Plain, numbered, Told, gives, refused, Line, ◌when◌, told_by, first, First, Clear, none, clear}
use Rattle.refusal.specs.RefusalsLaws.{refusal_given, values_given}
use Rattle.air.specs.declared.Millikelvin.{Millikelvin}
use Rattle.air.specs.Limits.{look_places, coldest, hottest}
use Rattle.air.specs.Inverse.{unreached, found}
use Rattle.sheet.specs.Sheet.{Accepted}
use Rattle.sheet.specs.Answers.{sheet_lines}
use Rattle.sheet.specs.AnswersLaws.{accepted_of_told, past_sheet}
use Rattle.burning.specs.declared.Charge.{Charge}
use Rattle.burning.specs.declared.Gas.{Gas}
use Rattle.gas.specs.declared.Heat.{Heat}
use Rattle.burning.specs.Burning.{Weights, gas_of, Burns}
use Rattle.burning.specs.BurningLaws.{burns_of}
use Rattle.burning.specs.Answers.{charge_lines}
use Rattle.gas.specs.Answers.{paper_temperature, found_of, temperature_lines, heat_order, search_order, Inverted}
use Rattle.refusal.specs.OrdersLaws.{stopped_first, passed, clear_order, clear_left, clear_right, given}
use Rattle.gas.specs.inner.Search.{Searched}

-- ---- a sheet, a charge and a temperature that are not refused
accepted_of : (s : List ℕ) (ls : List Line) → Clear (sheet_lines s ++ ls) → Accepted s
accepted_of s ls c = accepted_of_told s (values_given tt (clear_left (sheet_lines s) ls c))

covered_of : (mk : ℤ) → Clear (temperature_lines mk) → in_z (pos coldest) (pos hottest) mk ≡ true
covered_of mk (clear h none) = not-false _ h

-- past 1, 3, 4, 5, 6
pub record Readable (w : Weights) (mk : ℤ) (s : List ℕ) (g : Gas) : Type 0 where
  pub burns : Burns w g
  pub accepted : Accepted s
  pub covered : in_z (pos coldest) (pos hottest) mk ≡ true

pub readable_of : (w : Weights) (ch : Charge) (mk : ℤ) (s : List ℕ) {g : Gas} → gives g ≡ first (heat_order w ch mk s) (gas_of ch) → Readable w mk s g
readable_of w ch mk s e =
    let c = clear_order (heat_order w ch mk s) (gas_of ch) e in
    let r = clear_right (sheet_lines s) (charge_lines w ch ++ temperature_lines mk) c in
    rw (← given (heat_order w ch mk s) (gas_of ch) e)
    (record {
      burns = burns_of w ch (clear_left (charge_lines w ch) (temperature_lines mk) r);
      accepted = accepted_of s (charge_lines w ch ++ temperature_lines mk) c;
      covered = covered_of mk (clear_right (charge_lines w ch) (temperature_lines mk) r);
    })

-- past 1, 3, 10, 4, 5
pub record Searchable (w : Weights) (s : List ℕ) (places : ℕ) (g : Gas) : Type 0 where
  pub burns : Burns w g
  pub accepted : Accepted s
  pub room : look_places ≤ places

room_of : (places : ℕ) {ls : List Line} → Clear (10 when ltb places look_places ∷ ls) → (look_places ≤ places) × Clear ls
room_of places (clear h c) = (ltb-false places look_places h, c)

pub searchable_of : (w : Weights) (ch : Charge) (s : List ℕ) (places : ℕ) {g : Gas} → gives g ≡ first (search_order w ch s places) (gas_of ch) → Searchable w s places g
searchable_of w ch s places e =
    let c = clear_order (search_order w ch s places) (gas_of ch) e in
    let r = room_of places (clear_right (sheet_lines s) (10 when ltb places look_places ∷ charge_lines w ch) c) in
    rw (← given (search_order w ch s places) (gas_of ch) e)
    (record { burns = burns_of w ch r.1; accepted = accepted_of s (10 when ltb places look_places ∷ charge_lines w ch) c; room = r.0 })

-- ---- a sheet that was judged adds no line: past it, 4, 5 and 6 of a heat, and 4 and 5 of a search with eleven places
module _ {s : List ℕ} (accepted : Accepted s) (w : Weights) (ch : Charge) where
  pub past_heat : (mk : ℤ) {t : Told Gas} → t ≡ first (charge_lines w ch ++ temperature_lines mk) (gas_of ch) → t ≡ first (heat_order w ch mk s) (gas_of ch)
  past_heat mk e = e ∙ sym (past_sheet (charge_lines w ch ++ temperature_lines mk) (gas_of ch) accepted)

  pub past_search : (places : ℕ) {t : Told Gas} → look_places ≤ places → t ≡ first (charge_lines w ch) (gas_of ch) → t ≡ first (search_order w ch s places) (gas_of ch)
  past_search places h e = e ∙ sym (past_sheet (10 when ltb places look_places ∷ charge_lines w ch) (gas_of ch) accepted ∙ rw (le-ltb places look_places h) refl)

  -- and 10 of a search with fewer
  pub short_search : (places : ℕ) → places < look_places → refused (Plain 10) ≡ first (search_order w ch s places) (gas_of ch)
  short_search places h = sym (past_sheet (10 when ltb places look_places ∷ charge_lines w ch) (gas_of ch) accepted ∙ rw (lt-ltb places look_places h) refl)

-- ---- the temperature of a heat
module _ (v : ℕ → ℤ) (target : ℤ) (before : List ℕ) where
  -- 8 or 9: nothing is written
  pub unreached_told : (r : Result (Millikelvin × Heat) Refusal) {l : Line} → First (unreached v target) l → paper_temperature r ≡ told_by l → Inverted [] v target before r before
  unreached_told r f e =
      let g = refusal_given (found v target) f in
      record { told = e ∙ sym g; list = rw g refl }

  -- a target that is reached
  pub reached_told : {r : Millikelvin × Heat} {after : List ℕ} → Clear (unreached v target) → Searched v target before r after → Inverted [] v target before (Ok r) after
  reached_told c h =
      let g = values_given (found v target) c in
      record { told = ap (λ (p : Millikelvin × Heat). gives (found_of p)) h.answer ∙ sym g; list = rw g h.list }

  module _ {A : Type 0} (lines : List Line) (a : A) where
    -- a refusal of the lines before: nothing is written
    pub stopped_told : (r : Refusal) → refused (numbered r) ≡ first lines a → Inverted lines v target before (Err r) before
    stopped_told r e = record {
      told = stopped_first lines (unreached v target) a (found v target) (numbered r) e;
      list = rw (← stopped_first lines (unreached v target) a (found v target) (numbered r) e) refl;
    }

    -- past those lines
    pub passed_told : {x : A} {r : Result (Millikelvin × Heat) Refusal} {after : List ℕ} → gives x ≡ first lines a → Inverted [] v target before r after → Inverted lines v target before r after
    passed_told e h = let p = passed lines (unreached v target) a (found v target) e in record { told = h.told ∙ sym p; list = rw p h.list }
