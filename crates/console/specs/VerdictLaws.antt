-- A verdict that was given once: a sheet that was found good is accepted, and a refusal of the sheet is that of every call on it, so that the answers are those of calls
-- that judge the list themselves. No answer over a refused sheet hangs on its list, so that those over a sheet as a program holds it are those over its verdict and its list.
-- Assumes nothing.
use Rattle.std.specs.Prelude.{ℕ, ◌/◌, ◌≡◌, refl, cond, List, [], ◌∷◌, ◌++◌, ltb, ℤ, pos, length, drop, get_or, Option, Some, None, Result, Ok, Err, IfOk}
use Rattle.std.proofs.Math.Path.{sym}
use Rattle.std.proofs.Common.{◌∙◌, ap, arith}
use Rattle.signed.specs.Zed.{up}
use Rattle.air.specs.Limits.{look_places}
use Rattle.walk.specs.Limits.{step_numbers, most_steps, most_looks}
use Rattle.fields.specs.Fields.{fields_of, holds_return, values_of, count_all}
use Rattle.refusal.specs.declared.Refusal.{Refusal}
use Rattle.refusal.specs.Refusals.{numbered, told_as, Line, ◌when◌, first}
use Rattle.sheet.specs.Sheet.{Accepted}
use Rattle.sheet.specs.Answers.{SheetAnswer, paper_sheet, judge_told, sheet_lines}
use Rattle.sheet.specs.AnswersLaws.{stopped_by_sheet, accepted_of_told}
use Rattle.sheet.specs.declared.accepted.AcceptedSheet.{AcceptedSheet}
use Rattle.burning.specs.declared.Charge.{Charge}
use Rattle.burning.specs.Burning.{document01, gas_of, charge_numbers, charge_in}
use Rattle.gas.specs.Heat.{gas_heat, content_above15, specific_content}
use Rattle.burning.specs.Answers.{charge_lines}
use Rattle.gas.specs.Answers.{temperature_lines, heat_order}
use Rattle.air.specs.Inverse.{unreached, found, looks}
use Rattle.marking.specs.Figures.{numbers_of}
use Rattle.walk.specs.Walk.{run, steps_of, start_lines, start_state, walked}
use Rattle.console.specs.declared.requests.Request.{Request}
use Rattle.console.specs.declared.requests.OfGas.{OfGas}
use Rattle.console.specs.Limits.{start_numbers}
use Rattle.console.specs.Requests.{request_of, asked_of, ask_over, gas_ask_of, misfit_text, return_text}
use Rattle.wording.specs.Texts.{refusal_text, told_text, found_text, value_text, whole_text, numbers_text}
use Rattle.console.specs.Answers.{gas_text, on_gas, gas_reply, reply_text, answer_fields, line_text, answer_of, JudgedAfter, Judged, of_list, of_text, verdict_in, list_in, Ready}
use Rattle.console.specs.Walks.{walk_told, walk_text, has_start, walk_of, printed_walk}

-- a sheet that was found good is accepted, whichever way
pub judged_good : (s : List ℕ) → Judged (Ok tt) s → Accepted s
judged_good s (of_list e) = accepted_of_told s (sym e)
judged_good s (of_text v) = go v.read v.judged
  where
    go : (read : SheetAnswer) → JudgedAfter read (Ok tt) s → Accepted s
    go (Ok good) e = accepted_of_told s (sym e)
    go (Err r) e = absurd (let z : ◌≡◌ {A = ℕ} 0 1 = cc in omega arith)

-- so what the fields of a request and a verdict come to is ready for the sheet
pub ready : (s : List ℕ) (fs : List (List ℕ)) (verdict : SheetAnswer) → Judged verdict s → Ready (gas_ask_of fs verdict) s
ready s fs = go (asked_of fs)
  where
    go : (asked : Option (Charge × ℤ)) (v : SheetAnswer) → Judged v s → Ready (ask_over asked v) s
    go (Some asked) (Ok good) j = judged_good s j
    go (Some asked) (Err r) j = tt
    go None v j = tt

-- a list that is refused is refused by every call
module _ (s : List ℕ) (r : Refusal) (e : paper_sheet (Err r) ≡ judge_told s) where
  refusal_is : {A : Type 0} (values : A → List ℕ) (ls : List Line) (a : A) → refusal_text (numbered r) ≡ told_text values (first (sheet_lines s ++ ls) a)
  refusal_is values ls a = sym (ap (told_text values) (stopped_by_sheet s r ls a e))

  module _ (ch : Charge) (n : ℤ) where
    heat_refused : (value : ℤ) → refusal_text (numbered r) ≡ whole_text (first (heat_order document01 ch n s) value)
    heat_refused = refusal_is value_text (charge_lines document01 ch ++ temperature_lines n)

    gas_refused : (q : OfGas) → refusal_text (numbered r) ≡ gas_text q s ch n
    gas_refused OfGas.Heat = heat_refused (gas_heat document01 s (gas_of ch) (up n))
    gas_refused OfGas.Content = heat_refused (content_above15 document01 s (gas_of ch) (up n))
    gas_refused OfGas.Specific = heat_refused (specific_content document01 s (gas_of ch) (up n))
    gas_refused OfGas.Inverse =
        let v = gas_heat document01 s (gas_of ch) in
        refusal_is (found_text (looks v n)) ((10 when ltb look_places look_places ∷ charge_lines document01 ch) ++ unreached v n) (found v n)
    gas_refused OfGas.Station = refusal_is numbers_text (charge_lines document01 ch ++ temperature_lines n) (numbers_of s n (gas_of ch))

    pub walk_refused : (numbers : List ℤ) → walk_told (Err r) s ch n numbers ≡ walk_told (Ok tt) s ch n numbers
    unfolding walked
    walk_refused numbers =
        sym
        (stopped_by_sheet s r (start_lines document01 ch n (length numbers) most_steps most_steps most_looks)
        (run document01 s (start_state ch n) (steps_of (length numbers / step_numbers) numbers)) e)

  asked_refused : (q : OfGas) (fs : List (List ℕ)) → gas_reply q (Err r) s fs ≡ gas_reply q (Ok tt) s fs
  asked_refused q fs = go (asked_of fs)
    where
      go : (asked : Option (Charge × ℤ)) → on_gas (gas_text q s) (ask_over asked (Err r)) ≡ on_gas (gas_text q s) (ask_over asked (Ok tt))
      go (Some (ch, n)) = gas_refused ch n q
      go None = refl

  walk_of_refused : (zs : List ℤ) → walk_of (Err r) s zs ≡ walk_of (Ok tt) s zs
  walk_of_refused zs = ap walk_text (walk_refused (charge_in zs) (get_or zs charge_numbers (pos 0)) (drop start_numbers zs))

  reply_refused : (q : Request) (fs : List (List ℕ)) → reply_text (Err r) s q fs ≡ reply_text (Ok tt) s q fs
  reply_refused Request.Mark fs = refl
  reply_refused Request.Walk fs = ap (λ (t : List ℕ). cond (has_start (count_all 0 fs)) t misfit_text) (walk_of_refused (values_of fs))
  reply_refused Request.Station fs = asked_refused OfGas.Station fs
  reply_refused Request.Temperature fs = asked_refused OfGas.Inverse fs
  reply_refused Request.Specific fs = asked_refused OfGas.Specific fs
  reply_refused Request.Content fs = asked_refused OfGas.Content fs
  reply_refused Request.GasHeat fs = asked_refused OfGas.Heat fs
  reply_refused Request.Burn fs = refl
  reply_refused Request.AirHeat fs = refl
  reply_refused Request.AirTemperature fs = refl
  reply_refused Request.AirPsi fs = refl
  reply_refused Request.AirCp fs = refl
  reply_refused Request.Unknown fs = refl

  fields_refused : (fs : List (List ℕ)) → answer_fields (Err r) s fs ≡ answer_fields (Ok tt) s fs
  fields_refused [] = refl
  fields_refused (w ∷ fs) = reply_refused (request_of w) fs

-- so a verdict given once answers as the calls would that judge the list themselves
pub judged_once : (s line : List ℕ) (verdict : SheetAnswer) → paper_sheet verdict ≡ judge_told s → answer_of verdict s line ≡ answer_of (Ok tt) s line
unfolding answer_of line_text
judged_once s line (Ok good) e = refl
judged_once s line (Err r) e = ap (λ (t : List ℕ). cond (holds_return line) return_text t ++ (10 ∷ [])) (fields_refused s r e (fields_of line))

-- and prints the walk that they would
pub printed_once : (s : List ℕ) (ch : Charge) (mk : ℤ) (numbers : List ℤ) (verdict : SheetAnswer) → paper_sheet verdict ≡ judge_told s
    → printed_walk (walk_told verdict s ch mk numbers) ≡ printed_walk (walk_told (Ok tt) s ch mk numbers)
printed_once s ch mk numbers (Ok good) e = refl
printed_once s ch mk numbers (Err r) e = ap printed_walk (walk_refused s r e ch mk numbers)

-- ---- a sheet as a program holds it
-- over a refused sheet every list is answered alike
module _ (r : Refusal) (s t : List ℕ) where
  asked_alike : (q : OfGas) (fs : List (List ℕ)) → gas_reply q (Err r) s fs ≡ gas_reply q (Err r) t fs
  asked_alike q fs = go (asked_of fs)
    where
      go : (asked : Option (Charge × ℤ)) → on_gas (gas_text q s) (ask_over asked (Err r)) ≡ on_gas (gas_text q t) (ask_over asked (Err r))
      go (Some asked) = refl
      go None = refl

  reply_alike : (q : Request) (fs : List (List ℕ)) → reply_text (Err r) s q fs ≡ reply_text (Err r) t q fs
  reply_alike Request.Mark fs = refl
  reply_alike Request.Walk fs = refl
  reply_alike Request.Station fs = asked_alike OfGas.Station fs
  reply_alike Request.Temperature fs = asked_alike OfGas.Inverse fs
  reply_alike Request.Specific fs = asked_alike OfGas.Specific fs
  reply_alike Request.Content fs = asked_alike OfGas.Content fs
  reply_alike Request.GasHeat fs = asked_alike OfGas.Heat fs
  reply_alike Request.Burn fs = refl
  reply_alike Request.AirHeat fs = refl
  reply_alike Request.AirTemperature fs = refl
  reply_alike Request.AirPsi fs = refl
  reply_alike Request.AirCp fs = refl
  reply_alike Request.Unknown fs = refl

  fields_alike : (fs : List (List ℕ)) → answer_fields (Err r) s fs ≡ answer_fields (Err r) t fs
  fields_alike [] = refl
  fields_alike (w ∷ fs) = reply_alike (request_of w) fs

  pub answer_alike : (line : List ℕ) → answer_of (Err r) s line ≡ answer_of (Err r) t line
  unfolding answer_of line_text
  answer_alike line = ap (λ (x : List ℕ). cond (holds_return line) return_text x ++ (10 ∷ [])) (fields_alike (fields_of line))

-- so what is answered over a sheet that a program holds, and the walk over it, are those over its verdict and the list that it was judged from
module _ (s : List ℕ) where
  module _ {verdict : SheetAnswer} where
    pub answer_held : (sheet : Result AcceptedSheet Refusal) → verdict_in sheet ≡ verdict → IfOk sheet (λ a. a.list.now ≡ s) → (line : List ℕ)
        → answer_of (verdict_in sheet) (list_in sheet) line ≡ answer_of verdict s line
    answer_held (Ok a) q e line = ap (λ (l : List ℕ). answer_of (Ok tt) l line) e ∙ ap (λ (v : SheetAnswer). answer_of v s line) q
    answer_held (Err r) q e line = answer_alike r [] s line ∙ ap (λ (v : SheetAnswer). answer_of v s line) q

    pub walk_held : (sheet : Result AcceptedSheet Refusal) → verdict_in sheet ≡ verdict → IfOk sheet (λ a. a.list.now ≡ s) → (ch : Charge) (mk : ℤ) (numbers : List ℤ)
        → walk_told (verdict_in sheet) (list_in sheet) ch mk numbers ≡ walk_told verdict s ch mk numbers
    walk_held (Ok a) q e ch mk numbers = ap (λ (l : List ℕ). walk_told (Ok tt) l ch mk numbers) e ∙ ap (λ (v : SheetAnswer). walk_told v s ch mk numbers) q
    walk_held (Err r) q e ch mk numbers = ap (λ (v : SheetAnswer). walk_told v s ch mk numbers) q

  -- the verdict in a sheet that the judge gave is the judge's
  verdict_judged : (sheet : Result AcceptedSheet Refusal) → paper_sheet (verdict_in sheet) ≡ told_as (λ a. tt) sheet
  verdict_judged (Ok a) = refl
  verdict_judged (Err r) = refl

  module _ (sheet : Result AcceptedSheet Refusal) (told : told_as (λ a. tt) sheet ≡ judge_told s) (same : IfOk sheet (λ a. a.list.now ≡ s)) where
    -- so it is judged, and each answer over it is that of the calls that judge the list themselves
    pub judged_held : Judged (verdict_in sheet) s
    judged_held = of_list (verdict_judged sheet ∙ told)

    pub answer_judged_lem : (line : List ℕ) → answer_of (verdict_in sheet) (list_in sheet) line ≡ answer_of (Ok tt) s line
    answer_judged_lem line = answer_held sheet refl same line ∙ judged_once s line (verdict_in sheet) (verdict_judged sheet ∙ told)

    pub printed_judged : (ch : Charge) (mk : ℤ) (numbers : List ℤ)
        → printed_walk (walk_told (verdict_in sheet) (list_in sheet) ch mk numbers) ≡ printed_walk (walk_told (Ok tt) s ch mk numbers)
    printed_judged ch mk numbers = ap printed_walk (walk_held sheet refl same ch mk numbers) ∙ printed_once s ch mk numbers (verdict_in sheet) (verdict_judged sheet ∙ told)
