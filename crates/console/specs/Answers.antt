-- The answer to each request line (docs/PROGRAM.md), over a sheet list and the verdict that it was given when it was read. With the verdict `Ok` each request
-- tells what the call of the layer below tells of that list, refusals 1 and 3 among them; a sheet that was refused tells its refusal to every request that needs one.
use Rattle.std.specs.Prelude.{ℕ, cond, List, [], ◌∷◌, ◌++◌, ◌≡◌, ℤ, Option, Some, None, Result, Ok, Err}
use Rattle.refusal.specs.declared.Refusal.{Refusal}
use Rattle.refusal.specs.Refusals.{numbered}
use Rattle.air.specs.Limits.{look_places}
use Rattle.rows.specs.Rows.{rows_h, rows_psi, rows_cp}
use Rattle.fields.specs.Fields.{fields_of, holds_return, one_of, is_count, count_all, values_of}
use Rattle.air.specs.Inverse.{looks}
use Rattle.air.specs.Answers.{air_heat_told, psi_told, cp_told, psi_value, psi_inverse_told}
use Rattle.sheet.specs.Sheet.{Accepted}
use Rattle.sheet.specs.Answers.{SheetAnswer, paper_sheet, judge_told}
use Rattle.sheet.specs.Pieces.{PiecesRead}
use Rattle.sheet.specs.declared.accepted.AcceptedSheet.{AcceptedSheet}
use Rattle.burning.specs.declared.Charge.{Charge}
use Rattle.burning.specs.Burning.{document01, gas_of, charge_numbers, charge_in}
use Rattle.gas.specs.Heat.{gas_heat}
use Rattle.burning.specs.Answers.{burn_told}
use Rattle.gas.specs.Answers.{heat_told, content_told, specific_told, temperature_told}
use Rattle.marking.specs.Figures.{numbers_told}
use Rattle.console.specs.declared.requests.Request.{Request}
use Rattle.console.specs.declared.requests.OfAir.{OfAir}
use Rattle.console.specs.declared.requests.OfGas.{OfGas}
use Rattle.console.specs.Requests.{request_of, GasAsk, gas_ask_of, unknown_text, misfit_text, return_text}
use Rattle.wording.specs.Texts.{refusal_text, reading_text, inverse_text, burnt_text, whole_text, station_text}
use Rattle.console.specs.Marks.{mark_request}
use Rattle.console.specs.Walks.{walk_request}

-- air-heat and air-psi mK, air-cp K, air-temperature psi
abbrev pub air_text : OfAir → ℤ → List ℕ
air_text OfAir.Heat mk = reading_text (air_heat_told mk)
air_text OfAir.Psi mk = reading_text (psi_told mk)
air_text OfAir.Cp kelvin = reading_text (cp_told kelvin)
air_text OfAir.Inverse psi = inverse_text (psi_inverse_told look_places psi) (looks psi_value psi)

-- what is asked of air takes one number
abbrev pub on_one : (ℤ → List ℕ) → Option ℤ → List ℕ
on_one text (Some number) = text number
on_one text None = misfit_text

abbrev pub air_reply : OfAir → List (List ℕ) → List ℕ
air_reply reading fs = on_one (air_text reading) (one_of fs)

-- burn A c h
abbrev pub burn_text : List (List ℕ) → List ℕ
burn_text fs = cond (is_count charge_numbers (count_all 0 fs)) (burnt_text (burn_told document01 (charge_in (values_of fs)))) misfit_text

-- gas-heat, content and specific-content A c h mK; temperature A c h target; station A c h mK, whose figures are exactly their numbers (`station_exact` of marking)
abbrev pub gas_text : OfGas → List ℕ → Charge → ℤ → List ℕ
gas_text OfGas.Heat s charge mk = whole_text (heat_told document01 charge mk s)
gas_text OfGas.Content s charge mk = whole_text (content_told document01 charge mk s)
gas_text OfGas.Specific s charge mk = whole_text (specific_told document01 charge mk s)
gas_text OfGas.Inverse s charge target = inverse_text (temperature_told document01 charge target s look_places) (looks (gas_heat document01 s (gas_of charge)) target)
gas_text OfGas.Station s charge mk = station_text (numbers_told charge mk s)

-- what is asked of a gas takes a charge's numbers, one more, and a sheet
abbrev pub on_gas : (Charge → ℤ → List ℕ) → GasAsk → List ℕ
on_gas text (Some (Ok (charge, number))) = text charge number
on_gas text (Some (Err r)) = refusal_text (numbered r)
on_gas text None = misfit_text

abbrev pub gas_reply : OfGas → SheetAnswer → List ℕ → List (List ℕ) → List ℕ
gas_reply quantity verdict s fs = on_gas (gas_text quantity s) (gas_ask_of fs verdict)

-- the reply to a request, by its further fields
abbrev pub reply_text : SheetAnswer → List ℕ → Request → List (List ℕ) → List ℕ
reply_text verdict s Request.Mark fs = mark_request fs
reply_text verdict s Request.Walk fs = walk_request verdict s fs
reply_text verdict s Request.Station fs = gas_reply OfGas.Station verdict s fs
reply_text verdict s Request.Temperature fs = gas_reply OfGas.Inverse verdict s fs
reply_text verdict s Request.Specific fs = gas_reply OfGas.Specific verdict s fs
reply_text verdict s Request.Content fs = gas_reply OfGas.Content verdict s fs
reply_text verdict s Request.GasHeat fs = gas_reply OfGas.Heat verdict s fs
reply_text verdict s Request.Burn fs = burn_text fs
reply_text verdict s Request.AirHeat fs = air_reply OfAir.Heat fs
reply_text verdict s Request.AirTemperature fs = air_reply OfAir.Inverse fs
reply_text verdict s Request.AirPsi fs = air_reply OfAir.Psi fs
reply_text verdict s Request.AirCp fs = air_reply OfAir.Cp fs
reply_text verdict s Request.Unknown fs = unknown_text

-- the answer to a line: one with a carriage return is no request; else the first field says what is asked
abbrev pub answer_fields : SheetAnswer → List ℕ → List (List ℕ) → List ℕ
answer_fields verdict s [] = unknown_text
answer_fields verdict s (w ∷ fs) = reply_text verdict s (request_of w) fs

unfoldable pub line_text : SheetAnswer → List ℕ → List ℕ → List ℕ
line_text verdict s line = cond (holds_return line) return_text (answer_fields verdict s (fields_of line))

unfoldable pub answer_of : SheetAnswer → List ℕ → List ℕ → List ℕ
answer_of verdict s line = line_text verdict s line ++ (10 ∷ [])

-- after the reader: its refusal of the text, else what the judge tells of the list
abbrev pub JudgedAfter : SheetAnswer → SheetAnswer → List ℕ → Type 0
JudgedAfter (Ok good) verdict s = paper_sheet verdict ≡ judge_told s
JudgedAfter (Err r) verdict s = verdict ≡ Err r

-- the verdict on a sheet text, read in pieces into a list
pub record Verdict (text before : List ℕ) (verdict : SheetAnswer) (s : List ℕ) : Type 0 where
  pub read : SheetAnswer
  pub reading : PiecesRead text before read s
  pub judged : JudgedAfter read verdict s

-- what a program that holds a verdict knows: it is the judge's on the list, or that on the text that the list was read from
pub data Judged (verdict : SheetAnswer) (s : List ℕ) : Type 0 where
  of_list : paper_sheet verdict ≡ judge_told s → Judged verdict s
  of_text : {text before : List ℕ} → Verdict text before verdict s → Judged verdict s

-- a sheet as a program holds it, accepted or refused: its verdict, and its list, [] where it was refused. No answer over a refused sheet hangs on the list (VerdictLaws.antt).
abbrev pub verdict_in : Result AcceptedSheet Refusal → SheetAnswer
verdict_in (Ok sheet) = Ok tt
verdict_in (Err r) = Err r

abbrev pub list_in : Result AcceptedSheet Refusal → List ℕ
list_in (Ok sheet) = sheet.list.now
list_in (Err r) = []

-- the columns of Table 1 that the answers read, lent by the program that built them: H, psi and Cp
pub record Columns (air psis cps : List ℕ) : Type 0 where
  pub heats_are : air ≡ rows_h
  pub psis_are : psis ≡ rows_psi
  pub cps_are : cps ≡ rows_cp

-- what is asked of a sheet that was found good is asked of an accepted one
abbrev pub Ready : GasAsk → List ℕ → Type 0
Ready (Some (Ok asked)) s = Accepted s
Ready (Some (Err r)) s = Unit {0}
Ready None s = Unit {0}
