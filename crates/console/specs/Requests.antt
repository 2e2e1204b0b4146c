-- The words that requests begin with (docs/PROGRAM.md), the request that each names, what is answered to a line that is none, and what four numbers and a sheet's verdict
-- come to.
use Rattle.std.specs.Prelude.{ℕ, cond, List, [], ◌∷◌, ℤ, pos, get_or, Option, Some, None, Result, Ok, Err}
use Rattle.text.specs.Bytes.{bytes_of}
use Rattle.fields.specs.Fields.{values_of, count_all, is_count}
use Rattle.fields.specs.Words.{Worded, ◌names◌, named_by}
use Rattle.burning.specs.declared.Charge.{Charge}
use Rattle.burning.specs.Burning.{charge_numbers, charge_in}
use Rattle.console.specs.Limits.{start_numbers}
use Rattle.refusal.specs.declared.Refusal.{Refusal}
use Rattle.sheet.specs.Answers.{SheetAnswer}
use Rattle.console.specs.declared.requests.Request.{Request}

-- a line that is no request
abbrev pub unknown_text : List ℕ
unknown_text = bytes_of "error\tno such request"

abbrev pub misfit_text : List ℕ
misfit_text = bytes_of "error\tthe request takes other fields"

-- of a typed answer
abbrev pub no_number_text : List ℕ
no_number_text = bytes_of "error\tnot a number"

abbrev pub return_text : List ℕ
return_text = bytes_of "error\tthe line has a carriage return"

-- the words that requests begin with: the most frequent first, since they are looked up in this order
abbrev pub requests : List (Worded Request)
requests =
    "mark" names Request.Mark
    ∷ "walk" names Request.Walk
    ∷ "station" names Request.Station
    ∷ "temperature" names Request.Temperature
    ∷ "specific-content" names Request.Specific
    ∷ "content" names Request.Content
    ∷ "gas-heat" names Request.GasHeat
    ∷ "burn" names Request.Burn
    ∷ "air-heat" names Request.AirHeat
    ∷ "air-temperature" names Request.AirTemperature
    ∷ "air-psi" names Request.AirPsi
    ∷ "air-cp" names Request.AirCp
    ∷ []

-- the request of a word
unfoldable pub request_of : List ℕ → Request
request_of = named_by requests Request.Unknown

-- what is asked of a gas: a charge and a number, in the numbers of the fields; None where they are others
abbrev pub asked_of : List (List ℕ) → Option (Charge × ℤ)
asked_of fs = cond (is_count start_numbers (count_all 0 fs)) (Some (charge_in (values_of fs), get_or (values_of fs) charge_numbers (pos 0))) None

-- a charge and a number that are asked of the sheet, or the refusal of one that was refused when it was read; None: the fields are others
abbrev pub GasAsk : Type 0
GasAsk = Option (Result (Charge × ℤ) Refusal)

abbrev pub ask_of : Charge × ℤ → SheetAnswer → Result (Charge × ℤ) Refusal
ask_of asked (Ok good) = Ok asked
ask_of asked (Err r) = Err r

abbrev pub ask_over : Option (Charge × ℤ) → SheetAnswer → GasAsk
ask_over None verdict = None
ask_over (Some asked) verdict = Some (ask_of asked verdict)

-- the fields of a request on a gas: the numbers of a charge, and one more
abbrev pub gas_ask_of : List (List ℕ) → SheetAnswer → GasAsk
gas_ask_of fs verdict = ask_over (asked_of fs) verdict
