-- What the calls on a gas tell (document 01, "Temperature from heat" and "Refusal numbers"): each an order of refusals, and the values else.
use Rattle.std.specs.Prelude.{List, [], ◌∷◌, ◌++◌, ◌≡◌, ℕ, ltb, ℤ, pos, length, Result}
use Rattle.signed.specs.Zed.{up, outside}
use Rattle.refusal.specs.declared.Refusal.{Refusal}
use Rattle.refusal.specs.Refusals.{Told, told_as, told_of, Line, ◌when◌, first}
use Rattle.air.specs.declared.Millikelvin.{Millikelvin}
use Rattle.air.specs.Limits.{look_places, coldest, hottest}
use Rattle.air.specs.Inverse.{looks, unreached, Found, found, written}
use Rattle.sheet.specs.Answers.{sheet_lines}
use Rattle.burning.specs.declared.Charge.{Charge}
use Rattle.burning.specs.declared.Gas.{Gas}
use Rattle.gas.specs.declared.Above.{Above}
use Rattle.gas.specs.declared.Above.TheVariants.{Zero, Fifteen}
use Rattle.gas.specs.declared.Heat.{Heat}
use Rattle.burning.specs.Burning.{Weights, gas_of}
use Rattle.burning.specs.Answers.{charge_lines}
use Rattle.gas.specs.Heat.{gas_heat, content_above15, specific_content}

-- ---- an answer as the paper has it: its values, or the refusal
abbrev pub paper_heat : Result Heat Refusal → Told ℤ
paper_heat = told_as (λ h. h.0)

abbrev pub paper_specific : Result ℤ Refusal → Told ℤ
paper_specific = told_of

-- the temperature of a heat with the rest
abbrev pub found_of : Millikelvin × Heat → Found
found_of p = record { mk = p.0.0; left = p.1.0 }

abbrev pub paper_temperature : Result (Millikelvin × Heat) Refusal → Told Found
paper_temperature = told_as found_of

-- ---- the orders
-- refusal 6: temperature outside range
abbrev pub temperature_lines : ℤ → List Line
temperature_lines mk = 6 when outside (pos coldest) (pos hottest) mk ∷ []

-- 1, 3, 4, 5, 6
abbrev pub heat_order : Weights → Charge → ℤ → List ℕ → List Line
heat_order w ch mk s = sheet_lines s ++ (charge_lines w ch ++ temperature_lines mk)

-- 1, 3, 10, 4, 5: all before the target is judged
abbrev pub search_order : Weights → Charge → List ℕ → ℕ → List Line
search_order w ch s places = sheet_lines s ++ (10 when ltb places look_places ∷ charge_lines w ch)

-- ---- what each call tells
-- a gas heat is counted above 0 K, a content above 15 °C
abbrev pub heat_above : Above → Weights → List ℕ → Gas → ℕ → ℤ
heat_above Zero = gas_heat
heat_above Fifteen = content_above15

abbrev pub told_above : Above → Weights → Charge → ℤ → List ℕ → Told ℤ
told_above above w ch mk s = first (heat_order w ch mk s) (heat_above above w s (gas_of ch) (up mk))

abbrev pub heat_told : Weights → Charge → ℤ → List ℕ → Told ℤ
heat_told w ch mk s = first (heat_order w ch mk s) (gas_heat w s (gas_of ch) (up mk))

abbrev pub content_told : Weights → Charge → ℤ → List ℕ → Told ℤ
content_told w ch mk s = first (heat_order w ch mk s) (content_above15 w s (gas_of ch) (up mk))

abbrev pub specific_told : Weights → Charge → ℤ → List ℕ → Told ℤ
specific_told w ch mk s = first (heat_order w ch mk s) (specific_content w s (gas_of ch) (up mk))

-- a temperature from a heat, v T being the gas heat at T: past the lines given, 8 or 9
abbrev pub inverse_told : List Line → (ℕ → ℤ) → ℤ → Told Found
inverse_told lines v target = first (lines ++ unreached v target) (found v target)

-- 1, 3, 10, 4, 5, 8 or 9, with so many places for looks
abbrev pub temperature_told : Weights → Charge → ℤ → List ℕ → ℕ → Told Found
temperature_told w ch target s places = inverse_told (search_order w ch s places) (gas_heat w s (gas_of ch)) target

-- what such a call tells, and the lent list of looks after it
pub record Inverted (lines : List Line) (v : ℕ → ℤ) (target : ℤ) (before : List ℕ) (r : Result (Millikelvin × Heat) Refusal) (after : List ℕ) : Type 0 where
  pub told : paper_temperature r ≡ inverse_told lines v target
  pub list : after ≡ written (inverse_told lines v target) (looks v target) before

-- the whole of the temperature of a heat: it tells `temperature_told`
abbrev pub Temperature : Weights → Charge → ℤ → List ℕ → List ℕ → Result (Millikelvin × Heat) Refusal → List ℕ → Type 0
Temperature w ch target s before = Inverted (search_order w ch s (length before)) (gas_heat w s (gas_of ch)) target before
