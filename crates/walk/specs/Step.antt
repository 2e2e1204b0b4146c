-- One step of a walk (document 01, "The walk"): what it asks, and how it is judged. A step is the fuel that it adds, its calorific value in hundredths of
-- C.H.U./lb, and its plain heat q. Heats are gas heats, temperatures mK.
use Rattle.std.specs.Prelude.{Bool, not, ◌||◌, List, [], ◌∷◌, ◌++◌, ℕ, ◌*◌, ℤ, pos, neg_ℤ, ◌+ℤ◌, ◌*ℤ◌, get_or}
use Rattle.signed.specs.Zed.{outside}
use Rattle.refusal.specs.Refusals.{Told, Line, ◌when◌, first, and_then}
use Rattle.air.specs.Limits.{fifteen_degrees}
use Rattle.air.specs.Inverse.{temperature, rest, looks, unreached}
use Rattle.burning.specs.declared.Gas.{Gas}
use Rattle.burning.specs.Burning.{Weights, lean}
use Rattle.burning.specs.Fuel.{fuel_in, numbers_of_fuel, with_fuel, wrong_fuel, mass_added}
use Rattle.gas.specs.Heat.{gas_heat, content_above15}
use Rattle.walk.specs.declared.Step.{Step}

-- a step is handed in as four numbers, carbon added, hydrogen added, calorific value, q: the step that begins a list of numbers, and the numbers of a step
abbrev pub step_in : List ℤ → Step
step_in numbers = record { fuel = fuel_in (get_or numbers 0 (pos 0) ∷ get_or numbers 1 (pos 0) ∷ []); value = get_or numbers 2 (pos 0); heat = get_or numbers 3 (pos 0) }

abbrev pub numbers_of_step : Step → List ℤ
numbers_of_step p = numbers_of_fuel p.fuel ++ p.value ∷ p.heat ∷ []

-- where a walk stands: its gas, and the temperature in mK
pub record State : Type 0 where
  pub gas : Gas
  pub mk : ℕ

-- the content above 15 °C that is held there
abbrev pub held : Weights → List ℕ → State → ℤ
held w s st = content_above15 w s st.gas st.mk

-- the gas with the step's fuel added
abbrev pub new_gas : Gas → Step → Gas
new_gas g p = with_fuel g p.fuel

-- the mass of the added fuel × 1000 × the calorific value
unfoldable pub burn_heat : Weights → Step → ℤ
burn_heat w p = pos (mass_added w p.fuel * 1000) *ℤ p.value

-- step heat: that + q
abbrev pub step_heat : Weights → Step → ℤ
step_heat w p = burn_heat w p +ℤ p.heat

-- calorific value (0 to 5,000,000) or q (−10^18 to 10^18) outside range
abbrev pub wrong_heat : Step → Bool
wrong_heat p = outside (pos 0) (pos 5000000) p.value || outside (neg_ℤ (pos 1000000000000000000)) (pos 1000000000000000000) p.heat

-- refusals 4, 7, 5
abbrev pub ask_lines : Weights → Gas → Step → List Line
ask_lines w g p = 4 when wrong_fuel w g p.fuel ∷ 7 when wrong_heat p ∷ 5 when not (lean w (new_gas g p)) ∷ []

-- what a step asks: a temperature of the new gas, from a gas heat
pub record Asked : Type 0 where
  pub gas : Gas
  pub target : ℤ

-- target content above 15 °C of the new charge = content of the old charge at its rounded temperature + step heat; as a gas heat, that and the heat at 15 °C
abbrev pub asked_of : Weights → List ℕ → ℤ → Gas → Step → Asked
asked_of w s content g p = record { gas = new_gas g p; target = content +ℤ step_heat w p +ℤ gas_heat w s (new_gas g p) fifteen_degrees }

unfoldable pub asked : Weights → List ℕ → ℤ → Gas → Step → Told Asked
asked w s content g p = first (ask_lines w g p) (asked_of w s content g p)

-- a step that is done: the state after it, the rest, and the looks
pub record Out : Type 0 where
  pub state : State
  pub rests : ℤ
  pub seen : List ℕ

abbrev pub out_of : Weights → List ℕ → Asked → Out
out_of w s a = record {
  state = record { gas = a.gas; mk = temperature (gas_heat w s a.gas) a.target };
  rests = rest (gas_heat w s a.gas) a.target;
  seen = looks (gas_heat w s a.gas) a.target;
}

-- the search: 8 or 9, else the temperature from the target
unfoldable pub sought : Weights → List ℕ → Asked → Told Out
sought w s a = first (unreached (gas_heat w s a.gas) a.target) (out_of w s a)

-- a step judged: 4, 7, 5, then 8 or 9
unfoldable pub judge : Weights → List ℕ → State → Step → Told Out
judge w s st p = and_then (asked w s (held w s st) st.gas p) (sought w s)

-- the refusals of a step as one order: 4, 7, 5, 8 or 9
abbrev pub step_order : Weights → List ℕ → State → Step → List Line
step_order w s st p =
    ask_lines w st.gas p ++ unreached (gas_heat w s (new_gas st.gas p)) (asked_of w s (held w s st) st.gas p).target
