-- What the work of a walk past its start keeps and shows: the state with the two heats that the next step needs, one step, and what it asks. The functions of
-- src/run.rt and src/stepping.rt cite these; Step.antt and Walk.antt are what they mean.
use Rattle.std.specs.Prelude.{true, List, [], ◌≡◌, ℕ, ◌*◌, ◌≤◌, drop, ℤ, pos, ◌-ℤ◌, Result, IfOk}
use Rattle.signed.specs.Zed.{up, dn, in_z}
use Rattle.refusal.specs.declared.Refusal.{Refusal}
use Rattle.refusal.specs.Refusals.{Told, gives, refused, told_as}
use Rattle.air.specs.Limits.{fifteen_degrees, coldest, hottest}
use Rattle.air.specs.declared.Millikelvin.{Millikelvin}
use Rattle.air.specs.Halving.{eleven}
use Rattle.gas.specs.declared.Heat.{Heat}
use Rattle.burning.specs.declared.Gas.{Gas}
use Rattle.burning.specs.Burning.{document01, Burns}
use Rattle.gas.specs.Heat.{gas_heat}
use Rattle.walk.specs.Limits.{step_numbers}
use Rattle.walk.specs.declared.lent.Lent.{Lent}
use Rattle.walk.specs.declared.stepping.Standing.{Standing}
use Rattle.walk.specs.declared.stepping.Asking.{Asking}
use Rattle.walk.specs.Lists.{laid}
use Rattle.walk.specs.declared.Step.{Step}
use Rattle.walk.specs.Step.{step_in, State, Asked, Out}

-- where the walk stands
abbrev pub state_of : Standing → State
state_of st = record { gas = st.gas; mk = up st.t.0 }

-- a gas that burns, at a temperature in range, with its heat there and at 15 °C
pub record Stands (s : List ℕ) (st : Standing) : Type 0 where
  pub burns : Burns document01 st.gas
  pub covered : in_z (pos coldest) (pos hottest) st.t.0 ≡ true
  pub heat_is : st.heat.0 ≡ gas_heat document01 s st.gas (up st.t.0)
  pub fifteen_is : st.fifteen.0 ≡ gas_heat document01 s st.gas fifteen_degrees

-- a walk that begins with this gas at this temperature
pub record Begun (s : List ℕ) (g : Gas) (t : Millikelvin) (st : Standing) : Type 0 where
  pub state_is : state_of st ≡ record { gas = g; mk = up t.0 }
  pub stands : Stands s st

-- the lists that are lent are still the caller's own
abbrev pub SameLists : Lent → Lent → Type 0
SameLists before after =
    (after.temperatures.ghost_name ≡ before.temperatures.ghost_name) × (after.rests.ghost_name ≡ before.rests.ghost_name) × (after.looks.ghost_name ≡ before.looks.ghost_name)

-- the step at an index of a list of numbers
abbrev pub step_no : List ℤ → ℕ → Step
step_no l i = step_in (drop (step_numbers * i) l)

-- ---- what a step asks
-- two heats and what a step brings, so small that their sum stays inside 64 bits
pub record InReach (heat fifteen brought new : ℤ) : Type 0 where
  pub heat_most : up heat ≤ 1068080000000000000
  pub heat_least : dn heat ≤ 400000000000000000
  pub fifteen_most : up fifteen ≤ 1068080000000000000
  pub fifteen_least : dn fifteen ≤ 400000000000000000
  pub brought_most : up brought ≤ 4254750000000000000
  pub brought_least : dn brought ≤ 1000000000000000000
  pub new_most : up new ≤ 1068080000000000000
  pub new_least : dn new ≤ 400000000000000000

abbrev pub paper_ask : Result Asking Refusal → Told Asked
paper_ask = told_as (λ a. record { gas = a.gas; target = a.target.0 })

-- a new gas that burns, with its heat at 15 °C
pub record AsksOf (s : List ℕ) (a : Asking) : Type 0 where
  pub burning : Burns document01 a.gas
  pub fifteen_is : a.fifteen.0 ≡ gas_heat document01 s a.gas fifteen_degrees

pub record Asks (told : Told Asked) (s : List ℕ) (r : Result Asking Refusal) : Type 0 where
  pub asked_is : paper_ask r ≡ told
  pub ready : IfOk r (λ a. AsksOf s a)

-- ---- a step
-- the state that follows from what was asked and what was found: the heat there is the target less the rest
abbrev pub standing_of : Asking → Millikelvin → Heat → Standing
standing_of a t rest = record { gas = a.gas; t = t; heat = record { 0 = a.target.0 -ℤ rest.0 }; fifteen = a.fifteen }

-- the state after it and the rest: what it tells beside its looks
pub record Shown : Type 0 where
  pub state : State
  pub rests : ℤ

abbrev pub paper_step : Result (Standing × Heat) Refusal → Told Shown
paper_step = told_as (λ p. record { state = state_of p.0; rests = p.1.0 })

abbrev pub shown : Told Out → Told Shown
shown (gives o) = gives (record { state = o.state; rests = o.rests })
shown (refused r) = refused r

-- its eleven places of looks; a refused step writes none
abbrev pub eleven_of : Told Out → List ℕ
eleven_of (gives o) = eleven o.seen
eleven_of (refused r) = []

-- the state after a step that is done is ready for the next
pub record StepGives (j : Told Out) (s : List ℕ) (before : List ℕ) (r : Result (Standing × Heat) Refusal) (after : List ℕ) : Type 0 where
  pub told : paper_step r ≡ shown j
  pub looks : after ≡ laid (eleven_of j) before
  pub stands : IfOk r (λ p. Stands s p.0)
