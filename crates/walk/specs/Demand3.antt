-- Demand 3, as it is proved of every outcome that satisfies the promise of a walk (Demand3Laws.antt): the content above 15 °C at the last temperature never exceeds
-- the exact ledger; with no steps the two are equal; otherwise the shortfall is less than the sum over the steps of the dearest thousandth of that step's gas; and every
-- step's temperature, rest and looks are those of document 01 for what that step asks, decided by the defined heat.
use Rattle.std.specs.Prelude.{List, [], ◌∷◌, map, ◌≡◌, ℕ, zero, suc, ◌*◌, ◌<◌, ◌≤◌, ℤ, pos, ◌-ℤ◌, length, get_or, take, drop, ◌≤ℤ◌, ◌<ℤ◌, None, Some, Result, Ok}
use Rattle.signed.specs.Zed.{up}
use Rattle.refusal.specs.declared.Refusal.{Refusal}
use Rattle.air.specs.Limits.{look_places}
use Rattle.air.specs.Halving.{eleven}
use Rattle.air.specs.Inverse.{temperature, rest, looks}
use Rattle.burning.specs.declared.Charge.{Charge}
use Rattle.burning.specs.declared.Gas.{Gas}
use Rattle.burning.specs.Burning.{Weights, gas_of}
use Rattle.gas.specs.Heat.{gas_heat, content_above15}
use Rattle.walk.specs.declared.Course.{Course as CourseBack}
use Rattle.walk.specs.declared.Step.{Step}
use Rattle.walk.specs.Step.{State, Asked, held, new_gas, asked_of}
use Rattle.walk.specs.Walk.{no_step}
use Rattle.walk.specs.Ledger.{ledger, dearest, sum_of}

-- n steps were done, and this charge and temperature came back: of a walk done to its end, or stopped at a step
pub data CameBack : Result CourseBack Refusal → ℕ → Charge → ℤ → Type 0 where
  came_done : (n : ℕ) (ch : Charge) (t : ℤ) → CameBack (Ok (record { steps = n; charge = ch; t = record { 0 = t }; stop = None })) n ch t
  came_stopped : (n : ℕ) (r : Refusal) (ch : Charge) (t : ℤ) → CameBack (Ok (record { steps = n; charge = ch; t = record { 0 = t }; stop = Some r })) n ch t

-- the gas after each step
abbrev pub gases_after : Gas → List Step → List Gas
gases_after g [] = []
gases_after g (p ∷ ps) = new_gas g p ∷ gases_after (new_gas g p) ps

-- the gas before step i: the start's with the fuel of all steps before
abbrev pub gas_before : Gas → List Step → ℕ → Gas
gas_before g ps zero = g
gas_before g [] (suc i) = g
gas_before g (p ∷ ps) (suc i) = gas_before (new_gas g p) ps i

-- where the walk stands before step i: at the start's temperature, or at the one that the lent list holds for the step before
abbrev pub standing : State → List Step → List ℤ → ℕ → State
standing st ps temperatures zero = st
standing st ps temperatures (suc i) = record { gas = gas_before st.gas ps (suc i); mk = up (get_or temperatures i (pos 0)) }

-- what step i asks there
abbrev pub asked_at : Weights → List ℕ → State → List Step → List ℤ → ℕ → Asked
asked_at w s st ps temperatures i =
    asked_of w s (held w s (standing st ps temperatures i)) (standing st ps temperatures i).gas (get_or ps i no_step)

-- a walk from the state st, of the steps ps that were done, that came back with n steps, this charge and temperature and left the lists so
pub record Demand3 (w : Weights) (s : List ℕ) (st : State) (ps : List Step) (n : ℕ) (ch : Charge) (mk : ℤ) (t r : List ℤ) (l : List ℕ) : Type 0 where
  pub as_many : n ≡ length ps
  pub last_written : (i : ℕ) → n ≡ suc i → mk ≡ get_or t i (pos 0)
  pub never_exceeds : content_above15 w s (gas_of ch) (up mk) ≤ℤ ledger w s st ps
  pub equal_with_none : ps ≡ [] → content_above15 w s (gas_of ch) (up mk) ≡ ledger w s st ps
  pub shortfall : 0 < length ps → (ledger w s st ps -ℤ content_above15 w s (gas_of ch) (up mk)) <ℤ pos (sum_of (map (dearest w s) (gases_after st.gas ps)))
  pub temperatures : (i : ℕ) → i < length ps → get_or t i (pos 0) ≡ pos (temperature (gas_heat w s (asked_at w s st ps t i).gas) (asked_at w s st ps t i).target)
  pub rests : (i : ℕ) → i < length ps → get_or r i (pos 0) ≡ rest (gas_heat w s (asked_at w s st ps t i).gas) (asked_at w s st ps t i).target
  pub at_most_eleven : (i : ℕ) → i < length ps → length (looks (gas_heat w s (asked_at w s st ps t i).gas) (asked_at w s st ps t i).target) ≤ look_places
  pub halving_looks : (i : ℕ) → i < length ps → take look_places (drop (look_places * i) l) ≡ eleven (looks (gas_heat w s (asked_at w s st ps t i).gas) (asked_at w s st ps t i).target)
