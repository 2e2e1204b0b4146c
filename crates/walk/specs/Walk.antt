-- A walk (document 01, "The walk" and "Refusal numbers"): the steps one after the other up to the first that is refused, the refusals before the first step, what
-- comes back, and what the three lent lists hold on return.
use Rattle.std.specs.Prelude.{Bool, not, ◌||◌, List, [], ◌∷◌, ◌++◌, map, ◌≡◌, ℕ, zero, suc, ◌*◌, ◌/◌, ◌%◌, ◌<◌, ltb, eqb, ℤ, pos, length, get_or, take, drop, Option, None, Some, Result, IfOk}
use Rattle.signed.specs.Zed.{up}
use Rattle.refusal.specs.declared.Refusal.{Refusal}
use Rattle.refusal.specs.Refusals.{Told, gives, refused, Line, ◌when◌, first, line_number, First, number_of, numbered, place_of, told_as}
use Rattle.air.specs.Limits.{look_places}
use Rattle.air.specs.Halving.{eleven}
use Rattle.burning.specs.declared.Charge.{Charge}
use Rattle.burning.specs.Burning.{Weights, document01, gas_of, charge_of}
use Rattle.burning.specs.Fuel.{no_fuel}
use Rattle.burning.specs.Answers.{charge_lines}
use Rattle.gas.specs.Answers.{temperature_lines}
use Rattle.walk.specs.Limits.{step_numbers, most_numbers}
use Rattle.walk.specs.declared.Course.{Course as CourseBack}
use Rattle.walk.specs.Lists.{Lists, lists, laid}
use Rattle.walk.specs.declared.Step.{Step}
use Rattle.walk.specs.Step.{step_in, State, Out, judge, step_order}

-- the first n steps of a list of numbers
unfoldable pub steps_of : ℕ → List ℤ → List Step
steps_of zero l = []
steps_of (suc n) l = step_in l ∷ steps_of n (drop step_numbers l)

-- ---- the run over the steps
-- how it ends: after the last step, or before a step that is refused with this number
pub data End : Type 0 where
  ended : State → End
  cut : ℕ → State → End

-- the steps that were done, and the end
pub record Trace : Type 0 where
  pub outs : List Out
  pub end : End

abbrev pub more : Out → Trace → Trace
more o t = record { outs = o ∷ t.outs; end = t.end }

-- a refused step ends the walk; from a done one it goes on
abbrev pub onward : State → Told Out → (State → Trace) → Trace
onward st (gives o) k = more o (k o.state)
onward st (refused r) k = record { outs = []; end = cut (number_of r) st }

unfoldable pub run : Weights → List ℕ → State → List Step → Trace
run w s st [] = record { outs = []; end = ended st }
run w s st (p ∷ ps) = onward st (judge w s st p) (λ q. run w s q ps)

-- ---- where it stops
abbrev pub no_step : Step
no_step = record { fuel = no_fuel; value = pos 0; heat = pos 0 }

-- i steps were done, and step i was refused with n where the walk stood at q
pub record StoppedAt (w : Weights) (s : List ℕ) (st : State) (ps : List Step) (i n : ℕ) (q : State) : Type 0 where
  pub done_before : length (run w s st ps).outs ≡ i
  pub cut_there : (run w s st ps).end ≡ cut n q

-- the steps before step i are accepted and lead to q, and n is the number of the first line of step i that holds there
pub record FirstRefused (w : Weights) (s : List ℕ) (st : State) (ps : List Step) (i n : ℕ) (q : State) : Type 0 where
  pub among : i < length ps
  pub accepted : (run w s st (take i ps)).end ≡ ended q
  pub line : Line
  pub first_line : First (step_order w s q (get_or ps i no_step)) line
  pub number_is : line_number line ≡ n

-- ---- the start
-- 13: steps list not a multiple of four long, or over the most numbers
abbrev pub wrong_steps : ℕ → Bool
wrong_steps numbers = not (eqb (numbers % step_numbers) 0) || ltb most_numbers numbers

-- 10: for n steps, the temperature or rest list is shorter than n, or the looks list shorter than 11n
abbrev pub short_lists : ℕ → ℕ → ℕ → ℕ → Bool
short_lists n temperatures rests looks = ltb temperatures n || (ltb rests n || ltb looks (look_places * n))

-- 13, 10, then the starting charge (4, 5) and temperature (6)
abbrev pub start_lines : Weights → Charge → ℤ → ℕ → ℕ → ℕ → ℕ → List Line
start_lines w ch mk numbers temperatures rests looks =
    13 when wrong_steps numbers ∷ 10 when short_lists (numbers / step_numbers) temperatures rests looks ∷ (charge_lines w ch ++ temperature_lines mk)

abbrev pub start_state : Charge → ℤ → State
start_state ch mk = record { gas = gas_of ch; mk = up mk }

-- a walk past the lines given: the first refusal among them and of its start, else its run
unfoldable pub walked : List Line → Weights → List ℕ → Charge → ℤ → List ℤ → ℕ → ℕ → ℕ → Told Trace
walked lines w s ch mk numbers temperatures rests looks =
    first (lines ++ start_lines w ch mk (length numbers) temperatures rests looks) (run w s (start_state ch mk) (steps_of (length numbers / step_numbers) numbers))

-- the same with these lists lent
abbrev pub walked_into : Lists → List Line → Weights → List ℕ → Charge → ℤ → List ℤ → Told Trace
walked_into lent lines w s ch mk numbers = walked lines w s ch mk numbers (length lent.temperatures) (length lent.rests) (length lent.looks)

-- ---- what comes back
-- a walk done to the end: the number of steps, the last charge and temperature; a refused step: the number of steps done, the number, and the charge and temperature before it
pub data Course : Type 0 where
  done : ℕ → Charge → ℤ → Course
  stopped : ℕ → ℕ → Charge → ℤ → Course

abbrev pub course_of : ℕ → End → Course
course_of n (ended st) = done n (charge_of st.gas) (pos st.mk)
course_of n (cut number st) = stopped n number (charge_of st.gas) (pos st.mk)

abbrev pub course : Told Trace → Told Course
course (gives t) = gives (course_of (length t.outs) t.end)
course (refused r) = refused r

-- what came back as the paper has it: a step that stopped the walk is told by its number
abbrev pub course_with : ℕ → Charge → ℤ → Option Refusal → Course
course_with n ch t None = done n ch t
course_with n ch t (Some r) = stopped n (number_of (numbered r)) ch t

abbrev pub paper_course : CourseBack → Course
paper_course c = course_with c.steps c.charge c.t.0 c.stop

-- the answer as the paper has it
abbrev pub paper_walk : Result CourseBack Refusal → Told Course
paper_walk = told_as paper_course

-- the place that the refusal of a step is given for
abbrev pub stop_place : Option Refusal → Option ℕ
stop_place None = None
stop_place (Some r) = place_of (numbered r)

-- ---- the lent lists
-- the steps done: none where the start is refused
abbrev pub outs_of : Told Trace → List Out
outs_of (gives t) = t.outs
outs_of (refused r) = []

abbrev pub temperatures_of : List Out → List ℤ
temperatures_of os = map (λ (o : Out). pos o.state.mk) os

abbrev pub rests_of : List Out → List ℤ
rests_of os = map (λ (o : Out). o.rests) os

-- eleven places a step, from eleven times its index on; unused ones of the eleven are 0
abbrev pub looks_of : List Out → List ℕ
looks_of [] = []
looks_of (o ∷ os) = eleven o.seen ++ looks_of os

-- the three lent lists on return: what the steps done give, in their first places
abbrev pub filled : Told Trace → Lists → Lists
filled told lent =
    lists
    (laid (temperatures_of (outs_of told)) lent.temperatures)
    (laid (rests_of (outs_of told)) lent.rests)
    (laid (looks_of (outs_of told)) lent.looks)

-- the whole of a walk: what it tells, and the three lent lists before and on return; no step is refused for a row
pub record Walks (told : Told Trace) (before : Lists) (a : Result CourseBack Refusal) (after : Lists) : Type 0 where
  pub answer : paper_walk a ≡ course told
  pub lent : after ≡ filled told before
  pub no_place : IfOk a (λ c. stop_place c.stop ≡ None)

-- what a walk promises: past these lines, over this sheet, with document 01's weights
abbrev pub WalkPromise : List Line → List ℕ → Charge → ℤ → List ℤ → Lists → Result CourseBack Refusal → Lists → Type 0
WalkPromise lines s ch mk numbers before a after = Walks (walked_into before lines document01 s ch mk numbers) before a after
