-- Demand 1 of a walk, both ways and over any weights: the refusals of its start (`demand_1_walk`), those of a step as one order (`judge_is`, `demand_1_step`), and that a walk is
-- stopped at step i with n exactly when the steps before are accepted and n is the first line of step i (`stopped_exactly`, and of the answer `walk_stopped`). Assumes nothing.
use Rattle.std.specs.Prelude.{◌≡◌, ◌↔◌, List, [], ◌∷◌, ◌++◌, ℕ, zero, suc, ◌/◌, ℤ, pos, length, take, None, Result}
use Rattle.std.proofs.Math.Path.{refl, sym, ap}
use Rattle.std.proofs.Common.{ap₂, ◌∙◌, le_of_suc-le-suc, not-suc-le-zero, arith}
use Rattle.refusal.specs.declared.Refusal.{Refusal}
use Rattle.refusal.specs.Refusals.{Numbered, told_by, place_of, here, after, Told, gives, refused, Line, condition, first, line_number, First, Clear, Demand1}
use Rattle.refusal.specs.BoolLaws.{by_bool}
use Rattle.refusal.specs.RefusalsLaws.{refusal_given, demand_1}
use Rattle.refusal.specs.OrdersLaws.{one_order}
use Rattle.burning.specs.declared.Charge.{Charge}
use Rattle.burning.specs.Burning.{Weights, charge_of}
use Rattle.gas.specs.Heat.{gas_heat}
use Rattle.air.specs.Inverse.{unreached}
use Rattle.walk.specs.Limits.{step_numbers}
use Rattle.walk.specs.declared.Course.{Course as CourseBack}
use Rattle.walk.specs.declared.Step.{Step}
use Rattle.walk.specs.Step.{State, Asked, Out, held, ask_lines, asked_of, asked, out_of, sought, judge, step_order}
use Rattle.walk.specs.Lists.{Lists}
use Rattle.walk.specs.Walk.{Trace, End, ended, cut, more, onward, run, StoppedAt, FirstRefused, steps_of, start_lines, start_state, walked}
use Rattle.walk.specs.Walk.{walked_into, stopped, course_of, course, paper_walk, Walks}

-- ---- a step
module _ (w : Weights) (s : List ℕ) (st : State) (p : Step) where
  abbrev asks : Asked
  asks = asked_of w s (held w s st) st.gas p

  -- its refusals are one order
  pub judge_is : judge w s st p ≡ first (step_order w s st p) (out_of w s asks)
  unfolding judge asked sought
  judge_is = sym (one_order (ask_lines w st.gas p) asks (sought w s) (unreached (gas_heat w s asks.gas) asks.target) (out_of w s asks) refl)

  pub demand_1_step : Demand1 (step_order w s st p) (out_of w s asks) (judge w s st p)
  demand_1_step = demand_1 _ _ judge_is

  -- each is given for no row
  by_line : {l : Line} {r : Numbered} → First (step_order w s st p) l → told_by {A = Out} l ≡ refused r → place_of r ≡ None
  by_line (here h) e = cc
  by_line (after h (here k)) e = cc
  by_line (after h (after k (here m))) e = cc
  by_line (after h (after k (after m (here x)))) e = cc
  by_line (after h (after k (after m (after x (here y))))) e = cc
  by_line (after h (after k (after m (after x (after y later))))) e = elim later [ ]

  pub step_placeless : (r : Numbered) → judge w s st p ≡ refused r → place_of r ≡ None
  step_placeless r e = let x = (demand_1_step.refusal r).0 e in by_line x.1 x.2

-- ---- the first step: refused with n, or done
module _ (w : Weights) (s : List ℕ) where
  -- a run whose first step is refused
  refused_now : (st : State) (p : Step) (ps : List Step) (l : Line) → First (step_order w s st p) l → run w s st (p ∷ ps) ≡ record { outs = []; end = cut (line_number l) st }
  unfolding run
  refused_now st p ps l f = ap (λ (j : Told Out). onward st j (λ q. run w s q ps)) (judge_is w s st p ∙ refusal_given (out_of w s (asks w s st p)) f)

  goes_on : (st : State) (p : Step) (ps : List Step) (o : Out) → judge w s st p ≡ gives o → run w s st (p ∷ ps) ≡ more o (run w s o.state ps)
  unfolding run
  goes_on st p ps o e = ap (λ (j : Told Out). onward st j (λ q. run w s q ps)) e

  no_steps : (st : State) → run w s st [] ≡ record { outs = []; end = ended st }
  unfolding run
  no_steps st = refl

  -- no step is both
  data FirstStep (st : State) (p : Step) : Type 0 where
    is_refused : (l : Line) → First (step_order w s st p) l → FirstStep st p
    is_done : (o : Out) → judge w s st p ≡ gives o → FirstStep st p

  first_step : (st : State) (p : Step) → FirstStep st p
  first_step st p = by_told (judge w s st p) refl
    where
      by_told : (j : Told Out) → judge w s st p ≡ j → FirstStep st p
      by_told (gives o) e = is_done o e
      by_told (refused r) e = let x = ((demand_1_step w s st p).refusal r).0 e in is_refused x.0 x.1

  -- the step after one that is done is the next of the steps
  module _ (st : State) (p : Step) (ps : List Step) (o : Out) (e : judge w s st p ≡ gives o) {i n : ℕ} {q : State} where
    later_refused : FirstRefused w s o.state ps i n q → FirstRefused w s st (p ∷ ps) (suc i) n q
    later_refused k = record {
      among = omega (arith, k.among);
      accepted = ap (λ (t : Trace). t.end) (goes_on st p (take i ps) o e) ∙ k.accepted;
      line = k.line;
      first_line = k.first_line;
      number_is = k.number_is;
    }

    refused_later : FirstRefused w s st (p ∷ ps) (suc i) n q → FirstRefused w s o.state ps i n q
    refused_later k = record {
      among = le_of_suc-le-suc k.among;
      accepted = sym (ap (λ (t : Trace). t.end) (goes_on st p (take i ps) o e)) ∙ k.accepted;
      line = k.line;
      first_line = k.first_line;
      number_is = k.number_is;
    }

    later_stopped : StoppedAt w s o.state ps i n q → StoppedAt w s st (p ∷ ps) (suc i) n q
    later_stopped k = record {
      done_before = ap (λ (t : Trace). length t.outs) (goes_on st p ps o e) ∙ ap suc k.done_before;
      cut_there = ap (λ (t : Trace). t.end) (goes_on st p ps o e) ∙ k.cut_there;
    }

  -- a step that is refused at once
  at_once : (st : State) (p : Step) (ps : List Step) (l : Line) → First (step_order w s st p) l → FirstRefused w s st (p ∷ ps) 0 (line_number l) st
  at_once st p ps l f = record { among = omega arith; accepted = ap (λ (t : Trace). t.end) (no_steps st); line = l; first_line = f; number_is = refl }

  stops_refused : (ps : List Step) (st : State) (i n : ℕ) (q : State) → StoppedAt w s st ps i n q → FirstRefused w s st ps i n q
  stops_refused [] st i n q h =
      let e : ended st ≡ cut n q = sym (ap (λ (t : Trace). t.end) (no_steps st)) ∙ h.cut_there in
      absurd (let z : ◌≡◌ {A = ℕ} 0 1 = cc in omega arith)
  stops_refused (p ∷ ps) st i n q h = by_step (first_step st p) (λ o j. stops_refused ps o.state j n q)
    where
      by_step : FirstStep st p → ((o : Out) (j : ℕ) → StoppedAt w s o.state ps j n q → FirstRefused w s o.state ps j n q) → FirstRefused w s st (p ∷ ps) i n q
      by_step (is_refused l f) onwards =
          let r = refused_now st p ps l f in
          let c : cut n q ≡ cut (line_number l) st = sym h.cut_there ∙ ap (λ (t : Trace). t.end) r in
          let x : i ≡ 0 = sym h.done_before ∙ ap (λ (t : Trace). length t.outs) r in
          let y : n ≡ line_number l = cc in
          let z : q ≡ st = cc in
          rw (x, y, z) (at_once st p ps l f)
      by_step (is_done o e) onwards =
          let g = goes_on st p ps o e in
          let x : i ≡ suc (length (run w s o.state ps).outs) = sym h.done_before ∙ ap (λ (t : Trace). length t.outs) g in
          rw x (later_refused st p ps o e (onwards o (length (run w s o.state ps).outs) (record { done_before = refl; cut_there = sym (ap (λ (t : Trace). t.end) g) ∙ h.cut_there })))

  refused_stops : (ps : List Step) (st : State) (i n : ℕ) (q : State) → FirstRefused w s st ps i n q → StoppedAt w s st ps i n q
  refused_stops [] st i n q h = absurd (not-suc-le-zero h.among)
  refused_stops (p ∷ ps) st zero n q h =
      let e : ended q ≡ ended st = sym h.accepted ∙ ap (λ (t : Trace). t.end) (no_steps st) in
      let z : q ≡ st = cc in
      let r = refused_now st p ps h.line (rw z at h.first_line) in
      record {
        done_before = ap (λ (t : Trace). length t.outs) r;
        cut_there = ap (λ (t : Trace). t.end) r ∙ ap₂ cut h.number_is (sym z);
      }
  refused_stops (p ∷ ps) st (suc i) n q h = by_step (first_step st p) (λ o. refused_stops ps o.state i n q)
    where
      by_step : FirstStep st p → ((o : Out) → FirstRefused w s o.state ps i n q → StoppedAt w s o.state ps i n q) → StoppedAt w s st (p ∷ ps) (suc i) n q
      by_step (is_refused l f) onwards =
          let e : cut (line_number l) st ≡ ended q = sym (ap (λ (t : Trace). t.end) (refused_now st p (take i ps) l f)) ∙ h.accepted in
          absurd (let z : ◌≡◌ {A = ℕ} 0 1 = cc in omega arith)
      by_step (is_done o e) onwards = later_stopped st p ps o e (onwards o (refused_later st p ps o e h))

  -- a run is stopped at step i with n exactly when the steps before are accepted and n is the first line of step i
  pub stopped_exactly : (st : State) (ps : List Step) (i n : ℕ) (q : State) → StoppedAt w s st ps i n q ↔ FirstRefused w s st ps i n q
  stopped_exactly st ps i n q = (stops_refused ps st i n q, refused_stops ps st i n q)

-- ---- the walk
course_first : (ls : List Line) (t : Trace) → course (first ls t) ≡ first ls (course_of (length t.outs) t.end)
course_first [] t = refl
course_first (l ∷ ls) t = by_bool (condition l) (λ h. rw h refl) (λ h. rw h (course_first ls t))

module _ (lines : List Line) (w : Weights) (s : List ℕ) (start : Charge) (from : ℤ) (numbers : List ℤ) {before : Lists} {a : Result CourseBack Refusal} {after : Lists}
    (h : Walks (walked_into before lines w s start from numbers) before a after) where
  abbrev order : List Line
  order = lines ++ start_lines w start from (length numbers) (length before.temperatures) (length before.rests) (length before.looks)

  abbrev steps : List Step
  steps = steps_of (length numbers / step_numbers) numbers

  abbrev T : Trace
  T = run w s (start_state start from) steps

  answer_is : paper_walk a ≡ first order (course_of (length T.outs) T.end)
  unfolding walked
  answer_is = h.answer ∙ course_first order T

  -- the refusals of the start
  pub demand_1_walk : Demand1 order (course_of (length T.outs) T.end) (paper_walk a)
  demand_1_walk = demand_1 _ _ answer_is

  -- and of its steps: it comes back stopped at step i with n exactly when no refusal of the start holds, the steps before i are accepted, and n is the first line of step i
  pub walk_stopped : (i n : ℕ) (ch : Charge) (mk : ℤ)
      → (paper_walk a ≡ gives (stopped i n ch mk))
      ↔ (Clear order × ((q : State) × FirstRefused w s (start_state start from) steps i n q × (ch ≡ charge_of q.gas) × (mk ≡ pos q.mk)))
  walk_stopped i n ch mk = (
    λ e. let x = (demand_1_walk.answer (stopped i n ch mk)).0 e in (x.0, ends T.end refl x.1),
    λ x. (demand_1_walk.answer (stopped i n ch mk)).1 (x.0, stops x.1.0 (refused_stops w s steps (start_state start from) i n x.1.0 x.1.1) x.1.2 x.1.3),
  )
    where
      ends : (e : End) → T.end ≡ e → course_of (length T.outs) e ≡ stopped i n ch mk
          → (q : State) × FirstRefused w s (start_state start from) steps i n q × (ch ≡ charge_of q.gas) × (mk ≡ pos q.mk)
      ends (ended q) f e = absurd (let z : ◌≡◌ {A = ℕ} 0 1 = cc in omega arith)
      ends (cut m q) f e =
          let x : length T.outs ≡ i = cc in
          let y : m ≡ n = cc in
          (q, stops_refused w s steps (start_state start from) i n q (record { done_before = x; cut_there = f ∙ ap (λ (k : ℕ). cut k q) y }), cc, cc)

      stops : (q : State) → StoppedAt w s (start_state start from) steps i n q → ch ≡ charge_of q.gas → mk ≡ pos q.mk → course_of (length T.outs) T.end ≡ stopped i n ch mk
      stops q k x y = rw (k.done_before, k.cut_there, x, y) refl
