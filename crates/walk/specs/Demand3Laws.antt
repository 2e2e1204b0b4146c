-- Demand 3 proved, over any weights, of every outcome that satisfies the promise of a walk. Assumes nothing.
use Rattle.std.specs.Prelude.{◌≡◌, refl, List, [], ◌∷◌, ◌++◌, map, ℕ, zero, suc, ◌+◌, ◌*◌, ◌/◌, ◌<◌, ◌≤◌, ℤ, pos, ◌+ℤ◌, length, get_or, take, drop, Result}
use Rattle.std.proofs.Common.{sym, ap, ap₂, ◌∙◌, append_assoc, le_of_suc-le-suc, not-suc-le-zero, arith, get_or-drop, take_at, drop_at, drop-drop, length-take-le}
use Rattle.std.proofs.lemmas.List.{length-map}
use Rattle.std.proofs.Math.ListN.{get_or-append}
use Rattle.signed.specs.Zed.{up, is_pos, is_self, is_add, is_minus, lt_by, zed}
use Rattle.refusal.specs.declared.Refusal.{Refusal}
use Rattle.refusal.specs.Refusals.{Told, gives, refused, Line, Clear, clear, none as nothing}
use Rattle.refusal.specs.RefusalsLaws.{gives_clear, values_given}
use Rattle.air.specs.Limits.{look_places, coldest}
use Rattle.air.specs.Halving.{eleven}
use Rattle.air.specs.HalvingLaws.{length_eleven}
use Rattle.air.specs.Inverse.{rest, looks}
use Rattle.air.specs.InverseLaws.{looks_most}
use Rattle.burning.specs.declared.Charge.{Charge}
use Rattle.burning.specs.declared.Gas.{Gas}
use Rattle.sheet.specs.Sheet.{Accepted}
use Rattle.sheet.specs.Answers.{sheet_lines}
use Rattle.sheet.specs.AnswersLaws.{accepted_of_told}
use Rattle.burning.specs.Burning.{Weights, Sound, document01, charge_of}
use Rattle.burning.specs.BurningLaws.{document01_sound}
use Rattle.burning.specs.FuelLaws.{limits_with}
use Rattle.gas.specs.HeatLaws.{gas_rises}
use Rattle.gas.specs.Heat.{gas_heat}
use Rattle.walk.specs.Limits.{step_numbers}
use Rattle.walk.specs.declared.Course.{Course as CourseBack}
use Rattle.walk.specs.Lists.{Lists, laid}
use Rattle.walk.specs.declared.Step.{Step}
use Rattle.walk.specs.Step.{State, Asked, Out, held, new_gas, asked_of, out_of}
use Rattle.walk.specs.Walk.{Trace, End, ended, cut, run, no_step, steps_of, start_lines, start_state, walked, walked_into, course_of, course}
use Rattle.walk.specs.Walk.{paper_walk, temperatures_of, rests_of, looks_of, filled, Walks, WalkPromise}
use Rattle.walk.specs.Ledger.{total, ledger, dearest, sum_of, last_of}
use Rattle.walk.specs.RunLaws.{StepDone, step_done, of_run}
use Rattle.walk.specs.LedgerLaws.{AllClimb, dearests, run_balances, gas_after}
use Rattle.walk.specs.Demand3.{CameBack, came_done, came_stopped, gases_after, gas_before, standing, asked_at, Demand3}

-- ---- the steps that a run did, one after the other
data Chain (w : Weights) (s : List ℕ) : State → List Step → List Out → Type 0 where
  none : {st : State} {ps : List Step} → Chain w s st ps []
  link : {st : State} {p : Step} {ps : List Step} {o : Out} {os : List Out} → StepDone w s st p o → Chain w s o.state ps os → Chain w s st (p ∷ ps) (o ∷ os)

run_chain : (w : Weights) (s : List ℕ) (ps : List Step) (st : State) → Chain w s st ps (run w s st ps).outs
run_chain w s = of_run w s (λ st ps t. Chain w s st ps t.outs) (λ st. none) (λ st p ps n. none) (λ st p ps o e h. link (step_done w s st p o e) h)

-- the list after its first place
next_at : (t : List ℤ) (i : ℕ) → get_or (drop 1 t) i (pos 0) ≡ get_or t (suc i) (pos 0)
next_at t i = get_or-drop 1 t i (pos 0) ∙ ap (λ (k : ℕ). get_or t k (pos 0)) {x = 1 + i} {y = suc i} (omega arith)

module _ {w : Weights} {s : List ℕ} where
  chain_length : {st : State} {ps : List Step} {os : List Out} → Chain w s st ps os → length os ≤ length ps
  chain_length none = omega arith
  chain_length (link d c) = let h = chain_length c in omega arith

  -- the steps done are a chain of their own
  chain_taken : {st : State} {ps : List Step} {os : List Out} → Chain w s st ps os → Chain w s st (take (length os) ps) os
  chain_taken none = none
  chain_taken (link d c) = link d (chain_taken c)

  -- the gases after the steps
  chain_gases : {st : State} {ps : List Step} {os : List Out} → Chain w s st ps os → dearests w s os ≡ map (dearest w s) (gases_after st.gas (take (length os) ps))
  chain_gases none = refl
  chain_gases (link {st} {p} {ps} {o} {os} d c) =
      let g = gas_after w s st p o d in
      ap₂ (λ (x : ℕ) (xs : List ℕ). x ∷ xs) (ap (dearest w s) g) (chain_gases c ∙ ap (λ (x : Gas). map (dearest w s) (gases_after x (take (length os) ps))) g)

  -- where the walk stands before each step, by a list that holds the temperatures of the steps done
  before_next : {st : State} {p : Step} {o : Out} (d : StepDone w s st p o) (ps : List Step) (t : List ℤ) (i : ℕ) → get_or t 0 (pos 0) ≡ pos o.state.mk
      → standing o.state ps (drop 1 t) i ≡ standing st (p ∷ ps) t (suc i)
  before_next {st} {p} {o} d ps t zero h = ap₂ (λ (g : Gas) (n : ℕ). record { gas = g; mk = n }) (gas_after w s st p o d) (sym (ap up h))
  before_next {st} {p} {o} d ps t (suc i) h =
      ap₂ (λ (g : Gas) (z : ℤ). record { gas = gas_before g ps (suc i); mk = up z }) (gas_after w s st p o d) (next_at t i)

  -- step i is what document 01 says of what it asks there
  chain_at : {st : State} {ps : List Step} {os : List Out} → Chain w s st ps os → (t : List ℤ)
      → ((j : ℕ) → j < length os → get_or t j (pos 0) ≡ get_or (temperatures_of os) j (pos 0)) → (i : ℕ) (e : Out) → i < length os → get_or os i e ≡ out_of w s (asked_at w s st ps t i)
  chain_at none t h i e l = absurd (not-suc-le-zero l)
  chain_at (link d c) t h zero e l = d.out
  chain_at (link {st} {p} {ps} {o} {os} d c) t h (suc i) e l =
      chain_at c (drop 1 t) (λ j k. next_at t j ∙ h (suc j) (omega arith)) i e (le_of_suc-le-suc l)
      ∙ ap (λ (x : State). out_of w s (asked_of w s (held w s x) x.gas (get_or ps i no_step))) (before_next d ps t i (h 0 (omega arith)))

  -- no step has more than eleven looks, so each has its eleven places
  pub eleven_places : {st : State} {p : Step} {o : Out} → StepDone w s st p o → length (eleven o.seen) ≡ look_places
  eleven_places {st} {p} d =
      let a = asked_of w s (held w s st) st.gas p in
      rw d.out (length_eleven (looks (gas_heat w s a.gas) a.target) (looks_most (gas_heat w s a.gas) a.target))

  chain_looks : {st : State} {ps : List Step} {os : List Out} → Chain w s st ps os → (i : ℕ) (e : Out) (rest : List ℕ) → i < length os
      → take look_places (drop (look_places * i) (looks_of os ++ rest)) ≡ eleven (get_or os i e).seen
  chain_looks none i e rest l = absurd (not-suc-le-zero l)
  chain_looks (link {o} {os} d c) zero e rest l = rw (append_assoc (eleven o.seen) (looks_of os) rest) (take_at (eleven o.seen) (looks_of os ++ rest) look_places (eleven_places d))
  chain_looks (link {o} {os} d c) (suc i) e rest l =
      let n : look_places * suc i ≡ look_places + look_places * i = omega arith in
      ap (take look_places)
      (ap (λ (k : ℕ). drop k ((eleven o.seen ++ looks_of os) ++ rest)) n
      ∙ sym (drop-drop (look_places * i) look_places ((eleven o.seen ++ looks_of os) ++ rest))
      ∙ ap (drop (look_places * i)) (ap (drop look_places) (append_assoc (eleven o.seen) (looks_of os) rest) ∙ drop_at (eleven o.seen) (looks_of os ++ rest) look_places (eleven_places d)))
      ∙ chain_looks c i e rest (le_of_suc-le-suc l)

-- an element of a list of what each element has
get_d_map : {A B : Type 0} (f : A → B) (os : List A) (i : ℕ) (e : A) (z : B) → i < length os → get_or (map f os) i z ≡ f (get_or os i e)
get_d_map f [] i e z l = absurd (not-suc-le-zero l)
get_d_map f (o ∷ os) zero e z l = refl
get_d_map f (o ∷ os) (suc i) e z l = get_d_map f os i e z (le_of_suc-le-suc l)

-- the last of the steps done is where a run ends
last_from : State → List Out → State
last_from st [] = st
last_from st (o ∷ os) = last_from o.state os

run_ends : (w : Weights) (s : List ℕ) (ps : List Step) (st : State) → last_of (run w s st ps).end ≡ last_from st (run w s st ps).outs
unfolding last_from
run_ends w s = of_run w s (λ st ps t. last_of t.end ≡ last_from st t.outs) (λ st. refl) (λ st p ps n. refl) (λ st p ps o e h. h)

last_temperature : (os : List Out) (st : State) (i : ℕ) → length os ≡ suc i → pos (last_from st os).mk ≡ get_or (temperatures_of os) i (pos 0)
unfolding last_from
last_temperature [] st i e = absurd (omega arith)
last_temperature (o ∷ []) st zero e = refl
last_temperature (o ∷ []) st (suc i) e = absurd (omega arith)
last_temperature (o ∷ x ∷ os) st zero e = absurd (omega arith)
last_temperature (o ∷ x ∷ os) st (suc i) e = last_temperature (x ∷ os) o.state i (omega arith)

no_rests : (os : List Out) → length os ≡ 0 → total (rests_of os) ≡ pos 0
no_rests [] e = refl
no_rests (o ∷ os) e = absurd (omega arith)

-- ---- the theorem, of a run
module _ (w : Weights) (s : List ℕ) (climb : AllClimb w s) (st : State) (ps : List Step) (t r : List ℤ) (l : List ℕ) where
  abbrev T : Trace
  T = run w s st ps

  abbrev n : ℕ
  n = length T.outs

  no_out : Out
  no_out = record { state = st; rests = pos 0; seen = [] }

  steps_done : length (take n ps) ≡ n
  steps_done = length-take-le n ps (chain_length (run_chain w s ps st))

  temperatures_kept : (j : ℕ) → j < n → get_or (laid (temperatures_of T.outs) t) j (pos 0) ≡ get_or (temperatures_of T.outs) j (pos 0)
  temperatures_kept j h = get_or-append (temperatures_of T.outs) _ (pos 0) j (omega (arith, length-map T.outs (λ (o : Out). pos o.state.mk)))

  rests_kept : (j : ℕ) → j < n → get_or (laid (rests_of T.outs) r) j (pos 0) ≡ get_or (rests_of T.outs) j (pos 0)
  rests_kept j h = get_or-append (rests_of T.outs) _ (pos 0) j (omega (arith, length-map T.outs (λ (o : Out). o.rests)))

  -- what step i asks, by the lists as they are on return
  abbrev here : ℕ → Asked
  here i = asked_at w s st (take n ps) (laid (temperatures_of T.outs) t) i

  step_is : (i : ℕ) → i < n → get_or T.outs i no_out ≡ out_of w s (here i)
  step_is i h = chain_at (chain_taken (run_chain w s ps st)) (laid (temperatures_of T.outs) t) temperatures_kept i no_out h

  abbrev H : ℤ
  H = held w s (last_of T.end)

  abbrev R : ℤ
  R = total (rests_of T.outs)

  ledger_is : H +ℤ R ≡ ledger w s st (take n ps)
  ledger_is = (run_balances w s climb ps st).balance

  pub run_demand_3 : Demand3 w s st (take n ps) n (charge_of (last_of T.end).gas) (pos (last_of T.end).mk)
      (laid (temperatures_of T.outs) t) (laid (rests_of T.outs) r) (laid (looks_of T.outs) l)
  run_demand_3 = record {
    as_many = sym steps_done;
    last_written = λ i e. ap (λ (x : State). pos x.mk) (run_ends w s ps st) ∙ last_temperature T.outs st i e ∙ sym (temperatures_kept i (omega arith));
    never_exceeds = omega (zed, ledger_is, (run_balances w s climb ps st).not_below, is_add (is_self H) (is_self R));
    equal_with_none = λ e. omega (zed, ledger_is, no_rests T.outs (sym steps_done ∙ ap length e), is_add (is_self H) (is_self R));
    shortfall = λ h. lt_by (is_minus (is_self (ledger w s st (take n ps))) (is_self H)) (is_pos (sum_of (map (dearest w s) (gases_after st.gas (take n ps)))))
        (omega (zed, ledger_is, steps_done, (run_balances w s climb ps st).small, ap sum_of (chain_gases (run_chain w s ps st)), is_add (is_self H) (is_self R), is_add (is_self R) (is_pos n)));
    temperatures = λ i h. let k : i < n = omega (arith, steps_done) in
        temperatures_kept i k ∙ get_d_map (λ (o : Out). pos o.state.mk) T.outs i no_out (pos 0) k ∙ ap (λ (o : Out). pos o.state.mk) (step_is i k);
    rests = λ i h. let k : i < n = omega (arith, steps_done) in
        rests_kept i k ∙ get_d_map (λ (o : Out). o.rests) T.outs i no_out (pos 0) k ∙ ap (λ (o : Out). o.rests) (step_is i k);
    at_most_eleven = λ i h. looks_most (gas_heat w s (here i).gas) (here i).target;
    halving_looks = λ i h. let k : i < n = omega (arith, steps_done) in
        chain_looks (run_chain w s ps st) i no_out (drop (length (looks_of T.outs)) l) k ∙ ap (λ (o : Out). eleven o.seen) (step_is i k);
  }

-- ---- the theorem, of the promise
-- what came back is how the run ended
came_back : {a : Result CourseBack Refusal} {n : ℕ} {ch : Charge} {mk : ℤ} → CameBack a n ch mk → (m : ℕ) (e : End) → paper_walk a ≡ gives (course_of m e)
    → (n ≡ m) × (ch ≡ charge_of (last_of e).gas) × (mk ≡ pos (last_of e).mk)
came_back (came_done n ch t) m (ended st) h = (cc, cc, cc)
came_back (came_done n ch t) m (cut k st) h = absurd (let z : ◌≡◌ {A = ℕ} 0 1 = cc in omega arith)
came_back (came_stopped n k ch t) m (ended st) h = absurd (let z : ◌≡◌ {A = ℕ} 0 1 = cc in omega arith)
came_back (came_stopped n k ch t) m (cut j st) h = (cc, cc, cc)

-- a refused start has nothing that came back
began : {a : Result CourseBack Refusal} {n : ℕ} {ch : Charge} {mk : ℤ} → CameBack a n ch mk → (told : Told Trace) → paper_walk a ≡ course told → (T : Trace) × (told ≡ gives T)
began c (gives T) h = (T, refl)
began (came_done n ch t) (refused r) h = absurd (let z : ◌≡◌ {A = ℕ} 0 1 = cc in omega arith)
began (came_stopped n j ch t) (refused r) h = absurd (let z : ◌≡◌ {A = ℕ} 0 1 = cc in omega arith)

module _ (w : Weights) (s : List ℕ) (climb : AllClimb w s) (lines : List Line) (start : Charge) (from : ℤ) (numbers : List ℤ) (before : Lists) where
  abbrev steps : List Step
  steps = steps_of (length numbers / step_numbers) numbers

  abbrev told : Told Trace
  told = walked_into before lines w s start from numbers

  -- a walk that began is its run
  its_run : (T : Trace) → told ≡ gives T → run w s (start_state start from) steps ≡ T
  unfolding walked
  its_run T e =
      (gives_clear (lines ++ start_lines w start from (length numbers) (length before.temperatures) (length before.rests) (length before.looks))
      {a = run w s (start_state start from) steps} {b = T} e).1

  demand_3_climbing : (a : Result CourseBack Refusal) (after : Lists) (n : ℕ) (ch : Charge) (mk : ℤ) → Walks told before a after → CameBack a n ch mk
      → Demand3 w s (start_state start from) (take n steps) n ch mk after.temperatures after.rests after.looks
  demand_3_climbing a after n ch mk h c =
      let T = run w s (start_state start from) steps in
      let b = began c told h.answer in
      let e : told ≡ gives T = b.1 ∙ ap gives (sym (its_run b.0 b.1)) in
      let k = came_back c (length T.outs) T.end (h.answer ∙ ap course e) in
      rw (h.lent ∙ ap (λ (o : Told Trace). filled o before) e, k.0, k.1, k.2) (run_demand_3 w s climb (start_state start from) steps before.temperatures before.rests before.looks)

-- ---- and of every outcome of a walk: one that began has an accepted sheet, on which the heat of every gas that burns rises
pub all_climb : (w : Weights) → Sound w → {s : List ℕ} → Accepted s → AllClimb w s
all_climb w so ok st p o d =
    gas_rises w so ok (new_gas st.gas p) (record { limits = limits_with w st.gas p.fuel d.fuel; is_lean = d.burns }) coldest (omega arith) (omega arith)

module _ (w : Weights) (so : Sound w) (s : List ℕ) (start : Charge) (from : ℤ) (numbers : List ℤ) (before : Lists) where
  began_accepted : (T : Trace) → walked_into before (sheet_lines s) w s start from numbers ≡ gives T → Accepted s
  unfolding walked
  began_accepted T e =
      let c =
      (gives_clear (sheet_lines s ++ start_lines w start from (length numbers) (length before.temperatures) (length before.rests) (length before.looks))
      {a = run w s (start_state start from) (steps_of (length numbers / step_numbers) numbers)} {b = T} e).0 in
      accepted_of_told s (values_given tt (sheet_clear c))
    where
      sheet_clear : Clear (sheet_lines s ++ start_lines w start from (length numbers) (length before.temperatures) (length before.rests) (length before.looks)) → Clear (sheet_lines s)
      sheet_clear (clear x (clear y c)) = clear x (clear y nothing)

  -- DEMAND 3: for every outcome that meets the promise of `walk` with n steps done, by the charge and temperature that came back and the lists as they are on return
  pub demand_3 : (a : Result CourseBack Refusal) (after : Lists) (n : ℕ) (ch : Charge) (mk : ℤ)
      → Walks (walked_into before (sheet_lines s) w s start from numbers) before a after → CameBack a n ch mk
      → Demand3 w s (start_state start from) (take n (steps_of (length numbers / step_numbers) numbers)) n ch mk after.temperatures after.rests after.looks
  demand_3 a after n ch mk h c =
      let b = began c (walked_into before (sheet_lines s) w s start from numbers) h.answer in
      demand_3_climbing w s (all_climb w so (began_accepted b.0 b.1)) (sheet_lines s) start from numbers before a after n ch mk h c

-- at document 01's weights nothing is left to suppose
pub demand_3_document01 : (s : List ℕ) (start : Charge) (from : ℤ) (numbers : List ℤ) (before : Lists) (a : Result CourseBack Refusal) (after : Lists) (n : ℕ) (ch : Charge) (mk : ℤ)
    → WalkPromise (sheet_lines s) s start from numbers before a after → CameBack a n ch mk
    → Demand3 document01 s (start_state start from) (take n (steps_of (length numbers / step_numbers) numbers)) n ch mk after.temperatures after.rests after.looks
demand_3_document01 = demand_3 document01 document01_sound
