-- Laws of the ledger: the dearest thousandth is at least every rise and equal to one, and the largest slope of a row; what a step takes in is what it holds and its rest; over a run the rests add up
-- to the shortfall, each less than its gas's dearest thousandth. Assumes nothing.
use Rattle.std.proofs.Common.{ltb-true, ltb-false, sym, ◌∙◌, ap, ⊎_elim, eq-or-lt_of_le, suc-mul, arith}
use Rattle.std.specs.Prelude.{◌≡◌, refl, List, [], ◌∷◌, map, ℕ, zero, suc, ◌+◌, ◌-◌, ◌*◌, ◌/◌, ◌%◌, ◌<◌, ◌≤◌, ltb, ℤ, pos, ◌+ℤ◌, ◌-ℤ◌, length, take, ◌≤ℤ◌, ◌<ℤ◌}
use Rattle.signed.specs.Zed.{up, apart, is_pos, is_self, is_add, is_minus, same_by, le_by, zed, le_parts, lt_parts}
use Rattle.refusal.specs.Refusals.{gives}
use Rattle.refusal.specs.BoolLaws.{by_bool}
use Rattle.rows.specs.Limits.{first_kelvin, last_kelvin}
use Rattle.air.specs.Limits.{fifteen_degrees, coldest, hottest}
use Rattle.air.specs.Inverse.{temperature, rest}
use Rattle.air.specs.InverseLaws.{temperature_least, temperature_most, rest_least, next_exceeds}
use Rattle.burning.specs.declared.Gas.{Gas}
use Rattle.sheet.specs.Sheet.{Accepted}
use Rattle.burning.specs.Burning.{Weights, Sound, Burns}
use Rattle.burning.specs.Burning.{masses_of}
use Rattle.gas.specs.Heat.{heat_slope, gas_heat}
use Rattle.gas.specs.HeatLaws.{heat_line, air_outweighs}
use Rattle.walk.specs.declared.Step.{Step}
use Rattle.walk.specs.Step.{State, Out, held, new_gas, step_heat, asked_of, judge}
use Rattle.walk.specs.Walk.{Trace, ended, cut, more, run, rests_of}
use Rattle.walk.specs.Ledger.{total, mk_rise, largest, dearest, sum_of, last_of}
use Rattle.walk.specs.RunLaws.{StepDone, step_done, of_run}

-- ---- the largest
pub largest_most : (f : ℕ → ℕ) (n T U : ℕ) → T ≤ U → U < T + n → f U ≤ largest f n T
unfolding largest
largest_most f zero T U l u = absurd (omega arith)
largest_most f (suc n) T U l u =
    by_bool (ltb (largest f n (suc T)) (f T))
    (λ h. rw h (⊎_elim (λ e. rw e (omega arith)) (λ c. omega (arith, ltb-true (largest f n (suc T)) (f T) h, largest_most f n (suc T) U c (omega arith))) (eq-or-lt_of_le l)))
    (λ h. rw h (⊎_elim (λ e. omega (arith, ltb-false (largest f n (suc T)) (f T) h, ap f e)) (λ c. largest_most f n (suc T) U c (omega arith)) (eq-or-lt_of_le l)))

-- one of the numbers that f has from T on
pub record OneOf (f : ℕ → ℕ) (T to x : ℕ) : Type 0 where
  pub place : ℕ
  pub least : T ≤ place
  pub most : place < to
  pub is : x ≡ f place

largest_one : (f : ℕ → ℕ) (n T : ℕ) → OneOf f T (T + suc n) (largest f (suc n) T)
unfolding largest
largest_one f zero T =
    by_bool (ltb 0 (f T))
    (λ h. record { place = T; least = omega arith; most = omega arith; is = rw h refl })
    (λ h. record { place = T; least = omega arith; most = omega arith; is = rw h (omega (arith, ltb-false 0 (f T) h)) })
largest_one f (suc n) T =
    by_bool (ltb (largest f (suc n) (suc T)) (f T))
    (λ h. record { place = T; least = omega arith; most = omega arith; is = rw h refl })
    (λ h. let o = largest_one f n (suc T) in record { place = o.place; least = omega (arith, o.least); most = omega (arith, o.most); is = rw h o.is })

-- the dearest thousandth: at least every rise, and equal to one
pub dearest_least : (w : Weights) (s : List ℕ) (g : Gas) (T : ℕ) → coldest ≤ T → T < hottest → mk_rise (gas_heat w s g) T ≤ dearest w s g
unfolding dearest
dearest_least w s g T l u = largest_most (mk_rise (gas_heat w s g)) (hottest - coldest) coldest T l u

pub dearest_is_one : (w : Weights) (s : List ℕ) (g : Gas) → OneOf (mk_rise (gas_heat w s g)) coldest hottest (dearest w s g)
unfolding dearest
dearest_is_one w s g = largest_one (mk_rise (gas_heat w s g)) (hottest - coldest - 1) coldest

-- ---- the heat of a gas that burns runs straight, so its dearest thousandth is the largest slope of a row
module _ (w : Weights) (sound : Sound w) {s : List ℕ} (ok : Accepted s) (g : Gas) (b : Burns w g) where
  abbrev slope : ℕ → ℕ
  slope k = heat_slope (masses_of w g) s k

  rise_at : (k f : ℕ) → first_kelvin ≤ k → k < last_kelvin → f < 1000 → mk_rise (gas_heat w s g) (1000 * k + f) ≡ slope k
  rise_at k f l u h =
      let t = air_outweighs w sound g b in
      let here = heat_line (masses_of w g) t ok k l u f (omega arith) in
      let e : suc (1000 * k + f) ≡ 1000 * k + suc f = omega arith in
      let next = heat_line (masses_of w g) t ok k l u (suc f) (omega arith) in
      let base = is_self (gas_heat w s g (1000 * k)) in
      rw (e, here, next) (ap up (same_by (is_minus (is_add base (is_pos (suc f * slope k))) (is_add base (is_pos (f * slope k)))) (is_pos (slope k)) (omega (arith, suc-mul f (slope k)))))

  rise_is : (T : ℕ) → coldest ≤ T → T < hottest → mk_rise (gas_heat w s g) T ≡ slope (T / 1000)
  rise_is T l u =
      let e : 1000 * (T / 1000) + T % 1000 ≡ T = omega arith in
      ap (mk_rise (gas_heat w s g)) (sym e) ∙ rise_at (T / 1000) (T % 1000) (omega arith) (omega arith) (omega arith)

  pub slope_most : (k : ℕ) → first_kelvin ≤ k → k < last_kelvin → slope k ≤ dearest w s g
  slope_most k l u =
      omega (arith, rise_at k 0 l u (omega arith), dearest_least w s g (1000 * k + 0) (omega arith) (omega arith))

  pub dearest_is_slope : OneOf slope first_kelvin last_kelvin (dearest w s g)
  dearest_is_slope =
      let o = dearest_is_one w s g in
      record { place = o.place / 1000; least = omega (arith, o.least); most = omega (arith, o.most); is = o.is ∙ rise_is o.place o.least o.most }

-- ---- one step
module _ (w : Weights) (s : List ℕ) (st : State) (p : Step) (o : Out) (d : StepDone w s st p o) where
  abbrev v : ℕ → ℤ
  v = gas_heat w s (new_gas st.gas p)

  abbrev target : ℤ
  target = (asked_of w s (held w s st) st.gas p).target

  -- what was held and what the step brings is what is held after it, and the rest
  pub step_balances : held w s o.state +ℤ o.rests ≡ held w s st +ℤ step_heat w p
  unfolding rest
  step_balances =
      rw d.out
      (same_by
      (is_add (is_minus (is_self (v (temperature v target))) (is_self (v fifteen_degrees)))
      (is_minus (is_add (is_add (is_self (held w s st)) (is_self (step_heat w p))) (is_self (v fifteen_degrees))) (is_self (v (temperature v target)))))
      (is_add (is_self (held w s st)) (is_self (step_heat w p)))
      (omega arith))

  pub rest_not_below : pos 0 ≤ℤ o.rests
  rest_not_below = rw d.out (rest_least v target d.reached)

  pub gas_after : o.state.gas ≡ new_gas st.gas p
  gas_after = rw d.out refl

  -- the rest is less than the dearest thousandth, where the heat rises at all
  below_next : temperature v target < hottest → (rest v target +ℤ pos 1) ≤ℤ pos (dearest w s (new_gas st.gas p))
  unfolding rest
  below_next h =
      let T = temperature v target in
      let a = lt_parts (next_exceeds v target h) in
      let r = dearest_least w s (new_gas st.gas p) T (temperature_least v target d.reached) h in
      let i = is_minus (is_self (v (suc T))) (is_self (v T)) in
      le_by (is_add (is_minus (is_self target) (is_self (v T))) (is_pos 1)) (is_pos (dearest w s (new_gas st.gas p)))
      (omega (arith, i, apart (v (suc T) -ℤ v T)))

  at_last : temperature v target ≡ hottest → v coldest <ℤ v (suc coldest) → (rest v target +ℤ pos 1) ≤ℤ pos (dearest w s (new_gas st.gas p))
  unfolding rest
  at_last e h =
      let a = le_parts d.most in
      let b = lt_parts h in
      let r = dearest_least w s (new_gas st.gas p) coldest (omega arith) (omega arith) in
      let i = is_minus (is_self (v (suc coldest))) (is_self (v coldest)) in
      rw e (le_by (is_add (is_minus (is_self target) (is_self (v hottest))) (is_pos 1)) (is_pos (dearest w s (new_gas st.gas p)))
      (omega (arith, i, apart (v (suc coldest) -ℤ v coldest))))

  pub rest_small : v coldest <ℤ v (suc coldest) → (o.rests +ℤ pos 1) ≤ℤ pos (dearest w s o.state.gas)
  rest_small h =
      rw d.out
      (⊎_elim (λ e. at_last e h) (λ c. below_next c) (eq-or-lt_of_le (temperature_most v target d.reached)))

-- ---- a run
-- the heat of a gas rises from 200,000 mK to the next
abbrev pub Climbs : Weights → List ℕ → Gas → Type 0
Climbs w s g = gas_heat w s g coldest <ℤ gas_heat w s g (suc coldest)

-- the gas of every step that is done climbs
abbrev pub AllClimb : Weights → List ℕ → Type 0
AllClimb w s = (st : State) (p : Step) (o : Out) → StepDone w s st p o → Climbs w s (new_gas st.gas p)

abbrev pub dearests : Weights → List ℕ → List Out → List ℕ
dearests w s os = map (λ (o : Out). dearest w s o.state.gas) os

pub record Balanced (w : Weights) (s : List ℕ) (st : State) (ps : List Step) (t : Trace) : Type 0 where
  pub balance : held w s (last_of t.end) +ℤ total (rests_of t.outs) ≡ held w s st +ℤ total (map (step_heat w) (take (length t.outs) ps))
  pub not_below : pos 0 ≤ℤ total (rests_of t.outs)
  pub small : (total (rests_of t.outs) +ℤ pos (length t.outs)) ≤ℤ pos (sum_of (dearests w s t.outs))

module _ (w : Weights) (s : List ℕ) (climb : AllClimb w s) where
  none_balanced : (st : State) → Balanced w s st [] (record { outs = []; end = ended st })
  none_balanced st = record { balance = refl; not_below = omega zed; small = omega zed }

  stop_balanced : (st : State) (p : Step) (ps : List Step) (n : ℕ) → Balanced w s st (p ∷ ps) (record { outs = []; end = cut n st })
  stop_balanced st p ps n = record { balance = refl; not_below = omega zed; small = omega zed }

  next_balanced : (st : State) (p : Step) (ps : List Step) (o : Out) → judge w s st p ≡ gives o → Balanced w s o.state ps (run w s o.state ps)
      → Balanced w s st (p ∷ ps) (more o (run w s o.state ps))
  next_balanced st p ps o e h =
      let d = step_done w s st p o e in
      let t = run w s o.state ps in
      let H = held w s (last_of t.end) in
      let R = total (rests_of t.outs) in
      let S = total (map (step_heat w) (take (length t.outs) ps)) in
      let b = step_balances w s st p o d in
      let x = is_add (is_self H) (is_add (is_self o.rests) (is_self R)) in
      let y = is_add (is_self (held w s st)) (is_add (is_self (step_heat w p)) (is_self S)) in
      record {
        balance = same_by x y (omega (
          zed,
          h.balance,
          b,
          is_add (is_self H) (is_self R),
          is_add (is_self (held w s o.state)) (is_self S),
          is_add (is_self (held w s o.state)) (is_self o.rests),
          is_add (is_self (held w s st)) (is_self (step_heat w p)),
        ));
        not_below = le_by (is_pos 0) (is_add (is_self o.rests) (is_self R)) (omega (zed, rest_not_below w s st p o d, h.not_below));
        small = le_by (is_add (is_add (is_self o.rests) (is_self R)) (is_pos (suc (length t.outs)))) (is_pos (dearest w s o.state.gas + sum_of (dearests w s t.outs)))
            (omega (zed, rest_small w s st p o d (climb st p o d), h.small, is_add (is_self o.rests) (is_pos 1), is_add (is_self R) (is_pos (length t.outs))));
      }

  pub run_balances : (ps : List Step) (st : State) → Balanced w s st ps (run w s st ps)
  run_balances = of_run w s (Balanced w s) none_balanced stop_balanced next_balanced
