-- Laws of a run: what a step that is done has passed and gives, and how a law is carried over a whole run. Assumes nothing.
use Rattle.std.proofs.lemmas.Bool.{not-false}
use Rattle.std.specs.Prelude.{◌≡◌, true, false, ℕ, ℤ, ◌≤ℤ◌}
use Rattle.std.proofs.Math.Path.{refl}
use Rattle.std.proofs.Common.{sym, ap, ◌∙◌, arith}
use mathlib.Core.List.{List, [], ◌∷◌}
use Rattle.signed.specs.Zed.{le_from, lt_z_false}
use Rattle.refusal.specs.Refusals.{Told, gives, refused, and_then, Clear, clear, number_of}
use Rattle.refusal.specs.RefusalsLaws.{gives_clear}
use Rattle.air.specs.Limits.{coldest, hottest}
use Rattle.air.specs.Inverse.{unreached}
use Rattle.burning.specs.declared.Gas.{Gas}
use Rattle.burning.specs.Burning.{Weights, lean}
use Rattle.burning.specs.Fuel.{wrong_fuel}
use Rattle.gas.specs.Heat.{gas_heat}
use Rattle.walk.specs.declared.Step.{Step}
use Rattle.walk.specs.Step.{State, Out, held, new_gas, wrong_heat, ask_lines, asked_of, asked, out_of, sought, judge}
use Rattle.walk.specs.Walk.{Trace, ended, cut, more, onward, run}

-- ---- a step that is done
-- it passed every test, the target is reached by the new gas, and its outputs are those of what it asked
pub record StepDone (w : Weights) (s : List ℕ) (st : State) (p : Step) (o : Out) : Type 0 where
  pub fuel : wrong_fuel w st.gas p.fuel ≡ false
  pub heat : wrong_heat p ≡ false
  pub burns : lean w (new_gas st.gas p) ≡ true
  pub reached : gas_heat w s (new_gas st.gas p) coldest ≤ℤ (asked_of w s (held w s st) st.gas p).target
  pub most : (asked_of w s (held w s st) st.gas p).target ≤ℤ gas_heat w s (new_gas st.gas p) hottest
  pub out : o ≡ out_of w s (asked_of w s (held w s st) st.gas p)

record Through {A B : Type 0} (t : Told A) (f : A → Told B) (b : B) : Type 0 where
  between : A
  before : t ≡ gives between
  behind : f between ≡ gives b

through : {A B : Type 0} (t : Told A) (f : A → Told B) (b : B) → and_then t f ≡ gives b → Through t f b
through (gives a) f b e = record { between = a; before = refl; behind = e }
through (refused r) f b e = absurd (let z : ◌≡◌ {A = ℕ} 0 1 = cc in omega arith)

ask_clear : (w : Weights) (g : Gas) (p : Step) → Clear (ask_lines w g p) → (wrong_fuel w g p.fuel ≡ false) × (wrong_heat p ≡ false) × (lean w (new_gas g p) ≡ true)
ask_clear w g p (clear a (clear b (clear c n))) = (a, b, not-false (lean w (new_gas g p)) c)

end_clear : (v : ℕ → ℤ) (t : ℤ) → Clear (unreached v t) → (v coldest ≤ℤ t) × (t ≤ℤ v hottest)
end_clear v t (clear a (clear b n)) = (le_from (lt_z_false t (v coldest) a), le_from (lt_z_false (v hottest) t b))

pub step_done : (w : Weights) (s : List ℕ) (st : State) (p : Step) (o : Out) → judge w s st p ≡ gives o → StepDone w s st p o
unfolding judge asked sought
step_done w s st p o e =
    let a = asked_of w s (held w s st) st.gas p in
    let h = through (asked w s (held w s st) st.gas p) (sought w s) o e in
    let q = gives_clear (ask_lines w st.gas p) {a = a} {b = h.between} h.before in
    let k = gives_clear (unreached (gas_heat w s a.gas) a.target) {a = out_of w s a} {b = o} (ap (sought w s) q.1 ∙ h.behind) in
    let x = ask_clear w st.gas p q.0 in
    let y = end_clear (gas_heat w s a.gas) a.target k.0 in
    record { fuel = x.0; heat = x.1; burns = x.2; reached = y.0; most = y.1; out = sym k.1 }

-- ---- a law of runs has three cases: no step is left, the first is refused, the first is done and the law holds from there
module _ (w : Weights) (s : List ℕ) (P : State → List Step → Trace → Type 0)
    (none : (st : State) → P st [] (record { outs = []; end = ended st }))
    (stop : (st : State) (p : Step) (ps : List Step) (n : ℕ) → P st (p ∷ ps) (record { outs = []; end = cut n st }))
    (next : (st : State) (p : Step) (ps : List Step) (o : Out) → judge w s st p ≡ gives o → P o.state ps (run w s o.state ps) → P st (p ∷ ps) (more o (run w s o.state ps))) where
  by_judged : (st : State) (p : Step) (ps : List Step) → ((q : State) → P q ps (run w s q ps)) → (j : Told Out) → judge w s st p ≡ j → P st (p ∷ ps) (onward st j (λ q. run w s q ps))
  by_judged st p ps ih (gives o) e = next st p ps o e (ih o.state)
  by_judged st p ps ih (refused r) e = stop st p ps (number_of r)

  pub of_run : (ps : List Step) (st : State) → P st ps (run w s st ps)
  unfolding run
  of_run [] st = none st
  of_run (p ∷ ps) st = by_judged st p ps (λ q. of_run ps q) (judge w s st p) refl
