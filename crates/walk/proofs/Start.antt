-- The start of a walk: what it tells under each of its tests, and the run that follows. Assumes nothing.
use mathlib.Core.Path.{◌≡◌, refl, sym, ap, ap₂, ◌∙◌, subst}
use mathlib.Core.Bool.{true, false}
use mathlib.Core.List.{List, [], ◌++◌}
use Prim.Native.Nat.{ℕ, ◌/◌}
use lib.IntN.{ℤ}
use lib.ListN.{length}
use Rattle.std.specs.Prelude.{Result, Ok, Err}
use Rattle.signed.specs.Zed.{up}
use Rattle.air.specs.declared.Millikelvin.{Millikelvin}
use Rattle.refusal.specs.declared.Refusal.{Refusal}
use Rattle.refusal.specs.declared.Refusal.TheVariants.{Steps, ShortList}
use Rattle.refusal.specs.Refusals.{Plain, Told, gives, refused, numbered, first}
use Rattle.refusal.specs.RefusalsLaws.{gives_clear, values_given}
use Rattle.refusal.specs.OrdersLaws.{stopped_first}
use Rattle.sheet.specs.Sheet.{Accepted}
use Rattle.sheet.specs.Answers.{sheet_lines, judge_told}
use Rattle.sheet.specs.AnswersLaws.{past_sheet}
use Rattle.burning.specs.declared.Charge.{Charge}
use Rattle.burning.specs.declared.Gas.{Gas}
use Rattle.burning.specs.Burning.{document01, gas_of}
use Rattle.burning.specs.Answers.{charge_lines}
use Rattle.gas.specs.Answers.{temperature_lines}
use Rattle.walk.specs.Limits.{step_numbers}
use Rattle.walk.specs.declared.Course.{Course as CourseBack}
use Rattle.walk.specs.declared.stepping.Standing.{Standing}
use Rattle.walk.specs.Lists.{Lists, lists}
use Rattle.walk.specs.Step.{State}
use Rattle.walk.specs.Walk.{Trace, run, steps_of, wrong_steps, short_lists, start_lines, start_state, walked, walked_into, Walks}
use Rattle.walk.specs.inner.Work.{state_of, Begun}

-- a refused start writes nothing
start_refused : {told : Told Trace} {r : Refusal} {lent : Lists} → told ≡ refused (numbered r) → Walks told lent (Err r) lent
start_refused e = rw e (record { answer = refl; lent = refl; no_place = tt })

-- a walk that tells the same is the same
walks_as : {x y : Told Trace} {before after : Lists} {a : Result CourseBack Refusal} → x ≡ y → Walks x before a after → Walks y before a after
walks_as {before} {after} {a} e h = subst (λ (x : Told Trace). Walks x before a after) e h

-- and one whose lists were left so is
pub walks_left : {told : Told Trace} {before : Lists} {a : Result CourseBack Refusal} {t r t' r' : List ℤ} {l l' : List ℕ}
    → Walks told before a (lists t r l) → t' ≡ t → r' ≡ r → l' ≡ l → Walks told before a (lists t' r' l')
walks_left h x y z = rw (x, y, z) h

module _ (s : List ℕ) (ch : Charge) (t : Millikelvin) (numbers : List ℤ) (lent : Lists) where
  abbrev told : Told Trace
  told = walked_into lent [] document01 s ch t.0 numbers

  abbrev n : ℕ
  n = length numbers / step_numbers

  pub told_13 : wrong_steps (length numbers) ≡ true → told ≡ refused (Plain 13)
  unfolding walked
  told_13 e = rw e refl

  pub stops_13 : true ≡ wrong_steps (length numbers) → Walks told lent (Err Steps) lent
  stops_13 e = start_refused (told_13 (sym e))

  module _ (e : false ≡ wrong_steps (length numbers)) where
    pub stops_10 : true ≡ short_lists n (length lent.temperatures) (length lent.rests) (length lent.looks) → Walks told lent (Err ShortList) lent
    unfolding walked
    stops_10 h = start_refused (rw (sym e, sym h) refl)

    module _ (h : false ≡ short_lists n (length lent.temperatures) (length lent.rests) (length lent.looks)) where
      abbrev trace : Trace
      trace = run document01 s (start_state ch t.0) (steps_of n numbers)

      past_lists : told ≡ first (charge_lines document01 ch ++ temperature_lines t.0) trace
      unfolding walked
      past_lists = rw (sym e, sym h) refl

      -- the starting charge or temperature is refused
      pub start_stops : {r : Refusal} → refused (numbered r) ≡ first (charge_lines document01 ch ++ temperature_lines t.0) (gas_of ch) → Walks told lent (Err r) lent
      start_stops {r} q =
          start_refused (past_lists ∙ sym (stopped_first (charge_lines document01 ch ++ temperature_lines t.0) [] (gas_of ch) trace (numbered r) q))

      -- or the walk begins: what begins as it should runs as it should
      pub start_goes : {g : Gas} {from : Millikelvin} {st : Standing} {c : CourseBack} {after : Lists}
          → gives g ≡ first (charge_lines document01 ch ++ temperature_lines t.0) (gas_of ch) → from ≡ t → Begun s g from st
          → Walks (gives (run document01 s (state_of st) (steps_of n numbers))) lent (Ok c) after → Walks told lent (Ok c) after
      start_goes {g} q f b w =
          let c = gives_clear (charge_lines document01 ch ++ temperature_lines t.0) {a = gas_of ch} {b = g} (sym q) in
          let e = b.state_is ∙ ap₂ (λ (x : Gas) (m : Millikelvin). record { gas = x; mk = up m.0 }) (sym c.1) f in
          walks_as (ap (λ (x : State). gives (run document01 s x (steps_of n numbers))) e ∙ sym (past_lists ∙ values_given trace c.0)) w

-- ---- a sheet list judged first
module _ (s : List ℕ) (ch : Charge) (mk : ℤ) (numbers : List ℤ) (lent : Lists) where
  pub sheet_stops : {r : Refusal} → refused (numbered r) ≡ judge_told s → Walks (walked_into lent (sheet_lines s) document01 s ch mk numbers) lent (Err r) lent
  unfolding walked
  sheet_stops {r} e =
      start_refused
      (sym
      (stopped_first (sheet_lines s) (start_lines document01 ch mk (length numbers) (length lent.temperatures) (length lent.rests) (length lent.looks)) tt _ (numbered r) e))

  pub sheet_goes : {l : List ℕ} {a : Result CourseBack Refusal} {after : Lists} → Accepted l → l ≡ s → Walks (walked_into lent [] document01 l ch mk numbers) lent a after
      → Walks (walked_into lent (sheet_lines s) document01 s ch mk numbers) lent a after
  unfolding walked
  sheet_goes {l} {a} {after} ok e w =
      walks_as
      (sym (past_sheet (start_lines document01 ch mk (length numbers) (length lent.temperatures) (length lent.rests) (length lent.looks)) _ (subst Accepted e ok)))
      (subst (λ (x : List ℕ). Walks (walked_into lent [] document01 x ch mk numbers) lent a after) e w)
