-- Document 01's printed walk, for any accepted sheet: A 1, no fuel, start 200,000 mK, q 1,200,000,001 then 2,400,000. It comes back done with two steps at 200,501 mK;
-- temperatures 200,500 and 200,501, rests 1 and 0, ten looks each; the ledger falls short by 1. And the fakes of "Completeness of the promises" that it rules out.
-- Assumes nothing.
use borrow.Author.Tests.{le-ltb}
use Rattle.std.specs.Prelude.{◌≡◌, ℤ, pos, neg_ℤ, ◌+ℤ◌, length, take, drop, Some, Result, Ok, Err}
use Rattle.std.proofs.Math.Path.{refl, ap, ap₂}
use Rattle.std.proofs.Common.{sym, ◌∙◌, arith, lit<, lit≤}
use Rattle.std.proofs.Math.Bool.{false}
use mathlib.Core.List.{List, [], ◌∷◌, ◌++◌}
use Prim.Native.Nat.{ℕ, ◌+◌, ◌/◌, ◌%◌, ◌<◌, ◌≤◌}
use Rattle.signed.specs.Zed.{up, in_z, eq_z, is_pos, is_self, is_add, is_minus, same_by, outside, not_outside, zed}
use Rattle.rows.specs.Rows.{rows_h}
use Rattle.rows.specs.Table.{column, air_h}
use Rattle.refusal.specs.Refusals.{Told, gives}
use Rattle.air.specs.Readings.{reading, between, air_heat}
use Rattle.air.specs.Halving.{halvings, halving, eleven}
use Rattle.air.specs.Inverse.{looks, Found}
use Rattle.sheet.specs.Sheet.{Accepted}
use Rattle.sheet.specs.Answers.{sheet_lines}
use Rattle.sheet.specs.AnswersLaws.{past_sheet}
use Rattle.burning.specs.declared.Charge.{Charge}
use Rattle.burning.specs.declared.Gas.{Gas}
use Rattle.burning.specs.Burning.{document01, beyond, lean, oxygen_used}
use Rattle.burning.specs.Fuel.{no_fuel}
use Rattle.gas.specs.Heat.{gas_heat}
use Rattle.gas.specs.Examples.{charge, air_alone, part_found}
use Rattle.air.specs.declared.Millikelvin.{Millikelvin}
use Rattle.refusal.specs.declared.Refusal.{Refusal}
use Rattle.burning.specs.BurningLaws.{document01_sound}
use Rattle.walk.specs.declared.Step.{Step}
use Rattle.walk.specs.declared.Course.{Course as CourseBack}
use Rattle.walk.specs.Step.{Out, held, burn_heat, step_heat, asked, sought, judge}
use Rattle.walk.specs.Walk.{Trace, ended, run, steps_of, start_lines, walked, course, paper_walk, done, filled, Walks, WalkPromise}
use Rattle.walk.specs.Lists.{Lists, lists, laid}
use Rattle.walk.specs.Ledger.{ledger}
use Rattle.walk.specs.LedgerLaws.{run_balances}
use Rattle.walk.specs.Demand3Laws.{all_climb}

-- one part of air
abbrev pub one : Gas
one = record { air = 1; carbon = 0; hydrogen = 0 }

-- a step of plain heat, with no fuel
abbrev pub plain_heat : ℕ → Step
plain_heat q = record { fuel = no_fuel; value = pos 0; heat = pos q }

-- what such a step gives where it ends o above the heat at 200 K
abbrev pub out_at : List ℕ → ℕ → Out
out_at s o = record {
  state = record { gas = one; mk = 200000 + o / 2400000 };
  rests = pos (o % 2400000);
  seen = looks (gas_heat document01 s one) (pos (477600000000 + o));
}

module _ {s : List ℕ} (ok : Accepted s) where
  abbrev v : ℕ → ℤ
  v = gas_heat document01 s one

  first_heat : v 200000 ≡ pos 477600000000
  unfolding air_h column rows_h reading between air_heat
  first_heat = ap (λ (f : ℕ → ℤ). f 200000) (air_alone s 1)

  last_heat : v 2000000 ≡ pos 5378900000000
  unfolding air_h column rows_h reading between air_heat
  last_heat = ap (λ (f : ℕ → ℤ). f 2000000) (air_alone s 1)

  middle_heat : v 200500 ≡ pos 478800000000
  unfolding air_h column rows_h reading between air_heat
  middle_heat = ap (λ (f : ℕ → ℤ). f 200500) (air_alone s 1)

  -- a step of plain heat q from where the heat is a above that at 200 K
  module _ (from a q : ℕ) (e : v from ≡ pos (477600000000 + a)) (h : a + q < 2400000000) where
    brought : step_heat document01 (plain_heat q) ≡ pos q
    unfolding burn_heat
    brought = omega (zed, is_add (is_pos 0) (is_pos q))

    target_is : held document01 s (record { gas = one; mk = from }) +ℤ step_heat document01 (plain_heat q) +ℤ v 288160 ≡ pos (477600000000 + (a + q))
    target_is =
        rw (brought, e)
        (same_by (is_add (is_add (is_minus (is_pos (477600000000 + a)) (is_self (v 288160))) (is_pos q)) (is_self (v 288160))) (is_pos (477600000000 + (a + q))) (omega arith))

    is_asked : asked document01 s (held document01 s (record { gas = one; mk = from })) one (plain_heat q) ≡ gives (record { gas = one; target = pos (477600000000 + (a + q)) })
    unfolding asked beyond in_z lean oxygen_used
    is_asked =
        rw (not_outside_q, target_is) refl
      where
        not_outside_q : outside (neg_ℤ (pos 1000000000000000000)) (pos 1000000000000000000) (pos q) ≡ false
        not_outside_q = not_outside (neg_ℤ (pos 1000000000000000000)) (pos 1000000000000000000) (pos q) (omega arith) (omega arith)

    is_sought : sought document01 s (record { gas = one; target = pos (477600000000 + (a + q)) }) ≡ gives (out_at s (a + q))
    unfolding sought
    is_sought =
        let f = part_found ok (a + q) h in
        rw (first_heat, last_heat, le-ltb (477600000000 + (a + q)) 477600000000 (omega arith), le-ltb 5378900000000 (477600000000 + (a + q)) (omega arith))
        (ap₂ (λ (m : ℕ) (z : ℤ). gives (record { state = record { gas = one; mk = m }; rests = z; seen = looks v (pos (477600000000 + (a + q))) }))
        (ap (λ (x : Found). up x.mk) f) (ap (λ (x : Found). x.left) f))

    pub heat_step : judge document01 s (record { gas = one; mk = from }) (plain_heat q) ≡ gives (out_at s (a + q))
    unfolding judge
    heat_step = rw is_asked is_sought

  -- the two steps
  pub printed_run : run document01 s (record { gas = one; mk = 200000 }) (plain_heat 1200000001 ∷ plain_heat 2400000 ∷ [])
      ≡ record { outs = out_at s 1200000001 ∷ out_at s 1202400000 ∷ []; end = ended (record { gas = one; mk = 200501 }) }
  unfolding run
  printed_run = rw (heat_step 200000 0 1200000001 first_heat (lit< tt), heat_step 200500 1200000000 2400000 middle_heat (lit< tt)) refl

  -- ten looks each
  abbrev pub ten_looks : List ℕ
  ten_looks = 1100 ∷ 650 ∷ 425 ∷ 312 ∷ 256 ∷ 228 ∷ 214 ∷ 207 ∷ 203 ∷ 201 ∷ []

  pub first_looks : looks v (pos 478800000001) ≡ ten_looks
  unfolding eq_z rows_h column air_h reading between air_heat looks halving halvings
  first_looks = ap (λ (f : ℕ → ℤ). looks f (pos 478800000001)) (air_alone s 1)

  pub second_looks : looks v (pos 478802400000) ≡ ten_looks
  unfolding eq_z rows_h column air_h reading between air_heat looks halving halvings
  second_looks = ap (λ (f : ℕ → ℤ). looks f (pos 478802400000)) (air_alone s 1)

-- an answer that refuses a walk as a whole: at its start, or stopped with no step done
pub data RefusesAll : Result CourseBack Refusal → Type 0 where
  at_start : (r : Refusal) → RefusesAll (Err r)
  at_once : (r : Refusal) (ch : Charge) (mk : Millikelvin) → RefusesAll (Ok (record { steps = 0; charge = ch; t = mk; stop = Some r }))

-- the numbers of the printed walk
abbrev pub printed_steps : List ℤ
printed_steps = pos 0 ∷ pos 0 ∷ pos 0 ∷ pos 1200000001 ∷ pos 0 ∷ pos 0 ∷ pos 0 ∷ pos 2400000 ∷ []

module _ {s : List ℕ} (ok : Accepted s) (t r : List ℤ) (l : List ℕ) (ft : 2 ≤ length t) (fr : 2 ≤ length r) (fl : 22 ≤ length l) where
  abbrev pub told : Told Trace
  told = walked (sheet_lines s) document01 s (charge 1 0 0) (pos 200000) printed_steps (length t) (length r) (length l)

  pub told_printed : told ≡ gives (record { outs = out_at s 1200000001 ∷ out_at s 1202400000 ∷ []; end = ended (record { gas = one; mk = 200501 }) })
  unfolding walked steps_of beyond in_z lean oxygen_used
  told_printed =
      past_sheet (start_lines document01 (charge 1 0 0) (pos 200000) 8 (length t) (length r) (length l)) _ ok
      ∙ rw (le-ltb (length t) 2 ft, le-ltb (length r) 2 fr, le-ltb (length l) 22 fl) (ap gives (printed_run ok))

  -- every outcome that meets the promise is the printed one
  pub record Printed (a : Result CourseBack Refusal) (t' r' : List ℤ) (l' : List ℕ) : Type 0 where
    pub answer : paper_walk a ≡ gives (done 2 (charge 1 0 0) (pos 200501))
    pub temperatures : t' ≡ pos 200500 ∷ pos 200501 ∷ drop 2 t
    pub rests : r' ≡ pos 1 ∷ pos 0 ∷ drop 2 r
    pub looks_are : l' ≡ eleven (ten_looks ok) ++ eleven (ten_looks ok) ++ drop 22 l

  pub printed_walk_lem : (a : Result CourseBack Refusal) (t' r' : List ℤ) (l' : List ℕ) → Walks told (lists t r l) a (lists t' r' l') → Printed a t' r' l'
  unfolding eleven
  printed_walk_lem a t' r' l' w = record {
    answer = w.answer ∙ ap course told_printed;
    temperatures = ap (λ (x : Lists). x.temperatures) now_filled;
    rests = ap (λ (x : Lists). x.rests) now_filled;
    looks_are = ap (λ (x : Lists). x.looks) now_filled ∙ ap₂ (λ (x y : List ℕ). laid (eleven x ++ (eleven y ++ [])) l) (first_looks ok) (second_looks ok);
  }
    where
      now_filled : lists t' r' l' ≡ filled (gives (record { outs = out_at s 1200000001 ∷ out_at s 1202400000 ∷ []; end = ended (record { gas = one; mk = 200501 }) })) (lists t r l)
      now_filled = w.lent ∙ ap (λ (x : Told Trace). filled x (lists t r l)) told_printed

  -- ---- the fakes: no outcome of their kind meets the promise here
  -- it refuses everything: the start, with whatever number, or the first step
  pub no_refusing_all : (a : Result CourseBack Refusal) → RefusesAll a → (t' r' : List ℤ) (l' : List ℕ) → Walks told (lists t r l) a (lists t' r' l') → ⊥
  no_refusing_all a (at_start r) t' r' l' w = let e = (printed_walk_lem (Err r) t' r' l' w).answer in let z : ◌≡◌ {A = ℕ} 0 1 = cc in omega arith
  no_refusing_all a (at_once r ch mk) t' r' l' w =
      let e = (printed_walk_lem (Ok (record { steps = 0; charge = ch; t = mk; stop = Some r })) t' r' l' w).answer in let z : ◌≡◌ {A = ℕ} 0 1 = cc in omega arith

  first_temperature : (a : Result CourseBack Refusal) (x : ℤ) (t' r' : List ℤ) (l' : List ℕ) → Walks told (lists t r l) a (lists (x ∷ t') r' l') → x ≡ pos 200500
  first_temperature a x t' r' l' w = let e = (printed_walk_lem a (x ∷ t') r' l' w).temperatures in cc

  -- it answers 200,000 always, which is the start's temperature too
  pub no_constant : (a : Result CourseBack Refusal) (t' r' : List ℤ) (l' : List ℕ) → Walks told (lists t r l) a (lists (pos 200000 ∷ t') r' l') → ⊥
  no_constant a t' r' l' w = let e = ap up (first_temperature a (pos 200000) t' r' l' w) in omega arith

  -- it computes step 1 and repeats it
  pub no_repeating : (a : Result CourseBack Refusal) (x : ℤ) (t' r' : List ℤ) (l' : List ℕ) → Walks told (lists t r l) a (lists (x ∷ x ∷ t') r' l') → ⊥
  no_repeating a x t' r' l' w = let e = (printed_walk_lem a (x ∷ x ∷ t') r' l' w).temperatures in let p : x ≡ pos 200500 = cc in let q : x ≡ pos 200501 = cc in let z = ap up (sym p ∙ q) in omega arith

-- it writes nothing: lists of zeros would stay
pub no_writing_nothing : {s : List ℕ} (ok : Accepted s) (a : Result CourseBack Refusal) (r r' : List ℤ) (l l' : List ℕ) (fr : 2 ≤ length r) (fl : 22 ≤ length l)
    → WalkPromise (sheet_lines s) s (charge 1 0 0) (pos 200000) printed_steps (lists (pos 0 ∷ pos 0 ∷ []) r l) a (lists (pos 0 ∷ pos 0 ∷ []) r' l') → ⊥
no_writing_nothing ok a r r' l l' fr fl w =
    let e = ap up (first_temperature ok (pos 0 ∷ pos 0 ∷ []) r l (lit≤ tt) fr fl a (pos 0) (pos 0 ∷ []) r' l' w) in omega arith

-- it invents a number of looks: whatever the first eleven places would hold other than the ten looks and a 0
pub no_invented_looks : {s : List ℕ} (ok : Accepted s) (a : Result CourseBack Refusal) (t r t' r' : List ℤ) (l l' : List ℕ) (ft : 2 ≤ length t) (fr : 2 ≤ length r) (fl : 22 ≤ length l)
    → WalkPromise (sheet_lines s) s (charge 1 0 0) (pos 200000) printed_steps (lists t r l) a (lists t' r' l')
    → (places : List ℕ) → (places ≡ ten_looks ok ++ 0 ∷ [] → ⊥) → take 11 l' ≡ places → ⊥
unfolding eleven
no_invented_looks ok a t r t' r' l l' ft fr fl w places other e = other (sym e ∙ ap (take 11) (printed_walk_lem ok t r l ft fr fl a t' r' l' w).looks_are)

-- ---- the ledger of the printed walk: 1 more than is held at the end
pub printed_ledger : {s : List ℕ} → Accepted s → ledger document01 s (record { gas = one; mk = 200000 }) (plain_heat 1200000001 ∷ plain_heat 2400000 ∷ [])
    ≡ held document01 s (record { gas = one; mk = 200501 }) +ℤ pos 1
unfolding burn_heat
printed_ledger {s} ok =
    let v = gas_heat document01 s one in
    let b = (run_balances document01 s (all_climb document01 document01_sound ok) (plain_heat 1200000001 ∷ plain_heat 2400000 ∷ []) (record { gas = one; mk = 200000 })).balance in
    sym (rw (printed_run ok) at b)
