-- The two halves of a step put together: what it asks under each outcome of its tests, and its judgement from what was asked and what was found. Assumes nothing.
use borrow.Author.Tests.{not-false}
use mathlib.Core.Path.{◌≡◌, refl, sym, ap, ap₂, ◌∙◌, subst⁻¹}
use mathlib.Core.Bool.{Bool, true, false, not}
use mathlib.Core.List.{List, [], ◌∷◌, ◌++◌}
use Rattle.std.specs.Prelude.{Ok, Err}
use Rattle.refusal.specs.declared.Refusal.TheVariants.{StepHeat, Rich}
use Prim.Native.Nat.{ℕ, ◌≤◌}
use native.Mathlib.Omega.{arith}
use lib.IntN.{ℤ, pos, ◌+ℤ◌, ◌-ℤ◌}
use lib.ListN.{drop}
use lib.Signed.{◌≤ℤ◌}
use mir.Syntax.{w64}
use mir.Val.{SFits}
use Rattle.signed.specs.Zed.{le_from, lt_z_false, up, dn, apart, is_self, is_minus, same_by, fits_from, plain, in_z, in_range, not_outside, zed}
use Rattle.air.specs.Limits.{fifteen_degrees, coldest, hottest}
use Rattle.air.specs.declared.Millikelvin.{Millikelvin}
use Rattle.refusal.specs.declared.Refusal.{Refusal}
use Rattle.refusal.specs.Refusals.{Told, gives, refused, numbered, first, ◌when◌, Clear, clear}
use Rattle.refusal.specs.RefusalsLaws.{gives_clear, values_given}
use Rattle.air.specs.Halving.{eleven}
use Rattle.air.specs.HalvingLaws.{length_eleven}
use Rattle.air.specs.Inverse.{temperature, rest, looks, unreached, Found, found, written}
use Rattle.air.specs.InverseLaws.{looks_most, temperature_least, temperature_most}
use Rattle.sheet.specs.Sheet.{Accepted}
use Rattle.burning.specs.declared.Gas.{Gas}
use Rattle.gas.specs.declared.Heat.{Heat}
use Rattle.burning.specs.Burning.{document01, Limits, Burns, lean}
use Rattle.burning.specs.Fuel.{wrong_fuel}
use Rattle.burning.specs.FuelLaws.{limits_with, mass_most}
use Rattle.gas.specs.Heat.{gas_heat}
use Rattle.gas.specs.Answers.{Inverted}
use Rattle.refusal.specs.OrdersLaws.{stopped_first, line_clear}
use Rattle.gas.specs.BoundsLaws.{gas_heat_most, gas_heat_least}
use Rattle.walk.specs.declared.Step.{Step}
use Rattle.walk.specs.declared.stepping.Standing.{Standing}
use Rattle.walk.specs.declared.stepping.Asking.{Asking}
use Rattle.walk.specs.Step.{Asked, Out, held, new_gas, burn_heat, step_heat, wrong_heat, asked_of, asked, out_of, sought, judge}
use Rattle.walk.specs.inner.Work.{state_of, Stands, InReach, Asks, standing_of, StepGives}
use Rattle.walk.proofs.Asking.{brought_most}

-- a temperature in range, as a natural
pub mk_range : (z : ℤ) → in_z (pos coldest) (pos hottest) z ≡ true → (coldest ≤ up z) × (up z ≤ hottest) × (dn z ≡ 0)
mk_range z e = let h = in_range (pos coldest) (pos hottest) z e in (omega (zed, apart z, h.least), omega (zed, apart z, h.most), omega (zed, apart z, h.least))

-- so it is told unchanged
pub mk_told : (z : ℤ) → in_z (pos coldest) (pos hottest) z ≡ true → z ≡ pos (up z)
mk_told z e = plain (mk_range z e).2

-- ---- what a step asks
module _ (s : List ℕ) (st : Standing) (p : Step) where
  abbrev told : Told Asked
  told = asked document01 s (held document01 s (state_of st)) st.gas p

  pub asks_4 : {r : Refusal} → refused (numbered r) ≡ first (4 when wrong_fuel document01 st.gas p.fuel ∷ []) (new_gas st.gas p) → Asks told s (Err r)
  unfolding asked
  asks_4 {r} e = record {
    asked_is = stopped_first (4 when wrong_fuel document01 st.gas p.fuel ∷ []) (7 when wrong_heat p ∷ 5 when not (lean document01 (new_gas st.gas p)) ∷ []) (new_gas st.gas p)
        (asked_of document01 s (held document01 s (state_of st)) st.gas p) (numbered r) e;
    ready = tt;
  }

  -- the fuel is added
  module _ {g : Gas} (e : gives g ≡ first (4 when wrong_fuel document01 st.gas p.fuel ∷ []) (new_gas st.gas p)) where
    added : (wrong_fuel document01 st.gas p.fuel ≡ false) × (new_gas st.gas p ≡ g)
    added = line_clear 4 (wrong_fuel document01 st.gas p.fuel) (new_gas st.gas p) e

    pub fuel_right : wrong_fuel document01 st.gas p.fuel ≡ false
    fuel_right = added.0

    pub in_limits : Limits document01 g
    in_limits = rw (← added.1) (limits_with document01 st.gas p.fuel added.0)

    leaned : {t : Bool} → t ≡ lean document01 g → lean document01 (new_gas st.gas p) ≡ t
    leaned l = ap (lean document01) added.1 ∙ sym l

    pub asks_7 : true ≡ wrong_heat p → Asks told s (Err StepHeat)
    unfolding asked
    asks_7 h = record { asked_is = rw (added.0, sym h) refl; ready = tt }

    pub asks_5 : false ≡ wrong_heat p → false ≡ lean document01 g → Asks told s (Err Rich)
    unfolding asked
    asks_5 h l = record { asked_is = rw (added.0, sym h, leaned l) refl; ready = tt }

    pub burns : true ≡ lean document01 g → Burns document01 g
    burns l = record { limits = in_limits; is_lean = sym l }

    -- and all three tests are passed
    module _ (k : Stands s st) (h : false ≡ wrong_heat p) (l : true ≡ lean document01 g) where
      asked_clear : told ≡ gives (asked_of document01 s (held document01 s (state_of st)) st.gas p)
      unfolding asked
      asked_clear = rw (added.0, sym h, leaned l) refl

      pub asks_for : {t f : Heat} {m : ℤ} → m ≡ step_heat document01 p → f.0 ≡ gas_heat document01 s g fifteen_degrees → t.0 ≡ st.heat.0 -ℤ st.fifteen.0 +ℤ m +ℤ f.0
          → Asks told s (Ok (record { gas = g; target = t; fifteen = f }))
      asks_for {t} {f} {m} x y z =
          let q : t.0 ≡ held document01 s (state_of st) +ℤ step_heat document01 p +ℤ gas_heat document01 s (new_gas st.gas p) fifteen_degrees =
          z ∙ ap₂ (λ (u v : ℤ). u +ℤ m +ℤ v) (ap₂ (λ (u v : ℤ). u -ℤ v) k.heat_is k.fifteen_is) (y ∙ ap (λ (n : Gas). gas_heat document01 s n fifteen_degrees) (sym added.1))
          ∙ ap (λ (u : ℤ). held document01 s (state_of st) +ℤ u +ℤ gas_heat document01 s (new_gas st.gas p) fifteen_degrees) x in
          record {
            asked_is = ap₂ (λ (n : Gas) (u : ℤ). gives (record { gas = n; target = u })) (sym added.1) q ∙ sym asked_clear;
            ready = record { burning = burns l; fifteen_is = y };
          }

      -- its target stays inside 64 bits
      pub in_reach : Accepted s → {m f : ℤ} → m ≡ step_heat document01 p → f ≡ gas_heat document01 s g fifteen_degrees → InReach st.heat.0 st.fifteen.0 m f
      in_reach ok {m} {f} x y =
          let c = mk_range st.t.0 k.covered in
          let b = burns l in
          let r : (up m ≤ 4254750000000000000) × (dn m ≤ 1000000000000000000) = subst⁻¹ (λ (z : ℤ). (up z ≤ 4254750000000000000) × (dn z ≤ 1000000000000000000)) x brought_here in
          record {
            heat_most = rw k.heat_is (gas_heat_most k.burns ok (up st.t.0) c.0 c.1);
            heat_least = rw k.heat_is (omega (arith, gas_heat_least k.burns ok (up st.t.0) c.0 c.1));
            fifteen_most = rw k.fifteen_is (gas_heat_most k.burns ok fifteen_degrees (omega arith) (omega arith));
            fifteen_least = rw k.fifteen_is (omega (arith, gas_heat_least k.burns ok fifteen_degrees (omega arith) (omega arith)));
            brought_most = r.0;
            brought_least = r.1;
            new_most = rw y (gas_heat_most b ok fifteen_degrees (omega arith) (omega arith));
            new_least = rw y (omega (arith, gas_heat_least b ok fifteen_degrees (omega arith) (omega arith)));
          }
        where
          brought_here : (up (step_heat document01 p) ≤ 4254750000000000000) × (dn (step_heat document01 p) ≤ 1000000000000000000)
          brought_here = unfold burn_heat in brought_most p (sym h) _ (mass_most st.gas p.fuel added.0)

-- ---- the judgement
module _ (s : List ℕ) (st : Standing) (p : Step) where
  abbrev judged : Told Out
  judged = judge document01 s (state_of st) p

  -- nothing is asked
  pub ask_stops : (r : Refusal) (before : List ℕ) → Asks (told s st p) s (Err r) → StepGives judged s before (Err r) before
  unfolding judge
  ask_stops r before a = rw (← a.asked_is) (record { told = refl; looks = refl; stands = tt })

  module _ (a : Asking) (q : Asks (told s st p) s (Ok a)) where
    abbrev v : ℕ → ℤ
    v = gas_heat document01 s a.gas

    abbrev target : ℤ
    target = a.target.0

    abbrev out : Out
    out = out_of document01 s (record { gas = a.gas; target = target })

    is_sought : judged ≡ first (unreached v target) out
    unfolding judge sought
    is_sought = rw (← q.asked_is) refl

    -- it is asked, and not found
    pub search_stops : (r : Refusal) (before after : List ℕ) → Inverted [] v target before (Err r) after → StepGives judged s before (Err r) after
    search_stops r before after h =
        let e : judged ≡ refused (numbered r) = is_sought ∙ sym (stopped_first (unreached v target) [] (found v target) out (numbered r) h.told) in
        rw e (record {
          told = refl;
          looks = h.list ∙ ap (λ (x : Told Found). written x (looks v target) before) (sym h.told);
          stands = tt;
        })

    -- it is asked and found
    module _ (t : Millikelvin) (left : Heat) (before after : List ℕ) (h : Inverted [] v target before (Ok (t, left)) after) where
      cleared : Clear (unreached v target) × (found v target ≡ record { mk = t.0; left = left.0 })
      cleared = gives_clear (unreached v target) {a = found v target} {b = record { mk = t.0; left = left.0 }} (sym h.told)

      mk_is : t.0 ≡ pos (temperature v target)
      mk_is = sym (ap (λ (f : Found). f.mk) cleared.1)

      left_is : left.0 ≡ rest v target
      left_is = sym (ap (λ (f : Found). f.left) cleared.1)

      reached : v coldest ≤ℤ target
      reached = first_clear cleared.0
        where
          first_clear : Clear (unreached v target) → v coldest ≤ℤ target
          first_clear (clear x c) = le_from (lt_z_false target (v coldest) x)

      judged_is : judged ≡ gives out
      judged_is = is_sought ∙ values_given out cleared.0

      heat_there : target -ℤ left.0 ≡ v (temperature v target)
      unfolding rest
      heat_there =
          ap (λ (z : ℤ). target -ℤ z) left_is ∙ same_by (is_minus (is_self target) (is_minus (is_self target) (is_self (v (temperature v target))))) (is_self (v (temperature v target))) (omega arith)

      -- the heat at the new temperature fits
      pub stand_fits : Accepted s → SFits w64 (target -ℤ left.0)
      stand_fits ok =
          let b = q.ready.burning in
          let T = temperature v target in
          let l = temperature_least v target reached in
          let u = temperature_most v target reached in
          rw heat_there (fits_from w64 (is_self (v T)) (omega (arith, gas_heat_most b ok T l u)) (omega (arith, gas_heat_least b ok T l u)))

      pub found_goes : StepGives judged s before (Ok (standing_of a t left, left)) after
      found_goes =
          let T = temperature v target in
          let n : up t.0 ≡ T = ap up mk_is in
          rw judged_is (record {
            told = ap₂ (λ (m : ℕ) (z : ℤ). gives (record { state = record { gas = a.gas; mk = m }; rests = z })) n left_is;
            looks =
                h.list ∙ ap (λ (x : Told Found). written x (looks v target) before) (sym h.told)
                ∙ ap (λ (k : ℕ). eleven (looks v target) ++ drop k before) (sym (length_eleven (looks v target) (looks_most v target)));
            stands = record {
              burns = q.ready.burning;
              covered = rw mk_is (not-false _ (not_outside (pos coldest) (pos hottest) (pos T) (omega (arith, temperature_least v target reached)) (omega (arith, temperature_most v target reached))));
              heat_is = heat_there ∙ ap v (sym n);
              fifteen_is = q.ready.fifteen_is;
            };
          })
