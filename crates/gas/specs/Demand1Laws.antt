-- Demand 1 for each entry on a gas, both ways and over any weights: `demand_1_NAME`, of every answer that meets the promise of NAME. Assumes nothing.
use Rattle.std.specs.Prelude.{◌≡◌, List, ◌++◌, ℕ, ℤ, length, Result}
use Rattle.signed.specs.Zed.{up}
use Rattle.refusal.specs.declared.Refusal.{Refusal}
use Rattle.refusal.specs.Refusals.{Demand1}
use Rattle.refusal.specs.RefusalsLaws.{demand_1}
use Rattle.air.specs.declared.Millikelvin.{Millikelvin}
use Rattle.air.specs.Inverse.{unreached, found}
use Rattle.burning.specs.declared.Charge.{Charge}
use Rattle.gas.specs.declared.Heat.{Heat}
use Rattle.burning.specs.Burning.{Weights, gas_of}
use Rattle.gas.specs.Heat.{gas_heat, content_above15, specific_content}
use Rattle.gas.specs.Answers.{paper_heat, paper_specific, paper_temperature, heat_order, search_order, heat_told, content_told, specific_told, Temperature}

module _ (w : Weights) (ch : Charge) where
  module _ (mk : ℤ) (s : List ℕ) where
    pub demand_1_gas_heat : (r : Result Heat Refusal) → paper_heat r ≡ heat_told w ch mk s → Demand1 (heat_order w ch mk s) (gas_heat w s (gas_of ch) (up mk)) (paper_heat r)
    demand_1_gas_heat r e = demand_1 _ _ e

    pub demand_1_content : (r : Result Heat Refusal) → paper_heat r ≡ content_told w ch mk s → Demand1 (heat_order w ch mk s) (content_above15 w s (gas_of ch) (up mk)) (paper_heat r)
    demand_1_content r e = demand_1 _ _ e

    pub demand_1_specific_content : (r : Result ℤ Refusal) → paper_specific r ≡ specific_told w ch mk s
        → Demand1 (heat_order w ch mk s) (specific_content w s (gas_of ch) (up mk)) (paper_specific r)
    demand_1_specific_content r e = demand_1 _ _ e

  pub demand_1_temperature : (target : ℤ) (s before : List ℕ) (r : Result (Millikelvin × Heat) Refusal) (after : List ℕ) → Temperature w ch target s before r after
      → Demand1 (search_order w ch s (length before) ++ unreached (gas_heat w s (gas_of ch)) target) (found (gas_heat w s (gas_of ch)) target) (paper_temperature r)
  demand_1_temperature target s before r after h = demand_1 _ _ h.told
