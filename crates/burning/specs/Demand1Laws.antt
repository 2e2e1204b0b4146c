-- Demand 1 for the call on a charge, both ways and over any weights: of every answer that meets its promise. Assumes nothing.
use Rattle.std.specs.Prelude.{◌≡◌, Result}
use Rattle.refusal.specs.declared.Refusal.{Refusal}
use Rattle.refusal.specs.Refusals.{Demand1}
use Rattle.refusal.specs.RefusalsLaws.{demand_1}
use Rattle.burning.specs.declared.Charge.{Charge}
use Rattle.burning.specs.declared.Products.{Products}
use Rattle.burning.specs.Burning.{Weights, gas_of, products}
use Rattle.burning.specs.Answers.{paper_burn, charge_lines, burn_told}

pub demand_1_burn : (w : Weights) (ch : Charge) (r : Result Products Refusal) → paper_burn r ≡ burn_told w ch → Demand1 (charge_lines w ch) (products w (gas_of ch)) (paper_burn r)
demand_1_burn w ch r e = demand_1 _ _ e
