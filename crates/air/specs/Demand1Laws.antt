-- Demand 1 for each entry on air, both ways: `demand_1_NAME`, of every answer that meets the promise of NAME. Assumes nothing.
use Rattle.std.specs.Prelude.{◌≡◌, List, [], ◌∷◌, ℕ, ℤ, pos, length, Result}
use Rattle.signed.specs.Zed.{up, outside}
use Rattle.rows.specs.Limits.{first_kelvin, last_kelvin}
use Rattle.rows.specs.Table.{air_cp}
use Rattle.air.specs.Limits.{coldest, hottest}
use Rattle.air.specs.declared.Millikelvin.{Millikelvin}
use Rattle.refusal.specs.declared.Refusal.{Refusal}
use Rattle.refusal.specs.Refusals.{◌when◌, Demand1}
use Rattle.refusal.specs.RefusalsLaws.{demand_1}
use Rattle.air.specs.Readings.{air_heat, air_psi_at}
use Rattle.air.specs.Inverse.{found}
use Rattle.air.specs.Answers.{paper_reading, air_heat_told, psi_told, cp_told, psi_value, paper_psi, psi_order, PsiInverse}

pub demand_1_heat : (mk : ℤ) (r : Result ℕ Refusal) → paper_reading r ≡ air_heat_told mk → Demand1 (6 when outside (pos coldest) (pos hottest) mk ∷ []) (air_heat (up mk)) (paper_reading r)
demand_1_heat mk r e = demand_1 _ _ e

pub demand_1_psi : (mk : ℤ) (r : Result ℕ Refusal) → paper_reading r ≡ psi_told mk → Demand1 (6 when outside (pos coldest) (pos hottest) mk ∷ []) (air_psi_at (up mk)) (paper_reading r)
demand_1_psi mk r e = demand_1 _ _ e

pub demand_1_cp : (kelvin : ℤ) (r : Result ℕ Refusal) → paper_reading r ≡ cp_told kelvin
    → Demand1 (6 when outside (pos first_kelvin) (pos last_kelvin) kelvin ∷ []) (air_cp (up kelvin)) (paper_reading r)
demand_1_cp kelvin r e = demand_1 _ _ e

pub demand_1_psi_inverse : (target : ℤ) (before : List ℕ) (r : Result (Millikelvin × ℕ) Refusal) (after : List ℕ) → PsiInverse target before r after
    → Demand1 (psi_order (length before) target) (found psi_value target) (paper_psi r)
demand_1_psi_inverse target before r after h = demand_1 _ _ h.told
