-- No two outcomes satisfy the promise of a call on a gas: `one_NAME` for each entry NAME, over any weights. Assumes nothing.
use Rattle.std.specs.Prelude.{◌≡◌, refl, List, ℕ, ℤ, Result}
use Rattle.std.proofs.Common.{sym, ◌∙◌}
use Rattle.refusal.specs.declared.Refusal.{Refusal}
use Rattle.refusal.specs.RefusalsLaws.{one_told_as, one_told_of}
use Rattle.refusal.specs.Refusals.{Told}
use Rattle.air.specs.declared.Millikelvin.{Millikelvin}
use Rattle.burning.specs.declared.Charge.{Charge}
use Rattle.gas.specs.declared.Heat.{Heat}
use Rattle.burning.specs.Burning.{Weights}
use Rattle.gas.specs.Answers.{paper_heat, paper_specific, found_of, heat_told, content_told, specific_told, Temperature}

-- no two heats are told alike
one_heat_told : {t : Told ℤ} (r q : Result Heat Refusal) → paper_heat r ≡ t → paper_heat q ≡ t → r ≡ q
one_heat_told = one_told_as (λ h. h.0) (λ z. record { 0 = z }) (λ h. refl)

module _ (w : Weights) (ch : Charge) where
  module _ (mk : ℤ) (s : List ℕ) where
    pub one_gas_heat : (r q : Result Heat Refusal) → paper_heat r ≡ heat_told w ch mk s → paper_heat q ≡ heat_told w ch mk s → r ≡ q
    one_gas_heat = one_heat_told

    pub one_content : (r q : Result Heat Refusal) → paper_heat r ≡ content_told w ch mk s → paper_heat q ≡ content_told w ch mk s → r ≡ q
    one_content = one_heat_told

    pub one_specific_content : (r q : Result ℤ Refusal) → paper_specific r ≡ specific_told w ch mk s → paper_specific q ≡ specific_told w ch mk s → r ≡ q
    one_specific_content = one_told_of

  -- answer and lent list
  pub one_temperature : (target : ℤ) (s before : List ℕ) (r q : Result (Millikelvin × Heat) Refusal) (after later : List ℕ)
      → Temperature w ch target s before r after → Temperature w ch target s before q later → (r ≡ q) × (after ≡ later)
  one_temperature target s before r q after later p o =
      (one_told_as found_of (λ f. (record { 0 = f.mk }, record { 0 = f.left })) (λ a. refl) r q p.told o.told, p.list ∙ sym o.list)
