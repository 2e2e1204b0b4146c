-- No two outcomes satisfy the promise of the call on a charge, over any weights. Assumes nothing.
use Rattle.std.specs.Prelude.{◌≡◌, Result}
use Rattle.refusal.specs.declared.Refusal.{Refusal}
use Rattle.refusal.specs.RefusalsLaws.{one_told_of}
use Rattle.burning.specs.declared.Charge.{Charge}
use Rattle.burning.specs.declared.Products.{Products}
use Rattle.burning.specs.Burning.{Weights}
use Rattle.burning.specs.Answers.{paper_burn, burn_told}

module _ (w : Weights) (ch : Charge) where
  pub one_burn : (r q : Result Products Refusal) → paper_burn r ≡ burn_told w ch → paper_burn q ≡ burn_told w ch → r ≡ q
  one_burn = one_told_of
