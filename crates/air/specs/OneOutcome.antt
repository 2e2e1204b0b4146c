-- No two outcomes satisfy the promise of a call on air: `one_NAME` for each entry NAME. Assumes nothing.
use Rattle.std.specs.Prelude.{◌≡◌, refl, List, ℕ, ℤ, Result}
use Rattle.std.proofs.Common.{sym, ◌∙◌}
use Rattle.signed.specs.Zed.{up}
use Rattle.air.specs.declared.Millikelvin.{Millikelvin}
use Rattle.refusal.specs.declared.Refusal.{Refusal}
use Rattle.refusal.specs.RefusalsLaws.{one_told_of, one_told_as}
use Rattle.air.specs.Inverse.{Found}
use Rattle.air.specs.Answers.{paper_reading, air_heat_told, psi_told, cp_told, found_at, PsiInverse}

pub one_heat : (mk : ℤ) (r s : Result ℕ Refusal) → paper_reading r ≡ air_heat_told mk → paper_reading s ≡ air_heat_told mk → r ≡ s
one_heat mk = one_told_of

pub one_psi : (mk : ℤ) (r s : Result ℕ Refusal) → paper_reading r ≡ psi_told mk → paper_reading s ≡ psi_told mk → r ≡ s
one_psi mk = one_told_of

pub one_cp : (kelvin : ℤ) (r s : Result ℕ Refusal) → paper_reading r ≡ cp_told kelvin → paper_reading s ≡ cp_told kelvin → r ≡ s
one_cp kelvin = one_told_of

-- the temperature and rest that the paper's have
found_back : Found → Millikelvin × ℕ
found_back f = (record { 0 = f.mk }, up f.left)

back_found : (p : Millikelvin × ℕ) → found_back (found_at p) ≡ p
unfolding found_back
back_found p = refl

-- answer and lent list
pub one_psi_inverse : (target : ℤ) (before : List ℕ) (r s : Result (Millikelvin × ℕ) Refusal) (after later : List ℕ)
    → PsiInverse target before r after → PsiInverse target before s later → (r ≡ s) × (after ≡ later)
one_psi_inverse target before r s after later p q = (one_told_as found_at found_back back_found r s p.told q.told, p.list ∙ sym q.list)
