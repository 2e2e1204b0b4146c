-- No two outcomes satisfy the promise of `read_numbers`; the other calls promise what they answer by an equation. Assumes nothing.
use Rattle.std.specs.Prelude.{◌≡◌, List, ℕ, ℤ, Option, Some, None}
use Rattle.std.proofs.Common.{sym, ◌∙◌}
use Rattle.fields.specs.Fields.{count_all, Stored}

same_list : (fs : List (List ℕ)) (before later after : List ℤ) (r : Option ℕ) → Stored fs before r later → Stored fs before r after → later ≡ after
same_list fs before later after (Some n) h k = h ∙ sym k
same_list fs before later after None h k = h ∙ sym k

-- how many numbers there are, and the list
pub one_read_numbers : (fs : List (List ℕ)) (before later after : List ℤ) (r s : Option ℕ)
    → (r ≡ count_all 0 fs) × Stored fs before r later → (s ≡ count_all 0 fs) × Stored fs before s after → (r ≡ s) × (later ≡ after)
one_read_numbers fs before later after r s h k =
    let e : r ≡ s = h.0 ∙ sym k.0 in
    (e, same_list fs before later after s (rw e at h.1) k.1)
