-- No two outcomes satisfy the promise of a call on figures and typed answers: `one_NAME` for each entry NAME. Assumes nothing.
use Rattle.std.specs.Prelude.{◌≡◌, refl, Bool, true, false, List, ℕ, ℤ, Float, Result}
use Rattle.std.proofs.Common.{sym, ◌∙◌}
use Rattle.std.specs.Float.{binary64}
use Rattle.std.specs.Float.Ieee.{sub}
use Rattle.refusal.specs.declared.Refusal.{Refusal}
use Rattle.refusal.specs.RefusalsLaws.{one_told_as, one_told_of}
use Rattle.burning.specs.declared.Charge.{Charge}
use Rattle.marking.specs.Marking.{marked, does_count, paper_mark}
use Rattle.marking.specs.Figures.{station_told, paper_station}
use Rattle.marking.specs.declared.StationFigure.{StationFigure}
use Rattle.marking.specs.declared.Typed.{Typed}
use Rattle.marking.specs.declared.Marked.{Marked}
use Rattle.marking.specs.declared.Marked.TheVariants.{Counts, Misses}

-- the mark of an answer that counts, or does not
mark_of : Bool → Marked
mark_of true = Counts
mark_of false = Misses

mark_back : (m : Marked) → mark_of (does_count m) ≡ m
unfolding mark_of
mark_back Counts = refl
mark_back Misses = refl

-- no two marks satisfy the promise
pub one_mark : (typed : Typed) (key window : ℤ) (r s : Result Marked Refusal) → paper_mark r ≡ marked typed key window → paper_mark s ≡ marked typed key window → r ≡ s
one_mark typed key window = one_told_as does_count mark_of mark_back

-- no two answers satisfy the promise of `station`
pub one_station : (ch : Charge) (mk : ℤ) (s : List ℕ) (r q : Result StationFigure Refusal) → paper_station r ≡ station_told ch mk s → paper_station q ≡ station_told ch mk s → r ≡ q
one_station ch mk s = one_told_of

-- no two floats satisfy the promise of `difference`
pub one_difference : (a b r s : Float) → r ≡ sub binary64 a b → s ≡ sub binary64 a b → r ≡ s
one_difference a b r s p q = p ∙ sym q
