-- What is said of a refusal, by whether it is given for a row. Assumes nothing.
use Rattle.std.proofs.Common.{◌≡◌, refl, ◌++◌, ℕ, arith}
use Rattle.std.specs.Prelude.{None, Some}
use Rattle.text.specs.Bytes.{bytes_of}
use Rattle.text.specs.Decimal.{decimal}
use Rattle.refusal.specs.Refusals.{Numbered, Plain, At, number_of, place_of}
use Rattle.forms.specs.Pages.{sheet_note}

pub plain_note : (r : Numbered) → None ≡ place_of r → sheet_note r ≡ (bytes_of "the sheet is refused with " ++ decimal (number_of r)) ++ bytes_of "\n"
plain_note (Plain n) e = refl
plain_note (At n k) e = absurd (let z : ◌≡◌ {A = ℕ} 0 1 = cc in omega arith)

pub placed_note : (r : Numbered) {k : ℕ} → Some k ≡ place_of r
    → sheet_note r ≡ ((bytes_of "the sheet is refused with " ++ decimal (number_of r)) ++ bytes_of " at row ") ++ (decimal k ++ bytes_of "\n")
placed_note (Plain n) e = absurd (let z : ◌≡◌ {A = ℕ} 0 1 = cc in omega arith)
placed_note (At n m) {k} e = let z : k ≡ m = cc in rw z refl
