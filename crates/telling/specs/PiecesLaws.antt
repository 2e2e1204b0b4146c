-- A reading comes back from C as it went: the numbers of a reading mean that reading (`reading_kept`). Assumes nothing.
use Rattle.std.specs.Prelude.{Bool, true, false, not, cond, ◌≡◌, refl, ℕ, ◌≤◌, ltb, eqb}
use Rattle.std.proofs.Common.{arith, ltb-false}
use Rattle.sheet.specs.declared.pieces.SheetReading.{SheetReading}
use Rattle.sheet.specs.declared.pieces.SheetReading.TheVariants.{Going, Refused, Accepted}
use Rattle.sheet.specs.PiecesLaws.{InField}
use Rattle.telling.specs.Pieces.{seen_of, place_in, reading_in, state_of}

field_kept : (f : ℕ) → f ≤ 3 → cond (ltb f 3) f 3 ≡ f
field_kept f h = go (ltb f 3) refl
  where
    go : (z : Bool) → ltb f 3 ≡ z → cond z f 3 ≡ f
    go true e = refl
    go false e = omega (arith, ltb-false f 3 e)

seen_kept : (b : Bool) → not (eqb (seen_of b) 0) ≡ b
seen_kept true = refl
seen_kept false = refl

pub reading_kept : (s : SheetReading) → InField s → reading_in (state_of s) ≡ s
unfolding place_in
reading_kept (Going p) h = rw (field_kept p.field h, seen_kept p.seen) refl
reading_kept (Refused r) h = refl
reading_kept Accepted h = refl
