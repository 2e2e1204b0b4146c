-- The sign of a number and the limit of its digits, as the code tests them. Assumes nothing.
use Prim.Native.Nat.{ℕ, ◌+◌, ◌-◌, ◌≤◌, ◌<◌}
use mathlib.Core.Path.{◌≡◌, refl, sym, ◌∙◌, ap}
use mathlib.Core.Bool.{Bool, true, false}
use mathlib.Core.List.{[], ◌∷◌, ◌++◌}
use native.Mathlib.Omega.{arith}
use borrow.Author.Tests.{ltb-true, leb-true, leb-false, le-leb, lt-leb}
use lib.Dec.{leb}
use lib.Signed.{le_z, lt_z}
use lib.IntN.{ℤ, pos, negsuc, nat_abs}
use mir.Syntax.{w64}
use mir.Val.{SFits}
use Rattle.signed.specs.Zed.{read, back, le_z_false, zed}
use Rattle.text.specs.Decimal.{decimal, decimal_z}

-- a number below zero is written with a minus sign before its size
spell_minus : (z : ℤ) → le_z (pos 0) z ≡ false → decimal_z z ≡ (45 ∷ []) ++ decimal (nat_abs z)
spell_minus (pos n) h = absurd (omega (zed, le_z_false (pos 0) (pos n) h))
spell_minus (negsuc n) h = refl

pub decimal_z_minus : (z : ℤ) → SFits w64 z → {n : ℕ} → le_z (pos 0) (read z) ≡ false → n ≡ nat_abs (read z) → decimal_z z ≡ (45 ∷ []) ++ decimal n
decimal_z_minus z f {n} h e = spell_minus z (rw (back f) at h) ∙ ap (λ (m : ℕ). (45 ∷ []) ++ decimal m) (sym (e ∙ ap nat_abs (back f)))

-- the same by the test for a number below zero
spell_below : (z : ℤ) → lt_z z (pos 0) ≡ true → decimal_z z ≡ (45 ∷ []) ++ decimal (nat_abs z)
spell_below (pos n) h = absurd (omega (arith, ltb-true n 0 h))
spell_below (negsuc n) h = refl

spell_above : (z : ℤ) → lt_z z (pos 0) ≡ false → decimal_z z ≡ decimal (nat_abs z)
spell_above (pos n) h = refl
spell_above (negsuc n) h = cc

pub decimal_z_below : (z : ℤ) → SFits w64 z → {n : ℕ} → lt_z (read z) (pos 0) ≡ true → n ≡ nat_abs (read z) → decimal_z z ≡ (45 ∷ []) ++ decimal n
decimal_z_below z f {n} h e = spell_below z (rw (back f) at h) ∙ ap (λ (m : ℕ). (45 ∷ []) ++ decimal m) (sym (e ∙ ap nat_abs (back f)))

pub decimal_z_above : (z : ℤ) → SFits w64 z → {n : ℕ} → lt_z (read z) (pos 0) ≡ false → n ≡ nat_abs (read z) → decimal_z z ≡ decimal n
decimal_z_above z f {n} h e = spell_above z (rw (back f) at h) ∙ ap decimal (sym (e ∙ ap nat_abs (back f)))

-- the limit's test with no sum
pub leb_less : (d t limit : ℕ) → t ≤ limit → leb d (limit - t) ≡ leb (t + d) limit
leb_less d t limit h = go (leb (t + d) limit) refl
  where
    go : (b : Bool) → leb (t + d) limit ≡ b → leb d (limit - t) ≡ b
    go true e = let k : t + d ≤ limit = leb-true _ _ e in le-leb d (limit - t) (omega arith)
    go false e = let k : limit < t + d = leb-false _ _ e in lt-leb d (limit - t) (omega arith)
