-- Refusal 12 by its tests, and what it leaves: K − w and K + w fit 64 bits, whichever way the key is turned. Assumes nothing.
use mathlib.Core.Path.{◌≡◌, refl}
use mathlib.Core.Bool.{Bool, true, false, not, or-true}
use Prim.Native.Nat.{◌≤◌}
use native.Mathlib.Omega.{arith}
use lib.IntN.{ℤ, pos, neg_ℤ, ◌+ℤ◌, ◌-ℤ◌}
use lib.Signed.{◌≤ℤ◌}
use mir.Syntax.{w64}
use mir.Val.{SFits}
use Rattle.signed.specs.Zed.{up, dn, In, in_range, is_self, is_neg, is_add, is_minus, fits_from, le_by, is_pos, apart, zed}
use Rattle.refusal.specs.BoolLaws.{both_hold}
use Rattle.marking.specs.Marking.{key_in_range, window_in_range, out_of_range}
use Rattle.marking.specs.Exact.{turned}

-- ---- refusal 12 by its two tests
module _ (key window : ℤ) where
  pub window_outside : window_in_range window ≡ false → out_of_range key window ≡ true
  unfolding out_of_range
  window_outside e = rw e refl

  pub key_outside : key_in_range key ≡ false → out_of_range key window ≡ true
  unfolding out_of_range
  key_outside e = rw e (or-true (not (window_in_range window)))

  pub both_inside : key_in_range key ≡ true → window_in_range window ≡ true → out_of_range key window ≡ false
  unfolding out_of_range
  both_inside e f = rw (e, f) refl

-- what it leaves
pub record Ranged (key window : ℤ) : Type 0 where
  pub key_in : In (neg_ℤ (pos 1000000000000)) (pos 1000000000000) key
  pub window_in : In (pos 0) (pos 100000) window

pub ranged : (key window : ℤ) → out_of_range key window ≡ false → Ranged key window
unfolding out_of_range
ranged key window e =
    let h = both_hold (window_in_range window) (key_in_range key) e in
    record { key_in = in_range _ _ key h.1; window_in = in_range _ _ window h.0 }

-- ---- the parts of a turned key, and its ends
up_turned : (s : Bool) {key window : ℤ} → Ranged key window → up (turned s key) ≤ 1000000000000
up_turned true {key} r = omega (zed, apart key, is_neg (is_self key), apart (neg_ℤ key))
up_turned false {key} r = omega (zed, apart key)

dn_turned : (s : Bool) {key window : ℤ} → Ranged key window → dn (turned s key) ≤ 1000000000000
dn_turned true {key} r = omega (zed, apart key, is_neg (is_self key), apart (neg_ℤ key))
dn_turned false {key} r = omega (zed, apart key)

module _ (s : Bool) {key window : ℤ} (r : Ranged key window) where
  pub turned_fits : SFits w64 (turned s key)
  turned_fits = fits_from w64 (is_self (turned s key)) (omega (arith, up_turned s r)) (omega (arith, dn_turned s r))

  pub low_fits : SFits w64 (turned s key -ℤ window)
  low_fits =
      let u = up_turned s r in
      let v = dn_turned s r in
      fits_from w64 (is_minus (is_self (turned s key)) (is_self window)) (omega (zed, apart window)) (omega (zed, apart window))

  pub high_fits : SFits w64 (turned s key +ℤ window)
  high_fits =
      let u = up_turned s r in
      let v = dn_turned s r in
      fits_from w64 (is_add (is_self (turned s key)) (is_self window)) (omega (zed, apart window)) (omega (zed, apart window))

  pub high_most : (turned s key +ℤ window) ≤ℤ pos 1000000100000
  high_most = let u = up_turned s r in le_by (is_add (is_self (turned s key)) (is_self window)) (is_pos 1000000100000) (omega (zed, apart window))
