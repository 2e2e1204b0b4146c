-- The first half of a step: its ranges, what it brings, and the sum that it asks for, inside 64 bits. Assumes nothing.
use borrow.Author.Tests.{not-false}
use mathlib.Core.Path.{◌≡◌, ap}
use mathlib.Core.Bool.{false}
use Prim.Native.Nat.{ℕ, ◌+◌, ◌*◌, ◌≤◌}
use native.Mathlib.Nat.{mul-le-mul}
use native.Mathlib.Omega.{arith}
use lib.IntN.{ℤ, pos, neg_ℤ, ◌+ℤ◌, ◌-ℤ◌, ◌*ℤ◌}
use mir.Syntax.{w64}
use mir.Val.{SFits}
use Rattle.signed.specs.Zed.{up, dn, apart, Is, is_pos, is_self, is_add, is_minus, is_mul, fits_from, up_most, dn_most, in_range, outside, zed}
use Rattle.refusal.specs.BoolLaws.{neither}
use Rattle.walk.specs.declared.Step.{Step}
use Rattle.walk.specs.Step.{wrong_heat}
use Rattle.walk.specs.inner.Work.{InReach}

-- ---- what a step brings
module _ (p : Step) (w : wrong_heat p ≡ false) where
  ranges : (outside (pos 0) (pos 5000000) p.value ≡ false) × (outside (neg_ℤ (pos 1000000000000000000)) (pos 1000000000000000000) p.heat ≡ false)
  ranges = neither (outside (pos 0) (pos 5000000) p.value) (outside (neg_ℤ (pos 1000000000000000000)) (pos 1000000000000000000) p.heat) w

  value_most : (dn p.value ≡ 0) × (up p.value ≤ 5000000)
  value_most =
      let h = in_range (pos 0) (pos 5000000) p.value (not-false _ ranges.0) in
      (omega (zed, apart p.value, h.least), omega (zed, apart p.value, h.most))

  heat_most : (dn p.heat ≤ 1000000000000000000) × (up p.heat ≤ 1000000000000000000)
  heat_most =
      let h = in_range (neg_ℤ (pos 1000000000000000000)) (pos 1000000000000000000) p.heat (not-false _ ranges.1) in
      (omega (zed, apart p.heat, h.least), omega (zed, apart p.heat, h.most))

  module _ (m : ℕ) (small : m ≤ 650950000) where
    burn_is : Is (pos (m * 1000) *ℤ p.value) (m * 1000 * up p.value) 0
    burn_is = record { is = omega (arith, is_mul (is_pos (m * 1000)) (is_self p.value), ap (λ (n : ℕ). m * 1000 * n) value_most.0) }

    burn_most : m * 1000 * up p.value ≤ 3254750000000000000
    burn_most = omega (arith, mul-le-mul {n₁ = m * 1000} {m₁ = up p.value} {n₂ = 650950000000} {m₂ = 5000000} (omega arith) value_most.1)

    pub burn_fits : SFits w64 (pos (m * 1000) *ℤ p.value)
    burn_fits = fits_from w64 burn_is (omega (arith, burn_most)) (omega arith)

    pub brought_fits : SFits w64 (pos (m * 1000) *ℤ p.value +ℤ p.heat)
    brought_fits = fits_from w64 (is_add burn_is (is_self p.heat)) (omega (arith, burn_most, heat_most.1)) (omega (arith, burn_most, heat_most.0))

    pub brought_most : (up (pos (m * 1000) *ℤ p.value +ℤ p.heat) ≤ 4254750000000000000) × (dn (pos (m * 1000) *ℤ p.value +ℤ p.heat) ≤ 1000000000000000000)
    brought_most =
        (omega (arith, up_most (is_add burn_is (is_self p.heat)), burn_most, heat_most.1), omega (arith, dn_most (is_add burn_is (is_self p.heat)), heat_most.0))

-- ---- the target stays inside 64 bits
module _ {a b c d : ℤ} (r : InReach a b c d) where
  held_is : Is (a -ℤ b) (up a + dn b) (dn a + up b)
  held_is = is_minus (is_self a) (is_self b)

  pub held_fits : SFits w64 (a -ℤ b)
  held_fits = fits_from w64 held_is (omega (arith, r.heat_most, r.fifteen_least)) (omega (arith, r.heat_least, r.fifteen_most))

  sum2_is : Is (a -ℤ b +ℤ c) (up a + dn b + up c) (dn a + up b + dn c)
  sum2_is = is_add held_is (is_self c)

  pub with_brought_fits : SFits w64 (a -ℤ b +ℤ c)
  with_brought_fits = fits_from w64 sum2_is (omega (arith, r.heat_most, r.fifteen_least, r.brought_most)) (omega (arith, r.heat_least, r.fifteen_most, r.brought_least))

  pub target_fits : SFits w64 (a -ℤ b +ℤ c +ℤ d)
  target_fits =
      fits_from w64 (is_add sum2_is (is_self d)) (omega (arith, r.heat_most, r.fifteen_least, r.brought_most, r.new_most))
      (omega (arith, r.heat_least, r.fifteen_most, r.brought_least, r.new_least))
