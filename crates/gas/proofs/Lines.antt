-- The straight line between the heats of two neighbouring kelvins, as the code reads it: what its casts and sums ask, and what they give. Assumes nothing.
use mathlib.Core.Path.{◌≡◌, refl, sym, ap, ◌∙◌}
use mathlib.Core.List.{List}
use Prim.Native.Nat.{ℕ, ◌+◌, ◌*◌, ◌/◌, ◌<◌, ◌≤◌}
use native.Mathlib.Nat.{mul-le-mul_right}
use native.Mathlib.Omega.{arith}
use lib.IntN.{ℤ, pos, ◌+ℤ◌, ◌-ℤ◌}
use mir.Syntax.{w64}
use mir.Val.{SFits}
use Rattle.signed.specs.Zed.{up, dn, Is, is_pos, is_self, is_add, is_minus, dn_none, fits_from, fits_up, fits_dn, zed}
use Rattle.rows.specs.Limits.{first_kelvin, last_kelvin}
use Rattle.sheet.specs.Sheet.{Accepted}
use Rattle.burning.specs.declared.Gas.{Gas}
use Rattle.burning.specs.declared.Masses.{Masses}
use Rattle.burning.specs.Burning.{document01, Burns}
use Rattle.burning.specs.BurningLaws.{document01_sound}
use Rattle.burning.specs.Burning.{masses_of}
use Rattle.gas.specs.Heat.{heat_of, heat_slope}
use Rattle.gas.specs.HeatLaws.{heat_line, slope_most, air_outweighs, masses_sized}
use Rattle.gas.specs.inner.Sizes.{Sized, Rises, along}

module _ {a b : ℤ} (r : Rises a b) where
  pub rise_is : Is b (up a + 1000 * r.slope) (dn a)
  rise_is = record { is = omega (zed, r.line, is_add (is_self a) (is_pos (1000 * r.slope))) }

  -- what `gap` gives
  pub slope_is : {n : ℕ} → pos n ≡ b -ℤ a → n / 1000 ≡ r.slope
  slope_is {n} e = let q : n ≡ 1000 * r.slope = omega (zed, rise_is, is_minus (is_self b) (is_self a)) in omega arith

  -- f mK of it, and the heat there
  module _ {f : ℕ} (h : f < 1000) where
    pub part_most : f * r.slope ≤ 1000 * r.slope
    part_most = mul-le-mul_right r.slope (omega arith)

    pub along_fits : SFits w64 a → SFits w64 b → SFits w64 (a +ℤ pos (f * r.slope))
    along_fits p q = fits_from w64 (is_add (is_self a) (is_pos (f * r.slope))) (omega (arith, rise_is, part_most, fits_up q)) (omega (arith, fits_dn p))

  pub slope_of : up (b -ℤ a) / 1000 ≡ r.slope
  slope_of = let i = is_minus (is_self b) (is_self a) in omega (arith, rise_is, i, dn_none i (omega (arith, rise_is)))

  pub along_is : (f : ℕ) → along a b f ≡ a +ℤ pos (f * r.slope)
  unfolding along
  along_is f = rw slope_of refl

-- ---- the heats of a gas over an accepted sheet
module _ {m : Masses} {s : List ℕ} (sized : Sized m) (ok : Accepted s) (k : ℕ) (l : first_kelvin ≤ k) (u : k < last_kelvin) where
  pub next_line : heat_of m s (1000 * (k + 1)) ≡ heat_of m s (1000 * k) +ℤ pos (1000 * heat_slope m s k)
  next_line =
      ap (heat_of m s) {x = 1000 * (k + 1)} {y = 1000 * k + 1000} (omega arith) ∙ heat_line m sized.thin ok k l u 1000 (omega arith)

  unfoldable pub heats_rise : Rises (heat_of m s (1000 * k)) (heat_of m s (1000 * (k + 1)))
  heats_rise = record { slope = heat_slope m s k; line = next_line; room = omega (arith, slope_most sized ok k l u) }

  pub along_heat : (f : ℕ) → f < 1000 → along (heat_of m s (1000 * k)) (heat_of m s (1000 * (k + 1))) f ≡ heat_of m s (1000 * k + f)
  unfolding heats_rise
  along_heat f h = along_is heats_rise f ∙ sym (heat_line m sized.thin ok k l u f (omega arith))

-- the masses of a charge that burns
pub sized_of : {g : Gas} {m : Masses} → Burns document01 g → m ≡ masses_of document01 g → Sized m
sized_of {g} b q = rw q (masses_sized g b.limits (air_outweighs document01 document01_sound g b))
