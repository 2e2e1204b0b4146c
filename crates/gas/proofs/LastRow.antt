-- The heat at the last temperature, as `at_temperature` reads it: that of the last row. Assumes nothing.
use mathlib.Core.Path.{◌≡◌, sym, ap, ◌∙◌}
use mathlib.Core.Bool.{true}
use mathlib.Core.List.{List}
use Prim.Native.Nat.{ℕ}
use lib.IntN.{ℤ, pos}
use mir.Syntax.{w64}
use mir.Val.{SFits, to_z, of_z}
use Rattle.signed.specs.Zed.{up, back, in_z, in_range, fits_from, is_self, apart, zed}
use Rattle.air.specs.Limits.{coldest, hottest}
use Rattle.burning.specs.declared.Masses.{Masses}
use Rattle.gas.specs.Heat.{heat_of}

-- the mK that `to_u64` reads of a temperature in range
read_mk : (t : ℤ) {n : ℕ} → in_z (pos coldest) (pos hottest) t ≡ true → pos n ≡ to_z w64 (of_z w64 t) → n ≡ up t
read_mk t h e =
    let r = in_range _ _ _ h in
    let f : SFits w64 t = fits_from w64 (is_self t) (omega (zed, apart t)) (omega (zed, apart t)) in
    ap up (e ∙ back f)

pub last_heat : (m : Masses) (s : List ℕ) (t : ℤ) {n : ℕ} → in_z (pos coldest) (pos hottest) t ≡ true → pos n ≡ to_z w64 (of_z w64 t) → n ≡ hottest → heat_of m s (up t) ≡ heat_of m s hottest
last_heat m s t h e l = ap (heat_of m s) (sym (read_mk t h e) ∙ l)
