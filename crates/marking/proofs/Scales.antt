-- What is told of a typed answer in range, by its number and the scale of its kind alone. Assumes nothing.
use mathlib.Core.Path.{◌≡◌, refl}
use mathlib.Core.Bool.{Bool, false, not}
use mathlib.Core.List.{[], ◌∷◌}
use Prim.Native.Nat.{ℕ}
use lib.IntN.{ℤ}
use lib.Ieee.{Float}
use lib.Ieee.Scale.{finite}
use Rattle.std.specs.Prelude.{Option, Some, None}
use Rattle.refusal.specs.Refusals.{Told, refuses, first, ◌when◌}
use Rattle.marking.specs.Marking.{near, out_of_range, marked}
use Rattle.marking.specs.Exact.{scaled_of}
use Rattle.marking.specs.declared.Typed.{Typed}
use Rattle.marking.specs.declared.Typed.TheVariants.{Kelvins, Content, Blank}

abbrev pub scaled_told : Option (ℕ × Float) → ℤ → ℤ → Told Bool
scaled_told (Some n) key window = first (11 when not (finite n.1) ∷ []) (near n.0 n.1 key window)
scaled_told None key window = refuses 11

pub by_scale : (typed : Typed) (key window : ℤ) → out_of_range key window ≡ false → marked typed key window ≡ scaled_told (scaled_of typed) key window
by_scale (Kelvins x) key window e = rw e refl
by_scale (Content x) key window e = rw e refl
by_scale Blank key window e = rw e refl
