-- `cut_by`: both roundings by the laws of proofs/Shifts.antt. Assumes nothing.
use mathlib.Core.Path.{◌≡◌, ◌∙◌}
use Prim.Native.Nat.{ℕ, ◌-◌, ◌*◌, ◌%◌, ◌^◌, ◌≤◌}
use native.Mathlib.Nat.{one-mul}
use native.Mathlib.Omega.{arith}
use lib.Dec.{lit<}
use lib.Bits.{and_mask}
use lib.Pow.{shl_exact}
use Rattle.marking.proofs.Shifts.{floor_is, ceiling_is}
use Rattle.marking.proofs.exact.cut_by.Goals as goal

-- one unit of the other places
unit : (k : ℕ) → k ≤ 70 → 1 * 2 ^ (k - 12) % 2 ^ 64 ≡ 2 ^ (k - 12)
unit k K = shl_exact 1 (k - 12) 64 (lit< tt) (omega arith) ∙ one-mul (2 ^ (k - 12))

pub returns : goal.returns
returns c =
    let a = c.args in
    let j = a.k - 12 in
    rw (and_mask a.digits 12, unit a.k c.requires.places_most) record {
      floor = floor_is a.scale a.digits 12 j a.k (omega arith);
      ceiling = ceiling_is a.scale a.digits 12 j a.k (omega arith);
    }
