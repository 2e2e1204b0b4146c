-- `end_with_byte`: the byte is stored right before the place, and nothing else changes (`stands_byte`).
use mathlib.Core.Path.{◌≡◌}
use Prim.Native.Nat.{suc, ◌-◌}
use native.Mathlib.Omega.{arith}
use Rattle.text.specs.PutsLaws.{stands_byte}
use Rattle.text.proofs.end_with_byte.Goals as goal

pub returns : goal.returns
returns c = let e : suc (c.args.end - 1) ≡ c.args.end = omega arith in
    rw e at (stands_byte c.args.buf.now (c.args.end - 1) c.args.b (omega arith))
