-- `put_looks`: the number of used looks, which are the first ones of the list (`used_first`), and then these looks.
use Rattle.wording.specs.TextsLaws.{used_most, used_first}
use native.Mathlib.Omega.{arith}
use Rattle.text.specs.PutsLaws.{wrote_then, wrote_wider}
use Rattle.wording.proofs.put_looks.Goals as goal

pub put_first-requires : goal.put_first-requires
put_first-requires c = (
  omega (arith, c.count_looks-n.ensures, used_most c.args.looks.now),
  omega (arith, c.put_number.ensures.put.next_is, c.put_number.ensures.put.same_length),
)

pub returns : goal.returns
returns c = wrote_wider (omega (arith, used_most c.args.looks.now))
    (rw (used_first c.args.looks.now) at (rw c.count_looks-n.ensures at (wrote_then c.put_number.ensures c.put_first.ensures)))
