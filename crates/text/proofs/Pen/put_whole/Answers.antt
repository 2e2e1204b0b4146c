-- `put_whole`: a minus sign where the number is below zero, then its size in decimal (`wrote_on`).
use Rattle.text.specs.PutsLaws.{wrote_on}
use Rattle.text.proofs.Signs.{decimal_z_below, decimal_z_above}
use Rattle.text.proofs.Pen.put_whole.Goals as goal
use Rattle.text.proofs.Pen.put_whole.Goals.{then-z-lt0, else-z-lt0}

pub returns : goal.returns
returns c = let e = c.unsigned_abs.ensures.value in
    elim c.if-z-lt0.branch [
      | then-z-lt0 w ↦ rw (decimal_z_below c.args.z c.ranges.z w.if-z-lt0.true e) (wrote_on w.put_byte.ensures (rw w.self-is at c.put_decimal.ensures))
      | else-z-lt0 w ↦ rw (decimal_z_above c.args.z c.ranges.z w.if-z-lt0.false e) (rw w.self-is at c.put_decimal.ensures)
    ]
