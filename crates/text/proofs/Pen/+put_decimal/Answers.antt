-- `put_decimal`: the digits before the last one, if there are any, then the last: so the text is the number in decimal.
use Rattle.std.proofs.Common.{◌≡◌, ◌%◌, arith}
use Rattle.text.specs.PutsLaws.{wrote_on}
use Rattle.text.specs.DecimalLaws.{one_digit, last_digit}
use Rattle.text.proofs.Pen.+put_decimal.Goals as goal
use Rattle.text.proofs.Pen.+put_decimal.Goals.{then-n-ge10, else-n-ge10}

pub returns : goal.returns
returns t c =
    elim c.if-n-ge10.branch [
      | then-n-ge10 w ↦ rw (last_digit c.args.n (omega arith)) (wrote_on w.put_decimal.ensures (rw w.self-is at c.put_byte.ensures))
      | else-n-ge10 w ↦
          let e : c.args.n % 10 ≡ c.args.n = omega arith in
          rw (one_digit c.args.n (omega arith)) (rw (w.self-is, e) at c.put_byte.ensures)
    ]
