-- `end_with_decimal`: the last digit, then before it those of a tenth of the number, down to one digit (`last_digit`, `one_digit`).
use mathlib.Core.List.{[]}
use native.Mathlib.Omega.{arith}
use Rattle.text.specs.DecimalLaws.{one_digit, last_digit}
use Rattle.text.specs.DigitsLaws.{digits_some}
use Rattle.text.specs.PutsLaws.{behind_more, behind_nothing, behind_room, behind_inside}
use Rattle.text.proofs.end_with_decimal.Goals as goal

pub end_with_byte-at-requires : goal.end_with_byte-at-requires
end_with_byte-at-requires c = let l = c.loop-rest in
    (omega (arith, behind_room c.requires.0 l.invariant.1, digits_some l.rest), behind_inside l.invariant.1)

pub loop-rest-preserved : goal.loop-rest-preserved
loop-rest-preserved c = let l = c.loop-rest in
    (omega arith, behind_more (rw (last_digit l.rest (omega arith)) at l.invariant.1) c.end_with_byte-at.ensures)

pub end_with_byte-requires : goal.end_with_byte-requires
end_with_byte-requires c = let l = c.loop-rest in
    (omega (arith, behind_room c.requires.0 l.invariant.1, digits_some l.rest), behind_inside l.invariant.1)

pub returns : goal.returns
returns c = let l = c.loop-rest in
    behind_nothing (behind_more {xs = []} (rw (one_digit l.rest (omega arith)) at l.invariant.1) c.end_with_byte.ensures)
