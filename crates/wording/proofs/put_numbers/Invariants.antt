-- `put_numbers`. Invariant: the numbers before the index are put, a tab before each (`numbers_more`).
use Rattle.std.specs.Prelude.{◌*◌, take}
use Rattle.text.specs.Puts.{WroteAtMost}
use Rattle.wording.specs.Limits.{field}
use Rattle.wording.specs.Texts.{fields_text}
use Rattle.wording.proofs.put_numbers.Given as goal

abbrev pub invariant-loop-z : goal.invariant-loop-z
invariant-loop-z l = WroteAtMost (field * l.z-index) (fields_text (take l.z-index l.numbers)) l.fn.pen l.pen
