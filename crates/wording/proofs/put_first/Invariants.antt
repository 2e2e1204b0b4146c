-- `put_first`. Invariant: the looks before the index are put, a tab before each (`fields_more`).
use Rattle.std.specs.Prelude.{◌*◌, map, take, pos}
use Rattle.text.specs.Puts.{WroteAtMost}
use Rattle.wording.specs.Limits.{small}
use Rattle.wording.specs.Texts.{fields_text}
use Rattle.wording.proofs.put_first.Given as goal

abbrev pub invariant-loop-look : goal.invariant-loop-look
invariant-loop-look l = WroteAtMost (small * l.look-index) (fields_text (map pos (take l.look-index l.looks))) l.fn.pen l.pen
