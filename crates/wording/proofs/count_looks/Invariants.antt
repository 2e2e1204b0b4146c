-- `count_looks`. Invariant: the used looks are those before place i and the used ones from there on.
use Rattle.std.specs.Prelude.{◌≡◌, ◌+◌, length, drop}
use Rattle.wording.specs.Texts.{used}
use Rattle.wording.proofs.count_looks.Given as goal

abbrev pub invariant-loop-i : goal.invariant-loop-i
invariant-loop-i l = length (used l.looks) ≡ l.i + length (used (drop l.i l.looks))
