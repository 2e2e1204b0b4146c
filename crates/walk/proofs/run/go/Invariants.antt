-- `go`: each turn is a step of `run` from where the walk stands, up to the first refused one or the last.
-- Invariant: the lent lists are the same, the first i steps are done, the lists hold what they told and else what was lent (`Sofar`).
use Rattle.walk.specs.inner.Work.{state_of, SameLists}
use Rattle.walk.proofs.Sofar.{Sofar}
use Rattle.walk.proofs.run.go.Given as goal

abbrev pub invariant-loop-i : goal.invariant-loop-i
invariant-loop-i l =
    SameLists l.initial.lent l.lent
    × Sofar l.sheet.list.now (state_of l.initial.st) l.n l.steps l.initial.lent.temperatures.now l.initial.lent.rests.now l.initial.lent.looks.now
    l.lent.temperatures.now l.lent.rests.now l.lent.looks.now l.st l.i
