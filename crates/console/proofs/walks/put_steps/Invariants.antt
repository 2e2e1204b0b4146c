-- `put_steps`: the steps that were done stand in the output, each from its place of the lists and its own part of the looks.
-- Invariant: the first i steps are put (`Putting`, `one_more`).
use Rattle.console.specs.WalksLaws.{Putting}
use Rattle.console.proofs.walks.put_steps.Given as goal

abbrev pub invariant-loop-i : goal.invariant-loop-i
invariant-loop-i l = Putting l.layout l.n l.walked.temperatures.now l.walked.rests.now l.walked.looks.now l.fn.pen l.pen l.i
