-- `go`: each turn is a step of `run` from where the walk stands, up to the first refused one or the last (proofs/Sofar.antt).
use borrow.Author.Rules.{rules}
use native.Mathlib.Omega.{arith}
use Rattle.walk.proofs.Sofar.{turned, halted, finish}
use Rattle.walk.proofs.run.go.Goals as goal

pub returns-in-Err-clause-walks : goal.returns-in-Err-clause-walks
returns-in-Err-clause-walks c = let b = c.loop-i in
    halted _ _ _ _ _ _ _ _ _ b.lent.looks.now _ _ b.invariant.1 (search rules) _ c.step_at.ensures c.step.new.looks _ _ c.came_to.ensures.told c.came_to.ensures.same c.in-Err.ensures

pub loop-i-preserved : goal.loop-i-preserved
loop-i-preserved c = let b = c.loop-i in
    (b.invariant.0, turned _ _ _ _ _ _ _ _ _ b.lent.looks.now _ _ b.invariant.1 (search rules) _ c.step_at.ensures c.step.new.looks _ _ _ _ (search rules) (search rules) c.in-Ok.ensures)

pub returns-clause-walks : goal.returns-clause-walks
returns-clause-walks c = finish _ _ _ _ _ _ _ _ _ _ _ _ _ c.loop-i.invariant.1 (omega arith) c.came_to-2.ensures.told c.came_to-2.ensures.same
