-- `put_course`: `ok` or `stopped` with its numbers, and the charge and mK behind them: what `course_text` says (`wrote_then`).
use Rattle.std.proofs.Common.{arith}
use Rattle.text.specs.PutsLaws.{wrote_text, wrote_then, wrote_wider}
use Rattle.wording.proofs.put_course.Goals as goal
use Rattle.wording.proofs.put_course.Goals.{in-None, in-Some}

pub returns : goal.returns
returns c =
    elim c.match-course.branch [
      | in-None w ↦
          rw (c.in-Ok.is, w.in-None.is)
          (wrote_wider (omega arith) (wrote_then (wrote_then (wrote_text w.put_text.ensures) w.put_small.ensures) (rw w.pen-is at c.put_state.ensures)))
      | in-Some w ↦
          rw (c.in-Ok.is, w.in-Some.is)
          (wrote_then
          (wrote_then (wrote_then (wrote_text w.put_text-in-Some.ensures) w.put_small-in-Some.ensures) (rw w.number.ensures at w.put_small-in-Some-2.ensures))
          (rw w.pen-is at c.put_state.ensures))
    ]
