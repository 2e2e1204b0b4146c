-- `over_file`: what the job is given is the verdict on the sheet that came, and the list that it filled (`came_judged`).
use Rattle.std.proofs.Common.{◌≡◌, length, arith}
use Rattle.sheet_text.specs.Limits.{sheet_numbers}
use Rattle.desk.proofs.Arriving.{came_judged}
use Rattle.desk.proofs.over_file.Goals as goal

pub invariant_of-serve : goal.invariant_of-serve
invariant_of-serve g c =
    let b : length c.args.list.now ≡ sheet_numbers = omega arith in
    let n : length c.read_file.new.list ≡ sheet_numbers = omega arith in
    record { judged = ∣ came_judged c.args.list.now b n c.read_file.ensures c.in-Ok.is c.accept-sheet.ensures.verdict ∣₁; same = ∣ c.accept-sheet.ensures.same ∣₁ }
