-- `walk`: a sheet that is not accepted is told first, and nothing is written; with an accepted one `walk_judged` tells the rest (proofs/Start.antt).
use borrow.Author.Rules.{rules}
use Rattle.std.specs.Prelude.{◌≡◌, Err}
use Rattle.walk.proofs.Start.{sheet_stops, sheet_goes}
use Rattle.walk.proofs.walk.Goals as goal

pub returns-in_err-accepted : goal.returns-in_err-accepted
returns-in_err-accepted c =
    let e : c.from_residual.result ≡ Err c.in_err-accepted.field-0.0 = search rules in
    rw e (sheet_stops _ _ _ _ _ c.in_err-accepted.ensures.told)

pub returns : goal.returns
returns c = sheet_goes _ _ _ _ _ c.in_ok-accepted.accepted.accepted c.in_ok-accepted.ensures.same c.walk_judged.ensures
