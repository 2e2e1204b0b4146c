-- `step`: a refusal of the first half, or of the search for the asked heat, or the state that it finds (proofs/Halves.antt): the paper's `judge`.
use borrow.Author.Rules.{rules}
use Rattle.std.specs.Prelude.{◌≡◌, Err}
use Rattle.walk.proofs.Halves.{ask_stops, search_stops, stand_fits, found_goes}
use Rattle.walk.proofs.stepping.step.Goals as goal

pub returns-in_err-asked : goal.returns-in_err-asked
returns-in_err-asked c =
    let e : c.from_residual.result ≡ Err c.in_err-asked.field-0.0 = search rules in
    rw e (ask_stops c.args.sheet.list.now c.args.st c.args.p _ _ c.in_err-asked.ensures)

pub find-requires : goal.find-requires
find-requires c = (c.in_ok-asked.ensures.ready.burning, c.requires.1)

pub returns-in_err-t : goal.returns-in_err-t
returns-in_err-t c =
    let e : c.from_residual-in_err-t.result ≡ Err c.in_err-t.field-0.0 = search rules in
    rw e (search_stops c.args.sheet.list.now c.args.st c.args.p _ c.in_ok-asked.ensures _ _ _ c.in_err-t.ensures)

pub stand-requires : goal.stand-requires
stand-requires c = stand_fits c.args.sheet.list.now c.args.st c.args.p _ c.in_ok-asked.ensures _ _ _ _ c.in_ok-t.ensures c.args.sheet.accepted

pub returns : goal.returns
returns c = rw c.stand.ensures (found_goes c.args.sheet.list.now c.args.st c.args.p _ c.in_ok-asked.ensures _ _ _ _ c.in_ok-t.ensures)
