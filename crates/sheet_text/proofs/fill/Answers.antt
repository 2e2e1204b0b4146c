-- `fill`: byte after byte, the place and the list are what `fill_byte` makes of the text; after a bad byte nothing changes any more (`bad_whole`).
use Rattle.std.proofs.Common.{◌+◌, arith}
use Rattle.std.specs.Prelude.{Ok}
use Rattle.std.proofs.lemmas.Result.{err_from_is_err_and}
use Rattle.sheet_text.specs.Machine.{filled}
use Rattle.sheet_text.proofs.Filling.{byte_more, bad_whole}
use Rattle.sheet_text.proofs.fill.Goals as goal

pub returns-in_err-p : goal.returns-in_err-p
returns-in_err-p c = let l = c.loop-b in
    let from = filled (Ok c.args.from) c.args.list.now in
    let p = err_from_is_err_and c.from_residual.result c.from_residual.ensures.1 in
    rw (p.1, p.2)
    (bad_whole from c.args.text.now (l.b-index + 1) _ _
    (rw c.in_err-p.was at (byte_more from c.args.text.now l.b-index l.p l.list (omega arith) l.invariant c.step_place.ensures c.store_place.ensures)))
