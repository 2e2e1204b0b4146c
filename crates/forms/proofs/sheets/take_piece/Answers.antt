-- `take_piece`: the piece up to its first carriage return, and the rest of it: joined they are the piece (`takes`).
use Rattle.std.proofs.Common.{arith, length-take}
use Rattle.forms.proofs.Arriving.{cut_inside, takes}
use Rattle.forms.proofs.sheets.take_piece.Goals as goal

pub slice_bounds-read_piece-end : goal.slice_bounds-read_piece-end
slice_bounds-read_piece-end c = let h = cut_inside c.args.piece.now c.place_of-at.ensures in simp length-take (omega arith)

pub slice_bounds-read_piece-count : goal.slice_bounds-read_piece-count
slice_bounds-read_piece-count c = cut_inside c.args.piece.now c.place_of-at.ensures

pub slice_bounds-read_piece-start : goal.slice_bounds-read_piece-start
slice_bounds-read_piece-start c = cut_inside c.args.piece.now c.place_of-at.ensures

pub returns-then-goes_on : goal.returns-then-goes_on
returns-then-goes_on c =
    rw c.if-goes_on.true at (takes c.args.reading c.args.piece.now c.args.list.now (omega arith) c.place_of-at.ensures c.read_piece-before.ensures
    c.read_piece-after.ensures c.goes_on.ensures)

pub returns-else-goes_on : goal.returns-else-goes_on
returns-else-goes_on c =
    rw c.if-goes_on.false
    (rw c.if-goes_on.false at (takes c.args.reading c.args.piece.now c.args.list.now (omega arith) c.place_of-at.ensures c.read_piece-before.ensures
    c.read_piece-after.ensures c.goes_on.ensures))
