-- `read_piece`: the list as long as a sheet is the list that was lent (`same`), over which the reading goes on (`piece_read`).
use Rattle.sheet.specs.PiecesLaws.{piece_read}
use Rattle.sheet.proofs.pieces.read_piece.Goals as goal

pub returns : goal.returns
returns c =
    let p = c.in-Some.ensures.cases in
    piece_read c.args.reading c.args.piece.now c.args.list.now p.long (rw p.same at c.go_on-reading.ensures) c.answer_of-answer.ensures
