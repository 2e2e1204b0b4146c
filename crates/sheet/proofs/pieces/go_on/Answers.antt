-- `go_on`: the one machine over the piece (`fills`); what is over stays.
use Rattle.sheet.specs.PiecesLaws.{fills}
use Rattle.sheet.proofs.pieces.go_on.Goals as goal

pub returns : goal.returns
returns c = rw (c.reading_of.ensures, c.in-Going.is) (fills c.in-Going.place c.args.piece.now c.args.list.now c.fill.ensures)
