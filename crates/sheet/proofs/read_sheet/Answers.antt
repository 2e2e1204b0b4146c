-- `read_sheet`: the length, then the form of the text; the lent list is written only from a whole sheet (the three ways of proofs/Reading.antt).
use Rattle.std.proofs.Common.{rules}
use Rattle.sheet.proofs.Reading.{wrong_length, sheet_read, bad_row_lem}
use Rattle.sheet.proofs.read_sheet.Goals as goal

pub returns-then-not-fits : goal.returns-then-not-fits
returns-then-not-fits c = wrong_length c.args.text.now c.args.list.now (search rules)

pub returns-then-not-whole_sheet : goal.returns-then-not-whole_sheet
returns-then-not-whole_sheet c = bad_row_lem c.args.text.now c.args.list.now _ _ (search rules) (search rules)
    c.start.ensures c.fill-s.ensures c.whole_sheet.ensures (search rules) c.row_of.ensures

pub returns : goal.returns
returns c = sheet_read c.args.text.now c.args.list.now _ _ (search rules) (search rules)
    c.start.ensures c.fill-s.ensures c.whole_sheet.ensures (search rules) (search rules)
