-- `put_sheet`: the text of an accepted sheet has at most as many bytes as the buffer (`text_most`); of a refused one nothing is cut (`puts_whole`).
use Rattle.std.proofs.Common.{arith, rules}
use Rattle.text.specs.PutsLaws.{puts_whole, wrote_puts}
use Rattle.sheet_text.specs.TextLaws.{text_most}
use Rattle.sheet.specs.SheetLaws.{accepted_numbers}
use Rattle.forms.proofs.sheets.put_sheet.Goals as goal

pub write_text-requires : goal.write_text-requires
write_text-requires c =
    let good = c.in-Ok.sheet.accepted in
    (c.text_length-bytes.ensures, omega (arith, c.text_length-bytes.ensures, text_most c.in-Ok.sheet.list.now (accepted_numbers good)))

pub returns-in-Err : goal.returns-in-Err
returns-in-Err c = let p = puts_whole (omega arith) (wrote_puts c.put_verdict.ensures) in rw c.in-Err.is (search rules)
