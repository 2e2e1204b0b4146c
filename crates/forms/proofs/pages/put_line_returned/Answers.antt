-- `put_line_returned`: the note is shorter than the room, so nothing is cut (`puts_whole`).
use Rattle.std.proofs.Common.{arith, rules}
use Rattle.text.specs.PutsLaws.{puts_whole, wrote_puts}
use Rattle.text.specs.Puts.{Stands}
use Rattle.forms.specs.Pages.{line_returned}
use Rattle.forms.proofs.pages.put_line_returned.Goals as goal

pub returns : goal.returns
returns c = let p : Stands (line_returned c.args.line) c.args.out.now 0 c.put_note.new.pen.at c.put_note.new.pen.buf.now = puts_whole (omega arith) (wrote_puts c.put_note.ensures) in search rules
