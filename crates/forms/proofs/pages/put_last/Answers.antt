-- `put_last`: a number and the line feed behind it (`wrote_then`).
use Rattle.text.specs.PutsLaws.{wrote_text, wrote_decimal, wrote_then}
use borrow.Author.Rules.{rules}
use Rattle.forms.proofs.pages.put_last.Goals as goal

pub returns : goal.returns
returns c = wrote_then (wrote_decimal (search rules) (rw c.from.ensures at c.put_decimal.ensures)) (wrote_text c.put_byte.ensures)
