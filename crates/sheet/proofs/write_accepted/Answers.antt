-- `write_accepted`: the text is counted, then refused with 14 or written.
use borrow.Author.Rules.{rules}
use Rattle.sheet.proofs.Written.{whole_text_lem}
use Rattle.sheet.proofs.write_accepted.Goals as goal

pub returns : goal.returns
returns c = search (rules, whole_text_lem)
