-- `put_refusal_note`: the buffer has room for any note, so nothing is cut (`puts_whole`).
use Rattle.std.proofs.Common.{rules}
use Rattle.text.specs.PutsLaws.{puts_whole, wrote_puts}
use Rattle.forms.proofs.pages.put_refusal_note.Goals as goal

pub returns : goal.returns
returns c = let p = puts_whole c.requires (wrote_puts c.put_refusal.ensures) in search rules
