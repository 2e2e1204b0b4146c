-- `answer_judged`: what is said to the line, then its line feed (`puts_then`).
use Rattle.console.specs.Answers.{answer_of}
use Rattle.text.specs.PutsLaws.{puts_text, puts_then}
use Rattle.console.proofs.inner.answer_judged.Goals as goal

pub returns : goal.returns
unfolding answer_of
returns c = puts_then c.put_reply-next.ensures (puts_text c.put_byte.ensures)
