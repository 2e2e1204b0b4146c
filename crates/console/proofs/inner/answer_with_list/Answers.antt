-- `answer_with_list`: what is said to the line, then its line feed (`wrote_then`).
use Rattle.console.specs.Answers.{answer_of}
use Rattle.text.specs.PutsLaws.{wrote_text, wrote_then}
use Rattle.console.proofs.inner.answer_with_list.Goals as goal

pub returns : goal.returns
unfolding answer_of
returns c = wrote_then c.put_reply.ensures (wrote_text c.put_byte.ensures)
