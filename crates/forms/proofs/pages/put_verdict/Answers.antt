-- `put_verdict`: the note of the refusal; of a good sheet nothing is said.
use Rattle.forms.proofs.pages.put_verdict.Goals as goal

pub returns-in-Err : goal.returns-in-Err
returns-in-Err c = rw c.in-Err.is c.put_sheet_note.ensures
