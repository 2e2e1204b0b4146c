-- `put_refusal`: the sheet's note or the walk's, by the verdict.
use Rattle.forms.proofs.pages.put_refusal.Goals as goal

pub returns-in-Ok : goal.returns-in-Ok
returns-in-Ok c = rw c.in-Ok.is c.put_walk_note.ensures

pub returns-in-Err : goal.returns-in-Err
returns-in-Err c = rw c.in-Err.is c.put_sheet_note.ensures
