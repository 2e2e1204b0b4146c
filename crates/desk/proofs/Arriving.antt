-- A sheet that an input brings: nothing has come, and one piece more; and the verdict on what came. Assumes nothing.
use Rattle.std.specs.Prelude.{Result, Ok}
use Rattle.std.proofs.Common.{◌≡◌, refl, sym, subst, List, ℕ, [], length}
use Rattle.sheet_text.specs.Limits.{sheet_numbers}
use Rattle.sheet.specs.declared.pieces.SheetReading.{SheetReading}
use Rattle.sheet.specs.Answers.{SheetAnswer}
use Rattle.sheet.specs.Pieces.{opened, closed, none, Came}
use Rattle.sheet.specs.PiecesLaws.{piece_read, came_more}
use Rattle.forms.specs.declared.sheets.Intake.{Intake}
use Rattle.forms.specs.Sheets.{Takes}
use Rattle.forms.specs.SheetsLaws.{verdict_of}
use Rattle.console.specs.Answers.{JudgedAfter, Judged, of_text}
use Rattle.stream.specs.declared.Failed.{Failed}
use Rattle.desk.specs.Sheets.{Arrived}

pub none_came : {s : SheetReading} (l : List ℕ) → s ≡ opened → Came l s l
none_came l e = subst (λ (x : SheetReading). Came l x l) (sym e) (record { text = []; calls = none })

pub piece_came : {before l m xs : List ℕ} {s : SheetReading} {r : Intake} → length l ≡ sheet_numbers → Came before s l → Takes s xs l r m → Came before r.reading m
piece_came {l = l} {xs = xs} {s = s} h c t = came_more c (piece_read s xs l h t.stands refl)

-- the verdict on the sheet that came
pub came_judged : (before : List ℕ) {list : List ℕ} {input : Result Intake Failed} {intake : Intake} {v : SheetAnswer} → length before ≡ sheet_numbers → length list ≡ sheet_numbers
    → Arrived before input list → input ≡ Ok intake → JudgedAfter (closed intake.reading).answer v list → Judged v list
came_judged before {list} h n a e j = of_text (verdict_of h n (subst (λ (x : Result Intake Failed). Arrived before x list) e a) j)
