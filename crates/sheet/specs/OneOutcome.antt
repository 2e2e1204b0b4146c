-- No two outcomes satisfy the promise of a call on a sheet: `one_NAME` for each entry NAME. Assumes nothing.
use Rattle.std.specs.Prelude.{◌≡◌, refl, List, ℕ, Result}
use Rattle.std.proofs.Common.{sym, ◌∙◌, ap₂}
use Rattle.refusal.specs.declared.Refusal.{Refusal}
use Rattle.refusal.specs.Refusals.{Told}
use Rattle.refusal.specs.RefusalsLaws.{one_told_of}
use Rattle.sheet.specs.Answers.{paper_sheet, read_told, list_after, SheetRead, judge_told, SheetAnswer}
use Rattle.sheet.specs.Writing.{paper_write, SheetWritten, WriteAnswer}
use Rattle.sheet.specs.declared.pieces.Progress.{Progress}
use Rattle.sheet.specs.Pieces.{opened, paper_piece, PieceRead, ReadingClosed}
use Rattle.sheet.specs.declared.pieces.SheetReading.{SheetReading}
use Rattle.sheet.specs.declared.pieces.Taken.{Taken}
use Rattle.sheet.specs.declared.pieces.Closed.{Closed}
use Rattle.sheet.specs.FormLaws.{one_form}

pub one_answer : (a b : SheetAnswer) → paper_sheet a ≡ paper_sheet b → a ≡ b
one_answer a b e = one_told_of a b e refl

pub one_read_sheet : {text before later after : List ℕ} {a b : SheetAnswer} → SheetRead text before a later → SheetRead text before b after → (a ≡ b) × (later ≡ after)
one_read_sheet {text} {before} {later} {after} {a} {b} p q =
    let s = one_form p.form q.form in
    let l : read_told before p.form ≡ read_told before q.form = rw (s.breaks_same, s.row_same) refl in
    let e : a ≡ b = one_answer a b (p.told ∙ (l ∙ sym q.told)) in
    (e, p.list ∙ (ap₂ (λ (x : SheetAnswer) (y : List ℕ). list_after x y before) e s.numbers_same ∙ sym q.list))

-- the judge of a list
pub one_judge_sheet : (s : List ℕ) (a b : SheetAnswer) → paper_sheet a ≡ judge_told s → paper_sheet b ≡ judge_told s → a ≡ b
one_judge_sheet s a b p q = one_answer a b (p ∙ sym q)

-- the writer
pub one_written : {t : Told ℕ} (a b : WriteAnswer) → paper_write a ≡ t → paper_write b ≡ t → a ≡ b
one_written = one_told_of

pub one_write_sheet : {s before later after : List ℕ} {a b : WriteAnswer} → SheetWritten s before a later → SheetWritten s before b after → (a ≡ b) × (later ≡ after)
one_write_sheet {a = a} {b = b} p q = (one_written a b p.told q.told, p.buffer ∙ sym q.buffer)

-- a piece, and the close
pub one_piece_answer : {t : Told Progress} (a b : Result Progress Refusal) → paper_piece a ≡ t → paper_piece b ≡ t → a ≡ b
one_piece_answer = one_told_of

pub one_open_reading : (r q : SheetReading) → r ≡ opened → q ≡ opened → r ≡ q
one_open_reading r q p o = p ∙ sym o

pub one_read_piece : {s : SheetReading} {piece before later after : List ℕ} {a b : Taken} → PieceRead s piece before a later → PieceRead s piece before b after → (a ≡ b) × (later ≡ after)
one_read_piece {a = a} {b = b} p q =
    let e = one_piece_answer a.answer b.answer p.told q.told in
    (ap₂ (λ (s : SheetReading) (x : Result Progress Refusal). record { reading = s; answer = x }) (p.reading ∙ sym q.reading) e, p.list ∙ sym q.list)

pub one_close_reading : {s : SheetReading} {l : List ℕ} {a b : Closed} → ReadingClosed s l a → ReadingClosed s l b → a ≡ b
one_close_reading {a = a} {b = b} p q =
    ap₂ (λ (s : SheetReading) (x : SheetAnswer). record { reading = s; answer = x }) (p.reading ∙ sym q.reading) (one_answer a.answer b.answer (p.told ∙ sym q.told))
