-- Demand 1 for each entry on a sheet, both ways: `demand_1_NAME`, of every answer that meets the promise of NAME. Assumes nothing.
use Rattle.std.specs.Prelude.{◌≡◌, List, [], ◌∷◌, ℕ}
use Rattle.refusal.specs.Refusals.{◌when◌, ◌at_place◌when◌, Demand1}
use Rattle.refusal.specs.RefusalsLaws.{demand_1}
use Rattle.sheet_text.specs.Text.{text_length}
use Rattle.sheet.specs.Sheet.{not_long}
use Rattle.sheet.specs.Answers.{paper_sheet, breaks, bad_row_of, SheetRead, sheet_lines, judge_told, SheetAnswer}
use Rattle.sheet.specs.declared.pieces.SheetReading.{SheetReading}
use Rattle.sheet.specs.declared.pieces.Taken.{Taken}
use Rattle.sheet.specs.declared.pieces.Closed.{Closed}
use Rattle.sheet.specs.Pieces.{after_piece, after_close, piece_lines, progress, paper_piece, PieceRead, ReadingClosed}
use Rattle.sheet.specs.Writing.{paper_write, write_lines, SheetWritten, WriteAnswer}

-- the text's own form: whether it breaks its form, and its first bad row
pub demand_1_read_sheet : {text before later : List ℕ} {a : SheetAnswer} (h : SheetRead text before a later)
    → Demand1 (1 when not_long before ∷ 2 at_place bad_row_of h.form when breaks h.form ∷ []) tt (paper_sheet a)
demand_1_read_sheet h = demand_1 _ _ h.told

pub demand_1_judge_sheet : (s : List ℕ) (a : SheetAnswer) → paper_sheet a ≡ judge_told s → Demand1 (sheet_lines s) tt (paper_sheet a)
demand_1_judge_sheet s a e = demand_1 _ _ e

pub demand_1_write_sheet : {s before later : List ℕ} {a : WriteAnswer} → SheetWritten s before a later → Demand1 (write_lines s before) (text_length s) (paper_write a)
demand_1_write_sheet h = demand_1 _ _ h.told

pub demand_1_read_piece : {s : SheetReading} {piece before later : List ℕ} {r : Taken} → PieceRead s piece before r later
    → Demand1 (piece_lines before (after_piece s piece before).reading) (progress (after_piece s piece before).reading) (paper_piece r.answer)
demand_1_read_piece h = demand_1 _ _ h.told

pub demand_1_close_reading : {s : SheetReading} {l : List ℕ} {r : Closed} → ReadingClosed s l r → Demand1 (piece_lines l (after_close s)) tt (paper_sheet r.answer)
demand_1_close_reading h = demand_1 _ _ h.told
