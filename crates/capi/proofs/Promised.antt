-- The entry's promise and a struct that flattens its answer make the promise of the call. Assumes nothing.
use Rattle.std.proofs.Common.{◌≡◌, refl, ap, ◌∙◌, List, ℕ}
use Rattle.std.specs.Prelude.{cond, length, ℤ, Result, Ok, Err}
use mathlib.Core.Path.{ap₂}
use borrow.Author.Tests.{eq-eqb, ne_eqb}
use Rattle.refusal.specs.declared.Refusal.{Refusal}
use Rattle.refusal.specs.Refusals.{Told}
use Rattle.air.specs.declared.Millikelvin.{Millikelvin}
use Rattle.air.specs.Answers.{paper_psi, PsiInverse}
use Rattle.sheet_text.specs.Limits.{sheet_numbers}
use Rattle.sheet.specs.Sheet.{not_long}
use Rattle.sheet.specs.Answers.{SheetAnswer, paper_sheet, numbers_of, list_after, SheetRead}
use Rattle.sheet.specs.Writing.{WriteAnswer, paper_write, SheetWritten}
use Rattle.sheet.specs.declared.pieces.SheetReading.{SheetReading}
use Rattle.sheet.specs.declared.pieces.Taken.{Taken}
use Rattle.sheet.specs.declared.pieces.Closed.{Closed}
use Rattle.sheet.specs.Pieces.{after_piece, piece_told, paper_piece, PieceRead, ReadingClosed}
use Rattle.built_in.specs.BuiltIn.{built_in}
use Rattle.burning.specs.declared.Charge.{Charge}
use Rattle.burning.specs.Burning.{Weights}
use Rattle.gas.specs.declared.Heat.{Heat}
use Rattle.gas.specs.Answers.{paper_temperature, Temperature}
use Rattle.walk.specs.declared.Course.{Course as CourseBack}
use Rattle.walk.specs.Lists.{Lists}
use Rattle.walk.specs.Walk.{Trace, paper_walk, Walks}
use Rattle.telling.specs.declared.SheetTold.{SheetTold}
use Rattle.telling.specs.declared.WrittenTold.{WrittenTold}
use Rattle.telling.specs.declared.TemperatureTold.{TemperatureTold}
use Rattle.telling.specs.declared.PsiTold.{PsiTold}
use Rattle.telling.specs.declared.WalkTold.{WalkTold}
use Rattle.telling.specs.declared.pieces.ReadingState.{ReadingState}
use Rattle.telling.specs.declared.pieces.PieceTold.{PieceTold}
use Rattle.telling.specs.Flat.{flat_sheet, flat_written, flat_temperature, flat_psi, flat_walk}
use Rattle.telling.specs.Pieces.{reading_in, flat_piece, flat_closed}
use Rattle.capi.specs.Lent.{list_told, SheetIs, BuiltInIs, WrittenIs, PieceIs, closed_told, TemperatureIs, PsiIs, WalkIs}

-- the list by the answer is the list by what it tells
list_as_told : (a : SheetAnswer) (numbers before : List ℕ) → list_after a numbers before ≡ list_told (paper_sheet a) numbers before
list_as_told (Ok u) numbers before = refl
list_as_told (Err r) numbers before = refl

pub sheet_told : {text before later : List ℕ} {a : SheetAnswer} {r : SheetTold} → SheetRead text before a later → r ≡ flat_sheet (paper_sheet a) → SheetIs text before r later
sheet_told {before = before} {a = a} p q =
    record {
      form = p.form;
      told = q ∙ ap flat_sheet p.told;
      list = p.list ∙ (list_as_told a (numbers_of p.form) before ∙ ap (λ t. list_told t (numbers_of p.form) before) p.told);
    }

pub temperature_told_lem : {w : Weights} {ch : Charge} {target : ℤ} {s before after : List ℕ} {a : Result (Millikelvin × Heat) Refusal} {r : TemperatureTold}
    → Temperature w ch target s before a after → r ≡ flat_temperature (paper_temperature a) → TemperatureIs w ch target s before r after
temperature_told_lem p q = record { told = q ∙ ap flat_temperature p.told; list = p.list }

-- the built-in sheet, for a list of its length and for any other
pub built_in_refused : (l : List ℕ) → (length l ≡ sheet_numbers → ⊥) → BuiltInIs l (record { refusal = 1; row = 0; placed = 0 }) l
built_in_refused l n = record { told = rw (ne_eqb (length l) sheet_numbers n) refl; list = rw (ne_eqb (length l) sheet_numbers n) refl }

pub built_in_told_lem : (l : List ℕ) {later : List ℕ} → length l ≡ sheet_numbers → later ≡ built_in → BuiltInIs l (record { refusal = 0; row = 0; placed = 0 }) later
built_in_told_lem l n e = record { told = rw (eq-eqb (length l) sheet_numbers n) refl; list = rw (eq-eqb (length l) sheet_numbers n) e }

pub written_told : {s before later : List ℕ} {a : WriteAnswer} {r : WrittenTold} → SheetWritten s before a later → r ≡ flat_written (paper_write a) → WrittenIs s before r later
written_told p q = record { told = q ∙ ap flat_written p.told; buffer = p.buffer }

-- a piece, and the close, of the reading that was handed in
pub piece_told_lem : {state : ReadingState} {piece before later : List ℕ} {s : SheetReading} {a : Taken} {r : PieceTold} → s ≡ reading_in state → PieceRead s piece before a later
    → r ≡ flat_piece (paper_piece a.answer) a.reading → PieceIs state piece before r later
piece_told_lem {piece = piece} {before = before} e p q =
    record {
      told = q ∙ (ap₂ flat_piece p.told p.reading ∙ ap (λ (x : SheetReading). flat_piece (piece_told x piece before) (cond (not_long before) x (after_piece x piece before).reading)) e);
      list = p.list ∙ ap (λ (x : SheetReading). cond (not_long before) before (after_piece x piece before).list) e;
    }

pub closed_told_flat : (state : ReadingState) {l : List ℕ} {s : SheetReading} {a : Closed} {r : PieceTold} → s ≡ reading_in state → ReadingClosed s l a
    → r ≡ flat_closed (paper_sheet a.answer) a.reading → r ≡ closed_told (reading_in state) l
closed_told_flat state {l = l} e p q = q ∙ (ap₂ flat_closed p.told p.reading ∙ ap (λ (x : SheetReading). closed_told x l) e)

pub psi_told_lem : {target : ℤ} {before after : List ℕ} {a : Result (Millikelvin × ℕ) Refusal} {r : PsiTold} → PsiInverse target before a after → r ≡ flat_psi (paper_psi a)
    → PsiIs target before r after
psi_told_lem p q = record { told = q ∙ ap flat_psi p.told; list = p.list }

pub walk_told_lem : {told : Told Trace} {before after : Lists} {a : Result CourseBack Refusal} {o : WalkTold} → Walks told before a after → o ≡ flat_walk (paper_walk a)
    → WalkIs told before o after
walk_told_lem p q = record { answer = q ∙ ap flat_walk p.answer; lent = p.lent }
