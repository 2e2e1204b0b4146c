-- What is told by the reader and by the judge: a text is read as a list exactly where it is the sheet of that list, and a list is good exactly where it is an
-- accepted sheet. Assumes nothing.
use Rattle.std.proofs.Common.{eqb-true, ltb-false, lt-ltb, le-ltb, eq-eqb, ne_eqb, sym, ap, ◌∙◌, arith}
use Rattle.std.specs.Prelude.{◌≡◌, refl, Bool, true, false, not, List, [], ◌∷◌, ◌++◌, ℕ, ◌≤◌, ◌<◌, ltb, eqb, length, Ok, Err}
use Rattle.refusal.specs.Refusals.{numbered, gives, refuses, refuses_at, refused, Line, ◌when◌, ◌at_place◌when◌, first}
use Rattle.refusal.specs.declared.Refusal.{Refusal}
use Rattle.refusal.specs.OrdersLaws.{stopped_first}
use Rattle.rows.specs.Limits.{table_rows}
use Rattle.sheet_text.specs.Limits.{sheet_numbers}
use Rattle.sheet_text.specs.Text.{sheet_text, Numbers, IsSheet}
use Rattle.sheet.specs.OneOutcome.{one_read_sheet}
use Rattle.sheet.specs.Answers.{paper_sheet, Form, sheet_of, no_sheet, breaks, bad_row_of, numbers_of, SheetRead, sheet_lines, judge_told, SheetAnswer}
use Rattle.sheet.specs.Sheet.{first_bad_row, Accepted}
use Rattle.sheet.specs.SheetLaws.{no_bad_row_lem, rows_before}

-- ---- a text is read as a list exactly where it is the sheet of that list
pub read_of_sheet : {before later : List ℕ} {a : SheetAnswer} (numbers : List ℕ) → Numbers numbers → length before ≡ sheet_numbers
    → SheetRead (sheet_text numbers) before a later → (a ≡ Ok tt) × (later ≡ numbers)
read_of_sheet {before} numbers g n p =
    one_read_sheet p (record { form = sheet_of numbers (record { good = g; is = refl }); told = rw (eq-eqb (length before) sheet_numbers n) refl; list = refl })

pub sheet_of_read : {text before later : List ℕ} → SheetRead text before (Ok tt) later → (length before ≡ sheet_numbers) × IsSheet text later
sheet_of_read {text} {before} {later} p = go (eqb (length before) sheet_numbers) p.form refl p.told p.list
  where
    go : (x : Bool) (f : Form text) → eqb (length before) sheet_numbers ≡ x
        → gives tt ≡ first (1 when not x ∷ 2 at_place bad_row_of f when breaks f ∷ []) (tt {0}) → later ≡ numbers_of f
        → (length before ≡ sheet_numbers) × IsSheet text later
    go false f q e l = absurd cc
    go true (no_sheet r b) q e l = absurd cc
    go true (sheet_of numbers h) q e l = (eqb-true _ _ q, rw l h)

-- ---- the judge of a list
pub told_length : (s : List ℕ) → (length s ≡ sheet_numbers → ⊥) → judge_told s ≡ refuses 1
told_length s n = rw (ne_eqb (length s) sheet_numbers n) refl

pub told_row : (s : List ℕ) (r : ℕ) → length s ≡ sheet_numbers → first_bad_row s ≡ r → r < table_rows → judge_told s ≡ refuses_at 3 r
told_row s r n e h = rw (eq-eqb (length s) sheet_numbers n, e, lt-ltb r table_rows h) refl

pub told_good : (s : List ℕ) → length s ≡ sheet_numbers → table_rows ≤ first_bad_row s → judge_told s ≡ gives tt
told_good s n h = rw (eq-eqb (length s) sheet_numbers n, le-ltb (first_bad_row s) table_rows h) refl

-- good exactly where the list is an accepted sheet
pub told_of_accepted : {s : List ℕ} → Accepted s → judge_told s ≡ gives tt
told_of_accepted {s} a = told_good s a.long (omega (arith, no_bad_row_lem s a.no_bad_row))

pub accepted_of_told : (s : List ℕ) → judge_told s ≡ gives tt → Accepted s
accepted_of_told s e = go (eqb (length s) sheet_numbers) (ltb (first_bad_row s) table_rows) refl refl e
  where
    go : (x y : Bool) → eqb (length s) sheet_numbers ≡ x → ltb (first_bad_row s) table_rows ≡ y → first (1 when not x ∷ 3 at_place first_bad_row s when y ∷ []) (tt {0}) ≡ gives tt → Accepted s
    go false y p q e = absurd cc
    go true true p q e = absurd cc
    go true false p q e = record { long = eqb-true _ _ p; no_bad_row = λ r h. rows_before s r (omega (arith, ltb-false (first_bad_row s) table_rows q)) }

-- ---- a call that takes a sheet list tells the sheet's refusal first, and goes on where the sheet is accepted
pub past_sheet : {A : Type 0} {s : List ℕ} (ls : List Line) (a : A) → Accepted s → first (sheet_lines s ++ ls) a ≡ first ls a
past_sheet {s} ls a h = rw (eq-eqb (length s) sheet_numbers h.long, no_bad_row_lem s h.no_bad_row) refl

pub stopped_by_sheet : {A : Type 0} (s : List ℕ) (r : Refusal) (ls : List Line) (a : A) → paper_sheet (Err r) ≡ judge_told s → first (sheet_lines s ++ ls) a ≡ refused (numbered r)
stopped_by_sheet s r ls a e = sym (stopped_first (sheet_lines s) ls tt a (numbered r) e)

-- and by the judge's own answer: a good one accepts, a refused one is told first
pub good_accepted : {a : SheetAnswer} (s : List ℕ) → paper_sheet a ≡ judge_told s → a ≡ Ok tt → Accepted s
good_accepted s e g = accepted_of_told s (sym e ∙ ap paper_sheet g)

pub refused_first : {A : Type 0} {a : SheetAnswer} {r : Refusal} (s : List ℕ) (ls : List Line) (x : A) → paper_sheet a ≡ judge_told s → a ≡ Err r → refused (numbered r) ≡ first (sheet_lines s ++ ls) x
refused_first {r} s ls x e g = sym (stopped_by_sheet s r ls x (ap paper_sheet (sym g) ∙ e))
