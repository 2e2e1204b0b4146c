-- A sheet that has come in pieces has one verdict, that of the pieces joined (`verdict_of`, `one_verdict`); where it is good, what is written of the list is the text
-- (`written_as_read`); and a carriage return that decides is the byte after which no good sheet can follow (`return_decides`). Assumes nothing.
use Rattle.std.specs.Prelude.{List, [], ◌∷◌, ◌++◌, Bool, true, false, ◌≡◌, refl, ℕ, length, Ok, Err}
use Rattle.std.proofs.Common.{sym, ◌∙◌, subst, arith}
use Rattle.refusal.specs.Refusals.{gives, ◌when◌, ◌at_place◌when◌, first}
use Rattle.sheet_text.specs.Limits.{sheet_numbers}
use Rattle.sheet.specs.Sheet.{not_long}
use Rattle.sheet.specs.Answers.{SheetAnswer, paper_sheet, Form, sheet_of, no_sheet, numbers_of, read_told, judge_told}
use Rattle.sheet.specs.FormLaws.{one_form}
use Rattle.sheet.specs.OneOutcome.{one_answer, one_judge_sheet}
use Rattle.text.specs.WholesLaws.{and_left}
use Rattle.sheet_text.specs.Text.{Begins}
use Rattle.sheet.specs.Pieces.{opened, after_piece, closed, Calls, Came, PiecesRead}
use Rattle.sheet.specs.PiecesLaws.{calls_more, closed_told_lem, closed_reads, piece_read, piece_length, more_follows, refused_decided, return_refused}
use Rattle.sheet.specs.declared.pieces.SheetReading.{SheetReading}
use Rattle.sheet.specs.declared.pieces.SheetReading.TheVariants.{Going, Refused as ReadingRefused, Accepted as ReadingAccepted}
use Rattle.console.specs.Answers.{JudgedAfter, Verdict}
use Rattle.forms.specs.Sheets.{written_page, goes_on, before_return, returned}

-- the verdict after the close is the verdict on the text that has come
pub verdict_of : {before s-list : List ℕ} {s : SheetReading} {v : SheetAnswer} → length before ≡ sheet_numbers → length s-list ≡ sheet_numbers → (c : Came before s s-list)
    → JudgedAfter (closed s).answer v s-list → Verdict c.text before v s-list
verdict_of {s-list = l} {s = s} h n c j = record { read = (closed s).answer; reading = closed_reads h c.calls (closed_told_lem s l n); judged = j }

-- the answers of two readings of a text are one, and so are their lists where it is a sheet
same_read : {text before list later : List ℕ} {a b : SheetAnswer} → PiecesRead text before a list → PiecesRead text before b later → (a ≡ b) × (a ≡ Ok tt → list ≡ later)
same_read {text} {before} {list} {later} {a} {b} p q =
    let o = one_form p.form q.form in
    let l : read_told before p.form ≡ read_told before q.form = rw (o.breaks_same, o.row_same) refl in
    let e : a ≡ b = one_answer a b (p.told ∙ (l ∙ sym q.told)) in
    (e, λ g. p.whole g ∙ (o.numbers_same ∙ sym (q.whole (sym e ∙ g))))

pub one_verdict : {text before list later : List ℕ} {a b : SheetAnswer} → Verdict text before a list → Verdict text before b later → a ≡ b
one_verdict {text} {before} {list} {later} {a} {b} p q = let e = same_read p.reading q.reading in go p.read q.read e.0 e.1 p.judged q.judged
  where
    same : (x : SheetAnswer) → (x ≡ Ok tt → list ≡ later) → JudgedAfter x a list → JudgedAfter x b later → a ≡ b
    same (Ok u) l m n = one_judge_sheet later a b (subst (λ (s : List ℕ). paper_sheet a ≡ judge_told s) (l refl) m) n
    same (Err r) l m n = m ∙ sym n

    go : (x y : SheetAnswer) → x ≡ y → (x ≡ Ok tt → list ≡ later) → JudgedAfter x a list → JudgedAfter y b later → a ≡ b
    go x y e l m n = same x l m (subst (λ (z : SheetAnswer). JudgedAfter z b later) (sym e) n)

-- `keys write --sheet FILE` prints the file
pub written_as_read : {text before s : List ℕ} → Verdict text before (Ok tt) s → written_page (Ok tt) s ≡ text
written_as_read {text} {before} {s} v = go v.read v.reading v.judged
  where
    never : (z : Bool) (row : ℕ) → gives tt ≡ first (1 when z ∷ 2 at_place row when true ∷ []) (tt {0}) → written_page (Ok tt) s ≡ text
    never true row t = absurd (let z : ◌≡◌ {A = ℕ} 0 1 = cc in omega arith)
    never false row t = absurd (let z : ◌≡◌ {A = ℕ} 0 1 = cc in omega arith)

    whole : (f : Form text) → s ≡ numbers_of f → paper_sheet (Ok tt) ≡ read_told before f → written_page (Ok tt) s ≡ text
    whole (sheet_of numbers h) e t = rw e (sym h.is)
    whole (no_sheet row b) e t = never (not_long before) row t

    go : (r : SheetAnswer) → PiecesRead text before r s → JudgedAfter r (Ok tt) s → written_page (Ok tt) s ≡ text
    go (Ok u) p j = whole p.form (p.whole refl) p.told
    go (Err r) p j = absurd (let z : ◌≡◌ {A = ℕ} 0 1 = cc in omega arith)

-- a carriage return decides: up to it a good sheet can follow, and with it none can
pub return_decides : {text before list : List ℕ} {s : SheetReading} (xs : List ℕ) → length before ≡ sheet_numbers → length list ≡ sheet_numbers → Calls opened before text s list
    → returned s xs list ≡ true → Begins (text ++ before_return xs) × (Begins ((text ++ before_return xs) ++ (13 ∷ [])) → ⊥)
return_decides {text} {before} {list} {s} xs h n c e =
    go (after_piece s (before_return xs) list).reading (after_piece s (before_return xs) list).list (and_left _ _ e) (piece_length (before_return xs) s list ∙ n)
    (calls_more c (piece_read s (before_return xs) list n refl refl))
  where
    go : (t : SheetReading) (m : List ℕ) → goes_on t ≡ true → length m ≡ sheet_numbers → Calls opened before (text ++ before_return xs) t m
        → Begins (text ++ before_return xs) × (Begins ((text ++ before_return xs) ++ (13 ∷ [])) → ⊥)
    go (Going p) m w k d =
        let r = calls_more d (piece_read (Going p) (13 ∷ []) m k refl refl) in
        ((more_follows h d).0, (refused_decided h (rw (return_refused p m) at r)).1)
    go (ReadingRefused r) m w k d = absurd (let z : ◌≡◌ {A = ℕ} 0 1 = cc in omega arith)
    go ReadingAccepted m w k d = absurd (let z : ◌≡◌ {A = ℕ} 0 1 = cc in omega arith)
