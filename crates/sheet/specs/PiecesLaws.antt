-- A sheet that comes in pieces: whatever the cutting, and whatever lists of a wrong length are lent in between, the close answers as `read_sheet` does on the pieces joined
-- (`cut_as_you_like`); more is expected exactly while a good sheet can follow; and what is over stays. Assumes nothing.
use Rattle.std.proofs.Common.{eqb-true, ltb-true, eq-eqb, ne_eqb, sym, ◌∙◌, ap, ap₂, subst, append-nil, append_assoc, arith}
use Rattle.std.specs.Prelude.{◌≡◌, refl, Bool, true, false, cond, List, [], ◌∷◌, ◌++◌, ℕ, ◌≤◌, ltb, eqb, length, Result, Ok, Err}
use Rattle.rows.specs.Limits.{table_rows}
use Rattle.text.specs.Fold.{run}
use Rattle.text.specs.FoldLaws.{run_append}
use Rattle.text.specs.Wholes.{is_digit}
use Rattle.refusal.specs.Refusals.{first, ◌when◌, ◌at_place◌when◌}
use Rattle.refusal.specs.declared.Refusal.{Refusal}
use Rattle.refusal.specs.declared.Refusal.TheVariants.{Form, ListLength}
use Rattle.sheet_text.specs.Limits.{sheet_numbers}
use Rattle.sheet_text.specs.Text.{sheet_text, Numbers, Begins, feeds, FirstBad, RowsIn}
use Rattle.sheet_text.specs.Machine.{start, with_digit, after, step_place, step, row_of, whole_sheet, ends_row, stored_place, stored, Filled, filled, fill_byte, State}
use Rattle.sheet_text.specs.HeldLaws.{sound, same_state}
use Rattle.sheet_text.specs.RowsLaws.{rows_in}
use Rattle.sheet_text.specs.MachineLaws.{length_stored, other_dies, row_start, view, View, dies, digit, ends}
use Rattle.sheet_text.specs.WholeLaws.{complete}
use Rattle.sheet_text.specs.FirstBadLaws.{not_whole_bad, going_begins, bad_not_begins, feeds_at}
use Rattle.sheet_text.specs.declared.Place.{Place}
use Rattle.sheet.specs.declared.pieces.SheetReading.{SheetReading}
use Rattle.sheet.specs.declared.pieces.SheetReading.TheVariants.{Going, Refused, Accepted}
use Rattle.sheet.specs.declared.pieces.Progress.{Progress}
use Rattle.sheet.specs.declared.pieces.Taken.{Taken}
use Rattle.sheet.specs.declared.pieces.Closed.{Closed}
use Rattle.sheet.specs.Sheet.{not_long}
use Rattle.sheet.specs.Answers.{paper_sheet, sheet_of, no_sheet, numbers_of, read_told, list_after, SheetRead, SheetAnswer}
use Rattle.sheet.specs.OneOutcome.{one_answer, one_piece_answer, one_close_reading}
use Rattle.sheet.specs.FormLaws.{one_form}
use Rattle.sheet.specs.Pieces.{reading_of, opened, Standing, standing, on_byte, with_byte, after_piece, after_close, is_refused, row_refused, piece_lines, progress, paper_piece}
use Rattle.sheet.specs.Pieces.{PieceRead, ReadingClosed, answer_of, refused_at, accepted_closed, closed, Calls, none, piece, astray, astray_close, Came, rows_told, PiecesRead}

-- ---- the one machine: what `fill_byte` makes of a text is where a reading comes to
machine_run : (xs : List ℕ) (s : State) (l : List ℕ)
    → run with_byte (standing (reading_of s) l) xs ≡ standing (reading_of (run fill_byte (filled s l) xs).state) (run fill_byte (filled s l) xs).list
machine_run [] s l = refl
machine_run (b ∷ xs) (Ok p) l = machine_run xs (step (Ok p) b) (stored (Ok p) b l)
machine_run (b ∷ xs) (Err r) l = machine_run xs (Err r) l

pub fills : {s : State} {m : List ℕ} (p : Place) (xs l : List ℕ) → filled s m ≡ run fill_byte (filled (Ok p) l) xs → standing (reading_of s) m ≡ after_piece (Going p) xs l
fills p xs l e = ap (λ (x : Filled). standing (reading_of x.state) x.list) e ∙ sym (machine_run xs (Ok p) l)

-- ---- what is over stays
pub refused_stays : (r : ℕ) (xs l : List ℕ) → after_piece (Refused r) xs l ≡ standing (Refused r) l
refused_stays r [] l = refl
refused_stays r (b ∷ xs) l = refused_stays r xs l

pub accepted_stays : (xs l : List ℕ) → after_piece Accepted xs l ≡ standing Accepted l
accepted_stays [] l = refl
accepted_stays (b ∷ xs) l = accepted_stays xs l

-- ---- the answers, as the order tells them
-- what a reading answers is what the order tells
pub told_of : (t : SheetReading) (l : List ℕ) → length l ≡ sheet_numbers → paper_piece (answer_of t) ≡ first (piece_lines l t) (progress t)
told_of (Going p) l n = rw (eq-eqb (length l) sheet_numbers n) refl
told_of (Refused r) l n = rw (eq-eqb (length l) sheet_numbers n) refl
told_of Accepted l n = rw (eq-eqb (length l) sheet_numbers n) refl

pub piece_read : (s : SheetReading) (xs l : List ℕ) {t : SheetReading} {m : List ℕ} {a : Result Progress Refusal} → length l ≡ sheet_numbers → standing t m ≡ after_piece s xs l → a ≡ answer_of t
    → PieceRead s xs l (record { reading = t; answer = a }) m
piece_read s xs l {t} {m} n e q =
    let r : t ≡ (after_piece s xs l).reading = ap (λ (x : Standing). x.reading) e in
    let h = eq-eqb (length l) sheet_numbers n in
    record {
      told = ap paper_piece q ∙ (told_of t l n ∙ ap (λ (x : SheetReading). first (piece_lines l x) (progress x)) r);
      reading = rw h r;
      list = rw h (ap (λ (x : Standing). x.list) e);
    }

-- the answer and the reading of a close that finds all rows read, or not
ended : (z : Bool) (r : ℕ) (l : List ℕ) → length l ≡ sheet_numbers
    → (paper_sheet (cond {A = Closed} z accepted_closed (refused_at r)).answer ≡ first (piece_lines l (cond z Accepted (Refused r))) tt)
    × ((cond {A = Closed} z accepted_closed (refused_at r)).reading ≡ cond (not_long l) (Refused r) (cond z Accepted (Refused r)))
ended true r l n = let h = eq-eqb (length l) sheet_numbers n in (rw h refl, rw h refl)
ended false r l n = let h = eq-eqb (length l) sheet_numbers n in (rw h refl, rw h refl)

pub closed_told_lem : (s : SheetReading) (l : List ℕ) → length l ≡ sheet_numbers → ReadingClosed s l (closed s)
closed_told_lem (Going p) l n =
    let e = ended (eqb p.row table_rows) p.row l n in
    let h = eq-eqb (length l) sheet_numbers n in
    record { told = e.0; reading = rw h (rw h at e.1) }
closed_told_lem (Refused r) l n = let h = eq-eqb (length l) sheet_numbers n in record { told = rw h refl; reading = rw h refl }
closed_told_lem Accepted l n = let h = eq-eqb (length l) sheet_numbers n in record { told = rw h refl; reading = rw h refl }

-- ---- the law of joining: the calls of a reading come to what one piece comes to that is all of them joined; a list of a wrong length in between changes nothing
pub piece_length : (xs : List ℕ) (s : SheetReading) (l : List ℕ) → length (after_piece s xs l).list ≡ length l
piece_length [] s l = refl
piece_length (b ∷ xs) (Going p) l = piece_length xs (on_byte (Going p) l b).reading (on_byte (Going p) l b).list ∙ length_stored (Ok p) b l
piece_length (b ∷ xs) (Refused r) l = piece_length xs (Refused r) l
piece_length (b ∷ xs) Accepted l = piece_length xs Accepted l

-- a piece that was lent the list
after_is : {s : SheetReading} {xs l m : List ℕ} {r : Taken} → length l ≡ sheet_numbers → PieceRead s xs l r m → after_piece s xs l ≡ standing r.reading m
after_is {s} {xs} {l} {m} {r} h p =
    let e = eq-eqb (length l) sheet_numbers h in
    let q : r.reading ≡ (after_piece s xs l).reading = rw e at p.reading in
    let w : m ≡ (after_piece s xs l).list = rw e at p.list in
    sym (ap₂ standing q w)

pub joined : {s t : SheetReading} {l xs k : List ℕ} → Calls s l xs t k → length l ≡ sheet_numbers → after_piece s xs l ≡ standing t k
joined none h = refl
joined {s} {l = l} (piece {m = m} {p = p} {rest = rest} c cs) h =
    let e = after_is h c in
    let n : length m ≡ sheet_numbers = ap (λ (x : Standing). length x.list) (sym e) ∙ (piece_length p s l ∙ h) in
    run_append with_byte (standing s l) p rest ∙ (ap (λ (x : Standing). run with_byte x rest) e ∙ joined cs n)
joined {t = t} {l = l} {xs = xs} {k = k} (astray q c cs) h = subst (λ (x : SheetReading). after_piece x xs l ≡ standing t k) (rw q at c.reading) (joined cs h)
joined {t = t} {l = l} {xs = xs} {k = k} (astray_close q c cs) h = subst (λ (x : SheetReading). after_piece x xs l ≡ standing t k) (rw q at c.reading) (joined cs h)

-- one piece more
pub calls_more : {s t : SheetReading} {l k xs p m : List ℕ} {r : Taken} → Calls s l xs t k → PieceRead t p k r m → Calls s l (xs ++ p) r.reading m
calls_more {s} {l = l} {p = p} {m = m} {r = r} none c = subst (λ (x : List ℕ). Calls s l x r.reading m) (append-nil p) (piece c none)
calls_more {s} {l = l} {p = p} {m = m} {r = r} (piece {p = q} {rest = rest} a cs) c = subst (λ (x : List ℕ). Calls s l x r.reading m) (sym (append_assoc q rest p)) (piece a (calls_more cs c))
calls_more (astray e a cs) c = astray e a (calls_more cs c)
calls_more (astray_close e a cs) c = astray_close e a (calls_more cs c)

pub came_more : {before l p m : List ℕ} {s : SheetReading} {r : Taken} → Came before s l → PieceRead s p l r m → Came before r.reading m
came_more x c = record { text = _; calls = calls_more x.calls c }

-- ---- so a reading that was opened stands where the machine stands after the text that has come
module _ {text before list : List ℕ} {s : SheetReading} (h : length before ≡ sheet_numbers) (c : Calls opened before text s list) where
  stands : standing s list ≡ standing (reading_of (run step start text)) (run fill_byte (filled start before) text).list
  stands = sym (joined c h) ∙ (machine_run text start before ∙ ap (λ (x : State). standing (reading_of x) (run fill_byte (filled start before) text).list) (same_state text start before))

  reading_is : s ≡ reading_of (run step start text)
  reading_is = ap (λ (x : Standing). x.reading) stands

  list_is : list ≡ (run fill_byte (filled start before) text).list
  list_is = ap (λ (x : Standing). x.list) stands

  list_long : length list ≡ sheet_numbers
  list_long = ap (λ (x : Standing). length x.list) (sym (joined c h)) ∙ (piece_length text opened before ∙ h)

  rows_are : RowsIn text before (row_of (run step start text)) list
  rows_are = subst (λ (x : List ℕ). RowsIn text before (row_of (run step start text)) x) (sym list_is) (rows_in text before h)

-- more is expected exactly while a good sheet can follow, and every row whose line feed has come stands in the list
pub more_follows : {text before list : List ℕ} {p : Place} → length before ≡ sheet_numbers → Calls opened before text (Going p) list → Begins text × RowsIn text before (feeds text) list
more_follows {text} {before} {list} {p} h c = go (run step start text) refl (reading_is h c) (rows_are h c)
  where
    go : (x : State) → run step start text ≡ x → Going p ≡ reading_of x → RowsIn text before (row_of (run step start text)) list → Begins text × RowsIn text before (feeds text) list
    go (Ok q) e w i = (going_begins text q e, rw (feeds_at text q e, sym (ap row_of e)) i)
    go (Err r) e w i = absurd cc

-- refusal 2 comes with the byte after which none can, for the row that the byte stands in
pub refused_decided : {text before list : List ℕ} {r : ℕ} → length before ≡ sheet_numbers → Calls opened before text (Refused r) list
    → FirstBad text r × (Begins text → ⊥) × RowsIn text before r list
refused_decided {text} {before} {list} {r} h c = go (run step start text) refl (reading_is h c) (rows_are h c)
  where
    go : (x : State) → run step start text ≡ x → Refused r ≡ reading_of x → RowsIn text before (row_of (run step start text)) list → FirstBad text r × (Begins text → ⊥) × RowsIn text before r list
    go (Ok q) e w i = absurd cc
    go (Err k) e w i =
        let q : row_of (run step start text) ≡ r = ap row_of e ∙ sym (ap row_refused w) in
        (rw q at (not_whole_bad text (ap whole_sheet e)), bad_not_begins text k e, rw q at i)

-- a text that is read whole stands behind the last row
whole_row : (x : State) → whole_sheet x ≡ true → row_of x ≡ table_rows
whole_row (Ok p) e = eqb-true _ _ e
whole_row (Err r) e = absurd cc

-- ---- and the close answers as `read_sheet` does on the text joined
closes : (x : State) → after_close (reading_of x) ≡ cond (whole_sheet x) Accepted (Refused (row_of x))
closes (Ok p) = refl
closes (Err r) = refl

pub closed_reads : {text before list : List ℕ} {s : SheetReading} {r : Closed} → length before ≡ sheet_numbers → Calls opened before text s list → ReadingClosed s list r
    → PiecesRead text before r.answer list
closed_reads {text} {before} {list} {s} {r} h c d = go (whole_sheet (run step start text)) refl
  where
    ends : (z : Bool) → whole_sheet (run step start text) ≡ z → after_close s ≡ cond z Accepted (Refused (row_of (run step start text)))
    ends z e = ap after_close (reading_is h c) ∙ (closes (run step start text) ∙ ap (λ (y : Bool). cond y Accepted (Refused (row_of (run step start text)))) e)

    told_is : (z : Bool) → whole_sheet (run step start text) ≡ z → paper_sheet r.answer ≡ first (piece_lines list (cond z Accepted (Refused (row_of (run step start text))))) tt
    told_is z e = d.told ∙ ap (λ (x : SheetReading). first (piece_lines list x) tt) (ends z e)

    go : (z : Bool) → whole_sheet (run step start text) ≡ z → PiecesRead text before r.answer list
    go true e =
        let l = eq-eqb (length list) sheet_numbers (list_long h c) in
        let b = eq-eqb (length before) sheet_numbers h in
        let a : r.answer ≡ Ok tt = one_answer r.answer (Ok tt) (rw l at (told_is true e)) in
        record {
          form = sheet_of list (rw (sym (list_is h c)) at (sound text before h e));
          told = rw (a, b) refl;
          rows = rw (a, sym (whole_row (run step start text) e)) (rows_are h c);
          whole = λ q. refl;
        }
    go false e =
        let l = eq-eqb (length list) sheet_numbers (list_long h c) in
        let b = eq-eqb (length before) sheet_numbers h in
        let a : r.answer ≡ Err (Form (row_of (run step start text))) = one_answer r.answer (Err (Form (row_of (run step start text)))) (rw l at (told_is false e)) in
        record {
          form = no_sheet (row_of (run step start text)) (not_whole_bad text e);
          told = rw (a, b) refl;
          rows = rw a (rows_are h c);
          whole = λ q. absurd (let w : Ok tt ≡ Err (Form (row_of (run step start text))) = sym q ∙ a in cc);
        }

-- for every list of pieces, whatever lists of a wrong length were lent in between: the answer at the close is that of `read_sheet` on the pieces joined, number and row included,
-- and the list holds the rows before the bad one, all where it is accepted, over what it held at first
pub cut_as_you_like : {text before list read : List ℕ} {s : SheetReading} {r : Closed} {a : SheetAnswer} → length before ≡ sheet_numbers
    → Calls opened before text s list → ReadingClosed s list r → SheetRead text before a read
    → (r.answer ≡ a) × RowsIn text before (rows_told a) list × (a ≡ Ok tt → list ≡ read)
cut_as_you_like {text} {before} {list} {read} {s} {r} {a} h c d p =
    let q = closed_reads h c d in
    let o = one_form q.form p.form in
    let l : read_told before q.form ≡ read_told before p.form = rw (o.breaks_same, o.row_same) refl in
    let e : r.answer ≡ a = one_answer r.answer a (q.told ∙ (l ∙ sym p.told)) in (
      e,
      rw e at q.rows,
      λ g. q.whole (e ∙ g) ∙ (o.numbers_same ∙ sym (p.list ∙ ap (λ (x : SheetAnswer). list_after x (numbers_of p.form) before) g)),
    )

-- a carriage return is refused wherever it stands
pub return_refused : (p : Place) (l : List ℕ) → (after_piece (Going p) (13 ∷ []) l).reading ≡ Refused p.row
unfolding is_digit
return_refused p l = ap reading_of (other_dies p 13 refl (omega arith) (omega arith))

-- ---- refusal 1 changes nothing, and the reading goes on as if the call had not been
pub wrong_list : {s : SheetReading} {xs l m : List ℕ} {r : Taken} → (length l ≡ sheet_numbers → ⊥) → PieceRead s xs l r m → (r.reading ≡ s) × (r.answer ≡ Err ListLength) × (m ≡ l)
wrong_list {l = l} {r = r} n p =
    let e = ne_eqb (length l) sheet_numbers n in
    (rw e at p.reading, one_piece_answer r.answer (Err ListLength) (rw e at p.told) refl, rw e at p.list)

pub wrong_list_closed : {s : SheetReading} {l : List ℕ} {r : Closed} → (length l ≡ sheet_numbers → ⊥) → ReadingClosed s l r → (r.reading ≡ s) × (r.answer ≡ Err ListLength)
wrong_list_closed {l = l} {r = r} n p =
    let e = ne_eqb (length l) sheet_numbers n in
    (rw e at p.reading, one_answer r.answer (Err ListLength) (rw e at p.told))

closed_twice : (s : SheetReading) → closed (closed s).reading ≡ closed s
closed_twice (Going p) = go (eqb p.row table_rows)
  where
    go : (z : Bool) → closed (cond {A = Closed} z accepted_closed (refused_at p.row)).reading ≡ cond z accepted_closed (refused_at p.row)
    go true = refl
    go false = refl
closed_twice (Refused r) = refl
closed_twice Accepted = refl

-- ---- after refusal 2 or a close every call with a list of the right length changes nothing and repeats the answer
module _ {l : List ℕ} (h : length l ≡ sheet_numbers) where
  pub refused_repeats : {xs m : List ℕ} {k : ℕ} {r : Taken} → PieceRead (Refused k) xs l r m → (r.reading ≡ Refused k) × (r.answer ≡ Err (Form k)) × (m ≡ l)
  refused_repeats {xs} {m} {k} {r} p =
      let e = eq-eqb (length l) sheet_numbers h in
      let q = refused_stays k xs l in
      (rw (e, q) at p.reading, one_piece_answer r.answer (Err (Form k)) (rw (e, q) at p.told) refl, rw (e, q) at p.list)

  pub accepted_repeats : {xs m : List ℕ} {r : Taken} → PieceRead Accepted xs l r m → (r.reading ≡ Accepted) × (r.answer ≡ Ok Progress.Accepted) × (m ≡ l)
  accepted_repeats {xs} {m} {r} p =
      let e = eq-eqb (length l) sheet_numbers h in
      let q = accepted_stays xs l in
      (rw (e, q) at p.reading, one_piece_answer r.answer (Ok Progress.Accepted) (rw (e, q) at p.told) refl, rw (e, q) at p.list)

  pub refused_closed : {k : ℕ} {r : Closed} → ReadingClosed (Refused k) l r → (r.reading ≡ Refused k) × (r.answer ≡ Err (Form k))
  refused_closed {k} {r} p =
      let e = eq-eqb (length l) sheet_numbers h in
      (rw e at p.reading, one_answer r.answer (Err (Form k)) (rw e at p.told))

  pub accepted_closed_lem : {r : Closed} → ReadingClosed Accepted l r → (r.reading ≡ Accepted) × (r.answer ≡ Ok tt)
  accepted_closed_lem {r} p =
      let e = eq-eqb (length l) sheet_numbers h in
      (rw e at p.reading, one_answer r.answer (Ok tt) (rw e at p.told))

  -- the close itself leaves a reading that is over, with the answer that it gave
  pub close_ends : {s : SheetReading} {r : Closed} → ReadingClosed s l r → r ≡ closed r.reading
  close_ends {s} {r} p =
      let e : r ≡ closed s = one_close_reading p (closed_told_lem s l h) in
      e ∙ (sym (closed_twice s) ∙ ap (λ (x : Closed). closed x.reading) (sym e))

  -- and so does a piece that is refused with 2
  pub refusal_ends : {s : SheetReading} {xs m : List ℕ} {k : ℕ} {r : Taken} → PieceRead s xs l r m → r.answer ≡ Err (Form k) → r.reading ≡ Refused k
  refusal_ends {s} {xs} {m} {k} {r} p q =
      let e = eq-eqb (length l) sheet_numbers h in
      (rw e at p.reading) ∙ told_refused (after_piece s xs l).reading (sym (ap paper_piece q) ∙ (rw e at p.told))
    where
      told_refused : (t : SheetReading) → paper_piece (Err (Form k)) ≡ first (2 at_place row_refused t when is_refused t ∷ []) (progress t) → t ≡ Refused k
      told_refused (Going x) w = absurd cc
      told_refused (Refused j) w = cc
      told_refused Accepted w = absurd cc

-- ---- the ends of a reading: closed where nothing has come it is refused at row 0, an empty piece expects more, and so does a whole sheet until the close; a byte past it is
-- refused at row 1,801, with all rows in the list
pub closed_at_once : closed opened ≡ refused_at 0
closed_at_once = refl

pub empty_first : (l : List ℕ) → after_piece opened [] l ≡ standing opened l
empty_first l = refl

pub whole_expects_more : (numbers l : List ℕ) → Numbers numbers → length l ≡ sheet_numbers → after_piece opened (sheet_text numbers) l ≡ standing (reading_of (row_start table_rows)) numbers
whole_expects_more numbers l g h = machine_run (sheet_text numbers) start l ∙ ap (λ (x : Filled). standing (reading_of x.state) x.list) (complete numbers l g h)

pub past_the_end : (numbers l : List ℕ) (b : ℕ) (rest : List ℕ) → Numbers numbers → length l ≡ sheet_numbers
    → after_piece opened (sheet_text numbers ++ (b ∷ rest)) l ≡ standing (Refused table_rows) numbers
unfolding step_place stored_place ends_row
past_the_end numbers l b rest g h =
    run_append with_byte (standing opened l) (sheet_text numbers) (b ∷ rest)
    ∙ (ap (λ (x : Standing). run with_byte x (b ∷ rest)) (whole_expects_more numbers l g h) ∙ refused_stays table_rows rest numbers)

-- ---- a reading that was opened stands in one of a row's four fields, so that its numbers come back from C as they went
abbrev pub InField : SheetReading → Type 0
InField (Going p) = p.field ≤ 3
InField (Refused r) = Unit {0}
InField Accepted = Unit {0}

after_in : (p : Place) → (after p).field ≤ 3
unfolding after
after_in p = go (ltb p.field 3) refl
  where
    go : (z : Bool) → ltb p.field 3 ≡ z → (after p).field ≤ 3
    go true e = let h = ltb-true p.field 3 e in simp e (omega arith)
    go false e = simp e (omega arith)

step_in : (p : Place) (b : ℕ) (l : List ℕ) → p.field ≤ 3 → InField (reading_of (step_place p b))
unfolding with_digit
step_in p b l h = go (view p b l)
  where
    go : {x : State} {m : List ℕ} → View p b l x m → InField (reading_of x)
    go dies = tt
    go (digit d e hd k t) = h
    go (ends k e) = after_in p

pub pieces_in : (xs : List ℕ) (s : SheetReading) (l : List ℕ) → InField s → InField (after_piece s xs l).reading
pieces_in [] s l h = h
pieces_in (b ∷ xs) (Going p) l h = pieces_in xs (on_byte (Going p) l b).reading (on_byte (Going p) l b).list (step_in p b l h)
pieces_in (b ∷ xs) (Refused r) l h = pieces_in xs (Refused r) l h
pieces_in (b ∷ xs) Accepted l h = pieces_in xs Accepted l h

pub opened_in : InField opened
opened_in = omega arith
