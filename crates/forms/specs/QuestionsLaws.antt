-- The lines of a question taken one after the other are its question, whose walk is that of its numbers. Assumes nothing.
use Rattle.std.specs.Prelude.{ℕ, suc, ◌+◌, ◌*◌, ◌-◌, ◌<◌, ◌≤◌, min, Bool, true, false, cond, List, [], ◌∷◌, ◌++◌, ◌≡◌, refl, ℤ, pos, length, get_or, Ok, Err, Result}
use Rattle.std.proofs.Common.{sym, ap, ◌∙◌, arith, lt-ltb, le-ltb, le-leb, lit<, length-append}
use Rattle.std.proofs.Math.Decide.{dec_lt}
use Rattle.std.proofs.lemmas.List.Edits.{sets}
use Rattle.std.proofs.Math.Seq.{length-sets}
use Rattle.text.specs.PutLaws.{sets_append, sets_past}
use Rattle.fields.specs.Fields.{holds_return, fields_of, fields_from, values_of}
use Rattle.fields.specs.FieldsLaws.{count_exactly}
use Rattle.burning.specs.Burning.{charge_numbers}
use Rattle.burning.specs.BurningLaws.{charge_alike}
use Rattle.refusal.specs.declared.Refusal.{Refusal}
use Rattle.sheet.specs.Answers.{SheetAnswer}
use Rattle.walk.specs.Limits.{step_numbers}
use Rattle.walk.specs.declared.Course.{Course as CourseBack}
use Rattle.walk.specs.Walk.{course, paper_walk}
use Rattle.console.specs.Walks.{printed_walk}
use Rattle.console.specs.WalksLaws.{kept_first, steps_alike}
use Rattle.forms.specs.Limits.{kept_lines, kept_numbers, most_counted}
use Rattle.forms.specs.declared.questions.BadLine.{BadLine}
use Rattle.forms.specs.declared.questions.BadLine.TheVariants.{Numbers, Returned}
use Rattle.forms.specs.Pages.{refusal_note}
use Rattle.forms.specs.Questions.{is_line, numbers_in, read_from, walk_in, walk_page, page_note}
use Rattle.forms.specs.inner.Taking.{one_more, kept_line, question_told, with_lines, numbers_after}

stays_bad : (bad : BadLine) (lines : List (List ℕ)) → with_lines (Err bad) lines ≡ Err bad
stays_bad bad [] = refl
stays_bad bad (line ∷ lines) = stays_bad bad lines

one_more_lem : (k : ℕ) → k < most_counted → one_more k ≡ suc k
one_more_lem k h = omega arith

-- lines that no count overruns
pub lines_read : (k : ℕ) (lines : List (List ℕ)) → k + length lines ≤ most_counted → with_lines (Ok k) lines ≡ read_from k lines
lines_read k [] h = refl
lines_read k (line ∷ lines) h = go (holds_return line) (is_line (fields_of line)) (lines_read (suc k) lines (omega arith))
  where
    go : (t u : Bool) → with_lines (Ok (suc k)) lines ≡ read_from (suc k) lines
        → with_lines (cond t (Err (Returned (one_more k))) (cond u (Ok (one_more k)) (Err (Numbers (one_more k))))) lines
        ≡ cond t (Err (Returned (suc k))) (cond u (read_from (suc k) lines) (Err (Numbers (suc k))))
    go true u e = rw (one_more_lem k (omega arith)) (stays_bad (Returned (suc k)) lines)
    go false true e = rw (one_more_lem k (omega arith)) e
    go false false e = rw (one_more_lem k (omega arith)) (stays_bad (Numbers (suc k)) lines)

-- the list holds the numbers of the lines taken, as far as it reaches
pub lines_kept : (k n : ℕ) (lines : List (List ℕ)) (numbers : List ℤ) → length numbers ≡ kept_numbers → k + length lines ≤ most_counted → read_from k lines ≡ Ok n
    → numbers_after (Ok k) lines numbers ≡ sets numbers (step_numbers * k) (numbers_in lines)
lines_kept k n [] numbers l h e = refl
lines_kept k n (line ∷ lines) numbers l h e = go (holds_return line) (is_line (fields_of line)) refl (λ ms m r. lines_kept (suc k) n lines ms m (omega arith) r) e
  where
    zs : List ℤ
    zs = values_of (fields_of line)

    Later : Type 0
    Later = (ms : List ℤ) → length ms ≡ kept_numbers → read_from (suc k) lines ≡ Ok n → numbers_after (Ok (suc k)) lines ms ≡ sets ms (step_numbers * suc k) (numbers_in lines)

    kept : is_line (fields_of line) ≡ true → Later → Dec (k < kept_lines) → read_from (suc k) lines ≡ Ok n
        → numbers_after (Ok (suc k)) lines (kept_line k zs numbers) ≡ sets numbers (step_numbers * k) (zs ++ numbers_in lines)
    kept t later (yes g) r =
        let e : step_numbers * suc k ≡ step_numbers * k + length zs = omega (arith, count_exactly (fields_of line) step_numbers t) in
        rw (lt-ltb k kept_lines g)
        (later (sets numbers (step_numbers * k) zs) (length-sets numbers (step_numbers * k) zs ∙ l) r
        ∙ (ap (λ (m : ℕ). sets (sets numbers (step_numbers * k) zs) m (numbers_in lines)) e ∙ sym (sets_append zs (numbers_in lines) numbers (step_numbers * k))))
    kept t later (no g) r =
        rw (le-ltb k kept_lines (omega arith))
        (later numbers l r
        ∙ (sets_past (numbers_in lines) numbers (step_numbers * suc k) (omega arith) ∙ sym (sets_past (zs ++ numbers_in lines) numbers (step_numbers * k) (omega arith))))

    go : (t u : Bool) → is_line (fields_of line) ≡ u → Later → cond t (Err (Returned (suc k))) (cond u (read_from (suc k) lines) (Err (Numbers (suc k)))) ≡ Ok n
        → numbers_after (cond t (Err (Returned (one_more k))) (cond u (Ok (one_more k)) (Err (Numbers (one_more k))))) lines (cond t numbers (cond u (kept_line k zs numbers) numbers))
        ≡ sets numbers (step_numbers * k) (zs ++ numbers_in lines)
    go true u q later r = absurd (let z : ◌≡◌ {A = ℕ} 0 1 = cc in omega arith)
    go false true q later r = rw (one_more_lem k (omega arith)) (kept q later (dec_lt k kept_lines) r)
    go false false q later r = absurd (let z : ◌≡◌ {A = ℕ} 0 1 = cc in omega arith)

-- a question has as many numbers a line as a step has
lines_long : (k n : ℕ) (lines : List (List ℕ)) → read_from k lines ≡ Ok n → (n ≡ k + length lines) × (length (numbers_in lines) ≡ step_numbers * length lines)
lines_long k n [] e = ((let z : k ≡ n = cc in omega arith), refl)
lines_long k n (line ∷ lines) e = go (holds_return line) (is_line (fields_of line)) refl (λ r. lines_long (suc k) n lines r) e
  where
    go : (t u : Bool) → is_line (fields_of line) ≡ u → (read_from (suc k) lines ≡ Ok n → (n ≡ suc k + length lines) × (length (numbers_in lines) ≡ step_numbers * length lines))
        → cond t (Err (Returned (suc k))) (cond u (read_from (suc k) lines) (Err (Numbers (suc k)))) ≡ Ok n
        → (n ≡ k + suc (length lines)) × (length (values_of (fields_of line) ++ numbers_in lines) ≡ step_numbers * suc (length lines))
    go true u q later r = absurd (let z : ◌≡◌ {A = ℕ} 0 1 = cc in omega arith)
    go false true q later r =
        let p = later r in
        (omega (arith, p.0), omega (arith, p.1, length-append (values_of (fields_of line)) (numbers_in lines), count_exactly (fields_of line) step_numbers q))
    go false false q later r = absurd (let z : ◌≡◌ {A = ℕ} 0 1 = cc in omega arith)

-- the walk from the list is the walk of the lines' numbers; so is its page, and what is said beside the page
module _ (verdict : SheetAnswer) (s : List ℕ) (n : ℕ) (lines : List (List ℕ)) (before : List ℤ) (l : length before ≡ kept_numbers) (h : 1 ≤ n) (e : read_from 0 lines ≡ Ok n) where
  question_told_lem : question_told verdict s n (sets before 0 (numbers_in lines)) ≡ walk_in verdict s (numbers_in lines)
  question_told_lem =
      let p = lines_long 0 n lines e in
      let g : (i : ℕ) → i < step_numbers → get_or (sets before 0 (numbers_in lines)) i (pos 0) ≡ get_or (numbers_in lines) i (pos 0) =
      λ i m. kept_first (pos 0) (numbers_in lines) before i (omega (arith, p.0, p.1)) (omega arith) in
      let m : step_numbers * min n kept_lines - step_numbers ≡ min (step_numbers * n) kept_numbers - step_numbers = omega arith in
      rw (charge_alike (sets before 0 (numbers_in lines)) (numbers_in lines) (λ i r. g i (omega arith)), g charge_numbers (lit< tt), m)
      (steps_alike verdict s (numbers_in lines) before (sets before 0 (numbers_in lines)) kept_numbers l (lit< tt) _ _ (step_numbers * n) (omega (arith, p.0, p.1)) (omega arith) refl)

  pub question_printed : printed_walk (question_told verdict s n (sets before 0 (numbers_in lines))) ≡ walk_page verdict s (numbers_in lines)
  question_printed = ap printed_walk question_told_lem

  pub question_noted : (a : Result CourseBack Refusal) → paper_walk a ≡ course (question_told verdict s n (sets before 0 (numbers_in lines)))
      → refusal_note verdict (paper_walk a) ≡ page_note verdict s (numbers_in lines)
  question_noted a p = ap (refusal_note verdict) (p ∙ ap course question_told_lem)

-- a line whole is its fields from the start
pub whole_line : (line : List ℕ) → fields_from line 0 ≡ fields_of line
unfolding fields_from
whole_line line = rw (le-leb 0 (length line) (omega arith)) refl
