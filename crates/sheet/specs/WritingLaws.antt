-- The writer and the reader (document 02, request 1), over the promises of both: reading what was written gives the list (`read_of_written`); writing what was read gives
-- the bytes, where the list read also keeps the step rule (`written_of_read`), and the reader takes lists that the writer refuses with 3 (`read_not_written`). Assumes nothing.
use Rattle.std.specs.Prelude.{◌≡◌, refl, List, [], ◌∷◌, ◌++◌, ℕ, ◌≤◌, ◌<◌, ltb, length, take, drop, Ok, Err}
use Rattle.std.proofs.Common.{sym, ◌∙◌, ap, subst, arith, take_at, le-ltb, lt-ltb}
use Rattle.refusal.specs.declared.Refusal.TheVariants.{BadRow}
use Rattle.refusal.specs.Refusals.{Numbered, At, Told, gives, refused, refuses, ◌when◌, first}
use Rattle.refusal.specs.RefusalsLaws.{values_given}
use Rattle.refusal.specs.OrdersLaws.{clear_order, given, clear_left, stopped_first}
use Rattle.sheet_text.specs.Limits.{sheet_numbers, least_text, most_text}
use Rattle.sheet_text.specs.Text.{sheet_text, text_length, IsSheet}
use Rattle.sheet_text.specs.TextLaws.{text_shortest, text_longest}
use Rattle.sheet.specs.Sheet.{KeepsStepRule, Accepted}
use Rattle.sheet.specs.SheetLaws.{accepted_numbers, accepted_of_rule}
use Rattle.sheet.specs.Answers.{SheetRead, sheet_lines, judge_told, SheetAnswer}
use Rattle.sheet.specs.AnswersLaws.{read_of_sheet, sheet_of_read, accepted_of_told, past_sheet}
use Rattle.sheet.specs.OneOutcome.{one_written}
use Rattle.sheet.specs.Writing.{write_lines, write_told, buffer_after, SheetWritten, WriteAnswer}
use Rattle.sheet.specs.ExampleSheets.{laid, flat, one_more}
use Rattle.sheet.specs.ExampleSheetsLaws.{flat_accepted, flat_figure, one_more_numbers, one_more_refused}

-- ---- what is told of a sheet that is refused, and of one that is accepted
pub told_refused : (s before : List ℕ) (r : Numbered) → refused r ≡ judge_told s → write_told s before ≡ refused r
told_refused s before r e = sym (stopped_first (sheet_lines s) (14 when ltb (length before) (text_length s) ∷ []) tt (text_length s) r e)

module _ {s : List ℕ} (a : Accepted s) (before : List ℕ) where
  past_judge : write_told s before ≡ first (14 when ltb (length before) (text_length s) ∷ []) (text_length s)
  past_judge = past_sheet (14 when ltb (length before) (text_length s) ∷ []) (text_length s) a

  pub told_short : length before < text_length s → write_told s before ≡ refuses 14
  told_short h = past_judge ∙ rw (lt-ltb (length before) (text_length s) h) refl

  pub told_written : text_length s ≤ length before → write_told s before ≡ gives (text_length s)
  told_written h = past_judge ∙ rw (le-ltb (length before) (text_length s) h) refl

-- ---- what was written
pub record Whole (s before : List ℕ) (n : ℕ) (later : List ℕ) : Type 0 where
  pub accepted : Accepted s
  pub bytes : text_length s ≡ n
  pub buffer : later ≡ sheet_text s ++ drop n before

pub written_whole : {s before later : List ℕ} {n : ℕ} → SheetWritten s before (Ok n) later → Whole s before n later
written_whole {s} {before} {later} {n} p = record {
  accepted = accepted_of_told s (values_given tt (clear_left (sheet_lines s) _ (clear_order (write_lines s before) (text_length s) p.told)));
  bytes = given (write_lines s before) (text_length s) p.told;
  buffer = p.buffer ∙ ap (λ (t : Told ℕ). buffer_after t (sheet_text s) before) (sym p.told);
}

-- reading what was written gives the list
pub read_of_written : {s before later list read : List ℕ} {n : ℕ} {a : SheetAnswer} → SheetWritten s before (Ok n) later → length list ≡ sheet_numbers
    → SheetRead (take n later) list a read → (a ≡ Ok tt) × (read ≡ s)
read_of_written {s} {before} {later} {list} {read} {n} {a} p h r =
    let w = written_whole p in
    let e : take n later ≡ sheet_text s = ap (take n) w.buffer ∙ take_at (sheet_text s) (drop n before) n w.bytes in
    read_of_sheet s (accepted_numbers w.accepted) h (rw e at r)

-- writing what was read gives the bytes
pub written_of_read : {text list s before later : List ℕ} {a : WriteAnswer} → SheetRead text list (Ok tt) s → KeepsStepRule s → length text ≤ length before
    → SheetWritten s before a later → (a ≡ Ok (length text)) × (later ≡ text ++ drop (length text) before)
written_of_read {text} {list} {s} {before} {later} {a} r keeps h p =
    let i : IsSheet text s = (sheet_of_read r).1 in
    let e : text_length s ≡ length text = ap length (sym i.is) in
    let t : write_told s before ≡ gives (length text) = told_written (accepted_of_rule i.good keeps) before (omega arith) ∙ ap gives e in (
      one_written a (Ok (length text)) (p.told ∙ t) refl,
      p.buffer ∙ (ap (λ (x : Told ℕ). buffer_after x (sheet_text s) before) t ∙ ap (λ (x : List ℕ). x ++ drop (length text) before) (sym i.is)),
    )

-- ---- the reader takes more: a sheet whose O2 rises into 201 K by 97, one more than four times air, is read, and never written
pub read_not_written : {list read before later : List ℕ} {a : SheetAnswer} {b : WriteAnswer} → length list ≡ sheet_numbers
    → SheetRead (sheet_text (laid (one_more 201))) list a read → SheetWritten read before b later → (a ≡ Ok tt) × (b ≡ Err (BadRow 1)) × (later ≡ before)
read_not_written {list} {read} {before} {later} {a} {b} h r p =
    let s = laid (one_more 201) in
    let g = read_of_sheet s (one_more_numbers 201 (omega arith) (omega arith)) h r in
    let w : SheetWritten s before b later = subst (λ (x : List ℕ). SheetWritten x before b later) g.1 p in
    let t = told_refused s before (At 3 1) (sym (one_more_refused 201 (omega arith) (omega arith))) in
    (g.0, one_written b (Err (BadRow 1)) (w.told ∙ t) refl, w.buffer ∙ ap (λ (x : Told ℕ). buffer_after x (sheet_text s) before) t)

-- ---- the shortest and the longest text
pub shortest_text : text_length (flat 0 0 0) ≡ least_text
shortest_text = text_shortest (flat 0 0 0) (λ i h. rw (flat_figure 0 i h) (omega arith))

pub longest_text : text_length (flat 200000 200000 200000) ≡ most_text
longest_text =
    text_longest (flat 200000 200000 200000) (accepted_numbers (flat_accepted 200000 200000 200000 (omega arith) (omega arith) (omega arith)))
    (λ i h. rw (flat_figure 200000 i h) (omega arith))
