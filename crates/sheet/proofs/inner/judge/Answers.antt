-- `judge`: the list as long as a sheet is the list that was lent (`same`); it is accepted where no row is bad (`none_accepted`), and else told its first bad row.
use Rattle.std.proofs.Common.{◌≡◌, refl, sym, ap, ◌∙◌, List, ℕ, Bool, true, false, length, eq-eqb}
use Rattle.std.specs.Prelude.{Some, None, cond, ltb}
use Rattle.refusal.specs.Refusals.{At, refused}
use Rattle.rows.specs.Limits.{table_rows}
use Rattle.sheet_text.specs.Limits.{sheet_numbers}
use Rattle.sheet.specs.Sheet.{first_bad_row, bad_row_found}
use Rattle.sheet.specs.SheetLaws.{none_accepted}
use Rattle.sheet.specs.Answers.{judge_told}
use Rattle.sheet.specs.AnswersLaws.{told_of_accepted}
use Rattle.sheet.proofs.inner.judge.Goals as goal

told_found : (s : List ℕ) {row : ℕ} → length s ≡ sheet_numbers → Some row ≡ bad_row_found s → refused (At 3 row) ≡ judge_told s
told_found s {row} n e = go (ltb (first_bad_row s) table_rows) refl e
  where
    go : (t : Bool) → ltb (first_bad_row s) table_rows ≡ t → Some row ≡ cond t (Some (first_bad_row s)) None → refused (At 3 row) ≡ judge_told s
    go true q e = rw (eq-eqb (length s) sheet_numbers n, q) cc
    go false q e = absurd cc

pub invariant_of-result : goal.invariant_of-result
invariant_of-result c =
    let p = c.in-Some.ensures.cases in
    record { accepted = none_accepted c.in-Some.list.now (rw p.same p.long) (sym c.in-None.ensures); heats_are = c.requires }

pub returns-in-Some-first_bad_row-clause-told : goal.returns-in-Some-first_bad_row-clause-told
returns-in-Some-first_bad_row-clause-told c = let p = c.in-Some.ensures.cases in told_found c.args.list.now p.long (c.in-Some-first_bad_row.ensures ∙ ap bad_row_found p.same)

pub returns-in-None-clause-told : goal.returns-in-None-clause-told
returns-in-None-clause-told c =
    let p = c.in-Some.ensures.cases in
    sym (told_of_accepted (none_accepted c.args.list.now p.long (ap bad_row_found (sym p.same) ∙ sym c.in-None.ensures)))
