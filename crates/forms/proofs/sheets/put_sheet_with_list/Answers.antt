-- `put_sheet_with_list`: a list that was judged good is accepted (`judged_good`), and its text has at most as many bytes as the buffer (`text_most`); of a refused one nothing is cut (`puts_whole`).
use Rattle.std.proofs.Common.{◌≡◌, List, ℕ, arith, rules}
use Rattle.std.specs.Prelude.{Ok}
use Rattle.std.proofs.Math.Logic.{∥∥₁_elim}
use Rattle.std.proofs.Math.Nat.{ℕ_set}
use Rattle.std.proofs.Math.Bool.{Bool-set}
use Rattle.text.specs.PutsLaws.{puts_whole, wrote_puts}
use Rattle.sheet_text.specs.TextLaws.{text_most}
use Rattle.sheet.specs.Sheet.{Accepted}
use Rattle.sheet.specs.SheetLaws.{accepted_numbers}
use Rattle.console.specs.Answers.{Judged}
use Rattle.console.specs.VerdictLaws.{judged_good}
use Rattle.forms.proofs.sheets.put_sheet_with_list.Goals as goal

good : {s : List ℕ} → ∥ Judged (Ok tt) s ∥₁ → Accepted s
good {s} j = ∥∥₁_elim j (hlevel (ℕ_set, Bool-set)) (judged_good s)

pub unwrap-list-requires : goal.unwrap-list-requires
unwrap-list-requires c = let a = good (rw c.in-Ok.is at c.requires.0) in search (rules, a.long)

pub write_text-requires : goal.write_text-requires
write_text-requires c =
    let a = good (rw c.in-Ok.is at c.requires.0) in
    let same : c.unwrap-list.result.now ≡ c.args.list.now = search rules in
    (c.text_length-bytes.ensures, omega (arith, c.text_length-bytes.ensures, text_most c.unwrap-list.result.now (accepted_numbers (rw same a)), c.requires.1))

pub returns-in-Err : goal.returns-in-Err
returns-in-Err c = let p = puts_whole (omega arith) (wrote_puts c.put_verdict.ensures) in rw c.in-Err.is (search rules)
