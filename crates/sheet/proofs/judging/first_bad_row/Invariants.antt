-- `first_bad_row`: the first row that is bad, or none (`first_bad_found`, `no_bad_row_lem`).
-- Invariant: no row before this one is bad.
use Rattle.std.proofs.Common.{◌≡◌, ℕ, ◌<◌, false}
use Rattle.sheet.specs.Sheet.{bad_row}
use Rattle.sheet.proofs.judging.first_bad_row.Given as goal

abbrev pub invariant-loop-row : goal.invariant-loop-row
invariant-loop-row l = (i : ℕ) → i < l.row → bad_row l.sheet.list.now i ≡ false
