-- The two ways that the writer of an accepted sheet takes, each from what its calls ensured. Assumes nothing.
use mathlib.Core.Path.{◌≡◌, sym, ◌∙◌, ap}
use mathlib.Core.List.{List, ◌++◌}
use Prim.Native.Nat.{ℕ, ◌≤◌, ◌<◌}
use native.Mathlib.Omega.{arith}
use lib.ListN.{length, drop}
use Rattle.text.specs.Puts.{Stands}
use Rattle.refusal.specs.declared.Refusal.TheVariants.{ShortBuffer}
use Rattle.refusal.specs.Refusals.{Told, gives}
use Rattle.sheet_text.specs.Text.{sheet_text, text_length}
use Rattle.std.specs.Prelude.{Ok, Err}
use Rattle.sheet.specs.Sheet.{Accepted}
use Rattle.sheet.specs.Writing.{write_told, buffer_after, SheetWritten}
use Rattle.sheet.specs.WritingLaws.{told_short, told_written}

as_told : (s before : List ℕ) {t : Told ℕ} → write_told s before ≡ t → buffer_after t (sheet_text s) before ≡ buffer_after (write_told s before) (sheet_text s) before
as_told s before e = ap (λ (x : Told ℕ). buffer_after x (sheet_text s) before) (sym e)

module _ {s : List ℕ} (a : Accepted s) (before : List ℕ) {n : ℕ} (counted : n ≡ text_length s) where
  pub short_buffer : length before < n → SheetWritten s before (Err ShortBuffer) before
  short_buffer h = let t = told_short a before (omega arith) in record { told = sym t; buffer = as_told s before t }

  pub whole_text_lem : n ≤ length before → {later : List ℕ} → Stands (sheet_text s) before 0 n later → SheetWritten s before (Ok n) later
  whole_text_lem h p =
      let t : write_told s before ≡ gives n = told_written a before (omega arith) ∙ ap gives (sym counted) in
      record { told = sym t; buffer = p.stands ∙ (ap (λ (k : ℕ). sheet_text s ++ drop k before) (sym p.ends) ∙ as_told s before t) }
