-- Document 01's printed walk comes out byte for byte, over any accepted sheet: A 1, no fuel, start 200,000 mK, q 1,200,000,001 then 2,400,000. With no steps it is the header
-- alone; over a sheet that is refused it is the header, then `refused` and the number, whatever the walk. Assumes nothing.
use Rattle.std.specs.Prelude.{◌≡◌, List, [], ◌++◌, ℕ, ℤ, pos, replicate, Ok, Err}
use Rattle.std.proofs.Math.Path.{refl, ap}
use Rattle.std.proofs.Common.{◌∙◌, lit≤}
use Rattle.text.specs.Bytes.{bytes_of}
use Rattle.text.specs.Decimal.{decimal}
use Rattle.refusal.specs.declared.Refusal.TheVariants.{BadRow}
use Rattle.signed.specs.Zed.{in_z}
use Rattle.sheet.specs.Sheet.{Accepted}
use Rattle.sheet.specs.AnswersLaws.{past_sheet}
use Rattle.burning.specs.declared.Charge.{Charge}
use Rattle.burning.specs.Burning.{document01, beyond, lean, oxygen_used}
use Rattle.gas.specs.Examples.{charge}
use Rattle.walk.specs.Limits.{most_steps, most_looks}
use Rattle.walk.specs.Examples.{printed_steps, told_printed, first_looks, second_looks}
use Rattle.walk.specs.Walk.{ended, run, steps_of, start_lines, start_state, walked}
use Rattle.console.specs.Walks.{walk_told, header_text, refused_line, printed_walk}

-- the page that document 01 prints
abbrev pub printed_page : List ℕ
printed_page = bytes_of "step\tmK\trest\tlooks\n1\t200500\t1\t10\n2\t200501\t0\t10\n"

module _ {s : List ℕ} (ok : Accepted s) where
  pub printed_page_lem : printed_walk (walk_told (Ok tt) s (charge 1 0 0) (pos 200000) printed_steps) ≡ printed_page
  unfolding printed_walk decimal
  printed_page_lem =
      ap printed_walk (told_printed ok (replicate most_steps (pos 0)) (replicate most_steps (pos 0)) (replicate most_looks 0) (lit≤ tt) (lit≤ tt) (lit≤ tt))
      ∙ rw (first_looks ok, second_looks ok) refl

  pub header_alone : printed_walk (walk_told (Ok tt) s (charge 1 0 0) (pos 200000) []) ≡ header_text
  unfolding printed_walk walked run steps_of beyond in_z lean oxygen_used
  header_alone =
      ap printed_walk
      (past_sheet (start_lines document01 (charge 1 0 0) (pos 200000) 0 most_steps most_steps most_looks)
      (record { outs = []; end = ended (start_state (charge 1 0 0) (pos 200000)) }) ok)

pub refused_page : (s : List ℕ) (ch : Charge) (mk : ℤ) (numbers : List ℤ) (row : ℕ) → printed_walk (walk_told (Err (BadRow row)) s ch mk numbers) ≡ header_text ++ refused_line 3
unfolding printed_walk
refused_page s ch mk numbers row = refl
