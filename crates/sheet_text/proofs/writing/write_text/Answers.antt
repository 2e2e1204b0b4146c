-- `write_text`: from the last row to the first, each right before what stands (`rows_last`); then the whole text does, from place 0 on.
use Rattle.std.proofs.Common.{ℕ, ◌-◌, ◌<◌, List, ◌++◌, refl, sym, subst, arith, length-append}
use Rattle.rows.specs.Limits.{table_rows}
use Rattle.text.specs.Puts.{Behind}
use Rattle.text.specs.PutsLaws.{behind_all, behind_more, behind_room, behind_inside}
use Rattle.sheet_text.specs.Text.{rows_of, sheet_text}
use Rattle.sheet_text.specs.TextLaws.{row_at, rows_last, rows_all}
use Rattle.sheet_text.proofs.writing.write_text.Goals as goal

-- the first rows without the last of them, and that one
without : (l : List ℕ) (row : ℕ) {text b m : List ℕ} {end n : ℕ} → 0 < row → Behind text (rows_of row l) b end n m → Behind text (rows_of (row - 1) l ++ row_at l (row - 1)) b end n m
without l row h p = rw (rows_last l row h) at p

pub loop-row-init : goal.loop-row-init
loop-row-init c = let a = c.args in
    subst (λ (x : List ℕ). Behind (sheet_text a.list.now) x a.buf.now a.bytes a.bytes a.buf.now) (sym (rows_all a.list.now table_rows refl)) (behind_all (sheet_text a.list.now) a.bytes c.requires.1)

pub end_with_row-end-requires : goal.end_with_row-end-requires
end_with_row-end-requires c = let l = c.loop-row in
    let list = c.args.list.now in
    let w = without list l.row (omega arith) l.invariant in
    (omega (arith, behind_room (omega arith) w, length-append (rows_of (l.row - 1) list) (row_at list (l.row - 1))), behind_inside w)

pub loop-row-preserved : goal.loop-row-preserved
loop-row-preserved c = let l = c.loop-row in behind_more (without c.args.list.now l.row (omega arith) l.invariant) c.end_with_row-end.ensures
