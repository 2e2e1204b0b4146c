-- Every text has one form, and no two: the sheet of its numbers, or none with its first bad row. Assumes nothing.
use Rattle.std.specs.Prelude.{◌≡◌, refl, Bool, true, false, List, ℕ}
use Rattle.std.proofs.Common.{sym, ◌∙◌, ap}
use Rattle.text.specs.Fold.{run}
use Rattle.sheet_text.specs.Text.{IsSheet, FirstBad}
use Rattle.sheet.specs.Answers.{Form, sheet_of, no_sheet, breaks, bad_row_of, numbers_of}
use Rattle.sheet_text.specs.Machine.{start, step, row_of, whole_sheet, Filled, filled, fill_byte}
use Rattle.sheet_text.specs.WholeLaws.{complete}
use Rattle.sheet_text.specs.HeldLaws.{sound}
use Rattle.sheet_text.specs.FirstBadLaws.{sheet_whole, not_whole_bad, bad_row_is, blank, blank_full}

-- ---- every text has a form
pub form_of : (text : List ℕ) → Form text
form_of text = go (whole_sheet (run step start text)) refl
  where
    go : (z : Bool) → whole_sheet (run step start text) ≡ z → Form text
    go true e = sheet_of (run fill_byte (filled start blank) text).list (sound text blank blank_full e)
    go false e = no_sheet (row_of (run step start text)) (not_whole_bad text e)

-- ---- and no two
pub record Same {text : List ℕ} (f g : Form text) : Type 0 where
  pub breaks_same : breaks f ≡ breaks g
  pub row_same : bad_row_of f ≡ bad_row_of g
  pub numbers_same : numbers_of f ≡ numbers_of g

-- the numbers of a sheet's text are what the machine reads
numbers_read : (text s : List ℕ) → IsSheet text s → (run fill_byte (filled start blank) text).list ≡ s
numbers_read text s h = ap (λ (t : List ℕ). (run fill_byte (filled start blank) t).list) h.is ∙ ap (λ (x : Filled). x.list) (complete s blank h.good blank_full)

never : {A : Type 0} (text s : List ℕ) (r : ℕ) → IsSheet text s → FirstBad text r → A
never text s r h b =
    let t : whole_sheet (run step start text) ≡ true = ap whole_sheet (sheet_whole text s h) in
    let f : whole_sheet (run step start text) ≡ false = (bad_row_is text r b).0 in
    absurd cc

pub one_form : {text : List ℕ} (f g : Form text) → Same f g
one_form {text} (sheet_of s h) (sheet_of t k) = record { breaks_same = refl; row_same = refl; numbers_same = sym (numbers_read text s h) ∙ numbers_read text t k }
one_form {text} (sheet_of s h) (no_sheet r b) = never text s r h b
one_form {text} (no_sheet r b) (sheet_of s h) = never text s r h b
one_form {text} (no_sheet r b) (no_sheet q d) = record { breaks_same = refl; row_same = sym (bad_row_is text r b).1 ∙ (bad_row_is text q d).1; numbers_same = refl }
