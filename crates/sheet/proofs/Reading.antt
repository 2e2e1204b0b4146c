-- The three ways that the reader takes, each from what its calls ensured. Assumes nothing.
use mathlib.Core.Path.{◌≡◌, refl, sym, ◌∙◌, ap}
use mathlib.Core.Bool.{Bool, true, false}
use mathlib.Core.List.{List}
use Prim.Native.Nat.{ℕ}
use lib.ListN.{length}
use borrow.Author.Tests.{eq-eqb, ne_eqb}
use Rattle.text.specs.Fold.{run}
use Rattle.refusal.specs.declared.Refusal.TheVariants.{ListLength, Form}
use Rattle.sheet_text.specs.Limits.{sheet_numbers}
use Rattle.std.specs.Prelude.{Ok, Err}
use Rattle.sheet_text.specs.declared.Place.{Place}
use Rattle.sheet.specs.Answers.{sheet_of, no_sheet, SheetRead}
use Rattle.sheet_text.specs.Machine.{start, step, row_of, whole_sheet, Filled, filled, fill_byte, State}
use Rattle.sheet_text.specs.HeldLaws.{sound, same_state}
use Rattle.sheet_text.specs.FirstBadLaws.{not_whole_bad}
use Rattle.sheet.specs.FormLaws.{form_of}

pub wrong_length : (text l : List ℕ) → (length l ≡ sheet_numbers → ⊥) → SheetRead text l (Err ListLength) l
wrong_length text l n = record { form = form_of text; told = rw (ne_eqb (length l) sheet_numbers n) refl; list = refl }

-- numbers is the reader's own list before the text was read into it, and after is that list then
module _ (text l numbers after : List ℕ) (n : length l ≡ sheet_numbers) (m : length numbers ≡ sheet_numbers) {from : Place} {s : State} {w : Bool} (first : Ok from ≡ start)
    (fills : filled s after ≡ run fill_byte (filled (Ok from) numbers) text) (tested : w ≡ whole_sheet s) where
  fills_is : filled s after ≡ run fill_byte (filled start numbers) text
  fills_is = fills ∙ ap (λ (x : State). run fill_byte (filled x numbers) text) first

  state_is : s ≡ run step start text
  state_is = ap (λ (x : Filled). x.state) fills_is ∙ same_state text start numbers

  test_is : w ≡ whole_sheet (run step start text)
  test_is = tested ∙ ap whole_sheet state_is

  pub sheet_read : {later : List ℕ} → w ≡ true → later ≡ after → SheetRead text l (Ok tt) later
  sheet_read {later} t c =
      let e : later ≡ (run fill_byte (filled start numbers) text).list = c ∙ ap (λ (x : Filled). x.list) fills_is in
      record {
        form = sheet_of later (rw e (sound text numbers m (sym test_is ∙ t)));
        told = rw (eq-eqb (length l) sheet_numbers n) refl;
        list = refl;
      }

  pub bad_row_lem : {r : ℕ} → w ≡ false → r ≡ row_of s → SheetRead text l (Err (Form r)) l
  bad_row_lem {r} t e = record {
    form = no_sheet r (rw (e, state_is) (not_whole_bad text (sym test_is ∙ t)));
    told = rw (eq-eqb (length l) sheet_numbers n) refl;
    list = refl;
  }
