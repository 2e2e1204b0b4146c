-- A piece of a sheet that is cut before its first carriage return. Assumes nothing.
use Rattle.std.proofs.Common.{◌≡◌, sym, ◌∙◌, ap, ℕ, ◌+◌, ◌-◌, ◌≤◌, List, [], ◌++◌, append-nil, Bool, length, take, drop, length-drop, arith}
use Rattle.std.specs.Prelude.{◌&&◌, ltb}
use Rattle.std.proofs.lemmas.List.{take-append-drop, take_all}
use Rattle.fields.specs.Fields.{span_to}
use Rattle.fields.specs.FieldsLaws.{span_most}
use Rattle.sheet_text.specs.Limits.{sheet_numbers}
use Rattle.sheet.specs.declared.pieces.SheetReading.{SheetReading}
use Rattle.sheet.specs.declared.pieces.Taken.{Taken}
use Rattle.sheet.specs.Pieces.{Standing, after_piece, PieceRead, none, piece}
use Rattle.sheet.specs.PiecesLaws.{joined}
use Rattle.forms.specs.Sheets.{goes_on, Takes}

pub cut_inside : (xs : List ℕ) {at : ℕ} → at ≡ 0 + span_to 13 (drop 0 xs) → at ≤ length xs
cut_inside xs e = omega (arith, span_most 13 xs)

module _ (s : SheetReading) (xs l : List ℕ) {m k : List ℕ} {at : ℕ} {a b : Taken} (h : length l ≡ sheet_numbers) (e : at ≡ 0 + span_to 13 (drop 0 xs))
    (p : PieceRead s (take at xs) l a m) (q : PieceRead a.reading (take (length xs - at) (drop at xs)) m b k) where
  first_is : a.reading ≡ (after_piece s (take at xs) l).reading
  first_is = sym (ap (λ (x : Standing). x.reading) (ap (λ (x : List ℕ). after_piece s x l) (sym (append-nil (take at xs))) ∙ joined (piece p none) h))

  whole_is : take at xs ++ (take (length xs - at) (drop at xs) ++ []) ≡ xs
  whole_is =
      ap (λ (x : List ℕ). take at xs ++ x) (append-nil _ ∙ take_all (length xs - at) (drop at xs) (omega (arith, length-drop at xs)))
      ∙ take-append-drop at xs

  pub takes : {g : Bool} → g ≡ goes_on a.reading → Takes s xs l (record { reading = b.reading; returned = g && ltb at (length xs) }) k
  takes u =
      let z : at ≡ span_to 13 xs = omega arith in
      record {
        stands = sym (joined (piece p (piece q none)) h) ∙ ap (λ (x : List ℕ). after_piece s x l) whole_is;
        decided = ap (λ (x : Bool). x && ltb at (length xs)) (u ∙ ap goes_on first_is) ∙ ap (λ (n : ℕ). goes_on (after_piece s (take n xs) l).reading && ltb n (length xs)) z;
      }
