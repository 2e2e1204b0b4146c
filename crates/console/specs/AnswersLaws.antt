-- A line by its first field. Assumes nothing.
use Rattle.std.specs.Prelude.{ℕ, ◌+◌, ◌-◌, ◌≡◌, refl, Bool, true, false, cond, List, [], leb, length, take, drop}
use Rattle.std.proofs.Common.{sym, ◌∙◌, ap, arith, le-leb}
use Rattle.fields.specs.Fields.{span_of, fields_of, fields_from, holds_return}
use Rattle.fields.specs.FieldsLaws.{fields_at}
use Rattle.console.specs.Requests.{request_of, return_text}
use Rattle.sheet.specs.Answers.{SheetAnswer}
use Rattle.console.specs.Answers.{reply_text, answer_fields, line_text}

-- a line with no carriage return by its first field, which ends at e
pub line_is : (verdict : SheetAnswer) (s line : List ℕ) (e : ℕ) → holds_return line ≡ false → e ≡ 0 + span_of (drop 0 line)
    → line_text verdict s line ≡ reply_text verdict s (request_of (take (e - 0) (drop 0 line))) (fields_from line (e + 1))
unfolding line_text fields_from
line_is verdict s line e n q =
    let z : leb 0 (length line) ≡ true = le-leb 0 (length line) (omega arith) in
    rw n (ap (λ (fs : List (List ℕ)). answer_fields verdict s fs) (sym (ap (λ (t : Bool). cond t (fields_of (drop 0 line)) []) z) ∙ fields_at line 0 e (omega arith) q))

pub line_returned_lem : (verdict : SheetAnswer) (s line : List ℕ) → holds_return line ≡ true → line_text verdict s line ≡ return_text
unfolding line_text
line_returned_lem verdict s line n = rw n refl

-- and by its fields
pub line_fields : (verdict : SheetAnswer) (s line : List ℕ) → holds_return line ≡ false → line_text verdict s line ≡ answer_fields verdict s (fields_from line 0)
unfolding line_text fields_from
line_fields verdict s line n =
    let z : leb 0 (length line) ≡ true = le-leb 0 (length line) (omega arith) in
    rw n (ap (λ (fs : List (List ℕ)). answer_fields verdict s fs) (sym (ap (λ (t : Bool). cond t (fields_of (drop 0 line)) []) z)))
