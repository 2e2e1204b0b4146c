-- `take_next`: the line by whether it holds a carriage return and whether it is as many numbers as a step has; the numbers are kept where it is.
use Rattle.std.proofs.Common.{◌≡◌, refl, sym, ◌∙◌, true, false, replicate}
use Rattle.std.specs.Prelude.{pos}
use Rattle.fields.specs.Fields.{holds_return, fields_of, fields_from, count_all, is_count}
use Rattle.fields.specs.FieldsLaws.{all_stored}
use Rattle.walk.specs.Limits.{step_numbers}
use Rattle.forms.specs.Questions.{is_line}
use Rattle.forms.specs.QuestionsLaws.{whole_line}
use Rattle.forms.proofs.questions.take_next.Goals as goal

pub returns-then-holds_return : goal.returns-then-holds_return
returns-then-holds_return c = let h : holds_return c.args.line.now ≡ true = sym c.holds_return.ensures ∙ c.if-holds_return.true in record {
  value = rw (h, c.one_more.ensures) refl;
  numbers_after = rw h refl;
}

pub returns-then-not-read_exactly : goal.returns-then-not-read_exactly
returns-then-not-read_exactly c = let line = c.args.line.now in
    let h : holds_return line ≡ false = sym c.holds_return.ensures ∙ c.if-holds_return.false in
    let u : is_line (fields_of line) ≡ false = rw (whole_line line) at (sym c.read_exactly.ensures.value ∙ c.if-not-read_exactly.true) in record {
      value = rw (h, u, c.one_more-then-not-read_exactly.ensures) refl;
      numbers_after = rw (h, u) refl;
    }

pub returns : goal.returns
returns c = let line = c.args.line.now in
    let h : holds_return line ≡ false = sym c.holds_return.ensures ∙ c.if-holds_return.false in
    let w = whole_line line in
    let t : is_count step_numbers (count_all 0 (fields_from line 0)) ≡ true = sym c.read_exactly.ensures.value ∙ c.if-not-read_exactly.false in
    let z = all_stored (fields_from line 0) (replicate step_numbers (pos 0)) c.read_exactly.new.list step_numbers _ refl t refl c.read_exactly.ensures.stored in
    let u : is_line (fields_of line) ≡ true = rw w at t in record {
      value = rw (h, u, c.one_more-2.ensures) refl;
      numbers_after = rw (h, u) (rw (z, w) at c.keep_line.ensures);
    }
