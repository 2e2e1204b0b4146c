-- `put_reply`: a carriage return in the line is an error (`line_returned_lem`); else its first field names the request and the fields behind it are its numbers (`line_fields`).
use Rattle.text.specs.PutsLaws.{wrote_text, wrote_wider}
use Rattle.console.specs.Answers.{verdict_in, list_in}
use Rattle.console.specs.AnswersLaws.{line_fields, line_returned_lem}
use native.Mathlib.Omega.{arith}
use mathlib.Core.Path.{sym, ◌∙◌}
use Rattle.console.proofs.inner.put_reply.Goals as goal

pub returns-then-holds_return : goal.returns-then-holds_return
returns-then-holds_return c = rw
    (line_returned_lem (verdict_in c.args.sheet) (list_in c.args.sheet) c.args.line.now (sym c.holds_return.ensures ∙ c.if-holds_return.true))
    (wrote_wider (omega arith) (wrote_text c.put_text.ensures))

pub returns-in_default : goal.returns-in_default
returns-in_default c = rw (
  line_fields (verdict_in c.args.sheet) (list_in c.args.sheet) c.args.line.now (sym c.holds_return.ensures ∙ c.if-holds_return.false),
  c.in_default.ensures,
)
    c.put_unknown.ensures

pub returns : goal.returns
returns c = rw (
  line_fields (verdict_in c.args.sheet) (list_in c.args.sheet) c.args.line.now (sym c.holds_return.ensures ∙ c.if-holds_return.false),
  c.in-Some.ensures,
  ← c.request_of.ensures,
)
    c.reply.ensures
