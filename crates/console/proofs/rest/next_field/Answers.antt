-- `next_field`: the field at hand ends at its tab, so it is the first of the fields (`fields_at`); past the line's end there is none (`fields_none`).
use Rattle.fields.specs.FieldsLaws.{span_from, fields_at, fields_none}
use native.Mathlib.Omega.{arith}
use Rattle.console.proofs.rest.next_field.Goals as goal

pub returns-then-from-line : goal.returns-then-from-line
returns-then-from-line c = fields_none c.args.rest.line.now c.args.rest.from c.if-from-line.true

pub slice_bounds-result-end : goal.slice_bounds-result-end
slice_bounds-result-end c = omega (arith, c.field_end-end.ensures, span_from c.args.rest.line.now c.args.rest.from (omega arith))

pub returns : goal.returns
returns c = fields_at c.args.rest.line.now c.args.rest.from c.field_end-end.result c.if-from-line.false c.field_end-end.ensures
