-- `end_with_row`: the four fields from the last to the first (`stands_before`, `row_fields`).
use Rattle.text.specs.PutsLaws.{stands_before}
use Rattle.sheet_text.specs.TextLaws.{row_fields}
use Rattle.sheet_text.proofs.writing.end_with_row.Goals as goal

pub returns : goal.returns
returns c = let a = c.args in
    rw (row_fields a.kelvin a.o2 a.co2 a.h2o)
    (stands_before (stands_before (stands_before c.end_with_field-third.ensures c.end_with_field-second.ensures) c.end_with_field-first.ensures) c.end_with_field.ensures)
