-- `put_products`: `ok` and the five products in the paper's order, each put behind the one before (`wrote_then`).
use Rattle.text.specs.PutsLaws.{wrote_text, wrote_then}
use Rattle.wording.proofs.put_products.Goals as goal

pub returns : goal.returns
returns c = (wrote_then
    (wrote_then
    (wrote_then (wrote_then (wrote_then (wrote_text c.put_text.ensures) c.put_number.ensures) c.put_number-2.ensures) c.put_number-3.ensures)
    c.put_number-4.ensures)
    c.put_number-5.ensures)
