-- `put_state`: the charge's numbers and the temperature, one behind the other (`wrote_then`).
use Rattle.text.specs.PutsLaws.{wrote_then}
use Rattle.wording.proofs.put_state.Goals as goal

pub returns : goal.returns
returns c = wrote_then (rw c.numbers_of-numbers.ensures at c.put_numbers.ensures) c.put.ensures
