-- `halve`: the rule over a test that answers as `heat_fits` does.
use Rattle.gas.specs.inner.Search.{heat_fits}
use Rattle.gas.proofs.search.halve.Goals as goal

pub returns : goal.returns
unfolding heat_fits
returns c = c.halve.ensures (heat_fits c.args.gas c.args.sheet.list.now c.args.target.0) (record { as_p = λ k b l u a. a })
