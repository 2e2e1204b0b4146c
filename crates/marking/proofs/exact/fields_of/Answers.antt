-- `fields_of`: the shifts and masks give the fields (proofs/Patterns.antt). Assumes nothing.
use mathlib.Core.Path.{sym, subst}
use lib.Dec.{T}
use Rattle.marking.proofs.Patterns.{fields_are}
use Rattle.marking.proofs.exact.fields_of.Goals as goal

-- what owning an `f64` tells: the format holds it
pub returns : goal.returns
returns c = fields_are c.args.x (subst T (sym c.well_formed.0.1) tt)
