-- `halve_between` keeps the row of the halving rule and writes its looks. A look at the middle is one turn of the rule, to the half that is kept (`turned`); the width is never
-- more than the looks that are left can halve away (`narrower`).
use Rattle.std.proofs.Common.{sym, ◌∙◌, arith, length-set}
use Rattle.air.specs.HalvingLaws.{to_upper, to_lower, ended, turned, narrower}
use Rattle.air.proofs.inner.+halve_between.Goals as goal

pub returns-then-hi-lo : goal.returns-then-hi-lo
returns-then-hi-lo g t c = λ p a. ended c.if-hi-lo.true

pub halve_between-requires : goal.halve_between-requires
halve_between-requires g t c κs within =
    let r = c.requires.room in
    let n = narrower c.args.lo c.args.hi c.args.at c.if-hi-lo.false r.1 r.2 in
    (omega arith, (within, ((omega arith, omega arith, omega arith), ((length-set c.args.looks.now c.args.at _ ∙ r.0, n.0, n.1), c.requires.callable))))

pub halve_between-requires-else-fits : goal.halve_between-requires-else-fits
halve_between-requires-else-fits g t c κs within =
    let r = c.requires.room in
    let n = narrower c.args.lo c.args.hi c.args.at c.if-hi-lo.false r.1 r.2 in
    (omega arith, (within, ((omega arith, omega arith, omega arith), ((length-set c.args.looks.now c.args.at _ ∙ r.0, n.0, n.2), c.requires.callable))))

pub returns-then-fits : goal.returns-then-fits
returns-then-fits g t c = λ p a. turned (to_upper c.if-hi-lo.false (sym (a.as_p _ _ (omega arith) (omega arith) c.fits.ensures) ∙ c.if-fits.true)) (c.halve_between.ensures p a)

pub returns-else-fits : goal.returns-else-fits
returns-else-fits g t c = λ p a. turned (to_lower c.if-hi-lo.false (sym (a.as_p _ _ (omega arith) (omega arith) c.fits.ensures) ∙ c.if-fits.false)) (c.halve_between-else-fits.ensures p a)
