-- `walk_held`: over an accepted sheet the walk over it (`walks_accepted`), over a refused one its refusal with nothing written.
use Rattle.console.specs.WalksLaws.{walks_accepted}
use Rattle.console.proofs.walks.walk_held.Goals as goal

pub returns : goal.returns
returns c = rw c.in_ok-sheet.was
    (rw (c.requires.0, c.requires.1, c.requires.2, walks_accepted c.args.charge c.args.t.0 c.args.steps.now c.in_ok-sheet.field-0.accepted) at c.walk_judged.ensures)
