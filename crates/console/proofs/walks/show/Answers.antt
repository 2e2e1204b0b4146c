-- `show`: each step's looks are those of a search (`walk_searched`): so what they hold is the walk's text (`walk_shown_lem`).
use Rattle.console.specs.Answers.{verdict_in, list_in}
use Rattle.console.specs.Walks.{walk_told}
use Rattle.console.specs.WalksLaws.{walk_searched, walk_shown_lem}
use Rattle.console.proofs.walks.show.Goals as goal

pub returns-clause-puts : goal.returns-clause-puts
returns-clause-puts c = rw
    (walk_shown_lem (walk_told (verdict_in c.args.sheet) (list_in c.args.sheet) c.args.charge c.args.t.0 c.args.steps.now)
    c.walk_held-answer.ensures
    (walk_searched (verdict_in c.args.sheet) (list_in c.args.sheet) c.args.charge c.args.t.0 c.args.steps.now)
    c.args.layout)
    at c.put_walk.ensures
