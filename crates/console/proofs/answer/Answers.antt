-- `answer`: a sheet that is judged here or was judged when it was read gives the same answer to a line (`answer_judged_lem`).
use borrow.Author.Rules.{rules}
use Rattle.text.specs.PutsLaws.{wrote_puts}
use Rattle.console.specs.VerdictLaws.{answer_judged_lem}
use Rattle.console.proofs.answer.Goals as goal

pub returns : goal.returns
returns c =
    let p = rw (answer_judged_lem c.args.sheet.now c.judge-found.result c.judge-found.ensures.told c.judge-found.ensures.same c.args.line.now)
    at (wrote_puts c.answer_with_list.ensures) in
    search (rules, p, c.answer_with_list.ensures.same)
