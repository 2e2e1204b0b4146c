-- `print_walk`: a sheet that is judged here or was judged when it was read gives the same page (`printed_judged`).
use borrow.Author.Rules.{rules}
use Rattle.text.specs.PutsLaws.{wrote_puts}
use Rattle.console.specs.VerdictLaws.{printed_judged}
use Rattle.console.proofs.print_walk.Goals as goal

pub returns : goal.returns
returns c =
    let p = rw (printed_judged c.args.sheet.now c.judge-found.result c.judge-found.ensures.told c.judge-found.ensures.same c.args.charge c.args.t.0 c.args.steps.now)
    at (wrote_puts c.print_with_list.ensures.puts) in
    search (rules, p, c.print_with_list.ensures.puts.same)
