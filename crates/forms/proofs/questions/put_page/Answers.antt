-- `put_page`: the console's page is the question's (`question_walk`), and the buffer has room for it (`puts_whole`).
use Rattle.std.proofs.Common.{arith, rules}
use Rattle.text.specs.PutsLaws.{puts_whole, wrote_puts}
use Rattle.console.specs.Answers.{verdict_in, list_in}
use Rattle.forms.proofs.Printing.{question_walk}
use Rattle.forms.proofs.questions.put_page.Goals as goal

pub returns : goal.returns
returns c =
    let held = question_walk (verdict_in c.args.sheet) (list_in c.args.sheet) c.args.numbers.now c.args.lines c.kept-end.result in
    let p = rw (held c.charge_in-start.ensures (search rules) (omega (arith, c.kept-end.ensures.1))) at c.print_judged-answer.ensures in
    let q = puts_whole c.requires.1 (wrote_puts p.puts) in record { stands = search rules; answer_value = p.answer_value }
