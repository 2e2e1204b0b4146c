-- `reply_walk`: fewer numbers than a start are a misfit (`walk_misfit`); what the list holds of the others tells the same walk as all of them do (`walk_kept`).
use mathlib.Core.Path.{refl}
use Rattle.console.specs.Answers.{verdict_in, list_in}
use Rattle.console.specs.Limits.{held_numbers}
use Rattle.console.specs.WalksLaws.{walk_kept}
use Rattle.console.specs.inner.Left.{fields_left}
use lib.ListN.{get_or, replicate}
use lib.IntN.{pos}
use mir.Syntax.{w64}
use mir.Val.{SFits}
use Rattle.signed.specs.Zed.{back}
use borrow.Author.Rules.{rules}
use Rattle.console.proofs.walks.reply_walk.Goals as goal

pub returns : goal.returns
returns c = let f3 : SFits w64 (get_or c.read_numbers-read.new.list 3 (pos 0)) = search rules in
    rw
    (walk_kept (verdict_in c.args.sheet) (list_in c.args.sheet) (fields_left c.args.rest)
    (replicate held_numbers (pos 0)) c.read_numbers-read.new.list refl c.read_numbers-read.result c.held_of-n.result
    c.read_numbers-read.ensures.value c.read_numbers-read.ensures.stored c.held_of-n.ensures c.if-n-lt-START_NUMBERS.false)
    at (rw (c.charge_in-start.ensures, back f3) at c.show.ensures.puts)
