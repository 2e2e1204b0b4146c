-- `walk_judged`: refusal 13, then 10, then those of the start, in the paper's order (proofs/Start.antt); past them the lists have room and `go` walks.
use borrow.Author.Rules.{rules}
use Rattle.std.specs.Prelude.{◌≡◌, Err}
use Rattle.walk.proofs.Start.{stops_13, stops_10, start_stops, start_goes, walks_left}
use Rattle.walk.proofs.inner.walk_judged.Goals as goal

pub returns-then-wrong_steps : goal.returns-then-wrong_steps
returns-then-wrong_steps c = stops_13 _ _ _ _ _ c.if-wrong_steps.ensures

pub returns-then-short_lists : goal.returns-then-short_lists
returns-then-short_lists c = stops_10 _ _ _ _ _ c.if-wrong_steps.ensures c.if-short_lists.ensures

pub returns-in_err-start : goal.returns-in_err-start
returns-in_err-start c =
    let e : c.from_residual.result ≡ Err c.in_err-start.field-0.0 = search rules in
    rw e (start_stops _ _ _ _ _ c.if-wrong_steps.ensures c.if-short_lists.ensures c.in_err-start.ensures.told)

pub returns : goal.returns
returns c =
    walks_left
    (start_goes _ _ _ _ _ c.if-wrong_steps.ensures c.if-short_lists.ensures c.in_ok-start.ensures.told c.in_ok-start.ensures.same c.begin-standing.ensures c.go.ensures.walks)
    (search rules) (search rules) (search rules)
