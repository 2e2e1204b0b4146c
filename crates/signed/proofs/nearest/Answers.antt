-- `nearest`: the size of a by b has a quotient, so much over and so much lacking to the next; with its carry it is the nearest number (`sum_nearest`, and
-- below zero, where sizes are counted from -1, `less_nearest`).
use borrow.Author.Rules.{rules}
use Rattle.signed.proofs.Rounding.{sum_fits, sum_nearest, less_fits, less_nearest}
use Rattle.signed.proofs.nearest.Goals as goal

pub overflow_add-result : goal.overflow_add-result
overflow_add-result c = search (rules, sum_fits)

pub overflow_sub-result-else-a-ge0 : goal.overflow_sub-result-else-a-ge0
overflow_sub-result-else-a-ge0 c = search (rules, less_fits)

pub returns-then-a-ge0 : goal.returns-then-a-ge0
returns-then-a-ge0 c = search (rules, sum_nearest)

pub returns-else-a-ge0 : goal.returns-else-a-ge0
returns-else-a-ge0 c = search (rules, less_nearest)
