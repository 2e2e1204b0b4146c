-- `keep_line`: the numbers are kept one after the other (`sets_next`); a line past those that are kept leaves the list.
-- Invariant: with the numbers from i on kept too, the list is the one with the whole line kept.
use Rattle.std.proofs.Common.{◌≡◌, ◌+◌, ◌*◌, length, drop}
use Rattle.std.proofs.lemmas.List.Edits.{sets}
use Rattle.walk.specs.Limits.{step_numbers}
use Rattle.forms.proofs.questions.keep_line.Given as goal

abbrev pub invariant-loop-i : goal.invariant-loop-i
invariant-loop-i l =
    (length l.numbers ≡ length l.initial.numbers)
    × (sets l.initial.numbers (step_numbers * l.k) l.line ≡ sets l.numbers (step_numbers * l.k + l.i) (drop l.i l.line))
