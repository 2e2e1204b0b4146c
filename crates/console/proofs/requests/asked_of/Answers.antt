-- `asked_of`: a charge's numbers and one more are asked, and other fields are not: the two cases of `asked_of`.
use borrow.Author.Rules.{rules}
use mathlib.Core.Path.{refl}
use mathlib.Core.List.{List}
use Rattle.std.specs.Prelude.{Some, None}
use lib.IntN.{ℤ, pos}
use lib.ListN.{get_or, replicate}
use mir.Syntax.{w64}
use mir.Val.{SFits}
use Rattle.signed.specs.Zed.{back}
use Rattle.fields.specs.FieldsLaws.{exactly}
use Rattle.burning.specs.Burning.{charge_numbers, charge_in}
use Rattle.console.specs.Limits.{start_numbers}
use Rattle.console.specs.inner.Left.{fields_left}
use Rattle.console.proofs.requests.asked_of.Goals as goal

pub returns : goal.returns
returns c =
    let f : SFits w64 (get_or c.read_exactly.new.list charge_numbers (pos 0)) = search rules in
    rw (c.charge_in.ensures, back f)
    (exactly (λ (l : List ℤ). Some (charge_in l, get_or l charge_numbers (pos 0))) None (fields_left c.args.rest)
    (replicate start_numbers (pos 0)) c.read_exactly.new.list start_numbers refl c.read_exactly.ensures.value c.if-not-read_exactly.false refl c.read_exactly.ensures.stored)
