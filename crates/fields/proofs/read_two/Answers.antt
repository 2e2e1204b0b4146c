-- `read_two`: two numbers exactly where both fields are numbers and there is no other: then the list holds both (`exactly_some`).
use Rattle.std.specs.Prelude.{List, ℤ, pos, get_or, replicate}
use Rattle.std.proofs.Common.{rules, refl, ◌∙◌, SFits, w64}
use Rattle.signed.specs.Zed.{back}
use Rattle.fields.specs.Fields.{fields_from}
use Rattle.fields.specs.FieldsLaws.{exactly_some}
use Rattle.fields.proofs.read_two.Goals as goal

pub returns : goal.returns
returns c = let l = c.read_exactly.new.list in
    let f0 : SFits w64 (get_or l 0 (pos 0)) = search rules in
    let f1 : SFits w64 (get_or l 1 (pos 0)) = search rules in
    let e = c.read_exactly.ensures in
    c.then_some.ensures
    ∙ rw (back f0, back f1)
    (exactly_some (λ (l : List ℤ). (get_or l 0 (pos 0), get_or l 1 (pos 0))) (fields_from c.args.line.now c.args.from)
    (replicate 2 (pos 0)) l 2 c.read_exactly.result refl e.value e.stored)
