-- `read_one`: one number exactly where there is one field and it is a number: then the list holds it (`exactly_some`).
use Rattle.std.specs.Prelude.{List, ℤ, pos, get_or, replicate}
use Rattle.std.proofs.Common.{rules, refl, ◌∙◌, SFits, w64}
use Rattle.signed.specs.Zed.{back}
use Rattle.fields.specs.Fields.{fields_from}
use Rattle.fields.specs.FieldsLaws.{exactly_some}
use Rattle.fields.proofs.read_one.Goals as goal

pub returns : goal.returns
returns c = let l = c.read_exactly.new.list in
    let f0 : SFits w64 (get_or l 0 (pos 0)) = search rules in
    let e = c.read_exactly.ensures in
    c.then_some.ensures
    ∙ rw (back f0)
    (exactly_some (λ (l : List ℤ). get_or l 0 (pos 0)) (fields_from c.args.line.now c.args.from) (replicate 1 (pos 0)) l 1 c.read_exactly.result refl e.value e.stored)
