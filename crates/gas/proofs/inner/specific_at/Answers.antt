-- `specific_at`: the content by the total mass, which is above zero, to the nearest whole number.
use borrow.Author.Rules.{rules}
use mathlib.Core.Path.{refl, ◌∙◌}
use mir.Val.{SFits}
use mir.Syntax.{w64}
use Rattle.signed.specs.Zed.{back}
use Rattle.gas.specs.Heat.{specific_content}
use Rattle.gas.proofs.inner.specific_at.Goals as goal

pub returns : goal.returns
unfolding specific_content
returns c = let f : SFits w64 c.content_at-content.result.0 = search rules in
    let q : SFits w64 c.nearest.result = search rules in
    back q ∙ c.nearest.ensures ∙ rw (back f, c.content_at-content.ensures, c.total_mass.ensures) refl
