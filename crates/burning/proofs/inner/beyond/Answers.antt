-- `beyond`: air, carbon and hydrogen are tried one after the other, and one outside its limit decides.
use borrow.Author.Rules.{rules}
use mathlib.Core.Path.{◌≡◌, sym, ap, ◌∙◌}
use mathlib.Core.Bool.{Bool, true, false, ◌||◌, not}
use lib.IntN.{ℤ, pos}
use mir.Syntax.{w64}
use mir.Val.{of_z, to_z, SFits}
use Rattle.signed.specs.Zed.{in_z, outside, in_plain}
use Rattle.burning.specs.declared.Charge.{Charge}
use Rattle.burning.specs.Burning.{beyond, document01}
use Rattle.burning.proofs.inner.beyond.Goals as goal
use Rattle.burning.proofs.inner.beyond.Goals.{then-not-inside, else-not-inside}

-- what the test of a number tells of it
tried : (lo hi : ℤ) {x : ℤ} {r : Bool} → SFits w64 x → r ≡ in_z lo hi (to_z w64 (of_z w64 x)) → not r ≡ outside lo hi x
tried lo hi f e = ap not (in_plain lo hi f e)

-- the first two tests as one, in either arm of the second
either : {a v w : Bool} (b : Bool) → w ≡ a → w ≡ true → v ≡ w → v ≡ a || b
either b q h p = rw (sym q ∙ h) (p ∙ h)

second : {a b v w : Bool} → w ≡ a → w ≡ false → v ≡ b → v ≡ a || b
second q h e = rw (sym q ∙ h) e

-- and the third after them
two_hold : (a b d : Bool) {v : Bool} → v ≡ a || b → v ≡ true → v ≡ a || (b || d)
two_hold true b d e h = e
two_hold false true d e h = e
two_hold false false d e h = absurd (cc)

two_fail : (a b d : Bool) {v r : Bool} → v ≡ a || b → v ≡ false → r ≡ d → r ≡ a || (b || d)
two_fail true b d e h k = absurd (cc)
two_fail false true d e h k = absurd (cc)
two_fail false false d e h k = k

-- the three tests of a charge
abbrev air_out : Charge → Bool
air_out ch = outside (pos 1) (pos document01.most_air) ch.air

abbrev carbon_out : Charge → Bool
carbon_out ch = outside (pos 0) (pos document01.most_atoms) ch.carbon

abbrev hydrogen_out : Charge → Bool
hydrogen_out ch = outside (pos 0) (pos document01.most_atoms) ch.hydrogen

pub returns-then-not-inside-2 : goal.returns-then-not-inside-2
unfolding beyond
returns-then-not-inside-2 c =
    let ch = c.args.charge in
    let f : SFits w64 ch.air = search rules in
    let g : SFits w64 ch.carbon = search rules in
    let a = tried (pos 1) (pos document01.most_air) f c.inside.ensures in
    let two : c.if-not-inside.value ≡ air_out ch || carbon_out ch =
    elim c.if-not-inside.branch [
      | then-not-inside w ↦ either (carbon_out ch) a (ap not w.if-not-inside.true) w.value-is
      | else-not-inside w ↦ second a (ap not w.if-not-inside.false) (w.value-is ∙ tried (pos 0) (pos document01.most_atoms) g w.inside-else-not-inside.ensures)
    ] in
    two_hold (air_out ch) (carbon_out ch) (hydrogen_out ch) two c.if-not-inside-2.true

pub returns-else-not-inside-2 : goal.returns-else-not-inside-2
unfolding beyond
returns-else-not-inside-2 c =
    let ch = c.args.charge in
    let f : SFits w64 ch.air = search rules in
    let g : SFits w64 ch.carbon = search rules in
    let h : SFits w64 ch.hydrogen = search rules in
    let a = tried (pos 1) (pos document01.most_air) f c.inside.ensures in
    let two : c.if-not-inside.value ≡ air_out ch || carbon_out ch =
    elim c.if-not-inside.branch [
      | then-not-inside w ↦ either (carbon_out ch) a (ap not w.if-not-inside.true) w.value-is
      | else-not-inside w ↦ second a (ap not w.if-not-inside.false) (w.value-is ∙ tried (pos 0) (pos document01.most_atoms) g w.inside-else-not-inside.ensures)
    ] in
    two_fail (air_out ch) (carbon_out ch) (hydrogen_out ch) two c.if-not-inside-2.false
    (tried (pos 0) (pos document01.most_atoms) h c.inside-else-not-inside-2.ensures)
