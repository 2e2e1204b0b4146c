-- `mark`: 12 by the two tests of range, 11 for a blank, and each number at the scale of its kind (proofs/Scales.antt). Assumes nothing.
use mathlib.Core.Path.{◌≡◌, refl, sym, ap, ◌∙◌}
use mathlib.Core.Bool.{Bool, true, false}
use Prim.Native.Nat.{ℕ}
use lib.IntN.{ℤ, pos, neg_ℤ}
use lib.Ieee.{Float}
use mir.Syntax.{w64}
use mir.Val.{SFits}
use Rattle.std.specs.Prelude.{Option}
use Rattle.signed.specs.Zed.{read, back, in_z, in_plain}
use Rattle.marking.specs.Marking.{out_of_range}
use Rattle.marking.proofs.Ends.{key_outside, window_outside, both_inside}
use Rattle.marking.proofs.Scales.{scaled_told, by_scale}
use Rattle.marking.proofs.mark.Goals as goal
use Rattle.marking.proofs.mark.Goals.{then-not-inside-via-then-not-inside, then-not-inside-via-else-not-inside+then-not-inside-2}

-- past both tests of range 12 does not hold
in_range : (key window : ℤ) {k w : Bool} → SFits w64 key → SFits w64 window
    → k ≡ in_z (neg_ℤ (pos 1000000000000)) (pos 1000000000000) (read key) → k ≡ true → w ≡ in_z (pos 0) (pos 100000) (read window) → w ≡ true
    → out_of_range key window ≡ false
in_range key window K W e t f u = both_inside key window (sym (in_plain _ _ K e) ∙ t) (sym (in_plain _ _ W f) ∙ u)

pub returns-then-not-inside : goal.returns-then-not-inside
returns-then-not-inside c =
    let out : out_of_range c.args.key c.args.window ≡ true =
    elim c.then-not-inside.branch [
      | then-not-inside-via-then-not-inside w ↦
          key_outside c.args.key c.args.window (sym (in_plain (neg_ℤ (pos 1000000000000)) (pos 1000000000000) c.ranges.key c.inside.ensures) ∙ w.if-not-inside.true)
      | then-not-inside-via-else-not-inside+then-not-inside-2 w ↦
          window_outside c.args.key c.args.window (sym (in_plain (pos 0) (pos 100000) c.ranges.window w.inside-else-not-inside.ensures) ∙ w.if-not-inside-2.true)
    ] in
    sym (rw out refl)

pub mark_number-requires-clause-in_range : goal.mark_number-requires-clause-in_range
mark_number-requires-clause-in_range c =
    rw (back c.ranges.key, back c.ranges.window)
    (in_range c.args.key c.args.window c.ranges.key c.ranges.window c.inside.ensures c.if-not-inside.false c.inside-else-not-inside.ensures c.if-not-inside-2.false)

pub returns-in_default : goal.returns-in_default
returns-in_default c =
    let r =
    in_range c.args.key c.args.window c.ranges.key c.ranges.window c.inside.ensures c.if-not-inside.false c.inside-else-not-inside.ensures c.if-not-inside-2.false in
    sym
    (by_scale c.args.typed c.args.key c.args.window r
    ∙ ap (λ (n : Option (ℕ × Float)). scaled_told n c.args.key c.args.window) (sym c.at_scale.ensures ∙ c.in_default.is))

pub returns : goal.returns
returns c =
    let r =
    in_range c.args.key c.args.window c.ranges.key c.ranges.window c.inside.ensures c.if-not-inside.false c.inside-else-not-inside.ensures c.if-not-inside-2.false in
    (rw (back c.ranges.key, back c.ranges.window) at c.mark_number.ensures)
    ∙ sym
    (by_scale c.args.typed c.args.key c.args.window r
    ∙ ap (λ (n : Option (ℕ × Float)). scaled_told n c.args.key c.args.window) (sym c.at_scale.ensures ∙ c.in-Some.is))
