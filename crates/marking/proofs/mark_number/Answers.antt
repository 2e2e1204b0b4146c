-- `mark_number`: what is no number is refused, and a number counts by its exact value (proofs/Spans.antt, proofs/Patterns.antt). Assumes nothing.
use Rattle.std.proofs.Common.{true≢false}
use mathlib.Core.List.{[]}
use mathlib.Core.Path.{◌≡◌, refl, sym, ap, ◌∙◌}
use mathlib.Core.Bool.{Bool, true, not}
use mathlib.Core.List.{◌∷◌}
use Prim.Native.Nat.{ℕ, ◌*◌, ◌^◌}
use native.Mathlib.Omega.{arith}
use lib.Pow.{pow_pos}
use lib.IntN.{ℤ, ◌+ℤ◌, ◌-ℤ◌}
use lib.Ieee.{Float}
use lib.Ieee.Scale.{finite}
use lib.Ieee.Exact.{HasValue}
use mir.Syntax.{w64}
use mir.Val.{SFits}
use Rattle.signed.specs.Zed.{read, back}
use Rattle.refusal.specs.Refusals.{gives, first, ◌when◌}
use Rattle.marking.specs.Marking.{near}
use Rattle.marking.specs.declared.exact.Fields.{Fields}
use Rattle.marking.specs.Exact.{FieldsOf, turned, sized, spans}
use Rattle.marking.proofs.Spans.{near_value}
use Rattle.marking.proofs.Patterns.{fields_value, top_none, finite_same}
use Rattle.marking.proofs.Ends.{Ranged, ranged, turned_fits, low_fits, high_fits, high_most}
use Rattle.marking.proofs.mark_number.Goals as goal

-- the machine reads the key turned over
middle : (s : Bool) (key window m : ℤ) → SFits w64 key → Ranged key window → m ≡ turned s (read key) → read m ≡ turned s key
middle s key window m K r e = rw (e, back K) (back (turned_fits s r))

-- the exact value that the fields stand for
value : (x : Float) (f : Fields) → FieldsOf x f → finite x ≡ true → HasValue x f.negative (sized f.exponent f.fraction) (2 ^ 1074)
value x f p e = rw p.is at (fields_value f.negative f.exponent f.fraction (omega (arith, p.exponent_lt, not_top)))
  where
    not_top : f.exponent ≡ 2047 → ⊥
    not_top h = true≢false (sym e ∙ ap finite (sym p.is) ∙ rw h (top_none f.negative f.fraction))

-- the whole answer, by what `lies` returned
told : (s : ℕ) (x : Float) (f : Fields) (key window : ℤ) (b : Bool) → FieldsOf x f → finite x ≡ true
    → b ≡ spans (s * sized f.exponent f.fraction) (2 ^ 1074) (turned f.negative key -ℤ window) (turned f.negative key +ℤ window)
    → first (11 when not (finite x) ∷ []) (near s x key window) ≡ gives b
told s x f key window b p e l =
    let v = value x f p e in
    rw e
    (ap gives (near_value s x f.negative (sized f.exponent f.fraction) (2 ^ 1074) key window (pow_pos 1074) v ∙ sym l))

pub returns-then-not-is_finite : goal.returns-then-not-is_finite
returns-then-not-is_finite c = sym (rw (sym (finite_same c.args.x) ∙ sym c.is_finite.ensures.value ∙ c.if-not-is_finite.true) refl)

pub turn-middle-requires : goal.turn-middle-requires
turn-middle-requires c = rw (back c.ranges.key) (turned_fits c.fields_of-fields.result.negative (ranged c.args.key c.args.window c.requires.in_range))

pub overflow_sub-middle : goal.overflow_sub-middle
overflow_sub-middle c =
    let p = c.fields_of-fields.result.negative in
    let r = ranged c.args.key c.args.window c.requires.in_range in
    let m = middle p c.args.key c.args.window c.turn-middle.result c.ranges.key r c.turn-middle.ensures in
    rw (m, back c.ranges.window) (low_fits p r)

pub overflow_add-middle : goal.overflow_add-middle
overflow_add-middle c =
    let p = c.fields_of-fields.result.negative in
    let r = ranged c.args.key c.args.window c.requires.in_range in
    let m = middle p c.args.key c.args.window c.turn-middle.result c.ranges.key r c.turn-middle.ensures in
    rw (m, back c.ranges.window) (high_fits p r)

pub lies-requires-clause-end_most : goal.lies-requires-clause-end_most
lies-requires-clause-end_most c =
    let p = c.fields_of-fields.result.negative in
    let r = ranged c.args.key c.args.window c.requires.in_range in
    let m = middle p c.args.key c.args.window c.turn-middle.result c.ranges.key r c.turn-middle.ensures in
    rw (m, back c.ranges.window, back (high_fits p r)) (high_most p r)

pub returns-then-lies : goal.returns-then-lies
returns-then-lies c =
    let p = c.fields_of-fields.result.negative in
    let r = ranged c.args.key c.args.window c.requires.in_range in
    let m = middle p c.args.key c.args.window c.turn-middle.result c.ranges.key r c.turn-middle.ensures in
    let l = rw (m, back c.ranges.window, back (low_fits p r), back (high_fits p r)) at c.lies.ensures in
    let n = sym (finite_same c.args.x) ∙ sym c.is_finite.ensures.value ∙ c.if-not-is_finite.false in
    sym (told c.args.scale c.args.x c.fields_of-fields.result c.args.key c.args.window c.lies.result c.fields_of-fields.ensures n l ∙ ap gives c.if-lies.true)

pub returns-else-lies : goal.returns-else-lies
returns-else-lies c =
    let p = c.fields_of-fields.result.negative in
    let r = ranged c.args.key c.args.window c.requires.in_range in
    let m = middle p c.args.key c.args.window c.turn-middle.result c.ranges.key r c.turn-middle.ensures in
    let l = rw (m, back c.ranges.window, back (low_fits p r), back (high_fits p r)) at c.lies.ensures in
    let n = sym (finite_same c.args.x) ∙ sym c.is_finite.ensures.value ∙ c.if-not-is_finite.false in
    sym (told c.args.scale c.args.x c.fields_of-fields.result c.args.key c.args.window c.lies.result c.fields_of-fields.ensures n l ∙ ap gives c.if-lies.false)
