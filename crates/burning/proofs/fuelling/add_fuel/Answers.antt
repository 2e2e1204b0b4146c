-- `add_fuel`: carbon, then hydrogen, each by `add_atoms`: one that is too many is refusal 4, else the gas with both, the air as it was.
use borrow.Author.Rules.{rules}
use mathlib.Core.List.{[], ◌∷◌}
use mathlib.Core.Bool.{Bool, true}
use mathlib.Core.Path.{◌≡◌, ap, ◌∙◌}
use Prim.Native.Nat.{ℕ, ◌+◌}
use lib.IntN.{ℤ}
use mir.Val.{to_z, of_z, SFits}
use mir.Syntax.{w64}
use Rattle.std.specs.Prelude.{Err}
use Rattle.signed.specs.Zed.{up, back}
use Rattle.refusal.specs.Refusals.{Numbered, Plain, Told, ◌when◌, first, gives, refused, told_of}
use Rattle.refusal.specs.OrdersLaws.{line_held, line_clear}
use Rattle.burning.specs.declared.Gas.{Gas}
use Rattle.burning.specs.inner.Counts.{wrong_count}
use Rattle.burning.proofs.Adding.{wrong_carbon, wrong_hydrogen, right_counts, gas_with}
use Rattle.burning.proofs.fuelling.add_fuel.Goals as goal

-- what `add_atoms` tells of a count, by the number itself
told : {r : Told ℕ} (have : ℕ) {z : ℤ} → SFits w64 z → r ≡ first (4 when wrong_count have (to_z w64 (of_z w64 z)) ∷ []) (have + up (to_z w64 (of_z w64 z)))
    → r ≡ first (4 when wrong_count have z ∷ []) (have + up z)
told have f e = e ∙ ap (λ (x : ℤ). first (4 when wrong_count have x ∷ []) (have + up x)) (back f)

-- the refusal of a count is that of the fuel
stopped : {r : Numbered} (count fuel : Bool) (n : ℕ) (g : Gas) → refused r ≡ first (4 when count ∷ []) n → (count ≡ true → fuel ≡ true) → refused r ≡ first (4 when fuel ∷ []) g
stopped {r} count fuel n g e wrong =
    let h = line_held 4 count n e in
    let four : ◌≡◌ {A = Told ℕ} (refused r) (refused (Plain 4)) = rw h at e in
    rw (wrong h) (let q : r ≡ Plain 4 = cc in ap refused q)

pub returns-in_err-carbon : goal.returns-in_err-carbon
returns-in_err-carbon c =
    let f : SFits w64 c.args.fuel.carbon = search rules in
    let e : c.from_residual.result ≡ Err c.in_err-carbon.field-0.0 = search rules in
    ap told_of e ∙ stopped _ _ _ _ (told c.args.gas.carbon f c.in_err-carbon.ensures) (wrong_carbon c.args.gas c.args.fuel c.requires)

pub returns-in_err-hydrogen : goal.returns-in_err-hydrogen
returns-in_err-hydrogen c =
    let f : SFits w64 c.args.fuel.hydrogen = search rules in
    let e : c.from_residual-in_err-hydrogen.result ≡ Err c.in_err-hydrogen.field-0.0 = search rules in
    ap told_of e ∙ stopped _ _ _ _ (told c.args.gas.hydrogen f c.in_err-hydrogen.ensures) (wrong_hydrogen c.args.gas c.args.fuel c.requires)

pub returns : goal.returns
returns c =
    let f : SFits w64 c.args.fuel.carbon = search rules in
    let g : SFits w64 c.args.fuel.hydrogen = search rules in
    let x = line_clear 4 _ (c.args.gas.carbon + up c.args.fuel.carbon) (told c.args.gas.carbon f c.in_ok-carbon.ensures) in
    let y = line_clear 4 _ (c.args.gas.hydrogen + up c.args.fuel.hydrogen) (told c.args.gas.hydrogen g c.in_ok-hydrogen.ensures) in
    let e = right_counts c.args.gas c.args.fuel c.requires x.0 y.0 in
    rw e (ap gives (gas_with c.args.gas c.args.fuel e x.1 y.1))
