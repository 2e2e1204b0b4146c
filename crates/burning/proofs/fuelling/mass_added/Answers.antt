-- `mass_added`: fuel that is not wrong takes no atoms away and is within the limits of a gas, so it is weighed as one: `mass_added`.
use borrow.Author.Rules.{rules}
use mathlib.Core.Path.{◌≡◌, ap, ◌∙◌}
use Prim.Native.Nat.{ℕ}
use lib.IntN.{ℤ, pos}
use mir.Val.{to_z, of_z, SFits}
use mir.Syntax.{w64}
use Rattle.signed.specs.Zed.{up, back}
use Rattle.burning.specs.FuelLaws.{carbon_most, hydrogen_most}
use Rattle.burning.proofs.fuelling.mass_added.Goals as goal

counted : {n : ℕ} {z : ℤ} → pos n ≡ to_z w64 (of_z w64 z) → SFits w64 z → n ≡ up z
counted e f = ap up (e ∙ back f)

pub fuel_mass-requires : goal.fuel_mass-requires
fuel_mass-requires c = let fit_carbon : SFits w64 c.args.fuel.carbon =
    search rules in
    let fit_hydrogen : SFits w64 c.args.fuel.hydrogen =
    search rules in
    rw (counted c.to_u64.ensures fit_carbon, counted c.to_u64-2.ensures fit_hydrogen)
    (record {
      air_some = c.requires.0.air_some;
      air_most = c.requires.0.air_most;
      carbon_most = carbon_most c.args.gas c.args.fuel c.requires.1;
      hydrogen_most = hydrogen_most c.args.gas c.args.fuel c.requires.1;
    })
