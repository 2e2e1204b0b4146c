-- `at_kelvin`: at a whole kelvin the four heats per pound are the rows' own (`heat_whole`), small by `h_most` and `accepted_limit`.
use mathlib.Core.Path.{◌≡◌, sym, ap, ◌∙◌}
use mathlib.Core.List.{List}
use Prim.Native.Nat.{ℕ}
use native.Mathlib.Omega.{arith}
use Rattle.rows.proofs.TableLaws.{h_most}
use Rattle.rows.specs.Table.{column, air_h}
use Rattle.rows.specs.Rows.{rows_h}
use Rattle.sheet.specs.SheetLaws.{accepted_limit}
use Rattle.gas.specs.HeatLaws.{heat_whole}
use Rattle.gas.proofs.heats.at_kelvin.Goals as goal

-- a figure of the lent column
air_figure : (k : ℕ) {rows : List ℕ} {n : ℕ} → rows ≡ rows_h → n ≡ column rows k → n ≡ air_h k
unfolding air_h
air_figure k e h = h ∙ ap (λ (l : List ℕ). column l k) e

pub sum-requires : goal.sum-requires
sum-requires c = let n = accepted_limit c.args.sheet.accepted c.args.kelvin c.requires.1 c.requires.2 in (
  c.requires.0,
  record {
    air_most = omega (arith, air_figure c.args.kelvin c.args.sheet.heats_are c.figure.ensures.0, h_most c.args.kelvin);
    oxygen_most = omega (arith, c.o2_at.ensures.0, n.o2_most);
    dioxide_most = omega (arith, c.co2_at.ensures.0, n.co2_most);
    water_most = omega (arith, c.h2o_at.ensures.0, n.h2o_most);
  },
)

pub returns : goal.returns
returns c = c.sum.ensures
    ∙ rw (
      air_figure c.args.kelvin c.args.sheet.heats_are c.figure.ensures.0,
      c.o2_at.ensures.0,
      c.co2_at.ensures.0,
      c.h2o_at.ensures.0,
    )
    (sym (heat_whole c.args.gas c.args.sheet.list.now c.args.kelvin c.requires.2))
