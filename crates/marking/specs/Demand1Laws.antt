-- Demand 1 for each entry on figures and marks that can refuse, both ways: `demand_1_NAME`, of every answer that meets the promise of NAME. Assumes nothing.
use Rattle.std.specs.Prelude.{◌≡◌, List, ℕ, ℤ, Result}
use Rattle.refusal.specs.declared.Refusal.{Refusal}
use Rattle.refusal.specs.Refusals.{Demand1}
use Rattle.refusal.specs.RefusalsLaws.{demand_1}
use Rattle.burning.specs.declared.Charge.{Charge}
use Rattle.burning.specs.Burning.{document01}
use Rattle.gas.specs.Answers.{heat_order}
use Rattle.marking.specs.declared.Typed.{Typed}
use Rattle.marking.specs.declared.Marked.{Marked}
use Rattle.marking.specs.declared.StationFigure.{StationFigure}
use Rattle.marking.specs.Marking.{counts, order, marked, paper_mark}
use Rattle.marking.specs.Figures.{figures_of, station_specific, station_mass, station_told, paper_station}

pub demand_1_mark : (typed : Typed) (key window : ℤ) (r : Result Marked Refusal) → paper_mark r ≡ marked typed key window → Demand1 (order typed key window) (counts typed key window) (paper_mark r)
demand_1_mark typed key window r e = demand_1 _ _ e

pub demand_1_station : (ch : Charge) (mk : ℤ) (s : List ℕ) (r : Result StationFigure Refusal) → paper_station r ≡ station_told ch mk s
    → Demand1 (heat_order document01 ch mk s) (figures_of mk (station_specific ch mk s) (station_mass ch)) (paper_station r)
demand_1_station ch mk s r e = demand_1 _ _ e
