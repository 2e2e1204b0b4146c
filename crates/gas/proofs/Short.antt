-- A lent list with fewer than eleven places, as `temperature_judged` answers it: refusal 10, and nothing is written. Assumes nothing.
use mathlib.Core.List.{List}
use Prim.Native.Nat.{ℕ, ◌<◌}
use lib.IntN.{ℤ}
use lib.ListN.{length}
use Rattle.std.specs.Prelude.{Err}
use Rattle.refusal.specs.declared.Refusal.TheVariants.{ShortList}
use Rattle.air.specs.Limits.{look_places}
use Rattle.sheet.specs.Sheet.{Accepted}
use Rattle.burning.specs.declared.Charge.{Charge}
use Rattle.burning.specs.Burning.{document01, gas_of}
use Rattle.gas.specs.Heat.{gas_heat}
use Rattle.gas.specs.Answers.{Temperature, search_order}
use Rattle.gas.specs.AnswersLaws.{short_search, stopped_told}

pub short_told : (ch : Charge) (target : ℤ) (s before : List ℕ) → Accepted s → length before < look_places → Temperature document01 ch target s before (Err ShortList) before
short_told ch target s before ok h =
    stopped_told (gas_heat document01 s (gas_of ch)) target before (search_order document01 ch s (length before)) _ ShortList (short_search ok document01 ch (length before) h)
