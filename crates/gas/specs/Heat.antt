-- Gas heat, content above 15 °C and specific content (document 01, "Burning"; document 02, request 2, for the rounding). A gas heat is in mg times
-- 0.00001 C.H.U./lb, a signed number; a temperature in mK; a sheet is its list of numbers.
use Rattle.std.specs.Prelude.{List, ℕ, ℤ, pos, ◌+ℤ◌, ◌-ℤ◌, ◌*ℤ◌}
use Rattle.signed.specs.Zed.{up}
use Rattle.signed.specs.Nearest.{nearest_z}
use Rattle.rows.specs.Table.{air_h}
use Rattle.air.specs.Limits.{fifteen_degrees}
use Rattle.air.specs.Readings.{between, air_heat}
use Rattle.sheet.specs.Sheet.{o2, co2, h2o, rise}
use Rattle.burning.specs.declared.Gas.{Gas}
use Rattle.burning.specs.declared.Masses.{Masses}
use Rattle.burning.specs.Burning.{Weights, total_mass, masses_of}

-- 100000A times air heat, less oxygen used times O2 heat, plus CO2 mass times CO2 heat, plus H2O mass times H2O heat
unfoldable pub heat_sum : Masses → ℕ → ℕ → ℕ → ℕ → ℤ
heat_sum m air oxygen dioxide water = pos m.air *ℤ pos air -ℤ m.used *ℤ pos oxygen +ℤ pos m.co2 *ℤ pos dioxide +ℤ pos m.h2o *ℤ pos water

-- gases read between kelvins as air is
unfoldable pub heat_of : Masses → List ℕ → ℕ → ℤ
heat_of m s T = heat_sum m (air_heat T) (between (o2 s) T) (between (co2 s) T) (between (h2o s) T)

-- what it rises by with each mK from the kelvin k to the next: the same sum, of what each gas rises by
unfoldable pub heat_slope : Masses → List ℕ → ℕ → ℕ
heat_slope m s k = up (heat_sum m (rise air_h k) (rise (o2 s) k) (rise (co2 s) k) (rise (h2o s) k))

-- gas heat at T
abbrev pub gas_heat : Weights → List ℕ → Gas → ℕ → ℤ
gas_heat w s g T = heat_of (masses_of w g) s T

-- content above 15 °C: gas heat at T less gas heat at 288,160 mK of the same charge
abbrev pub content_above15 : Weights → List ℕ → Gas → ℕ → ℤ
content_above15 w s g T = gas_heat w s g T -ℤ gas_heat w s g fifteen_degrees

-- specific content: content above 15 °C divided by total mass, nearest whole, a tie going to the even number (`specific_nearest` of SpecificLaws.antt)
unfoldable pub specific_content : Weights → List ℕ → Gas → ℕ → ℤ
specific_content w s g T = nearest_z (content_above15 w s g T) (total_mass w g)
