-- Station figures (document 01, "Figures for the pages and typed answers"): whole numbers as binary64 floats. Definitions only.
-- The three figures are mK, specific content in 0.00001 C.H.U./lb, and total mass in mg.
use Rattle.std.specs.Prelude.{Bool, true, false, List, ℕ, ℤ, pos, negsuc, nat_abs, Float, Result}
use Rattle.std.specs.Float.{binary64}
use Rattle.std.specs.Float.Ieee.{of_int, sub}
use Rattle.std.specs.Float.Ieee.Exact.{HasValue}
use Rattle.signed.specs.Zed.{up}
use Rattle.refusal.specs.declared.Refusal.{Refusal}
use Rattle.refusal.specs.Refusals.{Told, told_of, first}
use Rattle.burning.specs.declared.Charge.{Charge}
use Rattle.burning.specs.declared.Gas.{Gas}
use Rattle.burning.specs.Burning.{document01, gas_of, total_mass}
use Rattle.gas.specs.Heat.{specific_content}
use Rattle.gas.specs.Answers.{heat_order}
use Rattle.marking.specs.declared.StationFigure.{StationFigure}
use Rattle.marking.specs.declared.inner.StationNumbers.{StationNumbers}

-- a whole number converted; "with no loss" is the law `figure_exact`
abbrev pub figure : ℤ → Float
figure z = of_int binary64 z

-- "A station figure is three binary64 numbers: mK, specific content, total mass"
abbrev pub figures_of : ℤ → ℤ → ℤ → StationFigure
figures_of mk specific mass = record { millikelvin = figure mk; content = figure specific; mass = figure mass }

-- whether a whole number has the minus sign; 0 has not
abbrev pub below0 : ℤ → Bool
below0 (pos n) = false
below0 (negsuc n) = true

-- x is the whole number z, neither more nor less: finite, with the sign of z, so that 0 is +0, and |z| / 1 in size
abbrev pub Exactly : ℤ → Float → Type 0
Exactly z x = HasValue x (below0 z) (nat_abs z) 1

-- three figures are these whole numbers, neither more nor less
pub record AllExactly (mk specific mass : ℤ) (f : StationFigure) : Type 0 where
  pub mk_is : Exactly mk f.millikelvin
  pub content_is : Exactly specific f.content
  pub mass_is : Exactly mass f.mass

-- "the difference of two like figures is one float subtraction", for each of the three
abbrev pub differences : StationFigure → StationFigure → StationFigure
differences f g = record {
  millikelvin = sub binary64 f.millikelvin g.millikelvin;
  content = sub binary64 f.content g.content;
  mass = sub binary64 f.mass g.mass;
}

-- a station's specific content and total mass (document 01, "Burning")
abbrev pub station_specific : Charge → ℤ → List ℕ → ℤ
station_specific ch mk s = specific_content document01 s (gas_of ch) (up mk)

abbrev pub station_mass : Charge → ℤ
station_mass ch = pos (total_mass document01 (gas_of ch))

-- the three whole numbers of a gas at a temperature
abbrev pub numbers_of : List ℕ → ℤ → Gas → StationNumbers
numbers_of s mk g = record { mk = mk; specific = specific_content document01 s g (up mk); mass = pos (total_mass document01 g) }

-- what a station tells in whole numbers: the first of refusals 1, 3, 4, 5, 6 that holds, else the three
abbrev pub numbers_told : Charge → ℤ → List ℕ → Told StationNumbers
numbers_told ch mk s = first (heat_order document01 ch mk s) (numbers_of s mk (gas_of ch))

-- what a station tells: the first of refusals 1, 3, 4, 5, 6 that holds, else its figures
abbrev pub station_told : Charge → ℤ → List ℕ → Told StationFigure
station_told ch mk s = first (heat_order document01 ch mk s) (figures_of mk (station_specific ch mk s) (station_mass ch))

-- each case of a station's answer: the figures, or the refusal's number
abbrev pub paper_station : Result StationFigure Refusal → Told StationFigure
paper_station = told_of

abbrev pub paper_numbers : Result StationNumbers Refusal → Told StationNumbers
paper_numbers = told_of
