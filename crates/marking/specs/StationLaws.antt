-- The figures that a station gives are exactly its whole numbers, and their differences, of any two stations, exactly the whole-number differences. No condition
-- is asked: what is not refused is at most 2^52 in size. Assumes nothing.
use Rattle.std.specs.Prelude.{◌≡◌, List, ℕ, ◌^◌, ◌≤◌, ℤ, pos, nat_abs, ◌-ℤ◌, Ok}
use Rattle.std.proofs.Common.{sym, arith}
use Rattle.signed.specs.Zed.{up, in_range, apart, abs_parts, zed}
use Rattle.refusal.specs.Refusals.{gives}
use Rattle.refusal.specs.RefusalsLaws.{values_given}
use Rattle.refusal.specs.OrdersLaws.{clear_order, given}
use Rattle.air.specs.Limits.{coldest, hottest}
use Rattle.burning.specs.declared.Charge.{Charge}
use Rattle.burning.specs.declared.Gas.{Gas}
use Rattle.burning.specs.Burning.{document01, gas_of, total_mass}
use Rattle.gas.specs.Heat.{specific_content}
use Rattle.gas.specs.Answers.{heat_order}
use Rattle.gas.specs.AnswersLaws.{Readable, readable_of}
use Rattle.gas.specs.BoundsLaws.{mass_most, content_most, content_least, specific_most, specific_least}
use Rattle.marking.specs.Figures.{figures_of, AllExactly, differences, station_specific, station_mass, numbers_told, station_told, paper_station}
use Rattle.marking.specs.FiguresLaws.{figure_exact, like_figures}
use Rattle.marking.specs.declared.inner.StationNumbers.{StationNumbers}
use Rattle.marking.specs.declared.StationFigure.{StationFigure}

-- ---- three whole numbers up to 2^52 in size
pub record Small (mk specific mass : ℤ) : Type 0 where
  pub mk_small : nat_abs mk ≤ 2 ^ 52
  pub specific_small : nat_abs specific ≤ 2 ^ 52
  pub mass_small : nat_abs mass ≤ 2 ^ 52

module _ {a b c : ℤ} (m : Small a b c) where
  -- as figures they lose nothing
  small_exact : AllExactly a b c (figures_of a b c)
  small_exact = record {
    mk_is = figure_exact a (let h = m.mk_small in omega arith);
    content_is = figure_exact b (let h = m.specific_small in omega arith);
    mass_is = figure_exact c (let h = m.mass_small in omega arith);
  }

  -- nor do their differences
  small_differences : {x y z : ℤ} → Small x y z → AllExactly (a -ℤ x) (b -ℤ y) (c -ℤ z) (differences (figures_of a b c) (figures_of x y z))
  small_differences {x} {y} {z} n = record {
    mk_is = like_figures a x m.mk_small n.mk_small;
    content_is = like_figures b y m.specific_small n.specific_small;
    mass_is = like_figures c z m.mass_small n.mass_small;
  }

-- ---- the whole numbers of a station that is not refused are such
pub readable_small : {mk : ℤ} {s : List ℕ} {g : Gas} → Readable document01 mk s g → Small mk (specific_content document01 s g (up mk)) (pos (total_mass document01 g))
readable_small {mk} {s} {g} h =
    let i = in_range (pos coldest) (pos hottest) mk h.covered in
    let l : coldest ≤ up mk = omega (zed, apart mk) in
    let u : up mk ≤ hottest = omega (zed, apart mk) in
    let b = h.burns in
    let k = h.accepted in
    record {
      mk_small = omega (zed, abs_parts mk, apart mk);
      specific_small =
          omega (
            arith,
            abs_parts (specific_content document01 s g (up mk)),
            specific_most b k (up mk) l u,
            specific_least b k (up mk) l u,
            content_most b k (up mk) l u,
            content_least b k (up mk) l u,
          );
      mass_small = omega (arith, mass_most b);
    }

-- so are those that a station gives
pub numbers_small : (ch : Charge) (mk : ℤ) (s : List ℕ) {n : StationNumbers} → gives n ≡ numbers_told ch mk s → Small n.mk n.specific n.mass
numbers_small ch mk s e =
    rw (← given (heat_order document01 ch mk s) _ e)
    (readable_small (readable_of document01 ch mk s (sym (values_given (gas_of ch) (clear_order (heat_order document01 ch mk s) _ e)))))

module _ (ch : Charge) (mk : ℤ) (s : List ℕ) {f : StationFigure} (e : paper_station (Ok f) ≡ station_told ch mk s) where
  given_figures : figures_of mk (station_specific ch mk s) (station_mass ch) ≡ f
  given_figures = given (heat_order document01 ch mk s) _ e

  given_small : Small mk (station_specific ch mk s) (station_mass ch)
  given_small = readable_small (readable_of document01 ch mk s (sym (values_given (gas_of ch) (clear_order (heat_order document01 ch mk s) _ e))))

  -- "All are whole .. converted with no loss"
  pub station_exact : AllExactly mk (station_specific ch mk s) (station_mass ch) f
  station_exact = rw (← given_figures) (small_exact given_small)

-- "the difference of two like figures .. equals the whole-number difference", of any two stations; 0 is +0
pub station_differences : (ch di : Charge) (mk nk : ℤ) (s t : List ℕ) {f g : StationFigure} → paper_station (Ok f) ≡ station_told ch mk s → paper_station (Ok g) ≡ station_told di nk t
    → AllExactly (mk -ℤ nk) (station_specific ch mk s -ℤ station_specific di nk t) (station_mass ch -ℤ station_mass di) (differences f g)
station_differences ch di mk nk s t p q =
    rw (← given_figures ch mk s p, ← given_figures di nk t q) (small_differences (given_small ch mk s p) (given_small di nk t q))
