-- Document 01, "Examples to hold against it": P1 to P10 as one table, and the looks of P8, the sheet being any accepted one; and specific contents that are
-- ties (document 02, request 2). Assumes nothing.
use borrow.Author.Tests.{le-ltb}
use Rattle.std.specs.Prelude.{◌≡◌, List, [], ◌∷◌, ◌++◌, ℤ, neg_ℤ, ◌+ℤ◌}
use Rattle.std.proofs.Math.Path.{refl, ap, fun_ext}
use Rattle.std.proofs.Common.{◌∙◌, arith, lit≤}
use Prim.Native.Nat.{ℕ, ◌+◌, ◌*◌, ◌-◌, ◌/◌, ◌%◌, ◌<◌, ◌≤◌}
use Rattle.std.proofs.Math.Dec.{lit<, ltb}
use Rattle.std.proofs.Math.IntN.{pos}
use Rattle.signed.specs.Zed.{up, in_z, eq_z, is_pos, same_by}
use Rattle.signed.specs.Nearest.{carry_of, nearest_ℕ, nearest_z}
use Rattle.rows.specs.Rows.{rows_h}
use Rattle.rows.specs.Table.{column, air_h}
use Rattle.refusal.specs.Refusals.{gives, refuses, ◌when◌}
use Rattle.air.specs.Readings.{reading, between, air_heat}
use Rattle.air.specs.Halving.{halvings, halving}
use Rattle.air.specs.Inverse.{looks, unreached, Found, found}
use Rattle.air.specs.InverseLaws.{temperature_is, rest_is}
use Rattle.air.specs.Answers.{air_heat_told, psi_told}
use Rattle.air.specs.Examples.{P1, P2, P3}
use Rattle.sheet.specs.Sheet.{o2, co2, h2o, rise, Accepted}
use Rattle.sheet.specs.AnswersLaws.{past_sheet}
use Rattle.burning.specs.declared.Charge.{Charge}
use Rattle.burning.specs.Burning.{document01, gas_of, beyond, lean, oxygen_used, products, mass_of, total_mass}
use Rattle.burning.specs.Burning.{masses_of}
use Rattle.gas.specs.Heat.{heat_sum, heat_of, gas_heat, heat_slope}
use Rattle.gas.specs.HeatLaws.{sum_is, heat_straight}
use Rattle.burning.specs.Answers.{charge_lines, burn_told}
use Rattle.gas.specs.Answers.{temperature_told}

abbrev pub charge : ℕ → ℕ → ℕ → Charge
charge A c h = record { air = pos A; carbon = pos c; hydrogen = pos h }

-- temperature and rest
abbrev pub at : ℕ → ℕ → Found
at mk left = record { mk = pos mk; left = pos left }

pub record Table (s : List ℕ) : Type 0 where
  pub p1 : air_heat_told (pos 200000) ≡ gives 4776000
  pub p2 : air_heat_told (pos 200500) ≡ gives 4788000
  pub p3 : psi_told (pos 200500) ≡ gives 95302000
  pub p4 : burn_told document01 (charge 3 1 4) ≡ gives (record { co2 = 44011; h2o = 36032; o2 = 5558; n2 = 226389; ar = 4053 })
  pub p4_sum : mass_of (products document01 (gas_of (charge 3 1 4))) ≡ 316043
  pub p5 : burn_told document01 (charge 2 1 4) ≡ refuses 5
  pub p6 : burn_told document01 (charge 4000 0 11593) ≡ gives (record { co2 = 0; h2o = 104429744; o2 = 0; n2 = 301852000; ar = 5404000 })
  pub p7 : burn_told document01 (charge 4000 0 11594) ≡ refuses 5
  pub p8 : (places : ℕ) → 11 ≤ places → temperature_told document01 (charge 1 0 0) (pos 478800000000) s places ≡ gives (at 200500 0)
  pub p8_looks : looks (gas_heat document01 s (gas_of (charge 1 0 0))) (pos 478800000000) ≡ 1100 ∷ 650 ∷ 425 ∷ 312 ∷ 256 ∷ 228 ∷ 214 ∷ 207 ∷ 203 ∷ 201 ∷ []
  pub p9 : (places : ℕ) → 11 ≤ places → temperature_told document01 (charge 1 0 0) (pos 478802399999) s places ≡ gives (at 200500 2399999)
  pub p10 : (places : ℕ) → 11 ≤ places → temperature_told document01 (charge 1 0 0) (pos 478802400000) s places ≡ gives (at 200501 0)

-- ---- air alone: its gas heat is 100000A times air heat, whatever the sheet
module _ (s : List ℕ) (A : ℕ) where
  alone_sum : (a o c h : ℕ) → heat_sum (masses_of document01 (gas_of (charge A 0 0))) a o c h ≡ pos (100000 * A * a)
  unfolding masses_of oxygen_used
  alone_sum a o c h = same_by (sum_is (masses_of document01 (gas_of (charge A 0 0))) a o c h) (is_pos (100000 * A * a)) (omega arith)

  pub air_alone : gas_heat document01 s (gas_of (charge A 0 0)) ≡ (λ (T : ℕ). pos (100000 * A * air_heat T))
  unfolding heat_of
  air_alone = fun_ext (λ T. alone_sum (air_heat T) (between (o2 s) T) (between (co2 s) T) (between (h2o s) T))

-- ---- one part of air with no fuel, from 200 to 201 K: a target o above the heat at 200 K, 477,600,000,000, where each mK is 2,400,000
module _ {s : List ℕ} (ok : Accepted s) (o : ℕ) (h : o < 2400000000) where
  part_thin : 4 * up (masses_of document01 (gas_of (charge 1 0 0))).used < (masses_of document01 (gas_of (charge 1 0 0))).air
  unfolding masses_of oxygen_used
  part_thin = lit< tt

  part_slope : heat_slope (masses_of document01 (gas_of (charge 1 0 0))) s 200 ≡ 2400000
  unfolding heat_slope air_h column rows_h
  part_slope = ap up (alone_sum s 1 24 (rise (o2 s) 200) (rise (co2 s) 200) (rise (h2o s) 200))

  part_first : gas_heat document01 s (gas_of (charge 1 0 0)) 200000 ≡ pos 477600000000
  unfolding air_h column rows_h reading between air_heat
  part_first = ap (λ (v : ℕ → ℤ). v 200000) (air_alone s 1)

  part_last : gas_heat document01 s (gas_of (charge 1 0 0)) 2000000 ≡ pos 5378900000000
  unfolding air_h column rows_h reading between air_heat
  part_last = ap (λ (v : ℕ → ℤ). v 2000000) (air_alone s 1)

  pub part_found : found (gas_heat document01 s (gas_of (charge 1 0 0))) (pos (477600000000 + o)) ≡ at (200000 + o / 2400000) (o % 2400000)
  unfolding heat_straight
  part_found =
      let st = heat_straight (masses_of document01 (gas_of (charge 1 0 0))) part_thin ok in
      let above : pos (477600000000 + o) ≡ gas_heat document01 s (gas_of (charge 1 0 0)) 200000 +ℤ pos o = rw part_first refl in
      let below : o < 1000 * heat_slope (masses_of document01 (gas_of (charge 1 0 0))) s 200 = omega (arith, part_slope) in
      rw (
        temperature_is st 200 o (pos (477600000000 + o)) (lit≤ tt) (lit< tt) above below,
        rest_is st 200 o (pos (477600000000 + o)) (lit≤ tt) (lit< tt) above below,
        part_slope,
      ) refl

  pub part_told : (places : ℕ) → 11 ≤ places
      → temperature_told document01 (charge 1 0 0) (pos (477600000000 + o)) s places ≡ gives (at (200000 + o / 2400000) (o % 2400000))
  unfolding beyond in_z lean oxygen_used
  part_told places p =
      past_sheet (10 when ltb places 11 ∷ charge_lines document01 (charge 1 0 0) ++ unreached (gas_heat document01 s (gas_of (charge 1 0 0))) (pos (477600000000 + o))) _ ok
      ∙ rw (
        le-ltb places 11 p,
        part_first,
        part_last,
        le-ltb (477600000000 + o) 477600000000 (omega arith),
        le-ltb 5378900000000 (477600000000 + o) (omega arith),
      ) (ap gives part_found)

-- the looks of P8
p8_looked : (s : List ℕ) → looks (gas_heat document01 s (gas_of (charge 1 0 0))) (pos 478800000000) ≡ 1100 ∷ 650 ∷ 425 ∷ 312 ∷ 256 ∷ 228 ∷ 214 ∷ 207 ∷ 203 ∷ 201 ∷ []
unfolding eq_z rows_h column air_h reading between air_heat looks halving halvings
p8_looked s = ap (λ (v : ℕ → ℤ). looks v (pos 478800000000)) (air_alone s 1)

-- ---- the table
pub table : {s : List ℕ} → Accepted s → Table s
unfolding beyond in_z lean oxygen_used products
table {s} ok = record {
  p1 = P1;
  p2 = P2;
  p3 = P3;
  p4 = refl;
  p4_sum = refl;
  p5 = refl;
  p6 = refl;
  p7 = refl;
  p8 = part_told ok 1200000000 (lit< tt);
  p8_looks = p8_looked s;
  p9 = part_told ok 1202399999 (lit< tt);
  p10 = part_told ok 1202400000 (lit< tt);
}

-- ---- A 1, h 2 has a mass of 102,016: contents of so many halves of it, which the built-in sheet has at 221,122, 227,870, 293,146 and 317,222 mK, and one beside
pub record Ties : Type 0 where
  pub mass : total_mass document01 (gas_of (charge 1 0 2)) ≡ 102016
  pub even_below : nearest_z (neg_ℤ (pos (3742225 * 51008))) 102016 ≡ neg_ℤ (pos 1871112)
  pub odd_below : nearest_z (neg_ℤ (pos (3364155 * 51008))) 102016 ≡ neg_ℤ (pos 1682078)
  pub odd_above : nearest_z (pos (276435 * 51008)) 102016 ≡ pos 138218
  pub even_above : nearest_z (pos (1621525 * 51008)) 102016 ≡ pos 810762
  pub beside_below : nearest_z (neg_ℤ (pos (3742225 * 51008 + 1))) 102016 ≡ neg_ℤ (pos 1871113)
  pub beside_above : nearest_z (pos (276435 * 51008 - 1)) 102016 ≡ pos 138217

pub ties : Ties
unfolding nearest_z nearest_ℕ carry_of
ties = record { mass = refl; even_below = refl; odd_below = refl; odd_above = refl; even_above = refl; beside_below = refl; beside_above = refl }
