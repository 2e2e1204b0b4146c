-- The search of a heat: from the row that is left to what document 01 asks. Assumes nothing.
use mathlib.Core.Path.{◌≡◌, refl, sym, ap, ◌∙◌}
use mathlib.Core.Bool.{true, false}
use mathlib.Core.List.{List, ◌++◌}
use Prim.Native.Nat.{ℕ, ◌+◌, ◌*◌, ◌/◌, ◌<◌, ◌≤◌}
use native.Mathlib.Omega.{arith}
use lib.IntN.{ℤ, pos, ◌-ℤ◌}
use lib.ListN.{drop, replicate}
use lib.Signed.{le_z, ◌≤ℤ◌, ◌<ℤ◌}
use mir.Syntax.{w64}
use mir.Val.{SFits, to_z, of_z}
use Rattle.signed.specs.Zed.{up, le_read, zed}
use Rattle.rows.specs.Limits.{first_kelvin, last_kelvin}
use Rattle.air.specs.Limits.{look_places, coldest, hottest}
use Rattle.air.specs.Halving.{halving, eleven, Halved}
use Rattle.air.specs.HalvingLaws.{Kept, places_are}
use Rattle.air.specs.Inverse.{temperature, rest}
use Rattle.air.specs.InverseLaws.{no_looks, looks_are, row_kept, top_temperature, top_rest, temperature_is, rest_is}
use Rattle.sheet.specs.Sheet.{Accepted}
use Rattle.burning.specs.declared.Masses.{Masses}
use Rattle.gas.specs.Heat.{heat_of, heat_slope}
use Rattle.gas.specs.RestLaws.{row_of}
use Rattle.gas.specs.HeatLaws.{heat_straight}
use Rattle.gas.specs.inner.Sizes.{Sized}
use Rattle.gas.specs.inner.Search.{heat_fits, HoldsTarget, divided, Searched}
use Rattle.gas.proofs.Lines.{slope_of, heats_rise}

-- ---- the whole search, from 200 to 2,000
-- the row that the search keeps for a target from the heat at 200 K to below that at 2,000 K, with the eleven places after it
pub record KeptRow (m : Masses) (s : List ℕ) (target : ℤ) (row : ℕ) (places : List ℕ) : Type 0 where
  pub low : heat_of m s coldest ≤ℤ target
  pub high : target <ℤ heat_of m s hottest
  pub halved : Halved (heat_fits m s target) first_kelvin last_kelvin 0 (replicate look_places 0) row places

-- as the machine finds it, by its test against the heat at 2,000 K
pub kept_by : {m : Masses} {s : List ℕ} {target last : ℤ} {row : ℕ} {places : List ℕ} → heat_of m s coldest ≤ℤ target → last ≡ heat_of m s hottest
    → SFits w64 last → SFits w64 target → le_z (to_z w64 (of_z w64 last)) (to_z w64 (of_z w64 target)) ≡ false
    → Halved (heat_fits m s target) first_kelvin last_kelvin 0 (replicate look_places 0) row places → KeptRow m s target row places
kept_by low q f g e halved = record { low = low; high = omega (zed, le_read f g e, q); halved = halved }

module _ {m : Masses} {s : List ℕ} (sized : Sized m) (ok : Accepted s) (target : ℤ) where
  -- a target that is the heat at 2,000 K
  pub at_last : (before after : List ℕ) → target ≡ heat_of m s hottest → after ≡ replicate look_places 0 ++ drop look_places before
      → Searched (heat_of m s) target before (record { 0 = pos hottest }, record { 0 = pos 0 }) after
  unfolding eleven
  at_last before after e h = record {
    answer = rw (top_temperature (heat_of m s) target e, top_rest (heat_of m s) target e) refl;
    list = h ∙ ap (λ (l : List ℕ). eleven l ++ drop look_places before) (sym (no_looks (heat_of m s) target e));
  }

  module _ {row : ℕ} {places : List ℕ} (k : KeptRow m s target row places) where
    kept_row : Kept (heat_fits m s target) first_kelvin last_kelvin (halving (heat_fits m s target) first_kelvin last_kelvin)
    unfolding heat_fits
    kept_row = row_kept (heat_of m s) target k.low k.high

    pub row_least : first_kelvin ≤ row
    row_least = omega (arith, k.halved.row_is, kept_row.least)

    pub row_most : row < last_kelvin
    row_most = omega (arith, k.halved.row_is, kept_row.most)

    row_passes : le_z (heat_of m s (1000 * row)) target ≡ true
    unfolding heat_fits
    row_passes = ap (heat_fits m s target) k.halved.row_is ∙ kept_row.passes

    next_fails : le_z (heat_of m s (1000 * (row + 1))) target ≡ false
    unfolding heat_fits
    next_fails = ap (λ (j : ℕ). heat_fits m s target (j + 1)) k.halved.row_is ∙ kept_row.fails

    -- the row with the heats that are read there and at the next kelvin
    module _ {here next : ℤ} (p : here ≡ heat_of m s (1000 * row)) (q : next ≡ heat_of m s (1000 * (row + 1))) where
      pub holds_target : HoldsTarget target row here next
      holds_target = record {
        rises = rw (p, q) (heats_rise sized ok row row_least row_most);
        passes = rw p (omega (zed, row_passes));
        fails = rw q (omega (zed, next_fails));
        most = row_most;
      }

      -- the row's slope is that of the gas
      slope_here : up (next -ℤ here) / 1000 ≡ heat_slope m s row
      unfolding heats_rise
      slope_here = rw (p, q) (slope_of (heats_rise sized ok row row_least row_most))

      found_by_division : divided target row here next ≡ (record { 0 = pos (temperature (heat_of m s) target) }, record { 0 = rest (heat_of m s) target })
      unfolding divided heat_straight row_of heat_fits
      found_by_division =
          let st = heat_straight m sized.thin ok in
          let w = row_of st target k.low k.high in
          rw (
            slope_here,
            p,
            k.halved.row_is,
            temperature_is st w.row w.over target w.least w.most w.above w.below,
            rest_is st w.row w.over target w.least w.most w.above w.below,
          ) refl

      pub row_searched : {before after : List ℕ} → after ≡ places ++ drop look_places before
          → Searched (heat_of m s) target before (divided target row here next) after
      unfolding heat_fits
      row_searched {before} l = record {
        answer = found_by_division;
        list = l ∙ ap (λ (x : List ℕ). x ++ drop look_places before) (places_are k.halved ∙ ap eleven (sym (looks_are (heat_of m s) target k.high)));
      }
