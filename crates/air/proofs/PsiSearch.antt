-- The psi inverse: from what the search reads and keeps to what document 01 asks. Assumes nothing.
use borrow.Author.Tests.{leb-true, leb-false}
use mathlib.Core.Path.{◌≡◌, refl, sym, ap, ◌∙◌}
use mathlib.Core.Bool.{true, false}
use mathlib.Core.List.{List, ◌++◌}
use Prim.Native.Nat.{ℕ, ◌+◌, ◌-◌, ◌*◌, ◌/◌, ◌%◌, ◌<◌, ◌≤◌}
use native.Mathlib.Numerals.{add-one}
use native.Mathlib.Omega.{arith}
use lib.Arith.{lt_of_le-ne}
use lib.Dec.{leb, le→leb, lt→ltb}
use lib.IntN.{ℤ, pos, ◌+ℤ◌}
use lib.ListN.{length, drop, replicate}
use lib.Signed.{◌≤ℤ◌, ◌<ℤ◌}
use Rattle.signed.specs.Zed.{up, apart, plain, zed}
use Rattle.rows.specs.Limits.{first_kelvin, last_kelvin}
use Rattle.rows.specs.Rows.{rows_psi}
use Rattle.rows.specs.Table.{column, air_psi}
use Rattle.air.specs.Limits.{look_places, coldest, hottest}
use Rattle.std.specs.Prelude.{Result, Ok}
use Rattle.air.specs.declared.Millikelvin.{Millikelvin}
use Rattle.refusal.specs.declared.Refusal.{Refusal}
use Rattle.air.specs.Readings.{air_psi_at}
use Rattle.air.specs.ReadingsLaws.{between_whole, psi_straight, psi_slope}
use Rattle.air.specs.Halving.{halving, eleven, Halved}
use Rattle.air.specs.HalvingLaws.{Kept, places_are}
use Rattle.air.specs.Inverse.{temperature, rest, looks, found}
use Rattle.air.specs.InverseLaws.{no_looks, looks_are, rest_least, row_kept, top_temperature, top_rest, temperature_is, rest_is}
use Rattle.refusal.specs.Refusals.{gives, Line, told_by, First, Clear}
use Rattle.refusal.specs.RefusalsLaws.{refusal_given, values_given}
use Rattle.air.specs.Answers.{psi_value, psi_order, paper_psi, PsiInverse}
use Rattle.air.specs.inner.Search.{psi_fits, PsiRow, psi_found, PsiSearched}

-- a figure of the lent column
pub psi_figure : (k : ℕ) {rows : List ℕ} {r : ℕ} → rows ≡ rows_psi → r ≡ column rows k → r ≡ air_psi k
unfolding air_psi
psi_figure k e h = h ∙ ap (λ (l : List ℕ). column l k) e

pub psi_whole : (k : ℕ) → k ≤ last_kelvin → air_psi_at (1000 * k) ≡ 1000 * air_psi k
unfolding air_psi_at
psi_whole k u = between_whole air_psi k u

-- the test of a look
pub psi_tested : (target : ℕ) {k r : ℕ} → k ≤ last_kelvin → r ≡ air_psi k → leb (1000 * r) target ≡ psi_fits target k
unfolding psi_fits
psi_tested target {k} u e = ap (λ (n : ℕ). leb n target) (ap (λ (n : ℕ). 1000 * n) e ∙ sym (psi_whole k u))

-- the division in the row that is kept
module _ {target row a b : ℕ} (h : PsiRow target row a b) where
  over_is : pos target ≡ psi_value (1000 * row) +ℤ pos (target - 1000 * a)
  over_is = ap pos {x = target} {y = air_psi_at (1000 * row) + (target - 1000 * a)} (omega (arith, psi_whole row (omega (arith, h.most)), h.here, h.passes))

  slope_is : b - a ≡ psi_straight.slope row
  slope_is = omega (arith, h.here, h.next, ap air_psi (add-one row), psi_slope row)

  over_small : target - 1000 * a < 1000 * psi_straight.slope row
  over_small = omega (arith, slope_is, h.fails, h.passes)

  pub divided : ◌≡◌ {A = Millikelvin × ℕ} (record { 0 = pos (1000 * row + (target - 1000 * a) / (b - a)) }, (target - 1000 * a) % (b - a)) (psi_found target)
  unfolding psi_found
  divided =
      rw (
        temperature_is psi_straight row (target - 1000 * a) (pos target) h.least h.most over_is over_small,
        rest_is psi_straight row (target - 1000 * a) (pos target) h.least h.most over_is over_small,
        slope_is,
      ) refl

-- a target that the table reaches: the last value, or one that is searched
module _ (target : ℕ) where
  pub last_searched : (before after : List ℕ) → target ≡ 1000 * air_psi last_kelvin → after ≡ replicate look_places 0 ++ drop look_places before
      → PsiSearched target before (record { 0 = pos hottest }, 0) after
  unfolding psi_found eleven
  last_searched before after e h =
      let t : pos target ≡ psi_value hottest = ap pos (omega (arith, psi_whole last_kelvin (omega arith))) in
      record {
        answer = rw (top_temperature psi_value (pos target) t, top_rest psi_value (pos target) t) refl;
        list = h ∙ ap (λ (l : List ℕ). eleven l ++ drop look_places before) (sym (no_looks psi_value (pos target) t));
      }

  module _ (low : 1000 * air_psi first_kelvin ≤ target) (high : target < 1000 * air_psi last_kelvin) where
    below_last : pos target <ℤ psi_value hottest
    below_last = record { lt = lt→ltb target (air_psi_at hottest) (omega (arith, psi_whole last_kelvin (omega arith))) }

    from_first : psi_value coldest ≤ℤ pos target
    from_first = record { le = le→leb (air_psi_at coldest) target (omega (arith, psi_whole first_kelvin (omega arith))) }

    kept_row : Kept (psi_fits target) first_kelvin last_kelvin (halving (psi_fits target) first_kelvin last_kelvin)
    unfolding psi_fits
    kept_row = row_kept psi_value (pos target) from_first below_last

    -- the row that was kept, with the figures read there and at the next kelvin
    pub row_found : (row a b : ℕ) → row ≡ (halving (psi_fits target) first_kelvin last_kelvin).row → a ≡ air_psi row → b ≡ air_psi (row + 1) → PsiRow target row a b
    unfolding psi_fits
    row_found row a b e p q =
        let l : first_kelvin ≤ row = omega (arith, kept_row.least) in
        let u : row < last_kelvin = omega (arith, kept_row.most) in
        let y : psi_fits target row ≡ true = ap (psi_fits target) e ∙ kept_row.passes in
        let n : psi_fits target (row + 1) ≡ false = ap (λ (k : ℕ). psi_fits target (k + 1)) e ∙ kept_row.fails in
        record {
          least = l;
          most = u;
          here = p;
          next = q;
          passes = omega (arith, leb-true (air_psi_at (1000 * row)) target y, psi_whole row (omega arith));
          fails = omega (arith, leb-false (air_psi_at (1000 * (row + 1))) target n, psi_whole (row + 1) (omega arith));
        }

    pub searched : {places before after : List ℕ} {row : ℕ} {r : Millikelvin × ℕ} → Halved (psi_fits target) first_kelvin last_kelvin 0 (replicate look_places 0) row places
        → after ≡ places ++ drop look_places before → r ≡ psi_found target → PsiSearched target before r after
    unfolding psi_fits
    searched {before} h l e = record {
      answer = e;
      list = l ∙ ap (λ (x : List ℕ). x ++ drop look_places before) (places_are h ∙ ap eleven (sym (looks_are psi_value (pos target) below_last)));
    }

-- a target that is not the last figure, as read, lies below it, and the row that its search keeps holds it
pub record Held (target row : ℕ) : Type 0 where
  pub below : target < 1000 * air_psi last_kelvin
  pub kept : PsiRow target row (air_psi row) (air_psi (row + 1))

pub held : {target figure row : ℕ} {rows before places : List ℕ} → rows ≡ rows_psi → 1000 * air_psi first_kelvin ≤ target → target ≤ 1000 * air_psi last_kelvin
    → figure ≡ column rows last_kelvin → (target ≡ 1000 * figure → ⊥) → Halved (psi_fits target) first_kelvin last_kelvin 0 before row places → Held target row
held {target} {figure} {row} e low high f n h =
    let last : figure ≡ air_psi last_kelvin = psi_figure last_kelvin e f in
    let below : target < 1000 * air_psi last_kelvin = lt_of_le-ne high (λ q. n (q ∙ ap (λ (m : ℕ). 1000 * m) (sym last))) in
    record { below = below; kept = row_found target low below row (air_psi row) (air_psi (row + 1)) h.row_is refl refl }

-- ---- the answer of the call
-- an end of the table, as read
pub psi_end : (k : ℕ) → k ≤ last_kelvin → {rows : List ℕ} {r : ℕ} {z : ℤ} → rows ≡ rows_psi → r ≡ column rows k → z ≡ pos (1000 * r) → z ≡ psi_value (1000 * k)
psi_end k u e h q = q ∙ ap pos (ap (λ (n : ℕ). 1000 * n) (psi_figure k e h) ∙ sym (psi_whole k u))

-- a refusal leaves the lent list
pub psi_refused : (target : ℤ) (before : List ℕ) (r : Result (Millikelvin × ℕ) Refusal) {l : Line}
    → First (psi_order (length before) target) l → paper_psi r ≡ told_by l → PsiInverse target before r before
psi_refused target before r f e =
    let g = refusal_given (found psi_value target) f in
    record { told = e ∙ sym g; list = rw g refl }

-- a target that is reached is answered by the search
pub psi_answered : (target : ℤ) (before : List ℕ) {n : ℕ} {r : Millikelvin × ℕ} {after : List ℕ} → Clear (psi_order (length before) target) → pos n ≡ target
    → psi_value coldest ≤ℤ pos n → PsiSearched n before r after → PsiInverse target before (Ok r) after
unfolding psi_found
psi_answered target before {n} c e l h =
    let g = values_given (found psi_value target) c in
    let p : pos (up (rest psi_value (pos n))) ≡ rest psi_value (pos n) =
    sym (plain (omega (zed, apart (rest psi_value (pos n)), rest_least psi_value (pos n) l))) in
    record {
      told =
          ap (λ (q : Millikelvin × ℕ). paper_psi (Ok q)) h.answer
          ∙ ap (λ (z : ℤ). gives (record { mk = pos (temperature psi_value (pos n)); left = z })) p
          ∙ ap (λ (z : ℤ). gives (found psi_value z)) e
          ∙ sym g;
      list = rw g (h.list ∙ ap (λ (z : ℤ). eleven (looks psi_value z) ++ drop look_places before) e);
    }
