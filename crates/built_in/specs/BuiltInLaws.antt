-- The built-in sheet is accepted: one test computed over the whole list beside air's column, and carried to each row. Assumes nothing.
use Rattle.std.specs.Prelude.{◌≡◌, refl, Bool, true, false, ◌&&◌, List, [], ◌∷◌, ℕ, zero, suc, ◌+◌, ◌*◌, ◌-◌, ◌≤◌, ◌<◌, leb, length, get_or}
use Rattle.std.proofs.Common.{ap, arith, leb-true, le-ltb}
use Rattle.rows.specs.Limits.{first_kelvin, table_rows}
use Rattle.text.specs.WholesLaws.{and_left, and_right}
use Rattle.rows.specs.Rows.{rows_h}
use Rattle.rows.specs.Table.{air_h, column}
use Rattle.sheet_text.specs.Limits.{most_figure, sheet_numbers}
use Rattle.sheet.specs.Sheet.{o2, co2, h2o, over_limit, breaks_step, bad_row, Accepted}
use Rattle.sheet.specs.SheetLaws.{over_no, step_kept}
use Rattle.built_in.specs.BuiltIn.{built_in}

-- ---- the test: each row against the one before, with air's figures. Row 0 is held against a row of zeros, which asks no less than the rule does
row_keeps : ℕ → ℕ → ℕ → ℕ → ℕ → ℕ → ℕ → ℕ → Bool
row_keeps a b c h d e f x = leb a d && (leb b e && (leb c f && (leb (d - a) (4 * (x - h)) && (leb d most_figure && (leb e most_figure && leb f most_figure)))))

keeps_from : ℕ → ℕ → ℕ → ℕ → List ℕ → List ℕ → Bool
keeps_from a b c h [] hs = true
keeps_from a b c h (d ∷ []) hs = false
keeps_from a b c h (d ∷ e ∷ []) hs = false
keeps_from a b c h (d ∷ e ∷ f ∷ s) [] = false
keeps_from a b c h (d ∷ e ∷ f ∷ s) (x ∷ hs) = row_keeps a b c h d e f x && keeps_from d e f x s hs

passes : List ℕ → List ℕ → Bool
passes s hs = keeps_from 0 0 0 0 s hs

-- ---- what it says of each row
cell : List ℕ → ℕ → ℕ → ℕ
cell s i j = get_or s (3 * i + j) 0

cell_next : (a b c : ℕ) (s : List ℕ) (i j : ℕ) → cell (a ∷ b ∷ c ∷ s) (suc i) j ≡ cell s i j
unfolding cell
cell_next a b c s i j = let e : 3 * suc i + j ≡ suc (suc (suc (3 * i + j))) = omega arith in rw e refl

record Kept (s hs : List ℕ) (i : ℕ) : Type 0 where
  climbs : (j : ℕ) → j < 3 → cell s i j ≤ cell s (suc i) j
  slow : cell s (suc i) 0 - cell s i 0 ≤ 4 * (get_or hs (suc i) 0 - get_or hs i 0)
  most : (j : ℕ) → j < 3 → cell s (suc i) j ≤ most_figure

kept_next : (a b c h : ℕ) (s hs : List ℕ) (i : ℕ) → Kept s hs i → Kept (a ∷ b ∷ c ∷ s) (h ∷ hs) (suc i)
kept_next a b c h s hs i k = record {
  climbs = λ j g. rw (cell_next a b c s i j, cell_next a b c s (suc i) j) (k.climbs j g);
  slow = rw (cell_next a b c s i 0, cell_next a b c s (suc i) 0) k.slow;
  most = λ j g. rw (cell_next a b c s (suc i) j) (k.most j g);
}

kept_first : (a b c h d e f x : ℕ) (s hs : List ℕ) → row_keeps a b c h d e f x ≡ true → Kept (a ∷ b ∷ c ∷ d ∷ e ∷ f ∷ s) (h ∷ x ∷ hs) 0
unfolding row_keeps cell
kept_first a b c h d e f x s hs t = record { climbs = climbs; slow = leb-true _ _ (and_left _ _ t3); most = most }
  where
    t1 : (leb b e && (leb c f && (leb (d - a) (4 * (x - h)) && (leb d most_figure && (leb e most_figure && leb f most_figure))))) ≡ true
    t1 = and_right (leb a d) _ t

    t2 : (leb c f && (leb (d - a) (4 * (x - h)) && (leb d most_figure && (leb e most_figure && leb f most_figure)))) ≡ true
    t2 = and_right (leb b e) _ t1

    t3 : (leb (d - a) (4 * (x - h)) && (leb d most_figure && (leb e most_figure && leb f most_figure))) ≡ true
    t3 = and_right (leb c f) _ t2

    t4 : (leb d most_figure && (leb e most_figure && leb f most_figure)) ≡ true
    t4 = and_right (leb (d - a) (4 * (x - h))) _ t3

    climbs : (j : ℕ) → j < 3 → get_or (a ∷ b ∷ c ∷ d ∷ e ∷ f ∷ s) (3 * 0 + j) 0 ≤ get_or (a ∷ b ∷ c ∷ d ∷ e ∷ f ∷ s) (3 * 1 + j) 0
    climbs zero g = leb-true _ _ (and_left _ _ t)
    climbs (suc zero) g = leb-true _ _ (and_left _ _ t1)
    climbs (suc (suc zero)) g = leb-true _ _ (and_left _ _ t2)
    climbs (suc (suc (suc j))) g = absurd (omega arith)

    most : (j : ℕ) → j < 3 → get_or (a ∷ b ∷ c ∷ d ∷ e ∷ f ∷ s) (3 * 1 + j) 0 ≤ most_figure
    most zero g = leb-true _ _ (and_left _ _ t4)
    most (suc zero) g = leb-true _ _ (and_left _ _ (and_right (leb d most_figure) _ t4))
    most (suc (suc zero)) g = leb-true _ _ (and_right (leb e most_figure) _ (and_right (leb d most_figure) _ t4))
    most (suc (suc (suc j))) g = absurd (omega arith)

kept_at : (s hs : List ℕ) (a b c h i : ℕ) → keeps_from a b c h s hs ≡ true → 3 * i < length s → Kept (a ∷ b ∷ c ∷ s) (h ∷ hs) i
unfolding keeps_from
kept_at [] hs a b c h i t u = absurd (omega arith)
kept_at (d ∷ []) hs a b c h i t u = absurd (let z : ◌≡◌ {A = ℕ} 0 1 = cc in omega arith)
kept_at (d ∷ e ∷ []) hs a b c h i t u = absurd (let z : ◌≡◌ {A = ℕ} 0 1 = cc in omega arith)
kept_at (d ∷ e ∷ f ∷ s) [] a b c h i t u = absurd (let z : ◌≡◌ {A = ℕ} 0 1 = cc in omega arith)
kept_at (d ∷ e ∷ f ∷ s) (x ∷ hs) a b c h zero t u = kept_first a b c h d e f x s hs (and_left _ _ t)
kept_at (d ∷ e ∷ f ∷ s) (x ∷ hs) a b c h (suc i) t u =
    kept_next a b c h (d ∷ e ∷ f ∷ s) (x ∷ hs) i (kept_at s hs d e f x i (and_right (row_keeps a b c h d e f x) _ t) (omega arith))

-- ---- the columns by kelvin, by row
o2_cell : (s : List ℕ) (i k : ℕ) → k ≡ first_kelvin + i → o2 s k ≡ cell s i 0
unfolding o2 cell
o2_cell s i k e = let q : 3 * (k - first_kelvin) ≡ 3 * i + 0 = omega arith in ap (λ (x : ℕ). get_or s x 0) q

co2_cell : (s : List ℕ) (i k : ℕ) → k ≡ first_kelvin + i → co2 s k ≡ cell s i 1
unfolding co2 cell
co2_cell s i k e = let q : 3 * (k - first_kelvin) + 1 ≡ 3 * i + 1 = omega arith in ap (λ (x : ℕ). get_or s x 0) q

h2o_cell : (s : List ℕ) (i k : ℕ) → k ≡ first_kelvin + i → h2o s k ≡ cell s i 2
unfolding h2o cell
h2o_cell s i k e = let q : 3 * (k - first_kelvin) + 2 ≡ 3 * i + 2 = omega arith in ap (λ (x : ℕ). get_or s x 0) q

air_row : (i k : ℕ) → k ≡ first_kelvin + i → air_h k ≡ get_or rows_h i 0
unfolding air_h column
air_row i k e = let q : k - first_kelvin ≡ i = omega arith in simp (le-ltb k first_kelvin (omega arith)) (ap (λ (x : ℕ). get_or rows_h x 0) q)

-- ---- a list that passes is accepted
module _ (s : List ℕ) (n : length s ≡ sheet_numbers) (t : passes s rows_h ≡ true) where
  kept : (i : ℕ) → i < table_rows → Kept (0 ∷ 0 ∷ 0 ∷ s) (0 ∷ rows_h) i
  unfolding passes
  kept i h = kept_at s rows_h 0 0 0 0 i t (omega arith)

  most_at : (i j : ℕ) → i < table_rows → j < 3 → cell s i j ≤ most_figure
  most_at i j h g = rw (cell_next 0 0 0 s i j) at ((kept i h).most j g)

  up_at : (i j : ℕ) → suc i < table_rows → j < 3 → cell s i j ≤ cell s (suc i) j
  up_at i j h g = rw (cell_next 0 0 0 s i j, cell_next 0 0 0 s (suc i) j) at ((kept (suc i) h).climbs j g)

  slow_at : (i : ℕ) → suc i < table_rows → cell s (suc i) 0 - cell s i 0 ≤ 4 * (get_or rows_h (suc i) 0 - get_or rows_h i 0)
  slow_at i h = rw (cell_next 0 0 0 s i 0, cell_next 0 0 0 s (suc i) 0) at (kept (suc i) h).slow

  -- by kelvin
  row_limit : (i k : ℕ) → k ≡ first_kelvin + i → i < table_rows → over_limit s k ≡ false
  row_limit i k e h = over_no s k record {
    o2_most = omega (arith, o2_cell s i k e, most_at i 0 h (omega arith));
    co2_most = omega (arith, co2_cell s i k e, most_at i 1 h (omega arith));
    h2o_most = omega (arith, h2o_cell s i k e, most_at i 2 h (omega arith));
  }

  row_step : (i : ℕ) → suc i < table_rows → breaks_step s (first_kelvin + i) ≡ false
  row_step i h = step_kept s (first_kelvin + i) record {
    o2_up = omega (arith, o2_cell s i (first_kelvin + i) refl, o2_cell s (suc i) (suc (first_kelvin + i)) (omega arith), up_at i 0 h (omega arith));
    co2_up = omega (arith, co2_cell s i (first_kelvin + i) refl, co2_cell s (suc i) (suc (first_kelvin + i)) (omega arith), up_at i 1 h (omega arith));
    h2o_up = omega (arith, h2o_cell s i (first_kelvin + i) refl, h2o_cell s (suc i) (suc (first_kelvin + i)) (omega arith), up_at i 2 h (omega arith));
    o2_rise =
        omega (
          arith,
          o2_cell s i (first_kelvin + i) refl,
          o2_cell s (suc i) (suc (first_kelvin + i)) (omega arith),
          air_row i (first_kelvin + i) refl,
          air_row (suc i) (suc (first_kelvin + i)) (omega arith),
          slow_at i h,
        );
  }

  row_good : (r : ℕ) → r < table_rows → bad_row s r ≡ false
  row_good zero h = row_limit 0 first_kelvin refl h
  row_good (suc r) h = rw (row_limit (suc r) (first_kelvin + suc r) refl h, row_step r h) refl

  passed_accepted : Accepted s
  passed_accepted = record { long = n; no_bad_row = row_good }

-- ---- the built-in sheet passes
built_in_long : length built_in ≡ sheet_numbers
unfolding built_in
built_in_long = refl

built_in_passes : passes built_in rows_h ≡ true
unfolding built_in rows_h passes keeps_from row_keeps
built_in_passes = refl

pub built_in_accepted : Accepted built_in
built_in_accepted = passed_accepted built_in built_in_long built_in_passes
