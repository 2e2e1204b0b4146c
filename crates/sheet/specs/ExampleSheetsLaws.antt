-- Acceptance is not empty, and its step rule is sharp: flat sheets are accepted; a sheet whose O2 rises by exactly four times air is accepted, and with one more
-- at one row is refused with that row. Assumes nothing.
use Rattle.std.specs.Prelude.{◌≡◌, Bool, true, false, ℕ, zero, suc, ◌+◌, ◌*◌, ◌-◌, ◌/◌, ◌%◌, ◌≤◌, ◌<◌, eqb, length, get_or}
use Rattle.std.proofs.Math.Path.{refl, ap}
use Rattle.std.proofs.Common.{sym, ◌∙◌, subst, ⊎_elim, eq-or-lt_of_le, le_refl, le_of_lt, lt_trans, eq-eqb, ne_eqb}
use Rattle.std.proofs.Math.Bool.{or-true}
use native.Mathlib.Omega.{arith}
use Rattle.refusal.specs.Refusals.{refuses_at}
use Rattle.rows.specs.Limits.{first_kelvin, last_kelvin, table_rows}
use Rattle.rows.specs.Table.{air_h}
use Rattle.rows.proofs.TableLaws.{h_grows, h_most, h_first}
use Rattle.sheet_text.specs.Limits.{most_figure, sheet_numbers}
use Rattle.sheet_text.specs.Text.{Numbers}
use Rattle.sheet.specs.Answers.{judge_told}
use Rattle.sheet.specs.AnswersLaws.{told_row}
use Rattle.sheet.specs.Sheet.{o2, co2, h2o, over_limit, rise, breaks_step, bad_row, Accepted}
use Rattle.sheet.specs.SheetLaws.{first_bad_found, InLimit, over_no, step_kept, steep_breaks, limit_numbers}
use Rattle.sheet.specs.ExampleSheets.{laid_from, laid, level, flat, steepest, one_more}
use Rattle.rows.specs.GrowthLaws.{grows}

-- ---- a sheet laid by its columns has them
laid_length : (gas : ℕ → ℕ → ℕ) (n k : ℕ) → length (laid_from gas n k) ≡ 3 * n
unfolding laid_from
laid_length gas zero k = refl
laid_length gas (suc n) k = let e = laid_length gas n (suc k) in omega arith

laid_at : (gas : ℕ → ℕ → ℕ) (n k i j : ℕ) → i < n → j < 3 → get_or (laid_from gas n k) (3 * i + j) 0 ≡ gas j (k + i)
unfolding laid_from
laid_at gas zero k i j h g = absurd (omega arith)
laid_at gas (suc n) k zero zero h g = let e : k ≡ k + 0 = omega arith in ap (gas 0) e
laid_at gas (suc n) k zero (suc zero) h g = let e : k ≡ k + 0 = omega arith in ap (gas 1) e
laid_at gas (suc n) k zero (suc (suc zero)) h g = let e : k ≡ k + 0 = omega arith in ap (gas 2) e
laid_at gas (suc n) k zero (suc (suc (suc j))) h g = absurd (omega arith)
laid_at gas (suc n) k (suc i) j h g =
    let e : 3 * suc i + j ≡ suc (suc (suc (3 * i + j))) = omega arith in
    let q : suc k + i ≡ k + suc i = omega arith in
    rw e (laid_at gas n (suc k) i j (omega arith) g ∙ ap (gas j) q)

module _ (gas : ℕ → ℕ → ℕ) (k : ℕ) (l : first_kelvin ≤ k) (u : k ≤ last_kelvin) where
  at_kelvin : (i j : ℕ) → j < 3 → i ≡ 3 * (k - first_kelvin) + j → get_or (laid gas) i 0 ≡ gas j k
  unfolding laid
  at_kelvin i j h e = let q : first_kelvin + (k - first_kelvin) ≡ k = omega arith in rw e (laid_at gas table_rows first_kelvin (k - first_kelvin) j (omega arith) h ∙ ap (gas j) q)

  laid_o2 : o2 (laid gas) k ≡ gas 0 k
  unfolding o2
  laid_o2 = at_kelvin (3 * (k - first_kelvin)) 0 (omega arith) (omega arith)

  laid_co2 : co2 (laid gas) k ≡ gas 1 k
  unfolding co2
  laid_co2 = at_kelvin (3 * (k - first_kelvin) + 1) 1 (omega arith) refl

  laid_h2o : h2o (laid gas) k ≡ gas 2 k
  unfolding h2o
  laid_h2o = at_kelvin (3 * (k - first_kelvin) + 2) 2 (omega arith) refl

-- ---- a row of it is good where the columns keep the limit, and the step rule from the row before
pub record Steady (gas : ℕ → ℕ → ℕ) (k : ℕ) : Type 0 where
  pub climbs : (j : ℕ) → j < 3 → gas j k ≤ gas j (suc k)
  pub slow : rise (gas 0) k ≤ 4 * rise air_h k

pub record Small (gas : ℕ → ℕ → ℕ) (k : ℕ) : Type 0 where
  pub most : (j : ℕ) → j < 3 → gas j k ≤ most_figure

small_limit : (gas : ℕ → ℕ → ℕ) (k : ℕ) → first_kelvin ≤ k → k ≤ last_kelvin → Small gas k → InLimit (laid gas) k
small_limit gas k l u h = record {
  o2_most = rw (laid_o2 gas k l u) (h.most 0 (omega arith));
  co2_most = rw (laid_co2 gas k l u) (h.most 1 (omega arith));
  h2o_most = rw (laid_h2o gas k l u) (h.most 2 (omega arith));
}

small_no : (gas : ℕ → ℕ → ℕ) (k : ℕ) → first_kelvin ≤ k → k ≤ last_kelvin → Small gas k → over_limit (laid gas) k ≡ false
small_no gas k l u h = over_no (laid gas) k (small_limit gas k l u h)

steady_no : (gas : ℕ → ℕ → ℕ) (k : ℕ) → first_kelvin ≤ k → k < last_kelvin → Steady gas k → breaks_step (laid gas) k ≡ false
steady_no gas k l u h = step_kept (laid gas) k record {
  o2_up = omega (arith, laid_o2 gas k l (omega arith), laid_o2 gas (suc k) (omega arith) u, h.climbs 0 (omega arith));
  co2_up = omega (arith, laid_co2 gas k l (omega arith), laid_co2 gas (suc k) (omega arith) u, h.climbs 1 (omega arith));
  h2o_up = omega (arith, laid_h2o gas k l (omega arith), laid_h2o gas (suc k) (omega arith) u, h.climbs 2 (omega arith));
  o2_rise = omega (arith, laid_o2 gas k l (omega arith), laid_o2 gas (suc k) (omega arith) u, h.slow);
}

row_good : (gas : ℕ → ℕ → ℕ) (r : ℕ) → r < table_rows → ((k : ℕ) → first_kelvin ≤ k → k ≤ first_kelvin + r → Small gas k)
    → ((k : ℕ) → first_kelvin ≤ k → k < first_kelvin + r → Steady gas k) → bad_row (laid gas) r ≡ false
row_good gas zero h f g = small_no gas first_kelvin (omega arith) (omega arith) (f first_kelvin (omega arith) (omega arith))
row_good gas (suc r) h f g =
    let a : over_limit (laid gas) (first_kelvin + suc r) ≡ false = small_no gas (first_kelvin + suc r) (omega arith) (omega arith) (f (first_kelvin + suc r) (omega arith) (omega arith)) in
    let b : breaks_step (laid gas) (first_kelvin + r) ≡ false = steady_no gas (first_kelvin + r) (omega arith) (omega arith) (g (first_kelvin + r) (omega arith) (omega arith)) in
    rw (a, b) refl

laid_long : (gas : ℕ → ℕ → ℕ) → length (laid gas) ≡ sheet_numbers
unfolding laid
laid_long gas = laid_length gas table_rows first_kelvin

-- a sheet's numbers, accepted or not
pub laid_numbers : (gas : ℕ → ℕ → ℕ) → ((k : ℕ) → first_kelvin ≤ k → k ≤ last_kelvin → Small gas k) → Numbers (laid gas)
laid_numbers gas f = limit_numbers (laid_long gas) (λ k l u. small_limit gas k l u (f k l u))

pub laid_accepted : (gas : ℕ → ℕ → ℕ) → ((k : ℕ) → first_kelvin ≤ k → k ≤ last_kelvin → Small gas k) → ((k : ℕ) → first_kelvin ≤ k → k < last_kelvin → Steady gas k) → Accepted (laid gas)
laid_accepted gas f g = record { long = laid_long gas; no_bad_row = λ r h. row_good gas r h (λ k l u. f k l (omega arith)) (λ k l u. g k l (omega arith)) }

-- ---- flat sheets
level_most : (a b c j k n : ℕ) → a ≤ n → b ≤ n → c ≤ n → level a b c j k ≤ n
level_most a b c zero k n p q r = p
level_most a b c (suc zero) k n p q r = q
level_most a b c (suc (suc j)) k n p q r = r

level_up : (a b c j k m : ℕ) → level a b c j k ≤ level a b c j m
level_up a b c zero k m = le_refl a
level_up a b c (suc zero) k m = le_refl b
level_up a b c (suc (suc j)) k m = le_refl c

pub flat_accepted : (a b c : ℕ) → a ≤ most_figure → b ≤ most_figure → c ≤ most_figure → Accepted (flat a b c)
flat_accepted a b c p q r =
    laid_accepted (level a b c)
    (λ k l u. record { most = λ j h. level_most a b c j k most_figure p q r })
    (λ k l u. record { climbs = λ j h. level_up a b c j k (suc k); slow = omega arith })

-- its figures
level_same : (a j k : ℕ) → level a a a j k ≡ a
level_same a zero k = refl
level_same a (suc zero) k = refl
level_same a (suc (suc j)) k = refl

pub flat_figure : (a i : ℕ) → i < sheet_numbers → get_or (flat a a a) i 0 ≡ a
unfolding laid
flat_figure a i h =
    let e : i ≡ 3 * (i / 3) + i % 3 = omega arith in
    rw e (laid_at (level a a a) table_rows first_kelvin (i / 3) (i % 3) (omega arith) (omega arith) ∙ level_same a (i % 3) (first_kelvin + i / 3))

-- ---- four times air
air_from : (k : ℕ) → first_kelvin ≤ k → k ≤ last_kelvin → air_h first_kelvin ≤ air_h k
air_from k l u = ⊎_elim (λ e. rw e (le_refl _)) (λ h. le_of_lt (grows ◌<◌ (λ x y z. lt_trans) air_h first_kelvin last_kelvin h_grows first_kelvin k (le_refl _) h u)) (eq-or-lt_of_le l)

steepest_steady : (k : ℕ) → first_kelvin ≤ k → k < last_kelvin → Steady steepest k
steepest_steady k l u = record { climbs = climbs; slow = omega (arith, air_from k l (omega arith), h_grows k l u) }
  where
    climbs : (j : ℕ) → j < 3 → steepest j k ≤ steepest j (suc k)
    climbs zero h = omega (arith, h_grows k l u)
    climbs (suc j) h = le_refl 0

steepest_small : (k : ℕ) → Small steepest k
steepest_small k = record { most = most }
  where
    most : (j : ℕ) → j < 3 → steepest j k ≤ most_figure
    most zero h = omega (arith, h_most k, h_first)
    most (suc j) h = omega arith

pub steepest_accepted : Accepted (laid steepest)
steepest_accepted = laid_accepted steepest (λ k l u. steepest_small k) steepest_steady

-- ---- and one more
module _ (m : ℕ) (l : first_kelvin < m) (u : m ≤ last_kelvin) where
  same_elsewhere : (j k : ℕ) → (k ≡ m → ⊥) → one_more m j k ≡ steepest j k
  same_elsewhere zero k n = rw (ne_eqb k m n) refl
  same_elsewhere (suc j) k n = refl

  one_more_there : one_more m 0 m ≡ steepest 0 m + 1
  one_more_there = rw (eq-eqb m m refl) refl

  small_before : (k : ℕ) → first_kelvin ≤ k → k < m → Small (one_more m) k
  small_before k a b = record { most = λ j h. rw (same_elsewhere j k (omega arith)) ((steepest_small k).most j h) }

  steady_before : (k : ℕ) → first_kelvin ≤ k → suc k < m → Steady (one_more m) k
  steady_before k a b =
      let s = steepest_steady k a (omega arith) in
      record {
        climbs = λ j h. rw (same_elsewhere j k (omega arith), same_elsewhere j (suc k) (omega arith)) (s.climbs j h);
        slow = rw (same_elsewhere 0 k (omega arith), same_elsewhere 0 (suc k) (omega arith)) s.slow;
      }

  -- the step into kelvin m is one too steep
  too_steep : (k : ℕ) → suc k ≡ m → breaks_step (laid (one_more m)) k ≡ true
  too_steep k e =
      let g = h_grows k (omega arith) (omega arith) in
      let f = air_from k (omega arith) (omega arith) in
      let a : o2 (laid (one_more m)) k ≡ 4 * (air_h k - air_h first_kelvin) = laid_o2 (one_more m) k (omega arith) (omega arith) ∙ same_elsewhere 0 k (omega arith) in
      let b : o2 (laid (one_more m)) (suc k) ≡ 4 * (air_h (suc k) - air_h first_kelvin) + 1 =
      subst (λ (x : ℕ). o2 (laid (one_more m)) x ≡ 4 * (air_h x - air_h first_kelvin) + 1) (sym e) (laid_o2 (one_more m) m (omega arith) u ∙ one_more_there) in
      steep_breaks (laid (one_more m)) k (omega arith)

  row_bad : (r : ℕ) → first_kelvin + r ≡ m → bad_row (laid (one_more m)) r ≡ true
  row_bad zero e = absurd (omega arith)
  row_bad (suc r) e = let t = too_steep (first_kelvin + r) (omega arith) in rw t (or-true (over_limit (laid (one_more m)) (first_kelvin + suc r)))

  more_small : (k : ℕ) → Small (one_more m) k
  more_small k = record { most = most (eqb k m) refl }
    where
      most : (t : Bool) → eqb k m ≡ t → (j : ℕ) → j < 3 → one_more m j k ≤ most_figure
      most true e zero h = rw e (omega (arith, h_most k, h_first))
      most false e zero h = rw e (omega (arith, h_most k, h_first))
      most t e (suc j) h = omega arith

  -- its text has the form of a sheet
  pub one_more_numbers : Numbers (laid (one_more m))
  one_more_numbers = laid_numbers (one_more m) (λ k a b. more_small k)

  pub one_more_refused : judge_told (laid (one_more m)) ≡ refuses_at 3 (m - first_kelvin)
  one_more_refused =
      told_row (laid (one_more m)) (m - first_kelvin) (laid_long (one_more m))
      (first_bad_found (laid (one_more m)) (m - first_kelvin) (omega arith) (row_bad (m - first_kelvin) (omega arith))
      (λ i h. row_good (one_more m) i (omega arith) (λ k a b. small_before k a (omega arith)) (λ k a b. steady_before k a (omega arith))))
      (omega arith)
