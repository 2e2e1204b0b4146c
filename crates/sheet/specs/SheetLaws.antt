-- An accepted sheet: its values are at most 200,000, its columns by kelvin never fall, and O2 rises by at most four times the rise of air. Assumes nothing.
use Rattle.std.specs.Prelude.{◌≡◌, refl, Bool, true, false, ◌||◌, cond, ◌⊎◌, List, ltb, length, get_or, Some, None}
use Rattle.std.proofs.Common.{◌∙◌, subst, inl, inr, eq-or-lt_of_le, ltb-false, lt-ltb, le-ltb}
use Rattle.std.proofs.Math.Bool.{or-true}
use Prim.Native.Nat.{ℕ, zero, suc, ◌+◌, ◌*◌, ◌-◌, ◌/◌, ◌%◌, ◌≤◌, ◌<◌}
use Rattle.std.proofs.Math.Decide.{dec_lt}
use native.Mathlib.Omega.{arith}
use Rattle.std.proofs.Math.ListN.{get_or-eq_default}
use Rattle.rows.specs.Limits.{first_kelvin, last_kelvin, table_rows}
use Rattle.rows.specs.Table.{air_h}
use Rattle.sheet_text.specs.Limits.{most_figure, sheet_numbers}
use Rattle.sheet_text.specs.Text.{Numbers}
use Rattle.sheet.specs.Sheet.{o2, co2, h2o, over_limit, falls, rise, breaks_step, KeepsStepRule, bad_row, first_from, first_bad_row, bad_row_found, Accepted}
use Rattle.refusal.specs.BoolLaws.{neither}
use Rattle.air.specs.Readings.{NeverFalls}

-- ---- the first that passes a test
module _ (test : ℕ → Bool) where
  pub none_before : (n r i : ℕ) → r ≤ i → i < first_from test n r → test i ≡ false
  none_before zero r i l u = absurd (omega arith)
  none_before (suc n) r i l u = go (test r) refl (eq-or-lt_of_le l) (none_before n (suc r) i) u
    where
      go : (z : Bool) → test r ≡ z → (r ≡ i) ⊎ (r < i) → (suc r ≤ i → i < first_from test n (suc r) → test i ≡ false) → i < cond z r (first_from test n (suc r)) → test i ≡ false
      go true e c k u = absurd (omega arith)
      go false e (inl q) k u = subst (λ (x : ℕ). test x ≡ false) q e
      go false e (inr q) k u = k (omega arith) u

  -- a number that passes, with none before it
  pub first_found : (n r m : ℕ) → r ≤ m → m < r + n → test m ≡ true → ((i : ℕ) → r ≤ i → i < m → test i ≡ false) → first_from test n r ≡ m
  first_found zero r m l u e f = absurd (omega arith)
  first_found (suc n) r m l u e f = go (eq-or-lt_of_le l) (λ q. first_found n (suc r) m q (omega arith) e (λ i a b. f i (omega arith) b))
    where
      go : (r ≡ m) ⊎ (r < m) → (suc r ≤ m → first_from test n (suc r) ≡ m) → cond (test r) r (first_from test n (suc r)) ≡ m
      go (inl q) k = rw (q, e) refl
      go (inr q) k = rw (f r (omega arith) q) (k (omega arith))

  pub first_none : (n r : ℕ) → ((i : ℕ) → r ≤ i → i < r + n → test i ≡ false) → first_from test n r ≡ r + n
  first_none zero r f = omega arith
  first_none (suc n) r f = rw (f r (omega arith) (omega arith)) (first_none n (suc r) (λ i a b. f i (omega arith) (omega arith)) ∙ add_suc)
    where
      add_suc : suc r + n ≡ r + suc n
      add_suc = omega arith

-- ---- bad rows
pub bad_row_at : (s : List ℕ) (r : ℕ) → 0 < r → bad_row s r ≡ (over_limit s (first_kelvin + r) || breaks_step s (first_kelvin + r - 1))
bad_row_at s zero h = absurd (omega arith)
bad_row_at s (suc r) h = let e : first_kelvin + suc r - 1 ≡ first_kelvin + r = omega arith in rw e refl

pub first_bad_found : (s : List ℕ) (r : ℕ) → r < table_rows → bad_row s r ≡ true → ((i : ℕ) → i < r → bad_row s i ≡ false) → first_bad_row s ≡ r
unfolding first_bad_row
first_bad_found s r h e f = first_found (bad_row s) table_rows 0 r (omega arith) h e (λ i a b. f i b)

pub no_bad_row_lem : (s : List ℕ) → ((r : ℕ) → r < table_rows → bad_row s r ≡ false) → first_bad_row s ≡ table_rows
unfolding first_bad_row
no_bad_row_lem s f = first_none (bad_row s) table_rows 0 (λ i a b. f i b)

pub rows_before : (s : List ℕ) (r : ℕ) → r < first_bad_row s → bad_row s r ≡ false
unfolding first_bad_row
rows_before s r h = none_before (bad_row s) table_rows 0 r (omega arith) h

pub bad_found : (s : List ℕ) (r : ℕ) → r < table_rows → bad_row s r ≡ true → ((i : ℕ) → i < r → bad_row s i ≡ false) → bad_row_found s ≡ Some r
bad_found s r h e f = rw (first_bad_found s r h e f, lt-ltb r table_rows h) refl

pub none_found : (s : List ℕ) → ((r : ℕ) → r < table_rows → bad_row s r ≡ false) → bad_row_found s ≡ None
none_found s f = rw (no_bad_row_lem s f) refl

-- and a list that is long enough, with none, is accepted
pub none_accepted : (s : List ℕ) → length s ≡ sheet_numbers → bad_row_found s ≡ None → Accepted s
none_accepted s n e = go (ltb (first_bad_row s) table_rows) refl e
  where
    go : (t : Bool) → ltb (first_bad_row s) table_rows ≡ t → cond t (Some (first_bad_row s)) None ≡ None → Accepted s
    go true q e = cc
    go false q e = record { long = n; no_bad_row = λ r h. rows_before s r (omega (arith, ltb-false (first_bad_row s) table_rows q)) }

-- ---- a test of several parts that fails, fails in each
pub record InLimit (s : List ℕ) (k : ℕ) : Type 0 where
  pub o2_most : o2 s k ≤ most_figure
  pub co2_most : co2 s k ≤ most_figure
  pub h2o_most : h2o s k ≤ most_figure

in_limit : (s : List ℕ) (k : ℕ) → over_limit s k ≡ false → InLimit s k
unfolding over_limit
in_limit s k e =
    let a = neither (ltb most_figure (o2 s k)) _ e in
    let b = neither (ltb most_figure (co2 s k)) _ a.1 in
    record { o2_most = ltb-false _ _ a.0; co2_most = ltb-false _ _ b.0; h2o_most = ltb-false _ _ b.1 }

pub record KeepsStep (s : List ℕ) (k : ℕ) : Type 0 where
  pub o2_up : o2 s k ≤ o2 s (suc k)
  pub co2_up : co2 s k ≤ co2 s (suc k)
  pub h2o_up : h2o s k ≤ h2o s (suc k)
  pub o2_rise : rise (o2 s) k ≤ 4 * rise air_h k

keeps_step : (s : List ℕ) (k : ℕ) → breaks_step s k ≡ false → KeepsStep s k
unfolding breaks_step
keeps_step s k e =
    let a = neither (falls (o2 s) k) _ e in
    let b = neither (falls (co2 s) k) _ a.1 in
    let c = neither (falls (h2o s) k) _ b.1 in
    record { o2_up = ltb-false _ _ a.0; co2_up = ltb-false _ _ b.0; h2o_up = ltb-false _ _ c.0; o2_rise = ltb-false _ _ c.1 }

-- and the other way round
pub over_no : (s : List ℕ) (k : ℕ) → InLimit s k → over_limit s k ≡ false
unfolding over_limit
over_no s k h = simp (le-ltb most_figure (o2 s k) h.o2_most, le-ltb most_figure (co2 s k) h.co2_most, le-ltb most_figure (h2o s k) h.h2o_most)

pub step_kept : (s : List ℕ) (k : ℕ) → KeepsStep s k → breaks_step s k ≡ false
unfolding breaks_step
step_kept s k h = simp (le-ltb _ _ h.o2_up, le-ltb _ _ h.co2_up, le-ltb _ _ h.h2o_up, le-ltb _ _ h.o2_rise)

-- a rise of O2 above four times air breaks it
pub steep_breaks : (s : List ℕ) (k : ℕ) → 4 * rise air_h k < rise (o2 s) k → breaks_step s k ≡ true
unfolding breaks_step
steep_breaks s k h = simp (lt-ltb (4 * rise air_h k) (rise (o2 s) k) h, or-true)

-- ---- what acceptance gives at each kelvin
module _ {s : List ℕ} (a : Accepted s) (k : ℕ) (l : first_kelvin ≤ k) where
  row_of_kelvin : k ≤ last_kelvin → (r : ℕ) → first_kelvin + r ≡ k → over_limit s k ≡ false
  row_of_kelvin u zero e = subst (λ (x : ℕ). over_limit s x ≡ false) e (a.no_bad_row 0 (omega arith))
  row_of_kelvin u (suc r) e = subst (λ (x : ℕ). over_limit s x ≡ false) e (neither (over_limit s (first_kelvin + suc r)) _ (a.no_bad_row (suc r) (omega arith))).0

  -- values are at most 200,000
  pub accepted_limit : k ≤ last_kelvin → InLimit s k
  accepted_limit u = in_limit s k (row_of_kelvin u (k - first_kelvin) (omega arith))

  -- from each kelvin to the next no gas falls, and O2 rises by at most four times the rise of air
  pub accepted_step : k < last_kelvin → KeepsStep s k
  accepted_step u =
      let e : first_kelvin + (k - first_kelvin) ≡ k = omega arith in
      keeps_step s k (subst (λ (x : ℕ). breaks_step s x ≡ false) e (neither (over_limit s (first_kelvin + suc (k - first_kelvin))) _ (a.no_bad_row (suc (k - first_kelvin)) (omega arith))).1)

-- its columns by kelvin never fall
module _ {s : List ℕ} (a : Accepted s) where
  pub o2_never_falls : NeverFalls (o2 s)
  o2_never_falls = record { step = λ k l u. (accepted_step a k l u).o2_up }

  pub co2_never_falls : NeverFalls (co2 s)
  co2_never_falls = record { step = λ k l u. (accepted_step a k l u).co2_up }

  pub h2o_never_falls : NeverFalls (h2o s)
  h2o_never_falls = record { step = λ k l u. (accepted_step a k l u).h2o_up }

-- a list whose values are at most 200,000 at every kelvin is a sheet's numbers
module _ {s : List ℕ} (long : length s ≡ sheet_numbers) (limit : (k : ℕ) → first_kelvin ≤ k → k ≤ last_kelvin → InLimit s k) where
  place_small : (i j : ℕ) → i < sheet_numbers → i ≡ 3 * (i / 3) + j → j < 3 → get_or s i 0 ≤ most_figure
  unfolding o2 co2 h2o
  place_small i zero h e g = let q : 3 * (first_kelvin + i / 3 - first_kelvin) ≡ i = omega arith in rw q at (limit (first_kelvin + i / 3) (omega arith) (omega arith)).o2_most
  place_small i (suc zero) h e g = let q : 3 * (first_kelvin + i / 3 - first_kelvin) + 1 ≡ i = omega arith in rw q at (limit (first_kelvin + i / 3) (omega arith) (omega arith)).co2_most
  place_small i (suc (suc zero)) h e g = let q : 3 * (first_kelvin + i / 3 - first_kelvin) + 2 ≡ i = omega arith in rw q at (limit (first_kelvin + i / 3) (omega arith) (omega arith)).h2o_most
  place_small i (suc (suc (suc j))) h e g = absurd (omega arith)

  pub limit_numbers : Numbers s
  limit_numbers = record { full = long; small = λ i. small i (dec_lt i sheet_numbers) }
    where
      small : (i : ℕ) → Dec (i < sheet_numbers) → get_or s i 0 ≤ most_figure
      small i (yes h) = place_small i (i % 3) h (omega arith) (omega arith)
      small i (no h) = rw (get_or-eq_default s 0 {n = i} (omega arith)) (omega arith)

pub accepted_numbers : {s : List ℕ} → Accepted s → Numbers s
accepted_numbers a = limit_numbers a.long (accepted_limit a)

-- and accepted where it keeps the step rule
module _ {s : List ℕ} (g : Numbers s) where
  numbers_limit : (k : ℕ) → InLimit s k
  unfolding o2 co2 h2o
  numbers_limit k = record {
    o2_most = g.small (3 * (k - first_kelvin));
    co2_most = g.small (3 * (k - first_kelvin) + 1);
    h2o_most = g.small (3 * (k - first_kelvin) + 2);
  }

  good_row : KeepsStepRule s → (r : ℕ) → r < table_rows → bad_row s r ≡ false
  good_row keeps zero h = over_no s first_kelvin (numbers_limit first_kelvin)
  good_row keeps (suc r) h = rw (over_no s (first_kelvin + suc r) (numbers_limit (first_kelvin + suc r)), keeps.kept (first_kelvin + r) (omega arith) (omega arith)) refl

  pub accepted_of_rule : KeepsStepRule s → Accepted s
  accepted_of_rule keeps = record { long = g.full; no_bad_row = good_row keeps }
