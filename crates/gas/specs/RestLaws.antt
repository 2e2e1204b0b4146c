-- The rest (document 01, "Temperature from heat"), over any value that runs straight and rises: a target that is reached lies in one row, and its rest is
-- less than what the value rises by there with one mK. Assumes nothing.
use Rattle.std.specs.Prelude.{◌≡◌, ℕ, ◌+◌, ◌*◌, ◌<◌, ◌≤◌, ℤ, pos, ◌+ℤ◌, ◌-ℤ◌, ◌≤ℤ◌, ◌<ℤ◌}
use Rattle.std.proofs.Common.{ap, ◌∙◌, mod-lt, arith, lit<, lit≤}
use Rattle.std.specs.Int.Signed.{lt_z}
use Rattle.signed.specs.Zed.{up, is_pos, is_self, is_add, is_minus, dn_none, same_by, zed}
use Rattle.refusal.specs.BoolLaws.{by_bool}
use Rattle.rows.specs.Limits.{first_kelvin, last_kelvin}
use Rattle.air.specs.Limits.{coldest, hottest}
use Rattle.air.specs.Halving.{halving}
use Rattle.air.specs.Inverse.{fits, rest, Straight}
use Rattle.air.specs.InverseLaws.{row_kept, top_rest, rest_is}

module _ {v : ℕ → ℤ} (st : Straight v) (t : ℤ) where
  -- the target lies `over` above the value at the kelvin `row`, and below that at the next
  pub record RowOf : Type 0 where
    pub row : ℕ
    pub over : ℕ
    pub least : first_kelvin ≤ row
    pub most : row < last_kelvin
    pub above : t ≡ v (1000 * row) +ℤ pos over
    pub below : over < 1000 * st.slope row

  -- the row of a target that is reached and not the last value
  unfoldable pub row_of : v coldest ≤ℤ t → t <ℤ v hottest → RowOf
  row_of l h =
      let k = row_kept v t l h in
      let n = (halving (λ j. fits v t (1000 * j)) first_kelvin last_kelvin).row in
      let i = is_minus (is_self t) (is_self (v (1000 * n))) in
      let d = dn_none i (omega (zed, k.passes)) in
      let e : v (1000 * (n + 1)) ≡ v (1000 * n) +ℤ pos (1000 * st.slope n) = ap v {x = 1000 * (n + 1)} {y = 1000 * n + 1000} (omega arith) ∙ st.line n 1000 k.least k.most (omega arith) in
      record {
        row = n;
        over = up (t -ℤ v (1000 * n));
        least = k.least;
        most = k.most;
        above = same_by (is_self t) (is_add (is_self (v (1000 * n))) (is_pos (up (t -ℤ v (1000 * n))))) (omega (arith, i, d));
        below = omega (zed, i, d, k.fails, e, is_add (is_self (v (1000 * n))) (is_pos (1000 * st.slope n)));
      }

  -- the rest is less than the slope of a row
  pub rest_small : v coldest ≤ℤ t → t ≤ℤ v hottest → (k : ℕ) × (first_kelvin ≤ k) × (k < last_kelvin) × (rest v t <ℤ pos (st.slope k))
  rest_small l h =
      by_bool (lt_z t (v hottest))
      (λ e.
      let r = row_of l (omega (zed, e)) in
      (r.row, r.least, r.most, rw (rest_is st r.row r.over t r.least r.most r.above r.below) (omega (zed, mod-lt r.over (st.rises r.row r.least r.most)))))
      (λ e.
      let q : t ≡ v hottest = omega (zed, e) in
      (first_kelvin, lit≤ tt, lit< tt, rw (top_rest v t q) (omega (zed, st.rises first_kelvin (lit≤ tt) (lit< tt)))))
