-- Readings of a column (document 01, "The air table"): a straight line from each whole kelvin to the next, the last row alone at 2,000,000 mK, and
-- so, for air, heat and psi that rise with every mK. Assumes nothing.
use Rattle.std.proofs.Common.{eq-eqb, ne_eqb, sym, ap, ◌∙◌, ⊎_elim, eq-or-lt_of_le, mul-le-mul, add-one, ltb→lt}
use Rattle.std.specs.Prelude.{◌≡◌, List, ℕ, suc, ◌+◌, ◌-◌, ◌*◌, ◌/◌, ◌%◌, ◌<◌, ◌≤◌, pos}
use Rattle.std.proofs.Math.Path.{refl}
use native.Mathlib.Omega.{arith}
use Rattle.rows.specs.Limits.{first_kelvin, last_kelvin}
use Rattle.rows.specs.Rows.{rows_h, rows_psi}
use Rattle.rows.specs.Table.{column, air_h, air_psi}
use Rattle.rows.proofs.TableLaws.{h_grows, psi_grows}
use Rattle.air.specs.Limits.{coldest, hottest}
use Rattle.air.specs.Readings.{reading, between, air_heat, air_psi_at, NeverFalls}
use Rattle.air.specs.Inverse.{Straight}
use Rattle.air.specs.InverseLaws.{m_k_rises}

-- below 2,000,000 mK a reading is that of the two rows around it, and at 2,000,000 that of the last
pub between_rows : (col : ℕ → ℕ) (mk : ℕ) → mk < hottest → reading (col (mk / 1000)) (col (mk / 1000 + 1)) (mk % 1000) ≡ between col mk
unfolding between
between_rows col mk h = simp (ne_eqb mk hottest (omega arith))

pub between_last : (col : ℕ → ℕ) (mk : ℕ) → mk ≡ hottest → 1000 * col last_kelvin ≡ between col mk
unfolding between
between_last col mk h = simp (eq-eqb mk hottest h)

-- f mK above the kelvin k, up to the next
module _ (col : ℕ → ℕ) (k f : ℕ) (u : k < last_kelvin) where
  below_next : f < 1000 → 1000 * col k + f * (col (suc k) - col k) ≡ between col (1000 * k + f)
  unfolding reading
  below_next h =
      let d : (1000 * k + f) / 1000 ≡ k = omega arith in
      let m : (1000 * k + f) % 1000 ≡ f = omega arith in
      rw (← between_rows col (1000 * k + f) (omega arith), d, m, add-one) refl

  at_next : f ≡ 1000 → col k ≤ col (suc k) → 1000 * col (suc k) ≡ 1000 * col k + f * (col (suc k) - col k)
  at_next e h = rw e (omega arith)

pub between_whole : (col : ℕ → ℕ) (k : ℕ) → k ≤ last_kelvin → between col (1000 * k) ≡ 1000 * col k
between_whole col k u =
    ⊎_elim
    (λ e. sym (between_last col (1000 * k) (omega arith)) ∙ ap (λ (n : ℕ). 1000 * col n) (sym e))
    (λ h. ap (between col) {x = 1000 * k} {y = 1000 * k + 0} (omega arith) ∙ sym (below_next col k 0 h (omega arith)) ∙ omega arith)
    (eq-or-lt_of_le u)

pub between_line : (col : ℕ → ℕ) (k f : ℕ) → k < last_kelvin → f ≤ 1000 → col k ≤ col (suc k) → between col (1000 * k + f) ≡ 1000 * col k + f * (col (suc k) - col k)
between_line col k f u l h =
    ⊎_elim
    (λ e. ap (between col) {x = 1000 * k + f} {y = 1000 * suc k} (omega arith) ∙ between_whole col (suc k) (omega arith) ∙ at_next col k f u e h)
    (λ x. sym (below_next col k f u x))
    (eq-or-lt_of_le l)

-- a column that grows with each kelvin never falls, and its readings run straight and rise
pub grows_on : {col : ℕ → ℕ} → ((k : ℕ) → first_kelvin ≤ k → k < last_kelvin → col k < col (suc k)) → NeverFalls col
grows_on g = record { step = λ k l u. omega (arith, g k l u) }

unfoldable pub straight : (col : ℕ → ℕ) → ((k : ℕ) → first_kelvin ≤ k → k < last_kelvin → col k < col (suc k)) → Straight (λ T. pos (between col T))
straight col g = record {
  slope = λ k. col (suc k) - col k;
  rises = λ k l u. omega (arith, g k l u);
  line = λ k f l u h. ap pos (between_line col k f u h (omega (arith, g k l u)) ∙ ap (λ (n : ℕ). n + f * (col (suc k) - col k)) (sym (between_whole col k (omega arith))));
}

-- air: the columns H and psi
pub h_never_falls : NeverFalls (column rows_h)
unfolding air_h
h_never_falls = grows_on h_grows

pub psi_never_falls : NeverFalls (column rows_psi)
unfolding air_psi
psi_never_falls = grows_on psi_grows

pub heat_straight : Straight (λ T. pos (air_heat T))
unfolding air_heat
heat_straight = straight air_h h_grows

unfoldable pub psi_straight : Straight (λ T. pos (air_psi_at T))
unfolding air_psi_at
psi_straight = straight air_psi psi_grows

pub psi_slope : (k : ℕ) → psi_straight.slope k ≡ air_psi (suc k) - air_psi k
unfolding psi_straight straight
psi_slope k = refl

-- heat and psi rise from each mK to the next, over the whole range
pub heat_rises : (T : ℕ) → coldest ≤ T → T < hottest → air_heat T < air_heat (suc T)
heat_rises T l u = ltb→lt (air_heat T) (air_heat (suc T)) (m_k_rises heat_straight T l u).lt

pub psi_rises : (T : ℕ) → coldest ≤ T → T < hottest → air_psi_at T < air_psi_at (suc T)
psi_rises T l u = ltb→lt (air_psi_at T) (air_psi_at (suc T)) (m_k_rises psi_straight T l u).lt

-- the readings of the lent columns are those of air
pub heat_read : (rows : List ℕ) (mk n : ℕ) → rows ≡ rows_h → n ≡ between (column rows) mk → n ≡ air_heat mk
unfolding air_heat air_h
heat_read rows mk n e h = h ∙ ap (λ (l : List ℕ). between (column l) mk) e

pub psi_read : (rows : List ℕ) (mk n : ℕ) → rows ≡ rows_psi → n ≡ between (column rows) mk → n ≡ air_psi_at mk
unfolding air_psi_at air_psi
psi_read rows mk n e h = h ∙ ap (λ (l : List ℕ). between (column l) mk) e

-- a reading of figures below 2^32 stays far inside 64 bits
pub reading_small : (f d : ℕ) → f < 1000 → d < 4294967296 → f * d ≤ 4294967296000
reading_small f d p q = mul-le-mul {n₂ = 1000} {m₂ = 4294967296} (omega arith) (omega arith)
