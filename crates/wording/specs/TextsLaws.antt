-- Laws of the texts of answers: looks that places hold, numbers one after the other, a refusal, an inverse from its places. Assumes nothing.
use Rattle.std.specs.Prelude.{ℕ, zero, suc, ◌+◌, ◌-◌, ◌*◌, ◌≤◌, ◌<◌, ◌≡◌, refl, Bool, true, false, cond, List}
use Rattle.std.specs.Prelude.{[], ◌∷◌, ◌++◌, map, eqb, ℤ, pos, length, take, drop, get_or, replicate, Result, Some}
use Rattle.std.proofs.Common.{sym, ◌∙◌, ap, append_assoc, append-nil, arith, add-one, eq-eqb, ne_eqb, length-drop, take-suc, drop-cons}
use Rattle.std.proofs.lemmas.List.{map-append}
use Rattle.signed.specs.Zed.{eq_z}
use Rattle.rows.specs.Limits.{first_kelvin, last_kelvin}
use Rattle.air.specs.Limits.{look_places, hottest}
use Rattle.text.specs.Decimal.{decimal, decimal_z}
use Rattle.air.specs.Halving.{halving, eleven}
use Rattle.air.specs.HalvingLaws.{halving_ind}
use Rattle.air.specs.Inverse.{fits, looks, Found, written}
use Rattle.air.specs.declared.Millikelvin.{Millikelvin}
use Rattle.refusal.specs.declared.Refusal.{Refusal}
use Rattle.refusal.specs.Refusals.{Numbered, Plain, At, number_of, place_of, Told, gives, refused}
use Rattle.air.specs.Answers.{PsiInverse, paper_psi, psi_inverse_told, psi_value}
use Rattle.burning.specs.declared.Charge.{Charge}
use Rattle.gas.specs.declared.Heat.{Heat}
use Rattle.burning.specs.Burning.{document01, gas_of}
use Rattle.gas.specs.Heat.{gas_heat}
use Rattle.gas.specs.Answers.{paper_temperature, temperature_told, Temperature}
use Rattle.wording.specs.Texts.{refused_text, refusal_text, fields_text, used, inverse_text}

-- numbers with one more behind them
fields_snoc : (zs : List ℤ) (z : ℤ) → fields_text (zs ++ (z ∷ [])) ≡ fields_text zs ++ (9 ∷ decimal_z z)
fields_snoc [] z = append-nil (9 ∷ decimal_z z)
fields_snoc (y ∷ zs) z = ap (λ (t : List ℕ). (9 ∷ decimal_z y) ++ t) (fields_snoc zs z) ∙ sym (append_assoc (9 ∷ decimal_z y) (fields_text zs) (9 ∷ decimal_z z))

-- looks before the first unused place
module _ (l : List ℕ) (i : ℕ) (h : i < length l) where
  pub used_none : get_or l i 0 ≡ 0 → used (drop i l) ≡ []
  used_none e = rw (drop-cons l i 0 h, eq-eqb (get_or l i 0) 0 e) refl

  pub used_more : (get_or l i 0 ≡ 0 → ⊥) → used (drop i l) ≡ get_or l i 0 ∷ used (drop (i + 1) l)
  used_more e = rw (add-one i, drop-cons l i 0 h, ne_eqb (get_or l i 0) 0 e) refl

  -- one number more of a list
  pub fields_more : fields_text (map pos (take (i + 1) l)) ≡ fields_text (map pos (take i l)) ++ (9 ∷ decimal (get_or l i 0))
  fields_more = rw (add-one i, take-suc l i 0 h) (ap fields_text (map-append pos (take i l) (get_or l i 0 ∷ [])) ∙ fields_snoc (map pos (take i l)) (pos (get_or l i 0)))

-- the same of signed numbers
pub numbers_more : (l : List ℤ) (i : ℕ) → i < length l → fields_text (take (i + 1) l) ≡ fields_text (take i l) ++ (9 ∷ decimal_z (get_or l i (pos 0)))
numbers_more l i h = rw (add-one i, take-suc l i (pos 0) h) (fields_snoc (take i l) (get_or l i (pos 0)))

pub used_end : (l : List ℕ) (i : ℕ) → length l ≤ i → used (drop i l) ≡ []
used_end l i h = none (drop i l) (omega (arith, length-drop i l))
  where
    none : (x : List ℕ) → length x ≡ 0 → used x ≡ []
    none [] e = refl
    none (a ∷ x) e = absurd (omega arith)

pub used_most : (l : List ℕ) → length (used l) ≤ length l
used_most [] = omega arith
used_most (k ∷ ks) = go (eqb k 0) (used_most ks)
  where
    go : (t : Bool) → length (used ks) ≤ length ks → length (cond t [] (k ∷ used ks)) ≤ suc (length ks)
    go true h = omega arith
    go false h = omega arith

pub used_first : (l : List ℕ) → take (length (used l)) l ≡ used l
used_first [] = refl
used_first (k ∷ ks) = go (eqb k 0) (used_first ks)
  where
    go : (t : Bool) → take (length (used ks)) ks ≡ used ks → take (length (cond t [] (k ∷ used ks))) (k ∷ ks) ≡ cond t [] (k ∷ used ks)
    go true h = refl
    go false h = ap (λ (x : List ℕ). k ∷ x) h

-- no look is 0, so the looks that a search writes are those that its places hold
data Above : List ℕ → Type 0 where
  none : Above []
  next : {k : ℕ} {ks : List ℕ} → 0 < k → Above ks → Above (k ∷ ks)

used_above : {ks : List ℕ} (n : ℕ) → Above ks → used (ks ++ replicate n 0) ≡ ks
used_above zero none = refl
used_above (suc n) none = refl
used_above {ks} n (next {k} h a) = rw (ne_eqb k 0 (λ e. omega arith)) (ap (λ (x : List ℕ). k ∷ x) (used_above n a))

halving_above : (p : ℕ → Bool) → Above (halving p first_kelvin last_kelvin).looks
halving_above p =
    halving_ind p (λ lo hi s. 0 < lo → Above s.looks)
    (λ lo l. none)
    (λ lo hi s w e h l. next (omega arith) (h (omega arith)))
    (λ lo hi s w e h l. next (omega arith) (h l))
    first_kelvin last_kelvin (omega arith) (omega arith)

pub used_eleven : (v : ℕ → ℤ) (t : ℤ) → used (eleven (looks v t)) ≡ looks v t
unfolding eleven looks
used_eleven v t = used_above (look_places - length (looks v t)) (above (eq_z t (v hottest)))
  where
    above : (b : Bool) → Above (cond b [] (halving (λ k. fits v t (1000 * k)) first_kelvin last_kelvin).looks)
    above true = none
    above false = halving_above (λ k. fits v t (1000 * k))

-- an inverse from the places that it was lent, eleven of them and all 0 before: they hold its looks
pub inverse_shown : (v : ℕ → ℤ) (t : ℤ) (told : Told Found) → inverse_text told (used (written told (looks v t) (replicate look_places 0))) ≡ inverse_text told (looks v t)
inverse_shown v t (gives f) = ap (inverse_text (gives f)) (ap used (append-nil (eleven (looks v t))) ∙ used_eleven v t)
inverse_shown v t (refused r) = refl

pub psi_shown : {target : ℤ} {r : Result (Millikelvin × ℕ) Refusal} {after : List ℕ} → PsiInverse target (replicate look_places 0) r after
    → inverse_text (paper_psi r) (used after) ≡ inverse_text (psi_inverse_told look_places target) (looks psi_value target)
psi_shown {target} {r} p = rw (p.told, p.list) (inverse_shown psi_value target (psi_inverse_told look_places target))

pub temperature_shown : (ch : Charge) (target : ℤ) (s : List ℕ) {r : Result (Millikelvin × Heat) Refusal} {after : List ℕ} → Temperature document01 ch target s (replicate look_places 0) r after
    → inverse_text (paper_temperature r) (used after) ≡ inverse_text (temperature_told document01 ch target s look_places) (looks (gas_heat document01 s (gas_of ch)) target)
temperature_shown ch target s p = rw (p.told, p.list) (inverse_shown (gas_heat document01 s (gas_of ch)) target (temperature_told document01 ch target s look_places))

-- the text of a refusal by its number and its row
pub refusal_alone : (r : Numbered) → ((k : ℕ) → place_of r ≡ Some k → ⊥) → refusal_text r ≡ refused_text ++ (9 ∷ decimal (number_of r))
refusal_alone (Plain n) h = refl
refusal_alone (At n k) h = absurd (h k refl)

pub refusal_with_row : (r : Numbered) (k : ℕ) → place_of r ≡ Some k → refusal_text r ≡ (refused_text ++ (9 ∷ decimal (number_of r))) ++ (9 ∷ decimal k)
refusal_with_row (Plain n) k e = cc
refusal_with_row (At n j) k e = let q : j ≡ k = cc in rw q refl
