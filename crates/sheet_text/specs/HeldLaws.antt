-- What the machine has read is the text of what it holds: so a text that it takes whole is a good sheet's. Assumes nothing.
use Rattle.std.specs.Prelude.{◌≡◌, refl, Bool, true, false, ◌&&◌, cond, List, [], ◌∷◌, ◌++◌, ℕ, zero, suc, ◌+◌, ◌*◌, ◌≤◌, ◌<◌, ltb, eqb, length, get_or, set, Ok, Err}
use Rattle.std.proofs.Common.{sym, ◌∙◌, ap, append-nil, append_assoc, add-one, arith, length-set, get_or-set_same, get_or-set_other, eqb-true, ltb-true, ltb-false, lt-ltb, le-ltb, eq-eqb, ne_eqb}
use Rattle.std.proofs.Math.Numerals.{add-two}
use Rattle.std.proofs.Math.ListN.{get_or-eq_default}
use Rattle.std.proofs.lemmas.List.Edits.{sets}
use Rattle.std.proofs.Math.Seq.{append_snoc, length-sets}
use Rattle.std.proofs.lemmas.Bool.{eqb-false}
use Rattle.rows.specs.Limits.{first_kelvin, table_rows}
use Rattle.text.specs.Fold.{run}
use Rattle.text.specs.Decimal.{decimal}
use Rattle.text.specs.Wholes.{may_follow}
use Rattle.text.specs.WholesLaws.{grown, spelled, follow_some, and_left, and_right}
use Rattle.sheet_text.specs.Limits.{most_figure, sheet_numbers}
use Rattle.sheet_text.specs.declared.Place.{Place}
use Rattle.sheet_text.specs.Text.{row_text, rows_of, sheet_text, Numbers, IsSheet}
use Rattle.sheet_text.specs.Machine.{begins, start, takes_digit, with_digit, whole, closer, after, ends_field, step, whole_sheet, ends_row, stored_place, stored, filled, fill_byte, State}
use Rattle.sheet_text.specs.MachineLaws.{place, begins_some, stored_same, takes_bound, view, View, dies, digit, ends}

-- ---- what the machine holds of the text
-- the bytes of the row at hand: its fields that are done, and the digits of the field at hand
abbrev pub head_of : ℕ → ℕ → ℕ → ℕ → List ℕ
head_of zero k a b = []
head_of (suc zero) k a b = decimal k ++ (9 ∷ [])
head_of (suc (suc zero)) k a b = decimal k ++ (9 ∷ []) ++ decimal a ++ (9 ∷ [])
head_of (suc (suc (suc n))) k a b = decimal k ++ (9 ∷ []) ++ decimal a ++ (9 ∷ []) ++ decimal b ++ (9 ∷ [])

abbrev pub sofar : Place → List ℕ
sofar p = head_of p.field (first_kelvin + p.row) p.first p.second ++ spelled p.seen p.value

-- the text read is that of the rows in the list and of the row at hand, whose numbers keep the limit
pub record Held (t : List ℕ) (p : Place) (l : List ℕ) : Type 0 where
  pub text : t ≡ rows_of p.row l ++ sofar p
  pub full : length l ≡ sheet_numbers
  pub below : (i : ℕ) → i < 3 * p.row → get_or l i 0 ≤ most_figure
  pub value : p.value ≤ most_figure
  pub first : p.first ≤ most_figure
  pub second : p.second ≤ most_figure
  pub rows : p.row ≤ table_rows
  pub last : p.row ≡ table_rows → sofar p ≡ []
  pub none : p.seen ≡ false → p.value ≡ 0
  pub fields : p.field ≤ 3
  pub kelvin : p.field ≡ 0 → p.seen ≡ true → begins (first_kelvin + p.row) p.value ≡ true

-- and where it refused the text, the rows before the bad one stand in the list
abbrev pub HeldBy : List ℕ → State → List ℕ → Type 0
HeldBy t (Ok p) l = Held t p l
HeldBy t (Err r) l = (rest : List ℕ) × (t ≡ rows_of r l ++ rest)

-- ---- a digit keeps it
takes_pos : (p : Place) (d : ℕ) → (p.field ≡ 0 → begins (first_kelvin + p.row) p.value ≡ true) → p.seen ≡ true → takes_digit p d ≡ true → 0 < p.value
unfolding takes_digit
takes_pos p d k s e = go (eqb p.field 0) refl e
  where
    go : (z : Bool) → eqb p.field 0 ≡ z → cond z (begins (first_kelvin + p.row) (10 * p.value + d)) (may_follow most_figure p.seen p.value d) ≡ true → 0 < p.value
    go true z e = begins_some (first_kelvin + p.row) p.value (k (eqb-true _ _ z))
    go false z e = follow_some most_figure p.value d (rw s at e)

takes_kelvin : (p : Place) (d : ℕ) → p.field ≡ 0 → takes_digit p d ≡ true → begins (first_kelvin + p.row) (10 * p.value + d) ≡ true
unfolding takes_digit
takes_kelvin p d z e = simp (eq-eqb p.field 0 z) at e

held_digit : (t : List ℕ) (p : Place) (l : List ℕ) (d : ℕ) → Held t p l → p.row < table_rows → d < 10 → takes_digit p d ≡ true → Held (t ++ ((48 + d) ∷ [])) (with_digit p d) l
unfolding with_digit
held_digit t p l d o h hd e = record {
  text = rw (o.text, grown p.seen p.value d o.none (λ s. takes_pos p d (λ z. o.kelvin z s) s e) hd) (simp append_assoc);
  full = o.full;
  below = o.below;
  value = takes_bound p d h e;
  first = o.first;
  second = o.second;
  rows = o.rows;
  last = λ q. absurd (omega arith);
  none = λ q. absurd cc;
  fields = o.fields;
  kelvin = λ z s. takes_kelvin p d z e;
}

-- ---- a field's end keeps it
-- the text of rows is fixed by their places
agree : (r : ℕ) (l m : List ℕ) → ((i : ℕ) → i < 3 * r → get_or m i 0 ≡ get_or l i 0) → rows_of r m ≡ rows_of r l
agree zero l m h = refl
agree (suc r) l m h = rw (agree r l m (λ i q. h i (omega arith)), h (3 * r) (omega arith), h (3 * r + 1) (omega arith), h (3 * r + 2) (omega arith)) refl

-- three places written at once
abbrev three_of : List ℕ → ℕ → ℕ → ℕ → ℕ → List ℕ
three_of l j a b c = sets l j (a ∷ b ∷ c ∷ [])

module _ (l : List ℕ) (j a b c : ℕ) (h : suc (suc j) < length l) where
  three_old : (i : ℕ) → i < j → get_or (three_of l j a b c) i 0 ≡ get_or l i 0
  three_old i q = get_or-set_other (set (set l j a) (suc j) b) (suc (suc j)) i c 0 (omega arith) ∙ (get_or-set_other (set l j a) (suc j) i b 0 (omega arith) ∙ get_or-set_other l j i a 0 (omega arith))

  three_0 : get_or (three_of l j a b c) j 0 ≡ a
  three_0 = get_or-set_other (set (set l j a) (suc j) b) (suc (suc j)) j c 0 (omega arith) ∙ (get_or-set_other (set l j a) (suc j) j b 0 (omega arith) ∙ get_or-set_same l j a 0 (omega arith))

  three_1 : get_or (three_of l j a b c) (j + 1) 0 ≡ b
  three_1 = rw (add-one j) (get_or-set_other (set (set l j a) (suc j) b) (suc (suc j)) (suc j) c 0 (omega arith) ∙ get_or-set_same (set l j a) (suc j) b 0 (simp length-set (omega arith)))

  three_2 : get_or (three_of l j a b c) (j + 2) 0 ≡ c
  three_2 = rw (add-two j) (get_or-set_same (set (set l j a) (suc j) b) (suc (suc j)) c 0 (simp length-set (omega arith)))

  three_length : length (three_of l j a b c) ≡ length l
  three_length = length-sets l j (a ∷ b ∷ c ∷ [])

  three_small : (limit i : ℕ) → a ≤ limit → b ≤ limit → c ≤ limit → ((i : ℕ) → i < j → get_or l i 0 ≤ limit) → i < j + 3 → get_or (three_of l j a b c) i 0 ≤ limit
  three_small limit i ha hb hc hl hi = go (ltb i j) (eqb i j) (eqb i (j + 1)) refl refl refl
    where
      go : (x y z : Bool) → ltb i j ≡ x → eqb i j ≡ y → eqb i (j + 1) ≡ z → get_or (three_of l j a b c) i 0 ≤ limit
      go true y z ex ey ez = rw (three_old i (ltb-true _ _ ex)) (hl i (ltb-true _ _ ex))
      go false true z ex ey ez = rw (eqb-true i j ey, three_0) ha
      go false false true ex ey ez = rw (eqb-true i (j + 1) ez, three_1) hb
      go false false false ex ey ez =
          let n : j ≤ i = ltb-false _ _ ex in
          let n1 : i ≡ j → ⊥ = eqb-false _ _ ey in
          let n2 : i ≡ j + 1 → ⊥ = eqb-false _ _ ez in
          let e : i ≡ j + 2 = omega arith in
          rw (e, three_2) hc

-- a number above zero has a digit
seen_of : (s : Bool) (v : ℕ) → (s ≡ false → v ≡ 0) → 0 < v → s ≡ true
seen_of true v n h = refl
seen_of false v n h = let z : v ≡ 0 = n refl in absurd (omega arith)

joined : (R H D : List ℕ) (x : ℕ) → R ++ (H ++ D) ++ (x ∷ []) ≡ R ++ (H ++ D ++ (x ∷ []) ++ [])
joined R H D x = simp (append_assoc, append-nil)

joined_row : (R H D : List ℕ) (x : ℕ) → R ++ (H ++ D) ++ (x ∷ []) ≡ R ++ (H ++ D ++ (x ∷ [])) ++ []
joined_row R H D x = simp (append_assoc, append-nil)

stored_row : (r n v a b x : ℕ) (l : List ℕ) → r < table_rows → x ≡ 10 → stored_place (place r (suc (suc (suc n))) v true a b) x l ≡ sets l (3 * r) (a ∷ b ∷ v ∷ [])
unfolding stored_place ends_row
stored_row r n v a b x l h e = simp (lt-ltb r table_rows h, eq-eqb x 10 e, le-ltb (suc (suc (suc n))) 3 (omega arith))

rows_more : (r a b c : ℕ) (l : List ℕ) → suc (suc (3 * r)) < length l → rows_of (suc r) (three_of l (3 * r) a b c) ≡ rows_of r l ++ row_text (first_kelvin + r) a b c
rows_more r a b c l h =
    let q : suc (suc (3 * r)) < length l = h in
    rw (agree r l (three_of l (3 * r) a b c) (three_old l (3 * r) a b c q), three_0 l (3 * r) a b c q, three_1 l (3 * r) a b c q, three_2 l (3 * r) a b c q) refl

held_feed : (t : List ℕ) (r n v : ℕ) (s : Bool) (a b : ℕ) (l : List ℕ) (x : ℕ) → Held t (place r (suc (suc (suc n))) v s a b) l → r < table_rows
    → (eqb x 10 && s) ≡ true → Held (t ++ (x ∷ [])) (after (place r (suc (suc (suc n))) v s a b)) (stored_place (place r (suc (suc (suc n))) v s a b) x l)
unfolding after row_text
held_feed t r n v s a b l x o h e =
    let ex : x ≡ 10 = eqb-true x 10 (and_left _ _ e) in
    let es : s ≡ true = and_right (eqb x 10) _ e in
    let q : suc (suc (3 * r)) < length l = omega (arith, o.full) in
    rw (es, stored_row r n v a b x l h ex, le-ltb (suc (suc (suc n))) 3 (omega arith)) record {
      text = rw (o.text, ex, es, add-one r, rows_more r a b v l q) (joined_row (rows_of r l) (head_of 3 (first_kelvin + r) a b) (decimal v) 10);
      full = three_length l (3 * r) a b v q ∙ o.full;
      below = λ i hi. three_small l (3 * r) a b v q most_figure i o.first o.second o.value o.below (omega arith);
      value = omega arith;
      first = omega arith;
      second = omega arith;
      rows = omega arith;
      last = λ q. refl;
      none = λ q. refl;
      fields = omega arith;
      kelvin = λ z q. absurd cc;
    }

-- the start of a field after the first
begun : {t l : List ℕ} {r f a b : ℕ} → t ≡ rows_of r l ++ sofar (place r f 0 false a b) → length l ≡ sheet_numbers
    → ((i : ℕ) → i < 3 * r → get_or l i 0 ≤ most_figure) → a ≤ most_figure → b ≤ most_figure → r < table_rows → 0 < f → f ≤ 3 → Held t (place r f 0 false a b) l
begun text full below first second h hf hg = record {
  text = text;
  full = full;
  below = below;
  value = omega arith;
  first = first;
  second = second;
  rows = omega arith;
  last = λ q. absurd (omega arith);
  none = λ q. refl;
  fields = hg;
  kelvin = λ z q. absurd (omega arith);
}

held_end : (t : List ℕ) (r f v : ℕ) (s : Bool) (a b : ℕ) (l : List ℕ) (x : ℕ) → Held t (place r f v s a b) l → r < table_rows
    → ends_field (place r f v s a b) x ≡ true → Held (t ++ (x ∷ [])) (after (place r f v s a b)) (stored_place (place r f v s a b) x l)
unfolding ends_field closer whole after
held_end t r zero v s a b l x o h e =
    let ex : x ≡ 9 = eqb-true x 9 (and_left _ _ e) in
    let ev : v ≡ first_kelvin + r = eqb-true v (first_kelvin + r) (and_right (eqb x 9) _ e) in
    let es : s ≡ true = seen_of s v o.none (omega arith) in
    rw (stored_same (place r zero v s a b) x l h (omega arith))
    (begun (rw (o.text, ex, es, ev) (joined (rows_of r l) [] (decimal (first_kelvin + r)) 9)) o.full o.below o.first o.second h (omega arith) (omega arith))
held_end t r (suc zero) v s a b l x o h e =
    let ex : x ≡ 9 = eqb-true x 9 (and_left _ _ e) in
    let es : s ≡ true = and_right (eqb x 9) _ e in
    rw (stored_same (place r 1 v s a b) x l h (omega arith))
    (begun (rw (o.text, ex, es) (joined (rows_of r l) (head_of 1 (first_kelvin + r) a b) (decimal v) 9)) o.full o.below o.value o.second h (omega arith) (omega arith))
held_end t r (suc (suc zero)) v s a b l x o h e =
    let ex : x ≡ 9 = eqb-true x 9 (and_left _ _ e) in
    let es : s ≡ true = and_right (eqb x 9) _ e in
    rw (stored_same (place r 2 v s a b) x l h (omega arith))
    (begun (rw (o.text, ex, es) (joined (rows_of r l) (head_of 2 (first_kelvin + r) a b) (decimal v) 9)) o.full o.below o.first o.value h (omega arith) (omega arith))
held_end t r (suc (suc (suc n))) v s a b l x o h e = held_feed t r n v s a b l x o h (simp (le-ltb (suc (suc (suc n))) 3 (omega arith), ne_eqb (suc (suc (suc n))) 0 (omega arith)) at e)

-- ---- so every byte keeps it
-- the bytes behind the rows, with one more
rest_more : {t : List ℕ} (rows rest : List ℕ) (b : ℕ) → t ≡ rows ++ rest → t ++ (b ∷ []) ≡ rows ++ (rest ++ (b ∷ []))
rest_more rows rest b e = ap (λ (x : List ℕ). x ++ (b ∷ [])) e ∙ append_assoc rows rest (b ∷ [])

pub held_step : (t : List ℕ) (s : State) (l : List ℕ) (b : ℕ) → HeldBy t s l → HeldBy (t ++ (b ∷ [])) (step s b) (stored s b l)
held_step t (Err r) l b o = (o.0 ++ (b ∷ []), rest_more (rows_of r l) o.0 b o.1)
held_step t (Ok p) l b o = go (view p b l)
  where
    go : {s : State} {m : List ℕ} → View p b l s m → HeldBy (t ++ (b ∷ [])) s m
    go dies = (sofar p ++ (b ∷ []), rest_more (rows_of p.row l) (sofar p) b o.text)
    go (digit d e hd h k) = rw e (held_digit t p l d o h hd k)
    go (ends h e) = held_end t p.row p.field p.value p.seen p.first p.second l b o h e

pub held_run : (t xs : List ℕ) (s : State) (l : List ℕ) → HeldBy t s l → HeldBy (t ++ xs) (run fill_byte (filled s l) xs).state (run fill_byte (filled s l) xs).list
held_run t [] s l o = rw (append-nil t) o
held_run t (b ∷ xs) s l o = rw (sym (append_snoc t b xs)) (held_run (t ++ (b ∷ [])) xs (step s b) (stored s b l) (held_step t s l b o))

-- the state of a filling run is the judging run's
pub same_state : (xs : List ℕ) (s : State) (l : List ℕ) → (run fill_byte (filled s l) xs).state ≡ run step s xs
same_state [] s l = refl
same_state (b ∷ xs) s l = same_state xs (step s b) (stored s b l)

held_start : (l : List ℕ) → length l ≡ sheet_numbers → HeldBy [] start l
held_start l h = record {
  text = refl;
  full = h;
  below = λ i q. absurd (omega arith);
  value = omega arith;
  first = omega arith;
  second = omega arith;
  rows = omega arith;
  last = λ q. refl;
  none = λ q. refl;
  fields = omega arith;
  kelvin = λ z q. absurd cc;
}

pub held_text : (text l : List ℕ) → length l ≡ sheet_numbers → HeldBy text (run step start text) (run fill_byte (filled start l) text).list
held_text text l h = rw (same_state text start l) at (held_run [] text start l (held_start l h))

-- ---- a text that is taken whole is the sheet of the numbers that were filled in
whole_text_lem : (n r : ℕ) (t m e : List ℕ) → r ≡ n → e ≡ [] → t ≡ rows_of r m ++ e → t ≡ rows_of n m
whole_text_lem n r t m e p q w = w ∙ (ap (λ (x : List ℕ). rows_of r m ++ x) q ∙ (append-nil (rows_of r m) ∙ ap (λ (x : ℕ). rows_of x m) p))

all_small : (n : ℕ) (m : List ℕ) → length m ≡ n → ((i : ℕ) → i < n → get_or m i 0 ≤ most_figure) → (i : ℕ) → get_or m i 0 ≤ most_figure
all_small n m e h i = go (ltb i n) refl
  where
    go : (z : Bool) → ltb i n ≡ z → get_or m i 0 ≤ most_figure
    go true q = h i (ltb-true _ _ q)
    go false q = let k : length m ≤ i = omega (arith, ltb-false i n q) in rw (get_or-eq_default m 0 {n = i} k) (omega arith)

good_of : (t : List ℕ) (p : Place) (m : List ℕ) → p.row ≡ table_rows → Held t p m → Numbers m
good_of t p m e o = record { full = o.full; small = all_small sheet_numbers m o.full (λ i q. o.below i (omega arith)) }

pub sound : (text l : List ℕ) → length l ≡ sheet_numbers → whole_sheet (run step start text) ≡ true → IsSheet text (run fill_byte (filled start l) text).list
unfolding sheet_text
sound text l h w = go (run step start text) (run fill_byte (filled start l) text).list w (held_text text l h)
  where
    go : (s : State) (m : List ℕ) → whole_sheet s ≡ true → HeldBy text s m → IsSheet text m
    go (Err r) m w o = absurd cc
    go (Ok p) m w o =
        let e : p.row ≡ table_rows = eqb-true _ _ w in
        record { good = good_of text p m e o; is = whole_text_lem table_rows p.row text m (sofar p) e (o.last e) o.text }
