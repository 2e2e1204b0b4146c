-- The first bad row: a place that is not refused can be carried on to a good sheet, and a refused text cannot. Assumes nothing.
use Rattle.std.specs.Prelude.{◌≡◌, refl, Bool, false, cond, List, [], ◌∷◌, ◌++◌, ℕ, zero, suc, ◌+◌, ◌*◌, ◌-◌, ◌/◌, ◌%◌, ◌≤◌, ◌<◌, ltb, eqb, length, get_or, replicate, Ok, Err}
use Rattle.std.proofs.Common.{sym, ◌∙◌, ap, subst, append-nil, add-one, arith, ltb-true, ltb-false, eq-eqb, ne_eqb}
use Rattle.std.proofs.Math.Bool.{true}
use Rattle.std.proofs.lemmas.List.{length-replicate}
use Rattle.std.proofs.lemmas.Bool.{eqb-false}
use Rattle.rows.specs.Limits.{first_kelvin, table_rows}
use Rattle.text.specs.Fold.{run}
use Rattle.text.specs.FoldLaws.{run_append, Runs, and_then}
use Rattle.text.specs.Decimal.{decimal}
use Rattle.text.specs.DecimalLaws.{one_digit, last_digit, by_digits}
use Rattle.text.specs.WholesLaws.{spelled}
use Rattle.sheet_text.specs.Limits.{sheet_numbers}
use Rattle.sheet_text.specs.declared.Place.{Place}
use Rattle.sheet_text.specs.Text.{row_text, rows_of, sheet_text, Numbers, IsSheet, Begins, feeds, FirstBad, byte, short}
use Rattle.sheet_text.specs.Machine.{begins, start, takes_digit, with_digit, step_place, step, row_of, whole_sheet, Filled, filled, fill_byte, State}
use Rattle.sheet_text.specs.MachineLaws.{place, row_start, begins_some, begins_cases, begins_0, begins_1, begins_2, view, View, dies, digit, ends}
use Rattle.sheet_text.specs.WholeLaws.{digit_step, number_run, kelvin_run, tab_0, tab_1, tab_2, feed_3, rows_run, complete}
use Rattle.sheet_text.specs.HeldLaws.{Held, HeldBy, held_text, same_state, sofar, head_of, sound}

-- ---- from each place that the machine comes to a good sheet can follow
-- some text leads from there to the place
pub record Goes (s : Filled) (p : Place) : Type 0 where
  pub by : List ℕ
  pub left : List ℕ
  pub runs : Runs fill_byte s by (filled (Ok p) left)

here : (p : Place) (l : List ℕ) → Goes (filled (Ok p) l) p
here p l = record { by = []; left = l; runs = record { to = refl } }

on : {s : Filled} {p q : Place} → Goes s p → ((l : List ℕ) → Goes (filled (Ok p) l) q) → Goes s q
on g k = let h = k g.left in record { by = g.by ++ h.by; left = h.left; runs = and_then g.runs h.runs }

one : (s : Filled) (xs : List ℕ) (p : Place) (m : List ℕ) → Runs fill_byte s xs (filled (Ok p) m) → Goes s p
one s xs p m r = record { by = xs; left = m; runs = r }

module _ (r : ℕ) (h : r < table_rows) where
  number_on : (f v : ℕ) (s : Bool) (a b : ℕ) (l : List ℕ) → (f ≡ 0 → ⊥) → (s ≡ false → v ≡ 0) → Goes (filled (Ok (place r f v s a b)) l) (place r f v true a b)
  number_on f v true a b l hf hs = here (place r f v true a b) l
  number_on f v false a b l hf hs =
      rw (hs refl) (one _ (decimal 0) (place r f 0 true a b) l (number_run r f a b 0 l h hf (omega arith)))

  -- one digit of the kelvin more
  kelvin_digit : (v d a b : ℕ) (l : List ℕ) → d < 10 → begins (first_kelvin + r) (10 * v + d) ≡ true → Goes (filled (Ok (place r 0 v true a b)) l) (place r 0 (10 * v + d) true a b)
  unfolding takes_digit with_digit
  kelvin_digit v d a b l hd e = one _ ((48 + d) ∷ []) (place r 0 (10 * v + d) true a b) l (record { to = digit_step (place r 0 v true a b) d l h hd e })

  kelvin_up : (v w a b : ℕ) (l : List ℕ) → v ≡ w / 10 → begins (first_kelvin + r) w ≡ true → Goes (filled (Ok (place r 0 v true a b)) l) (place r 0 w true a b)
  kelvin_up v w a b l e k =
      let q : 10 * v + w % 10 ≡ w = omega arith in
      subst (λ (x : ℕ). Goes (filled (Ok (place r 0 v true a b)) l) (place r 0 x true a b)) q (kelvin_digit v (w % 10) a b l (omega arith) (rw q k))

  up_1 : (v a b : ℕ) (l : List ℕ) → v ≡ (first_kelvin + r) / 10 → Goes (filled (Ok (place r 0 v true a b)) l) (place r 0 (first_kelvin + r) true a b)
  up_1 v a b l e = kelvin_up v (first_kelvin + r) a b l e (begins_0 (first_kelvin + r) (first_kelvin + r) (omega arith) refl)

  up_2 : (v a b : ℕ) (l : List ℕ) → v ≡ (first_kelvin + r) / 100 → Goes (filled (Ok (place r 0 v true a b)) l) (place r 0 (first_kelvin + r) true a b)
  up_2 v a b l e =
      on (kelvin_up v ((first_kelvin + r) / 10) a b l (omega arith) (begins_1 (first_kelvin + r) ((first_kelvin + r) / 10) (omega arith) refl)) (λ m. up_1 ((first_kelvin + r) / 10) a b m refl)

  up_3 : (v a b : ℕ) (l : List ℕ) → v ≡ (first_kelvin + r) / 1000 → 0 < v → Goes (filled (Ok (place r 0 v true a b)) l) (place r 0 (first_kelvin + r) true a b)
  up_3 v a b l e q =
      on (kelvin_up v ((first_kelvin + r) / 100) a b l (omega arith) (begins_2 (first_kelvin + r) ((first_kelvin + r) / 100) (omega arith) refl)) (λ m. up_2 ((first_kelvin + r) / 100) a b m refl)

  kelvin_rest : (v a b : ℕ) (l : List ℕ) → begins (first_kelvin + r) v ≡ true → Goes (filled (Ok (place r 0 v true a b)) l) (place r 0 (first_kelvin + r) true a b)
  kelvin_rest v a b l e =
      begins_cases (first_kelvin + r) v e
      (λ q. subst (λ (x : ℕ). Goes (filled (Ok (place r 0 x true a b)) l) (place r 0 (first_kelvin + r) true a b)) (sym q) (here _ l))
      (up_1 v a b l) (up_2 v a b l) (λ q. up_3 v a b l q (begins_some (first_kelvin + r) v e))

  kelvin_on : (v : ℕ) (s : Bool) (a b : ℕ) (l : List ℕ) → (s ≡ false → v ≡ 0) → (s ≡ true → begins (first_kelvin + r) v ≡ true)
      → Goes (filled (Ok (place r 0 v s a b)) l) (place r 0 (first_kelvin + r) true a b)
  kelvin_on v true a b l hs hb = kelvin_rest v a b l (hb refl)
  kelvin_on v false a b l hs hb = rw (hs refl) (one _ (decimal (first_kelvin + r)) _ l (kelvin_run r a b l h))

  from_3 : (v : ℕ) (s : Bool) (a b : ℕ) (l : List ℕ) → (s ≡ false → v ≡ 0) → Goes (filled (Ok (place r 3 v s a b)) l) (place (r + 1) 0 0 false 0 0)
  from_3 v s a b l hs = on (number_on 3 v s a b l (omega arith) hs) (λ m. one _ (10 ∷ []) (place (r + 1) 0 0 false 0 0) _ (feed_3 r m h a b v))

  from_2 : (v : ℕ) (s : Bool) (a b : ℕ) (l : List ℕ) → (s ≡ false → v ≡ 0) → Goes (filled (Ok (place r 2 v s a b)) l) (place (r + 1) 0 0 false 0 0)
  from_2 v s a b l hs = on (on (number_on 2 v s a b l (omega arith) hs) (λ m. one _ (9 ∷ []) _ m (tab_2 r m h v a b))) (λ m. from_3 0 false a v m (λ q. refl))

  from_1 : (v : ℕ) (s : Bool) (a b : ℕ) (l : List ℕ) → (s ≡ false → v ≡ 0) → Goes (filled (Ok (place r 1 v s a b)) l) (place (r + 1) 0 0 false 0 0)
  from_1 v s a b l hs = on (on (number_on 1 v s a b l (omega arith) hs) (λ m. one _ (9 ∷ []) _ m (tab_1 r m h v a b))) (λ m. from_2 0 false v b m (λ q. refl))

  from_0 : (v : ℕ) (s : Bool) (a b : ℕ) (l : List ℕ) → (s ≡ false → v ≡ 0) → (s ≡ true → begins (first_kelvin + r) v ≡ true) → Goes (filled (Ok (place r 0 v s a b)) l) (place (r + 1) 0 0 false 0 0)
  from_0 v s a b l hs hb = on (on (kelvin_on v s a b l hs hb) (λ m. one _ (9 ∷ []) _ m (tab_0 r m h a b))) (λ m. from_1 0 false a b m (λ q. refl))

  row_on : (f v : ℕ) (s : Bool) (a b : ℕ) (l : List ℕ) → f ≤ 3 → (s ≡ false → v ≡ 0) → (f ≡ 0 → s ≡ true → begins (first_kelvin + r) v ≡ true)
      → Goes (filled (Ok (place r f v s a b)) l) (place (r + 1) 0 0 false 0 0)
  row_on zero v s a b l hf hs hb = from_0 v s a b l hs (hb refl)
  row_on (suc zero) v s a b l hf hs hb = from_1 v s a b l hs
  row_on (suc (suc zero)) v s a b l hf hs hb = from_2 v s a b l hs
  row_on (suc (suc (suc zero))) v s a b l hf hs hb = from_3 v s a b l hs
  row_on (suc (suc (suc (suc n)))) v s a b l hf hs hb = absurd (omega arith)

rows_on : (g r : ℕ) (l : List ℕ) → r + g ≡ table_rows → Goes (filled (row_start r) l) (place table_rows 0 0 false 0 0)
rows_on zero r l e = let q : r ≡ table_rows = omega arith in rw q (here _ l)
rows_on (suc g) r l e = on (row_on r (omega arith) 0 0 false 0 0 l (omega arith) (λ q. refl) (λ z q. absurd cc)) (λ m. rows_on g (r + 1) m (omega arith))

-- a place that the machine comes to can be carried on to a whole sheet
record Finish (p : Place) : Type 0 where
  by : List ℕ
  whole : whole_sheet (run step (Ok p) by) ≡ true

finish_of_lem : (p : Place) (l : List ℕ) → Goes (filled (Ok p) l) (place table_rows 0 0 false 0 0) → Finish p
finish_of_lem p l g = record { by = g.by; whole = ap whole_sheet (sym (same_state g.by (Ok p) l) ∙ ap (λ (x : Filled). x.state) g.runs.to) }

finish : (t : List ℕ) (p : Place) (l : List ℕ) → Held t p l → Finish p
finish t p l o = go (ltb p.row table_rows) refl
  where
    go : (z : Bool) → ltb p.row table_rows ≡ z → Finish p
    go true e =
        let h : p.row < table_rows = ltb-true _ _ e in
        finish_of_lem p l
        (on (row_on p.row h p.field p.value p.seen p.first p.second l o.fields o.none o.kelvin) (λ m. rows_on (table_rows - (p.row + 1)) (p.row + 1) m (omega arith)))
    go false e =
        let h : table_rows ≤ p.row = ltb-false _ _ e in
        let k : p.row ≤ table_rows = o.rows in
        record { by = []; whole = eq-eqb p.row table_rows (omega arith) }

-- a list to fill
pub blank : List ℕ
blank = replicate sheet_numbers 0

pub blank_full : length blank ≡ sheet_numbers
unfolding blank
blank_full = length-replicate {A = ℕ} sheet_numbers 0

held_at : (text : List ℕ) (p : Place) → run step start text ≡ Ok p → (l : List ℕ) → length l ≡ sheet_numbers → Held text p (run fill_byte (filled start l) text).list
held_at text p e l h = subst (λ (s : State). HeldBy text s (run fill_byte (filled start l) text).list) e (held_text text l h)

pub going_begins : (text : List ℕ) (p : Place) → run step start text ≡ Ok p → Begins text
going_begins text p e =
    let f = finish text p (run fill_byte (filled start blank) text).list (held_at text p e blank blank_full) in
    let w : whole_sheet (run step start (text ++ f.by)) ≡ true = ap whole_sheet (run_append step start text f.by ∙ ap (λ (s : State). run step s f.by) e) ∙ f.whole in
    record { rest = f.by; numbers = (run fill_byte (filled start blank) (text ++ f.by)).list; sheet = sound (text ++ f.by) blank blank_full w }

pub bad_stays : (r : ℕ) (xs : List ℕ) → run step (Err r) xs ≡ Err r
bad_stays r [] = refl
bad_stays r (b ∷ xs) = bad_stays r xs

-- a good sheet's text is taken whole
pub sheet_whole : (text s : List ℕ) → IsSheet text s → run step start text ≡ row_start table_rows
sheet_whole text s h =
    ap (run step start) h.is ∙ (sym (same_state (sheet_text s) start blank) ∙ ap (λ (x : Filled). x.state) (complete s blank h.good blank_full))

pub bad_not_begins : (text : List ℕ) (r : ℕ) → run step start text ≡ Err r → Begins text → ⊥
bad_not_begins text r e g =
    let q : run step start (text ++ g.rest) ≡ row_start table_rows = sheet_whole (text ++ g.rest) g.numbers g.sheet in
    let p : run step start (text ++ g.rest) ≡ Err r = run_append step start text g.rest ∙ (ap (λ (s : State). run step s g.rest) e ∙ bad_stays r g.rest) in
    never (row_start table_rows) r refl (sym q ∙ p)
  where
    never : (s : State) (r : ℕ) → s ≡ row_start table_rows → s ≡ Err r → ⊥
    never s r p q = cc

-- ---- the machine's row is the number of line feeds
feeds_append : (xs ys : List ℕ) → feeds (xs ++ ys) ≡ feeds xs + feeds ys
feeds_append [] ys = omega arith
feeds_append (b ∷ xs) ys = go (eqb b 10) (feeds_append xs ys)
  where
    go : (z : Bool) → feeds (xs ++ ys) ≡ feeds xs + feeds ys → cond z (suc (feeds (xs ++ ys))) (feeds (xs ++ ys)) ≡ cond z (suc (feeds xs)) (feeds xs) + feeds ys
    go true e = omega arith
    go false e = e

feeds_digit : (d : ℕ) → feeds ((48 + d) ∷ []) ≡ 0
feeds_digit d = simp (ne_eqb (48 + d) 10 (omega arith))

feeds_decimal : (n : ℕ) → feeds (decimal n) ≡ 0
feeds_decimal = by_digits (λ n. feeds (decimal n) ≡ 0) (λ d h. rw (one_digit d h) (feeds_digit d))
    (λ n h e. rw (last_digit n h) (feeds_append (decimal (n / 10)) _ ∙ rw (e, feeds_digit (n % 10)) refl))

feeds_row : (k a b c : ℕ) → feeds (row_text k a b c) ≡ 1
unfolding row_text
feeds_row k a b c = simp (feeds_append, feeds_decimal)

feeds_rows : (r : ℕ) (l : List ℕ) → feeds (rows_of r l) ≡ r
feeds_rows zero l = refl
feeds_rows (suc r) l = feeds_append (rows_of r l) _ ∙ rw (feeds_rows r l, feeds_row (first_kelvin + r) (get_or l (3 * r) 0) (get_or l (3 * r + 1) 0) (get_or l (3 * r + 2) 0)) (add-one r)

feeds_spelled : (s : Bool) (v : ℕ) → feeds (spelled s v) ≡ 0
feeds_spelled true v = feeds_decimal v
feeds_spelled false v = refl

feeds_head : (f k a b : ℕ) → feeds (head_of f k a b) ≡ 0
feeds_head zero k a b = refl
feeds_head (suc zero) k a b = simp (feeds_append, feeds_decimal)
feeds_head (suc (suc zero)) k a b = simp (feeds_append, feeds_decimal)
feeds_head (suc (suc (suc n))) k a b = simp (feeds_append, feeds_decimal)

feeds_sofar : (p : Place) → feeds (sofar p) ≡ 0
feeds_sofar p =
    feeds_append (head_of p.field (first_kelvin + p.row) p.first p.second) _ ∙ rw (feeds_head p.field (first_kelvin + p.row) p.first p.second, feeds_spelled p.seen p.value) refl

pub feeds_at : (text : List ℕ) (p : Place) → run step start text ≡ Ok p → feeds text ≡ p.row
feeds_at text p e =
    let o = held_at text p e blank blank_full in
    ap feeds o.text ∙ (feeds_append (rows_of p.row _) (sofar p) ∙ rw (feeds_rows p.row (run fill_byte (filled start blank) text).list, feeds_sofar p) (omega arith))

-- ---- where a run first dies
record Died (s : State) (xs : List ℕ) (r : ℕ) : Type 0 where
  front : List ℕ
  key : ℕ
  back : List ℕ
  stands : Place
  split : xs ≡ front ++ (key ∷ back)
  there : run step s front ≡ Ok stands
  dead : step (Ok stands) key ≡ Err r

died : (xs : List ℕ) (p : Place) (r : ℕ) → run step (Ok p) xs ≡ Err r → Died (Ok p) xs r
died [] p r e = absurd cc
died (b ∷ xs) p r e = go (step (Ok p) b) refl (died xs) e
  where
    go : (s : State) → step (Ok p) b ≡ s → ((q : Place) (r : ℕ) → run step (Ok q) xs ≡ Err r → Died (Ok q) xs r) → run step s xs ≡ Err r → Died (Ok p) (b ∷ xs) r
    go (Err q) k ih e = record { front = []; key = b; back = xs; stands = p; split = refl; there = refl; dead = k ∙ (sym (bad_stays q xs) ∙ e) }
    go (Ok q) k ih e =
        let d = ih q r e in
        record {
          front = b ∷ d.front;
          key = d.key;
          back = d.back;
          stands = d.stands;
          split = ap (λ (x : List ℕ). b ∷ x) d.split;
          there = ap (λ (s : State). run step s d.front) k ∙ d.there;
          dead = d.dead;
        }

-- a byte kills only in its own row
dies_in_row : (p : Place) (b r : ℕ) → step (Ok p) b ≡ Err r → p.row ≡ r
dies_in_row p b r e = go (view p b []) e
  where
    go : {s : State} {m : List ℕ} → View p b [] s m → s ≡ Err r → p.row ≡ r
    go dies e = cc
    go (digit d x hd h k) e = cc
    go (ends h k) e = cc

pub not_whole_bad : (text : List ℕ) → whole_sheet (run step start text) ≡ false → FirstBad text (row_of (run step start text))
not_whole_bad text w = go (run step start text) refl w
  where
    go : (s : State) → run step start text ≡ s → whole_sheet s ≡ false → FirstBad text (row_of s)
    go (Ok p) e w =
        short (going_begins text p e)
        (λ s h. let q : Ok p ≡ row_start table_rows = sym e ∙ sheet_whole text s h in eqb-false p.row table_rows w (ap row_of q))
        (feeds_at text p e)
    go (Err r) e w =
        let d = died text (place 0 0 0 false 0 0) r e in
        byte d.front d.key d.back d.split (going_begins d.front d.stands d.there)
        (bad_not_begins (d.front ++ (d.key ∷ [])) r (run_append step start d.front (d.key ∷ []) ∙ (ap (λ (s : State). step s d.key) d.there ∙ d.dead)))
        (feeds_at d.front d.stands d.there ∙ dies_in_row d.stands d.key r d.dead)

-- ---- and no other row is the first bad one
alive_of : (text : List ℕ) → Begins text → (p : Place) × (run step start text ≡ Ok p)
alive_of text g = go (run step start text) refl
  where
    go : (s : State) → run step start text ≡ s → (p : Place) × (run step start text ≡ Ok p)
    go (Ok p) e = (p, e)
    go (Err r) e = absurd (bad_not_begins text r e g)

pub bad_row_is : (text : List ℕ) (r : ℕ) → FirstBad text r → (whole_sheet (run step start text) ≡ false) × (row_of (run step start text) ≡ r)
bad_row_is text r (byte p b rest x g n f) = go (alive_of p g).0 (alive_of p g).1 (step (Ok (alive_of p g).0) b) refl
  where
    go : (q : Place) → run step start p ≡ Ok q → (s : State) → step (Ok q) b ≡ s → (whole_sheet (run step start text) ≡ false) × (row_of (run step start text) ≡ r)
    go q e (Ok q2) k = absurd (n (going_begins (p ++ (b ∷ [])) q2 (run_append step start p (b ∷ []) ∙ (ap (λ (s : State). step s b) e ∙ k))))
    go q e (Err r2) k =
        let t : run step start text ≡ Err r2 =
        ap (run step start) x ∙ (run_append step start p (b ∷ rest) ∙ (ap (λ (s : State). run step (step s b) rest) e ∙ (ap (λ (s : State). run step s rest) k ∙ bad_stays r2 rest))) in
        (ap whole_sheet t, ap row_of t ∙ (sym (dies_in_row q b r2 k) ∙ (sym (feeds_at p q e) ∙ f)))
bad_row_is text r (short g n f) = go (alive_of text g).0 (alive_of text g).1
  where
    go : (q : Place) → run step start text ≡ Ok q → (whole_sheet (run step start text) ≡ false) × (row_of (run step start text) ≡ r)
    go q e = (ap whole_sheet e ∙ ne_eqb q.row table_rows (λ z. n _ (sound text blank blank_full (ap whole_sheet e ∙ eq-eqb q.row table_rows z))), ap row_of e ∙ (sym (feeds_at text q e) ∙ f))

-- ---- document 01's cases: r good rows and no more give row r, the empty text row 0; bytes past the end give row 1,801
rows_state : (l : List ℕ) → Numbers l → (r : ℕ) → r ≤ table_rows → run step start (rows_of r l) ≡ row_start r
rows_state l g r h = sym (same_state (rows_of r l) start blank) ∙ ap (λ (x : Filled). x.state) (rows_run l blank g.full blank_full g.small r h).to

pub rows_short : (l : List ℕ) → Numbers l → (r : ℕ) → r < table_rows → FirstBad (rows_of r l) r
rows_short l g r h =
    let e = rows_state l g r (omega arith) in
    subst (λ (s : State). FirstBad (rows_of r l) (row_of s)) e (not_whole_bad (rows_of r l) (ap whole_sheet e ∙ ne_eqb r table_rows (omega arith)))

past_end : (b : ℕ) → step (row_start table_rows) b ≡ Err table_rows
unfolding step_place
past_end b = refl

pub bytes_past : (l : List ℕ) → Numbers l → (b : ℕ) (rest : List ℕ) → FirstBad (sheet_text l ++ (b ∷ rest)) table_rows
bytes_past l g b rest =
    let w = sheet_whole (sheet_text l) l (record { good = g; is = refl }) in
    byte (sheet_text l) b rest refl
    (record { rest = []; numbers = l; sheet = record { good = g; is = append-nil (sheet_text l) } })
    (bad_not_begins (sheet_text l ++ (b ∷ [])) table_rows (run_append step start (sheet_text l) (b ∷ []) ∙ (ap (λ (s : State). step s b) w ∙ past_end b)))
    (feeds_at (sheet_text l) (place table_rows 0 0 false 0 0) w)
