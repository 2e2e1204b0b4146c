-- A walk in its text: the lists that it wrote show its steps, and so many numbers as a line has are told as those that were kept. Assumes nothing.
use Prim.Native.Nat.{ℕ, zero, suc, ◌+◌, ◌-◌, ◌*◌, ◌/◌, ◌%◌, ◌≤◌, ◌<◌, min}
use Rattle.std.specs.Prelude.{◌≡◌, refl, true, not, cond, ℤ, pos, length, take, drop, get_or, set, eqb, Option, Some, None, Result, Ok, Err}
use Rattle.std.proofs.Math.Path.{sym, ap, ap₂}
use Rattle.std.proofs.Common.{◌∙◌, add-zero, add-one, lt-ltb, le-leb, length-append, length-take, length-drop, length-set, take_at, drop_at, get_or-set_same, get_or-set_other, lit<}
use Rattle.std.proofs.Math.Bool.{or-true}
use mathlib.Core.List.{List, [], ◌∷◌, ◌++◌, append_assoc, append-nil}
use native.Mathlib.Omega.{arith}
use Rattle.std.proofs.Math.Nat.{sub-zero}
use Rattle.std.proofs.Math.Decide.{dec_le}
use Rattle.std.proofs.lemmas.Bool.{lt-leb}
use Rattle.std.proofs.lemmas.List.{length-map, drop-append-le}
use Rattle.std.proofs.lemmas.List.Edits.{sets, sets-eq}
use Rattle.std.proofs.Math.Seq.{length-sets, get_or-drop, drop-drop}
use Rattle.air.specs.Limits.{look_places}
use Rattle.text.specs.declared.Pen.{Pen}
use Rattle.text.specs.Puts.{WroteAtMost}
use Rattle.text.specs.PutsLaws.{wrote_none, wrote_then, wrote_wider}
use Rattle.walk.specs.Limits.{step_numbers, most_steps, most_looks, most_numbers}
use Rattle.fields.specs.Fields.{values_of, count_all, Stored, held_of}
use Rattle.fields.specs.FieldsLaws.{count_is}
use Rattle.refusal.specs.Refusals.{Told, gives, refuses, refused, numbered, Line as Condition, condition, told_by, first}
use Rattle.refusal.specs.declared.Refusal.{Refusal}
use Rattle.refusal.specs.RefusalsLaws.{gives_clear}
use Rattle.air.specs.Halving.{eleven}
use Rattle.air.specs.HalvingLaws.{length_eleven}
use Rattle.air.specs.Inverse.{looks}
use Rattle.air.specs.InverseLaws.{looks_most}
use Rattle.sheet.specs.Sheet.{Accepted}
use Rattle.sheet.specs.Answers.{SheetAnswer, sheet_lines}
use Rattle.sheet.specs.AnswersLaws.{past_sheet}
use Rattle.burning.specs.declared.Charge.{Charge}
use Rattle.burning.specs.Burning.{Weights, document01, charge_in, charge_numbers}
use Rattle.burning.specs.BurningLaws.{charge_alike}
use Rattle.walk.specs.declared.Step.{Step}
use Rattle.walk.specs.declared.Course.{Course as CourseBack}
use Rattle.walk.specs.Lists.{Lists, lists, laid}
use Rattle.walk.specs.Step.{State, Out}
use Rattle.walk.specs.Walk.{Trace, End, ended, cut, run, steps_of, wrong_steps, start_lines, start_state, walked, Course, course_of, course}
use Rattle.walk.specs.Walk.{outs_of, temperatures_of, rests_of, looks_of, paper_walk, Walks}
use Rattle.walk.specs.RunLaws.{step_done, of_run}
use Rattle.console.specs.Limits.{held_numbers, start_numbers}
use Rattle.console.specs.declared.walks.Layout.{Layout}
use Rattle.console.specs.declared.walks.Layout.TheVariants.{Line, Page}
use Rattle.wording.specs.Texts.{told_text, used, course_text}
use Rattle.console.specs.Requests.{misfit_text}
use Rattle.console.specs.Walks.{walk_told, step_text, steps_text, walk_text, walk_request, header_text, end_text, printed_walk}
use Rattle.console.specs.inner.Shown.{steps_in, shown, walk_shown, layout_text, Holds, step_room}
use Rattle.wording.specs.TextsLaws.{used_eleven}

-- ---- the loop over the steps
-- one step more has so many bytes more
room_more : (layout : Layout) (i : ℕ) → step_room layout * i + step_room layout ≤ step_room layout * (i + 1)
room_more Line i = omega arith
room_more Page i = omega arith

module _ (layout : Layout) (n : ℕ) (t r : List ℤ) (l : List ℕ) where
  -- the steps from index i on
  abbrev left : ℕ → List ℕ
  left i = shown layout (i + 1) (n - i) (drop i t) (drop i r) (drop (look_places * i) l)

  abbrev step_at : ℕ → List ℕ
  step_at i = step_text layout (i + 1) (get_or t i (pos 0)) (get_or r i (pos 0)) (used (take look_places (drop (look_places * i) l)))

  left_next : (i : ℕ) → i < n → left i ≡ step_at i ++ left (i + 1)
  unfolding shown
  left_next i h =
      let e : n - i ≡ suc (n - (i + 1)) = omega arith in
      let d : look_places * i + look_places ≡ look_places * (i + 1) = omega arith in
      ap (λ (k : ℕ). shown layout (i + 1) k (drop i t) (drop i r) (drop (look_places * i) l)) e
      ∙ rw (get_or-drop i t 0 (pos 0), get_or-drop i r 0 (pos 0), drop-drop 1 i t, drop-drop 1 i r, drop-drop look_places (look_places * i) l, d) (simp (add-zero, add-one))

  -- the first i steps were put
  pub record Putting (before now : Pen) (i : ℕ) : Type 0 where
    pub text : List ℕ
    pub within : i ≤ n
    pub put : WroteAtMost (step_room layout * i) text before now
    pub whole : text ++ left i ≡ shown layout 1 n t r l

  pub none_put : (before : Pen) → before.at ≤ length before.buf.now → Putting before before 0
  none_put before h = record {
    text = [];
    within = omega arith;
    put = wrote_wider (omega arith) (wrote_none before h);
    whole = ap (λ (k : ℕ). shown layout 1 k t r l) (sub-zero n);
  }

  module _ {before now : Pen} {i : ℕ} (p : Putting before now i) where
    pub one_more : {later : Pen} → i < n → WroteAtMost (step_room layout) (step_at i) now later → Putting before later (i + 1)
    one_more h q = record {
      text = p.text ++ step_at i;
      within = omega arith;
      put = wrote_wider (room_more layout i) (wrote_then p.put q);
      whole = append_assoc p.text (step_at i) (left (i + 1)) ∙ ap (λ (x : List ℕ). p.text ++ x) (sym (left_next i h)) ∙ p.whole;
    }

    pub all_put : n ≤ i → WroteAtMost (step_room layout * n) (shown layout 1 n t r l) before now
    unfolding shown
    all_put h =
        let e : n - i ≡ 0 = omega arith in
        let d : i ≡ n = omega (arith, p.within) in
        rw (← p.whole, e, append-nil) (rw d at p.put)

-- ---- what the lists show
-- each step's looks are those of a search
pub data Searched : List Out → Type 0 where
  none : Searched []
  next : {o : Out} {os : List Out} (v : ℕ → ℤ) (target : ℤ) → o.seen ≡ looks v target → Searched os → Searched (o ∷ os)

run_searched : (w : Weights) (s : List ℕ) (ps : List Step) (st : State) → Searched (run w s st ps).outs
run_searched w s = of_run w s (λ st ps tr. Searched tr.outs) (λ st. none) (λ st p ps n. none) (λ st p ps o e h. next _ _ (ap (λ (x : Out). x.seen) (step_done w s st p o e).out) h)

shown_outs : (layout : Layout) {os : List Out} → Searched os → (i : ℕ) (t r : List ℤ) (l : List ℕ)
    → shown layout i (length os) (temperatures_of os ++ t) (rests_of os ++ r) (looks_of os ++ l) ≡ steps_text layout i os
unfolding shown
shown_outs layout none i t r l = refl
shown_outs layout (next {o} {os} v target e h) i t r l =
    let x = eleven o.seen in
    let z : length x ≡ look_places = rw e (length_eleven (looks v target) (looks_most v target)) in
    let u : used x ≡ o.seen = rw e (used_eleven v target) in
    let a : take look_places ((x ++ looks_of os) ++ l) ≡ x = rw (append_assoc x (looks_of os) l) (take_at x (looks_of os ++ l) look_places z) in
    let b : drop look_places ((x ++ looks_of os) ++ l) ≡ looks_of os ++ l = rw (append_assoc x (looks_of os) l) (drop_at x (looks_of os ++ l) look_places z) in
    ap₂ (λ (f g : List ℕ). step_text layout i (pos o.state.mk) o.rests (used f) ++ shown layout (suc i) (length os) (temperatures_of os ++ t) (rests_of os ++ r) g) a b
    ∙ ap₂ (λ (f g : List ℕ). step_text layout i (pos o.state.mk) o.rests f ++ g) u (shown_outs layout h (suc i) t r l)

-- as many steps were done as there are outputs
steps_in_lem : (told : Told Trace) → steps_in (course told) ≡ length (outs_of told)
steps_in_lem (gives tr) = go (length tr.outs) tr.end
  where
    go : (n : ℕ) (end : End) → steps_in (gives (course_of n end)) ≡ n
    go n (ended st) = refl
    go n (cut number st) = refl
steps_in_lem (refused r) = refl

first_searched : (lines : List Condition) (w : Weights) (s : List ℕ) (ps : List Step) (st : State) → Searched (outs_of (first lines (run w s st ps)))
first_searched lines w s ps st = go (first lines (run w s st ps)) refl
  where
    go : (x : Told Trace) → first lines (run w s st ps) ≡ x → Searched (outs_of x)
    go (gives tr) q = rw (← (gives_clear lines q).1) (run_searched w s ps st)
    go (refused r) q = none

pub walk_searched : (verdict : SheetAnswer) (s : List ℕ) (ch : Charge) (mk : ℤ) (numbers : List ℤ) → Searched (outs_of (walk_told verdict s ch mk numbers))
unfolding walked
walk_searched (Ok good) s ch mk numbers =
    first_searched (sheet_lines s ++ start_lines document01 ch mk (length numbers) most_steps most_steps most_looks) document01 s (steps_of (length numbers / step_numbers) numbers) (start_state ch mk)
walk_searched (Err r) s ch mk numbers = none

-- the lists that a walk left hold its steps, and what they show is its text
module _ {a : Result CourseBack Refusal} {t r t' r' : List ℤ} {l l' : List ℕ} (told : Told Trace) (k : Walks told (lists t r l) a (lists t' r' l')) where
  -- a list that is as long as it was had a place for each output
  room : (n : ℕ) (x y z : List ℤ) → length x ≡ n → y ≡ laid x z → length z ≡ length y → n ≤ length y
  room n x y z ex ey ez = omega (arith, ap length ey, length-append x (drop (length x) z), length-drop (length x) z)

  pub holds : length t ≡ length t' → length t' ≤ most_steps → length r ≡ length r' → look_places * length t' ≤ length l' → Holds (steps_in (paper_walk a)) t' r' l'
  holds et em er el =
      let os = outs_of told in
      let n : length os ≡ steps_in (paper_walk a) = sym (ap steps_in k.answer ∙ steps_in_lem told) in
      let ft : steps_in (paper_walk a) ≤ length t' =
      room (steps_in (paper_walk a)) (temperatures_of os) t' t (length-map os (λ (o : Out). pos o.state.mk) ∙ n) (ap (λ (x : Lists). x.temperatures) k.lent) et in
      let fr : steps_in (paper_walk a) ≤ length r' = room (steps_in (paper_walk a)) (rests_of os) r' r (length-map os (λ (o : Out). o.rests) ∙ n) (ap (λ (x : Lists). x.rests) k.lent) er in
      record { few = omega arith; temperatures = ft; rests = fr; looks = omega arith }

  steps_shown : Searched (outs_of told) → (layout : Layout) → shown layout 1 (steps_in (paper_walk a)) t' r' l' ≡ steps_text layout 1 (outs_of told)
  steps_shown searched layout =
      let os = outs_of told in
      rw (k.answer, ap (λ (x : Lists). x.temperatures) k.lent, ap (λ (x : Lists). x.rests) k.lent, ap (λ (x : Lists). x.looks) k.lent, steps_in_lem told)
      (shown_outs layout searched 1 (drop (length (temperatures_of os)) t) (drop (length (rests_of os)) r) (drop (length (looks_of os)) l))

  pub walk_shown_lem : Searched (outs_of told) → (layout : Layout) → walk_shown layout (paper_walk a) t' r' l' ≡ layout_text layout told
  unfolding walk_text printed_walk
  walk_shown_lem searched Line = ap₂ (λ (x : Told Course) (y : List ℕ). told_text course_text x ++ y) k.answer (steps_shown searched Line)
  walk_shown_lem searched Page = ap₂ (λ (x : List ℕ) (y : Told Course). (header_text ++ x) ++ end_text y) (steps_shown searched Page) k.answer

-- ---- over a sheet that was judged
pub walks_accepted : {s : List ℕ} (ch : Charge) (mk : ℤ) (numbers : List ℤ) → Accepted s
    → walked [] document01 s ch mk numbers most_steps most_steps most_looks ≡ walk_told (Ok tt) s ch mk numbers
unfolding walked
walks_accepted {s} ch mk numbers ok =
    sym (past_sheet (start_lines document01 ch mk (length numbers) most_steps most_steps most_looks) (run document01 s (start_state ch mk) (steps_of (length numbers / step_numbers) numbers)) ok)

pub walks_refused : (x : Refusal) (lent : Lists) → Walks (refused (numbered x)) lent (Err x) lent
walks_refused x lent = record { answer = refl; lent = refl; no_place = tt }

-- ---- the numbers of a line
module _ (d : ℤ) where
  kept_before : (xs l : List ℤ) (at i : ℕ) → i < at → get_or (sets l at xs) i d ≡ get_or l i d
  kept_before [] l at i h = refl
  kept_before (x ∷ xs) l at i h = kept_before xs (set l at x) (suc at) i (omega arith) ∙ get_or-set_other l at i x d (λ e. omega arith)

  kept_at : (xs l : List ℤ) (at i : ℕ) → i < length xs → at + i < length l → get_or (sets l at xs) (at + i) d ≡ get_or xs i d
  kept_at [] l at i h k = absurd (omega arith)
  kept_at (x ∷ xs) l at zero h k =
      let e : at + 0 ≡ at = omega arith in rw e (kept_before xs (set l at x) (suc at) at (omega arith) ∙ get_or-set_same l at x d (omega arith))
  kept_at (x ∷ xs) l at (suc i) h k =
      let e : at + suc i ≡ suc at + i = omega arith in rw e (kept_at xs (set l at x) (suc at) i (omega arith) (omega (arith, length-set l at x)))

  pub kept_first : (xs l : List ℤ) (i : ℕ) → i < length xs → i < length l → get_or (sets l 0 xs) i d ≡ get_or xs i d
  kept_first xs l i h k = let e : 0 + i ≡ i = omega arith in rw e at (kept_at xs l 0 i h (omega arith))

first_same : {A : Type 0} (ls ms ns : List Condition) (a b : A) → first ms a ≡ first ns b → first (ls ++ ms) a ≡ first (ls ++ ns) b
first_same [] ms ns a b e = e
first_same {A} (l ∷ ls) ms ns a b e = ap (λ (x : Told A). cond (condition l) (told_by l) x) (first_same ls ms ns a b e)

-- more numbers than the longest walk has are refused with 13, whatever they are
module _ (lines : List Condition) (w : Weights) (s : List ℕ) (ch : Charge) (mk : ℤ) (a b c : ℕ) where
  wrong_many : (n : ℕ) → most_numbers < n → wrong_steps n ≡ true
  wrong_many n h = rw (lt-ltb most_numbers n h) (or-true (not (eqb (n % step_numbers) 0)))

  refused_many : {A : Type 0} (n : ℕ) (v : A) → most_numbers < n → first (start_lines w ch mk n a b c) v ≡ refuses 13
  refused_many n v h = rw (wrong_many n h) refl

  many_alike : (xs ys : List ℤ) → most_numbers < length xs → most_numbers < length ys → walked lines w s ch mk xs a b c ≡ walked lines w s ch mk ys a b c
  unfolding walked
  many_alike xs ys hx hy =
      first_same lines (start_lines w ch mk (length xs) a b c) (start_lines w ch mk (length ys) a b c) _ _
      (refused_many (length xs) _ hx ∙ sym (refused_many (length ys) _ hy))

-- the steps in a list that has places for more than a start and the longest walk: one that is full holds too many
module _ (verdict : SheetAnswer) (s : List ℕ) (values before later : List ℤ) (places : ℕ) (long : length before ≡ places) (room : start_numbers + most_numbers < places) where
  pub steps_alike : (ch : Charge) (mk : ℤ) (k : ℕ) → k ≡ length values → start_numbers ≤ k → later ≡ sets before 0 values
      → walk_told verdict s ch mk (take (min k places - start_numbers) (drop start_numbers later)) ≡ walk_told verdict s ch mk (drop start_numbers values)
  steps_alike ch mk k e h q = go (dec_le k places)
    where
      told_alike : (v : SheetAnswer) → most_numbers < length (take (min k places - start_numbers) (drop start_numbers later)) → most_numbers < length (drop start_numbers values)
          → walk_told v s ch mk (take (min k places - start_numbers) (drop start_numbers later)) ≡ walk_told v s ch mk (drop start_numbers values)
      told_alike (Ok good) x y = many_alike (sheet_lines s) document01 s ch mk most_steps most_steps most_looks _ _ x y
      told_alike (Err r) x y = refl

      go : Dec (k ≤ places) → walk_told verdict s ch mk (take (min k places - start_numbers) (drop start_numbers later)) ≡ walk_told verdict s ch mk (drop start_numbers values)
      go (yes g) =
          let n : length (drop start_numbers values) ≡ min k places - start_numbers = omega (arith, length-drop start_numbers values) in
          ap (walk_told verdict s ch mk)
          (rw (q, sets-eq values before 0 (omega arith), drop-append-le start_numbers values (drop (0 + length values) before) (omega arith))
          (take_at (drop start_numbers values) (drop (0 + length values) before) (min k places - start_numbers) n))
      go (no g) =
          told_alike verdict
          (omega (arith, length-take (min k places - start_numbers) (drop start_numbers later), length-drop start_numbers later, ap length q, length-sets before 0 values))
          (omega (arith, length-drop start_numbers values))

module _ (verdict : SheetAnswer) (s : List ℕ) (fs : List (List ℕ)) (before later : List ℤ) (long : length before ≡ held_numbers) where
  pub walk_kept : (numbers : Option ℕ) (n : ℕ) → numbers ≡ count_all 0 fs → Stored fs before numbers later → n ≡ held_of numbers held_numbers → start_numbers ≤ n
      → walk_text (walk_told verdict s (charge_in later) (get_or later charge_numbers (pos 0)) (take (n - start_numbers) (drop start_numbers later))) ≡ walk_request verdict s fs
  walk_kept (Some k) n e st en h =
      let c : k ≡ 0 + length (values_of fs) = count_is fs 0 k (sym e) in
      let g : (i : ℕ) → i < start_numbers → get_or later i (pos 0) ≡ get_or (values_of fs) i (pos 0) =
      λ i l. ap (λ (x : List ℤ). get_or x i (pos 0)) st ∙ kept_first (pos 0) (values_of fs) before i (omega arith) (omega arith) in
      rw (← e, le-leb start_numbers k (omega arith), en, charge_alike later (values_of fs) (λ i l. g i (omega arith)), g charge_numbers (lit< tt))
      (ap walk_text (steps_alike verdict s (values_of fs) before later held_numbers long (lit< tt) _ _ k (omega arith) (omega arith) st))
  walk_kept None n e st en h = absurd (omega arith)

  pub walk_misfit : (numbers : Option ℕ) (n : ℕ) → numbers ≡ count_all 0 fs → n ≡ held_of numbers held_numbers → n < start_numbers → misfit_text ≡ walk_request verdict s fs
  walk_misfit (Some k) n e en h = rw (← e, lt-leb start_numbers k (omega arith)) refl
  walk_misfit None n e en h = rw (← e) refl
