-- A walk that has done its first i steps: what the loop keeps, and the laws that take it from one turn to the next. Assumes nothing.
use mathlib.Core.Path.{◌≡◌, refl, sym, ap, ◌∙◌}
use mathlib.Core.List.{List, [], ◌∷◌, ◌++◌, map, append_assoc, append-nil}
use Prim.Native.Nat.{ℕ, suc, ◌+◌, ◌-◌, ◌*◌, ◌≤◌, ◌<◌}
use native.Mathlib.Nat.{sub-zero}
use native.Mathlib.Omega.{arith}
use lib.IntN.{ℤ, pos}
use lib.ListN.{length, take, drop, set, length-append, length-set, take-append-drop, length-map}
use lib.Seq.{drop-drop}
use Rattle.signed.specs.Zed.{plain}
use Rattle.std.specs.Prelude.{None, Some, Ok, Err}
use Rattle.refusal.specs.declared.Refusal.{Refusal}
use Rattle.refusal.specs.Refusals.{Told, gives, refused, numbered, number_of}
use Rattle.air.specs.Limits.{look_places}
use Rattle.air.specs.Halving.{eleven}
use Rattle.gas.specs.declared.Heat.{Heat}
use Rattle.burning.specs.Burning.{document01, charge_of}
use Rattle.walk.specs.Limits.{step_numbers}
use Rattle.walk.specs.declared.Course.{Course as CourseBack}
use Rattle.walk.specs.declared.stepping.Standing.{Standing}
use Rattle.walk.specs.Lists.{lists, laid}
use Rattle.walk.specs.declared.Step.{Step}
use Rattle.walk.specs.Step.{step_in, State, Out, judge}
use Rattle.walk.specs.Walk.{steps_of, run, onward, Trace, ended, cut, more, course_of, course_with, paper_course, Walks, temperatures_of, rests_of, looks_of}
use Rattle.walk.specs.inner.Work.{state_of, Stands, step_no, Shown, StepGives}
use Rattle.walk.specs.Demand3Laws.{eleven_places}
use Rattle.walk.specs.Demand1Laws.{step_placeless}
use Rattle.walk.specs.RunLaws.{step_done}
use Rattle.walk.proofs.Halves.{mk_range}
use Rattle.walk.proofs.Laid.{laid_part, laid_set, length_laid, back_laid}

-- ---- what the call of a step says of its judgement
pub record WasDone (j : Told Out) (l : List ℕ) (s : List ℕ) (st : Standing) (rest : Heat) (l' : List ℕ) : Type 0 where
  pub out : Out
  pub judged : j ≡ gives out
  pub state : out.state ≡ state_of st
  pub rests : out.rests ≡ rest.0
  pub looks : l' ≡ laid (eleven out.seen) l
  pub stands : Stands s st

same_values : {A : Type 0} {a b : A} → gives a ≡ gives b → a ≡ b
same_values {A} {a} {b} e = cc

pub was_done : (j : Told Out) {s l : List ℕ} (st : Standing) (rest : Heat) (l' : List ℕ) → StepGives j s l (Ok (st, rest)) l' → WasDone j l s st rest l'
was_done (gives o) st rest l' g =
    let e = same_values g.told in
    record { out = o; judged = refl; state = sym (ap (λ (x : Shown). x.state) e); rests = sym (ap (λ (x : Shown). x.rests) e); looks = g.looks; stands = g.stands }
was_done (refused r) st rest l' g = absurd (let e = g.told in let z : ◌≡◌ {A = ℕ} 0 1 = cc in omega arith)

-- a refused step: the walk goes no further, and its looks are as they were
pub was_refused : (j : Told Out) {s l : List ℕ} (k : Refusal) (l' : List ℕ) → StepGives j s l (Err k) l' → (j ≡ refused (numbered k)) × (l' ≡ l)
was_refused (gives o) k l' g = absurd (let e = g.told in let z : ◌≡◌ {A = ℕ} 0 1 = cc in omega arith)
was_refused (refused r) k l' g = (let e = g.told in cc, g.looks)

-- ---- the steps by index
-- the outputs of steps before those of a trace
abbrev pub ahead : List Out → Trace → Trace
ahead os t = record { outs = os ++ t.outs; end = t.end }

-- the steps from index i on: the one at i, and those from i + 1 on
steps_from : (n i : ℕ) (l : List ℤ) → i < n → steps_of (n - i) (drop (step_numbers * i) l) ≡ step_no l i ∷ steps_of (n - (i + 1)) (drop (step_numbers * (i + 1)) l)
unfolding steps_of
steps_from n i l h =
    let e : n - i ≡ suc (n - (i + 1)) = omega arith in
    let d : step_numbers * (i + 1) ≡ step_numbers * i + step_numbers = omega arith in
    ap (λ (k : ℕ). steps_of k (drop (step_numbers * i) l)) e
    ∙ ap (λ (x : List ℤ). step_in (drop (step_numbers * i) l) ∷ steps_of (n - (i + 1)) x) (drop-drop step_numbers (step_numbers * i) l ∙ ap (λ (k : ℕ). drop k l) (sym d))

ahead_snoc : (os : List Out) (o : Out) (t : Trace) → ahead os (more o t) ≡ ahead (os ++ (o ∷ [])) t
ahead_snoc os o t = ap (λ (x : List Out). record { outs = x; end = t.end }) (sym (append_assoc os (o ∷ []) t.outs))

map_snoc : {B : Type 0} (f : Out → B) (os : List Out) (o : Out) → map f (os ++ (o ∷ [])) ≡ map f os ++ (f o ∷ [])
map_snoc f [] o = refl
map_snoc {B} f (x ∷ os) o = ap (λ (r : List B). f x ∷ r) (map_snoc f os o)

looks_snoc : (os : List Out) (o : Out) → looks_of (os ++ (o ∷ [])) ≡ looks_of os ++ eleven o.seen
looks_snoc [] o = append-nil (eleven o.seen)
looks_snoc (x ∷ os) o = ap (λ (r : List ℕ). eleven x.seen ++ r) (looks_snoc os o) ∙ sym (append_assoc (eleven x.seen) (looks_of os) (eleven o.seen))

-- ---- the loop
module _ (s : List ℕ) (start : State) (n : ℕ) (numbers t₀ r₀ : List ℤ) (l₀ : List ℕ) where
  pub record Sofar (t r : List ℤ) (l : List ℕ) (st : Standing) (i : ℕ) : Type 0 where
    pub outs : List Out
    pub within : i ≤ n
    pub count : length outs ≡ i
    pub places : length (looks_of outs) ≡ look_places * i
    pub ran : run document01 s start (steps_of n numbers) ≡ ahead outs (run document01 s (state_of st) (steps_of (n - i) (drop (step_numbers * i) numbers)))
    pub stands : Stands s st
    pub temperatures : t ≡ laid (temperatures_of outs) t₀
    pub rests : r ≡ laid (rests_of outs) r₀
    pub looks : l ≡ laid (looks_of outs) l₀
    pub same_t : length t ≡ length t₀
    pub same_r : length r ≡ length r₀
    pub same_l : length l ≡ length l₀
    pub fit_t : n ≤ length t₀
    pub fit_r : n ≤ length r₀
    pub fit_l : look_places * n ≤ length l₀

  pub begin : (st : Standing) → start ≡ state_of st → Stands s st → n ≤ length t₀ → n ≤ length r₀ → look_places * n ≤ length l₀ → Sofar t₀ r₀ l₀ st 0
  begin st e k ft fr fl = record {
    outs = [];
    within = omega arith;
    count = refl;
    places = refl;
    ran = rw e (ap (λ (k : ℕ). run document01 s (state_of st) (steps_of k numbers)) (sym (sub-zero n)));
    stands = k;
    temperatures = refl;
    rests = refl;
    looks = refl;
    same_t = refl;
    same_r = refl;
    same_l = refl;
    fit_t = ft;
    fit_r = fr;
    fit_l = fl;
  }

  module _ (t r : List ℤ) (l : List ℕ) (st : Standing) (i : ℕ) (f : Sofar t r l st i) (h : i < n) where
    abbrev j : Told Out
    j = judge document01 s (state_of st) (step_no numbers i)

    turn : run document01 s (state_of st) (steps_of (n - i) (drop (step_numbers * i) numbers))
        ≡ onward (state_of st) j (λ q. run document01 s q (steps_of (n - (i + 1)) (drop (step_numbers * (i + 1)) numbers)))
    unfolding run
    turn = rw (steps_from n i numbers h) refl

    forth : (o : Out) (next : Standing) → j ≡ gives o → o.state ≡ state_of next → Stands s next →
        Sofar (set t i (pos o.state.mk)) (set r i o.rests) (take (look_places * i) l ++ laid (eleven o.seen) (drop (look_places * i) l)) next (i + 1)
    forth o next e q k =
        let os = f.outs in
        let d = eleven_places (step_done document01 s (state_of st) (step_no numbers i) o e) in
        let lt = length-map os (λ (x : Out). pos x.state.mk) ∙ f.count in
        let lr = length-map os (λ (x : Out). x.rests) ∙ f.count in
        let room : length (looks_of os ++ eleven o.seen) ≤ length l₀ = simp (length-append, f.places, d) (omega arith) in
        let ll : take (look_places * i) l ++ laid (eleven o.seen) (drop (look_places * i) l) ≡ laid (looks_of os ++ eleven o.seen) l₀ =
        rw f.looks (laid_part (look_places * i) (looks_of os) (eleven o.seen) l₀ f.places) in
        record {
          outs = os ++ (o ∷ []);
          within = omega arith;
          count = length-append os (o ∷ []) ∙ ap (λ (k : ℕ). k + 1) f.count;
          places = ap length (looks_snoc os o) ∙ simp (length-append, f.places, d) (omega arith);
          ran =
              f.ran ∙ ap (ahead os) (turn ∙ ap (λ (x : Told Out). onward (state_of st) x (λ q. run document01 s q (steps_of (n - (i + 1)) (drop (step_numbers * (i + 1)) numbers)))) e)
              ∙ ahead_snoc os o (run document01 s o.state (steps_of (n - (i + 1)) (drop (step_numbers * (i + 1)) numbers)))
              ∙ ap (λ (x : State). ahead (os ++ (o ∷ [])) (run document01 s x (steps_of (n - (i + 1)) (drop (step_numbers * (i + 1)) numbers)))) q;
          stands = k;
          temperatures =
              ap (λ (x : List ℤ). set x i (pos o.state.mk)) f.temperatures ∙ laid_set i (temperatures_of os) t₀ (pos o.state.mk) lt (omega arith)
              ∙ ap (λ (x : List ℤ). laid x t₀) (sym (map_snoc (λ (x : Out). pos x.state.mk) os o));
          rests =
              ap (λ (x : List ℤ). set x i o.rests) f.rests ∙ laid_set i (rests_of os) r₀ o.rests lr (omega arith)
              ∙ ap (λ (x : List ℤ). laid x r₀) (sym (map_snoc (λ (x : Out). x.rests) os o));
          looks = ll ∙ ap (λ (x : List ℕ). laid x l₀) (sym (looks_snoc os o));
          same_t = length-set t i (pos o.state.mk) ∙ f.same_t;
          same_r = length-set r i o.rests ∙ f.same_r;
          same_l = ap length ll ∙ length_laid (looks_of os ++ eleven o.seen) l₀ room;
          fit_t = f.fit_t;
          fit_r = f.fit_r;
          fit_l = f.fit_l;
        }

    with_out : (o : Out) (ys : List ℕ) (next : Standing) (x y : ℤ) → j ≡ gives o → o.state ≡ state_of next → Stands s next → x ≡ pos o.state.mk → y ≡ o.rests →
        ys ≡ laid (eleven o.seen) (take (length l - look_places * i) (drop (look_places * i) l)) →
        Sofar (set t i x) (set r i y) (take (look_places * i) l ++ (ys ++ drop (length l - look_places * i) (drop (look_places * i) l))) next (i + 1)
    with_out o ys next x y e p k u v b = rw (back_laid (look_places * i) l (eleven o.seen) ys b, u, v) (forth o next e p k)

    -- what a call of `step` says, which was lent the part of the looks from 11 * i on and left it at ys; x and y are what was stored
    pub turned : (p : Step) → p ≡ step_no numbers i → (ys : List ℕ) (next : Standing) (rest : Heat) (x y : ℤ) → x ≡ next.t.0 → y ≡ rest.0 →
        StepGives (judge document01 s (state_of st) p) s (take (length l - look_places * i) (drop (look_places * i) l)) (Ok (next, rest)) ys →
        Sofar (set t i x) (set r i y) (take (look_places * i) l ++ (ys ++ drop (length l - look_places * i) (drop (look_places * i) l))) next (i + 1)
    turned p g ys next rest x y u v w1 =
        let w = was_done j next rest ys (rw g at w1) in
        with_out w.out ys next x y w.judged w.state w.stands
        (u ∙ plain (mk_range next.t.0 w.stands.covered).2 ∙ ap (λ (q : State). pos q.mk) (sym w.state)) (v ∙ sym w.rests) w.looks

    pub halted : (p : Step) → p ≡ step_no numbers i → (ys : List ℕ) (k : Refusal) (c : CourseBack)
        → paper_course c ≡ course_with i (charge_of st.gas) (pos (state_of st).mk) (Some k) → c.stop ≡ Some k
        → StepGives (judge document01 s (state_of st) p) s (take (length l - look_places * i) (drop (look_places * i) l)) (Err k) ys
        → Walks (gives (run document01 s start (steps_of n numbers))) (lists t₀ r₀ l₀) (Ok c)
        (lists t r (take (look_places * i) l ++ (ys ++ drop (length l - look_places * i) (drop (look_places * i) l))))
    halted p g ys k c q m w1 =
        let w = was_refused j k ys (rw g at w1) in
        let os = f.outs in
        let u : take (look_places * i) l ++ (ys ++ drop (length l - look_places * i) (drop (look_places * i) l)) ≡ l = back_laid (look_places * i) l [] ys w.1 ∙ take-append-drop (look_places * i) l in
        let v : run document01 s start (steps_of n numbers) ≡ record { outs = os; end = cut (number_of (numbered k)) (state_of st) } =
        f.ran ∙ ap (ahead os) (turn ∙ ap (λ (x : Told Out). onward (state_of st) x (λ q. run document01 s q (steps_of (n - (i + 1)) (drop (step_numbers * (i + 1)) numbers)))) w.0)
        ∙ ap (λ (x : List Out). record { outs = x; end = cut (number_of (numbered k)) (state_of st) }) (append-nil os) in
        rw (u, v) (record {
          answer = ap gives q ∙ ap (λ (m : ℕ). gives (course_of m (cut (number_of (numbered k)) (state_of st)))) (sym f.count);
          lent = rw (f.temperatures, f.rests, f.looks) refl;
          no_place = rw m (step_placeless document01 s (state_of st) (step_no numbers i) (numbered k) w.0);
        })

  pub finish : (t r : List ℤ) (l : List ℕ) (st : Standing) (i : ℕ) (c : CourseBack) → Sofar t r l st i → n ≤ i
      → paper_course c ≡ course_with n (charge_of st.gas) (pos (state_of st).mk) None → c.stop ≡ None
      → Walks (gives (run document01 s start (steps_of n numbers))) (lists t₀ r₀ l₀) (Ok c) (lists t r l)
  unfolding run steps_of
  finish t r l st i c f h q m =
      let os = f.outs in
      let z : n - i ≡ 0 = omega arith in
      let e : n ≡ length os = omega arith in
      let w : run document01 s start (steps_of n numbers) ≡ record { outs = os; end = ended (state_of st) } =
      f.ran ∙ ap (λ (k : ℕ). ahead os (run document01 s (state_of st) (steps_of k (drop (step_numbers * i) numbers)))) z
      ∙ ap (λ (x : List Out). record { outs = x; end = ended (state_of st) }) (append-nil os) in
      rw w (record {
        answer = ap gives (q ∙ ap (λ (m : ℕ). course_of m (ended (state_of st))) e);
        lent = rw (f.temperatures, f.rests, f.looks) refl;
        no_place = rw m refl;
      })
