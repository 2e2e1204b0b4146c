-- No two outcomes satisfy the promise of a walk: `one_walk`, over what it tells. Assumes nothing.
use Rattle.std.specs.Prelude.{◌≡◌, refl, ℕ, ℤ, Option, None, Some, Result, Ok, Err}
use Rattle.std.proofs.Common.{sym, ap, ◌∙◌, arith}
use Rattle.refusal.specs.declared.Refusal.{Refusal}
use Rattle.refusal.specs.Refusals.{Told, Numbered, Plain, At, numbered, number_of, place_of}
use Rattle.refusal.specs.RefusalsLaws.{one_numbered}
use Rattle.burning.specs.declared.Charge.{Charge}
use Rattle.walk.specs.declared.Course.{Course as CourseBack}
use Rattle.walk.specs.Lists.{Lists}
use Rattle.walk.specs.Walk.{Trace, course_with, paper_course, stop_place, Walks}

-- a refusal that is given for no place is known by its number
one_placeless : (r s : Numbered) → place_of r ≡ None → place_of s ≡ None → number_of r ≡ number_of s → r ≡ s
one_placeless (Plain m) (Plain n) p q e = ap Plain e
one_placeless (Plain m) (At n k) p q e = absurd (let z : ◌≡◌ {A = ℕ} 0 1 = cc in omega arith)
one_placeless (At m k) s p q e = absurd (let z : ◌≡◌ {A = ℕ} 0 1 = cc in omega arith)

-- what came back is known by what it tells
one_stop : (m n : ℕ) (c d : Charge) (t u : ℤ) (x y : Option Refusal) → stop_place x ≡ None → stop_place y ≡ None → course_with m c t x ≡ course_with n d u y
    → (m ≡ n) × (c ≡ d) × (t ≡ u) × (x ≡ y)
one_stop m n c d t u None None p q e = (cc, cc, cc, refl)
one_stop m n c d t u None (Some s) p q e = absurd (let z : ◌≡◌ {A = ℕ} 0 1 = cc in omega arith)
one_stop m n c d t u (Some r) None p q e = absurd (let z : ◌≡◌ {A = ℕ} 0 1 = cc in omega arith)
one_stop m n c d t u (Some r) (Some s) p q e = (cc, cc, cc, ap Some (one_numbered r s (one_placeless (numbered r) (numbered s) p q cc)))

made : ℕ → Charge → ℤ → Option Refusal → CourseBack
made n c t x = record { steps = n; charge = c; t = record { 0 = t }; stop = x }

one_course : (c d : CourseBack) → stop_place c.stop ≡ None → stop_place d.stop ≡ None → paper_course c ≡ paper_course d → c ≡ d
unfolding made
one_course c d p q e =
    let h = one_stop c.steps d.steps c.charge d.charge c.t.0 d.t.0 c.stop d.stop p q e in
    let k : made c.steps c.charge c.t.0 c.stop ≡ made d.steps d.charge d.t.0 d.stop = cc (h.0, h.1, h.2, h.3) in
    k

one_answer : {told : Told Trace} {before after later : Lists} (a b : Result CourseBack Refusal) → Walks told before a after → Walks told before b later → a ≡ b
one_answer (Ok c) (Ok d) p q = let e = p.answer ∙ sym q.answer in ap Ok (one_course c d p.no_place q.no_place cc)
one_answer (Ok c) (Err s) p q = let e = p.answer ∙ sym q.answer in absurd (let z : ◌≡◌ {A = ℕ} 0 1 = cc in omega arith)
one_answer (Err r) (Ok d) p q = let e = p.answer ∙ sym q.answer in absurd (let z : ◌≡◌ {A = ℕ} 0 1 = cc in omega arith)
one_answer (Err r) (Err s) p q = let e = p.answer ∙ sym q.answer in ap Err (one_numbered r s cc)

-- answer and the three lent lists
pub one_walk : {told : Told Trace} {before : Lists} (a b : Result CourseBack Refusal) (after later : Lists) → Walks told before a after → Walks told before b later
    → (a ≡ b) × (after ≡ later)
one_walk a b after later p q = (one_answer a b p q, p.lent ∙ sym q.lent)
