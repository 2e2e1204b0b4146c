-- Laws of the output: what a write took lies in what it was handed; after room was made half of the buffer is free. Assumes nothing.
use Rattle.std.specs.Prelude.{ℕ, ◌+◌, ◌-◌, ◌*◌, ◌≤◌, ◌/◌, Bool, true, false, cond, Option, Some, None, List, ◌≡◌, refl, ltb, length, take, drop}
use Rattle.std.proofs.Common.{⊎_elim, inl, inr, subst, sym, ◌∙◌, ltb-true, ltb-false, arith, length-take}
use Rattle.stream.specs.Writing.{Output, outcome_of, Within, after_write, Flushed, Roomed, Free, StaysClosed, Leaves}

-- what was counted lies in the part
pub outcome_within : (part : List ℕ) (taken : ℕ) (again : Bool) → taken ≤ length part → Within (outcome_of taken again) part
outcome_within part taken again h = go (ltb 0 taken) again
  where
    go : (t again : Bool) → Within (cond t (Some taken) (cond again (Some 0) None)) part
    go true again = h
    go false true = omega arith
    go false false = tt

-- and so a write goes on inside the bytes to be written
pub took_most : {w : Option ℕ} {n : ℕ} (out : List ℕ) (from end : ℕ) → w ≡ Some n → Within w (take (end - from) (drop from out)) → n ≤ end - from
took_most {n} out from end e h =
    let k : n ≤ length (take (end - from) (drop from out)) = subst (λ (w : Option ℕ). Within w (take (end - from) (drop from out))) e h in
    omega (arith, length-take (end - from) (drop from out))

-- the output after a write is flushed, whether it failed or not
pub after_flushed : (n : ℕ) (whole : Bool) → Flushed (Some n) (after_write whole)
after_flushed n true = inl refl
after_flushed n false = inr refl

-- half of the buffer is free after a flush, and where room was made
pub flushed_free : (out : List ℕ) (n : ℕ) (r : Output) → Flushed (Some n) r → Free r out
flushed_free out n r f = ⊎_elim (λ e. subst (λ (o : Output). Free o out) (sym e) (omega arith)) (λ e. subst (λ (o : Output). Free o out) (sym e) tt) f

pub roomed_free : (out : List ℕ) (output r : Output) → Roomed output out r → Free r out
roomed_free out (Some n) r h = go (ltb n (length out / 2)) refl
  where
    go : (t : Bool) → ltb n (length out / 2) ≡ t → Free r out
    go true e = let k = ltb-true n (length out / 2) e in subst (λ (o : Output). Free o out) (sym (h.0 k)) (omega arith)
    go false e = flushed_free out n r (h.1 (ltb-false n (length out / 2) e))
roomed_free out None r h = subst (λ (o : Output). Free o out) (sym h) tt

-- where half of a buffer is free, so is the room that it has twice
pub free_at : {o : Output} {n : ℕ} (room : ℕ) (out : List ℕ) → o ≡ Some n → Free o out → 2 * room ≤ length out → n + room ≤ length out
free_at {n} room out e f h = let k : n ≤ length out / 2 = subst (λ (o : Output). Free o out) e f in omega arith

-- closed stays closed, whatever calls follow one another
stays_same : (o : Output) (out : List ℕ) → StaysClosed o out o out
stays_same (Some n) out = tt
stays_same None out = (refl, refl)

stays_on : (o p q : Output) (a b c : List ℕ) → StaysClosed o a p b → StaysClosed p b q c → StaysClosed o a q c
stays_on (Some n) p q a b c h k = tt
stays_on None (Some m) q a b c h k = absurd (let z : ◌≡◌ {A = ℕ} 0 1 = cc h.0 in omega arith)
stays_on None None q a b c h k = (k.0, k.1 ∙ h.1)

pub leaves_same : (o : Output) (out : List ℕ) → Free o out → Leaves o out o out
leaves_same o out f = record { free = f; closed = stays_same o out }

leaves_on : {o p q : Output} {a b c : List ℕ} → Leaves o a p b → Leaves p b q c → Leaves o a q c
leaves_on {o} {p} {q} {a} {b} {c} h k = record { free = k.free; closed = stays_on o p q a b c h.closed k.closed }

-- an output that is open may go on anywhere where half of the buffer is free
pub leaves_open : {o : Output} {n : ℕ} (r : Output) (before later : List ℕ) → o ≡ Some n → Free r later → Leaves o before r later
leaves_open r before later e f = record { free = f; closed = rw e tt }

flushed_leaves : (o r : Output) (out : List ℕ) → Flushed o r → Leaves o out r out
flushed_leaves (Some n) r out f = record { free = flushed_free out n r f; closed = tt }
flushed_leaves None r out f = record { free = subst (λ (o : Output). Free o out) (sym f) tt; closed = (f, refl) }

pub leaves_flushed : {o p r : Output} {a b : List ℕ} → Leaves o a p b → Flushed p r → Leaves o a r b
leaves_flushed {p} {r} {b} h f = leaves_on h (flushed_leaves p r b f)
