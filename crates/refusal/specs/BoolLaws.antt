-- Tests by their two values. Assumes nothing.
use Rattle.std.specs.Prelude.{◌≡◌, refl, Bool, true, false, not, ◌||◌, ℕ}
use Rattle.std.proofs.Common.{ap, arith}
use mathlib.Core.Bool.{Bool-set}

-- by the two values of a test
pub by_bool {ℓ} : {X : Type ℓ} (b : Bool) → (b ≡ true → X) → (b ≡ false → X) → X
by_bool true f g = f refl
by_bool false f g = g refl

-- and what that gives, where the test holds and where it fails
pub by_true {ℓ} : {X : Type ℓ} (b : Bool) (f : b ≡ true → X) (g : b ≡ false → X) (h : b ≡ true) → by_bool b f g ≡ f h
unfolding by_bool
by_true true f g h = ap f (Bool-set true true refl h)
by_true false f g h = absurd (let z : ◌≡◌ {A = ℕ} 0 1 = cc in omega arith)

pub by_false {ℓ} : {X : Type ℓ} (b : Bool) (f : b ≡ true → X) (g : b ≡ false → X) (h : b ≡ false) → by_bool b f g ≡ g h
unfolding by_bool
by_false true f g h = absurd (let z : ◌≡◌ {A = ℕ} 0 1 = cc in omega arith)
by_false false f g h = ap g (Bool-set false false refl h)

-- a test of two that fails: both fail
pub neither : (a b : Bool) → a || b ≡ false → (a ≡ false) × (b ≡ false)
neither true b e = absurd (let z : ◌≡◌ {A = ℕ} 0 1 = cc in omega arith)
neither false b e = (refl, e)

-- a test that one of two fails, itself failing: both hold
pub both_hold : (a b : Bool) → not a || not b ≡ false → (a ≡ true) × (b ≡ true)
both_hold true true e = (refl, refl)
both_hold true false e = absurd (let z : ◌≡◌ {A = ℕ} 0 1 = cc in omega arith)
both_hold false b e = absurd (let z : ◌≡◌ {A = ℕ} 0 1 = cc in omega arith)
