-- The ledger of a walk (demand 3): what the content above 15 °C would be if no temperature were rounded, and the dearest thousandth of a kelvin of a gas.
use Rattle.std.specs.Prelude.{cond, List, [], ◌∷◌, map, ℕ, zero, suc, ◌+◌, ◌-◌, ltb, ℤ, pos, ◌+ℤ◌, ◌-ℤ◌}
use Rattle.signed.specs.Zed.{up}
use Rattle.air.specs.Limits.{coldest, hottest}
use Rattle.burning.specs.declared.Gas.{Gas}
use Rattle.burning.specs.Burning.{Weights}
use Rattle.gas.specs.Heat.{gas_heat}
use Rattle.walk.specs.declared.Step.{Step}
use Rattle.walk.specs.Step.{State, held, step_heat}
use Rattle.walk.specs.Walk.{End, ended, cut}

abbrev pub total : List ℤ → ℤ
total [] = pos 0
total (x ∷ xs) = x +ℤ total xs

-- the starting content and all step heats, unrounded; no rest is in it
abbrev pub ledger : Weights → List ℕ → State → List Step → ℤ
ledger w s st ps = held w s st +ℤ total (map (step_heat w) ps)

-- the rise of a gas's heat from one mK to the next
abbrev pub mk_rise : (ℕ → ℤ) → ℕ → ℕ
mk_rise v T = up (v (suc T) -ℤ v T)

-- the largest of n rises from T on
unfoldable pub largest : (ℕ → ℕ) → ℕ → ℕ → ℕ
largest f zero T = 0
largest f (suc n) T = cond (ltb (largest f n (suc T)) (f T)) (f T) (largest f n (suc T))

-- the dearest thousandth of a kelvin of a gas: the largest rise of its gas heat from one mK to the next, from 200,000 to 2,000,000
unfoldable pub dearest : Weights → List ℕ → Gas → ℕ
dearest w s g = largest (mk_rise (gas_heat w s g)) (hottest - coldest) coldest

abbrev pub sum_of : List ℕ → ℕ
sum_of [] = 0
sum_of (x ∷ xs) = x + sum_of xs

-- the state at the end of a run
abbrev pub last_of : End → State
last_of (ended st) = st
last_of (cut number st) = st
