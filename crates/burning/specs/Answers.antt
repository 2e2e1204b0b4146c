-- What the call on a charge tells (document 01, "Burning" and "Refusal numbers"): an order of refusals, and the values else.
use Rattle.std.specs.Prelude.{not, List, [], ◌∷◌, Result}
use Rattle.refusal.specs.declared.Refusal.{Refusal}
use Rattle.refusal.specs.Refusals.{Told, told_of, Line, ◌when◌, first}
use Rattle.burning.specs.declared.Charge.{Charge}
use Rattle.burning.specs.declared.Gas.{Gas}
use Rattle.burning.specs.declared.Products.{Products}
use Rattle.burning.specs.Burning.{Weights, gas_of, beyond, lean, products}

-- ---- an answer as the paper has it: its values, or the refusal
abbrev pub paper_burn : Result Products Refusal → Told Products
paper_burn = told_of

abbrev pub paper_gas : Result Gas Refusal → Told Gas
paper_gas = told_of

abbrev pub paper_fuelled : Result Gas Refusal → Told Gas
paper_fuelled = told_of

-- refusals 4 and 5: A, c or h outside its limit; not lean
abbrev pub charge_lines : Weights → Charge → List Line
charge_lines w ch = 4 when beyond w ch ∷ 5 when not (lean w (gas_of ch)) ∷ []

-- what a charge burns to
abbrev pub burn_told : Weights → Charge → Told Products
burn_told w ch = first (charge_lines w ch) (products w (gas_of ch))
