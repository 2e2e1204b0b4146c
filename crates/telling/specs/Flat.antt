-- What a call tells, as one struct by value: 0 or the refusal's number, the row and whether there is one, the values of the answer, and 0 in every field that a case does not
-- have. Each definition takes what the entry of the same name tells (`Told`, in the paper's numbers). Definitions only.
use Rattle.std.specs.Prelude.{Bool, false, cond, [], ℕ, eqb, ℤ, pos, Float, Option, None, Some}
use Rattle.std.specs.Float.{binary64}
use Rattle.std.specs.Float.Ieee.{of_bits}
use Rattle.signed.specs.Zed.{up}
use Rattle.refusal.specs.declared.Refusal.{Refusal}
use Rattle.refusal.specs.Refusals.{Numbered, Plain, At, numbered, Told, gives, refused, number_of}
use Rattle.air.specs.Inverse.{Found}
use Rattle.burning.specs.declared.Charge.{Charge}
use Rattle.burning.specs.declared.Products.{Products}
use Rattle.burning.specs.Burning.{charge_in}
use Rattle.walk.specs.Walk.{Course, done, stopped}
use Rattle.marking.specs.declared.Typed.{Typed}
use Rattle.marking.specs.declared.Typed.TheVariants.{Kelvins, Content, Blank}
use Rattle.marking.specs.declared.StationFigure.{StationFigure}
use Rattle.telling.specs.declared.SheetTold.{SheetTold}
use Rattle.telling.specs.declared.WrittenTold.{WrittenTold}
use Rattle.telling.specs.declared.ReadingTold.{ReadingTold}
use Rattle.telling.specs.declared.BurnTold.{BurnTold}
use Rattle.telling.specs.declared.HeatTold.{HeatTold}
use Rattle.telling.specs.declared.TemperatureTold.{TemperatureTold}
use Rattle.telling.specs.declared.PsiTold.{PsiTold}
use Rattle.telling.specs.declared.WalkTold.{WalkTold}
use Rattle.telling.specs.declared.StationTold.{StationTold}
use Rattle.telling.specs.declared.MarkTold.{MarkTold}

-- 0, or the number of the refusal
abbrev pub number : {A : Type 0} → Told A → ℕ
number (gives a) = 0
number (refused r) = number_of r

-- the row of a refusal, 0 where it has none
abbrev pub row_in : Numbered → ℕ
row_in (Plain n) = 0
row_in (At n r) = r

abbrev pub row : {A : Type 0} → Told A → ℕ
row (gives a) = 0
row (refused r) = row_in r

-- 1 where the refusal has a row, else 0: row 0 is a row
abbrev pub placed_in : Numbered → ℕ
placed_in (Plain n) = 0
placed_in (At n r) = 1

abbrev pub placed : {A : Type 0} → Told A → ℕ
placed (gives a) = 0
placed (refused r) = placed_in r

-- the values, or what stands where there are none
abbrev pub values_or : {A : Type 0} → A → Told A → A
values_or none (gives a) = a
values_or none (refused r) = none

abbrev pub flat_sheet : Told (Unit {0}) → SheetTold
flat_sheet t = record { refusal = number t; row = row t; placed = placed t }

-- the refusal of an answer, and none: with these fields every struct begins
abbrev pub flat_refusal : Option Refusal → SheetTold
flat_refusal None = flat_sheet (gives tt)
flat_refusal (Some r) = flat_sheet (refused (numbered r))

-- the bytes of a text that was written
abbrev pub flat_written : Told ℕ → WrittenTold
flat_written t = record { refusal = number t; row = row t; placed = placed t; bytes = values_or 0 t }

-- a number read from the air table
abbrev pub flat_reading : Told ℕ → ReadingTold
flat_reading t = record { refusal = number t; row = row t; placed = placed t; reading = values_or 0 t }

-- no products
abbrev pub not_burnt : Products
not_burnt = record { co2 = 0; h2o = 0; o2 = 0; n2 = 0; ar = 0 }

abbrev pub flat_burn : Told Products → BurnTold
flat_burn t =
    let p = values_or not_burnt t in
    record { refusal = number t; row = row t; placed = placed t; co2 = p.co2; h2o = p.h2o; o2 = p.o2; n2 = p.n2; ar = p.ar }

-- a gas heat, a content or a specific content
abbrev pub flat_heat : Told ℤ → HeatTold
flat_heat t = record { refusal = number t; row = row t; placed = placed t; heat = values_or (pos 0) t }

-- no temperature and no rest
abbrev pub not_found : Found
not_found = record { mk = pos 0; left = pos 0 }

abbrev pub flat_temperature : Told Found → TemperatureTold
flat_temperature t = record { refusal = number t; row = row t; placed = placed t; millikelvin = (values_or not_found t).mk; rest = (values_or not_found t).left }

abbrev pub flat_psi : Told Found → PsiTold
flat_psi t = record { refusal = number t; row = row t; placed = placed t; millikelvin = (values_or not_found t).mk; rest = up (values_or not_found t).left }

-- a walk: its refusal, whether it began, the steps done, the charge and the temperature
abbrev pub flat_course : ℕ → ℕ → ℕ → ℕ → ℕ → Charge → ℤ → WalkTold
flat_course n r p begun steps ch mk = record { refusal = n; row = r; placed = p; begun = begun; steps = steps; air = ch.air; carbon = ch.carbon; hydrogen = ch.hydrogen; millikelvin = mk }

-- one that began: 0 or the number of the refused step
abbrev pub flat_begun : ℕ → ℕ → Charge → ℤ → WalkTold
flat_begun n steps ch mk = flat_course n 0 0 1 steps ch mk

-- one that was refused at its start: 0 in every field of the charge
abbrev pub flat_unbegun : ℕ → ℕ → ℕ → WalkTold
flat_unbegun n r p = flat_course n r p 0 0 (charge_in []) (pos 0)

abbrev pub flat_walk : Told Course → WalkTold
flat_walk (gives (done steps ch mk)) = flat_begun 0 steps ch mk
flat_walk (gives (stopped steps n ch mk)) = flat_begun n steps ch mk
flat_walk (refused r) = flat_unbegun (number_of r) (row_in r) (placed_in r)

-- no figures: three times the float whose 64 bits are 0
abbrev pub no_figures : StationFigure
no_figures = let zero = of_bits binary64 0 in record { millikelvin = zero; content = zero; mass = zero }

abbrev pub flat_station : Told StationFigure → StationTold
flat_station t = record {
  refusal = number t;
  row = row t;
  placed = placed t;
  millikelvin = (values_or no_figures t).millikelvin;
  content = (values_or no_figures t).content;
  mass = (values_or no_figures t).mass;
}

abbrev pub flat_mark : Told Bool → MarkTold
flat_mark t = record { refusal = number t; row = row t; placed = placed t; counts = cond (values_or false t) 1 0 }

-- a typed answer by the number of its kind: 0 kelvins, 1 a specific content; any other number is a blank
abbrev pub typed_of : ℕ → Float → Typed
typed_of kind x = cond (eqb kind 0) (Kelvins x) (cond (eqb kind 1) (Content x) Blank)
