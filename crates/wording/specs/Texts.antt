-- The texts of answers (docs/PROGRAM.md): `ok` and the numbers, `refused` with the number and, for 2 and 3, the row, `stopped`, `counts` or `misses`; fields parted by
-- tabs. The numbers are those that the calls of the layers below tell.
use Rattle.std.specs.Prelude.{ℕ, Bool, true, false, cond, List, [], ◌∷◌, ◌++◌, map, eqb, ℤ, pos, length}
use Rattle.text.specs.Bytes.{bytes_of}
use Rattle.text.specs.Decimal.{decimal, decimal_z}
use Rattle.refusal.specs.Refusals.{Numbered, Plain, At, Told, gives, refused}
use Rattle.air.specs.Inverse.{Found}
use Rattle.burning.specs.declared.Products.{Products}
use Rattle.burning.specs.declared.Charge.{Charge}
use Rattle.burning.specs.Burning.{numbers_of_charge}
use Rattle.walk.specs.Walk.{Course, done, stopped}
use Rattle.marking.specs.declared.inner.StationNumbers.{StationNumbers}

abbrev pub ok_text : List ℕ
ok_text = bytes_of "ok"

abbrev pub refused_text : List ℕ
refused_text = bytes_of "refused"

-- numbers, a tab before each
abbrev pub fields_text : List ℤ → List ℕ
fields_text [] = []
fields_text (z ∷ zs) = (9 ∷ decimal_z z) ++ fields_text zs

-- a refusal: its number and, where there is one, its row
abbrev pub refusal_text : Numbered → List ℕ
refusal_text (Plain number) = refused_text ++ (9 ∷ decimal number)
refusal_text (At number row) = (refused_text ++ (9 ∷ decimal number)) ++ (9 ∷ decimal row)

-- what a call tells: its values in their text, or the refusal
abbrev pub told_text : {A : Type 0} → (A → List ℕ) → Told A → List ℕ
told_text values (gives a) = values a
told_text values (refused r) = refusal_text r

-- a reading of the air table
abbrev pub reading_text : Told ℕ → List ℕ
reading_text = told_text (λ n. ok_text ++ (9 ∷ decimal n))

-- the looks that eleven places hold: those before the first 0
abbrev pub used : List ℕ → List ℕ
used [] = []
used (k ∷ ks) = cond (eqb k 0) [] (k ∷ used ks)

-- the number of looks, and the looks
abbrev pub counted_text : List ℕ → List ℕ
counted_text ks = (9 ∷ decimal (length ks)) ++ fields_text (map pos ks)

-- a temperature that was found, and its rest
abbrev pub found : ℤ → ℤ → Found
found mk left = record { mk = mk; left = left }

-- an inverse: mK, rest, number of looks, the looks
abbrev pub found_text : List ℕ → Found → List ℕ
found_text ks f = ((ok_text ++ (9 ∷ decimal_z f.mk)) ++ (9 ∷ decimal_z f.left)) ++ counted_text ks

abbrev pub inverse_text : Told Found → List ℕ → List ℕ
inverse_text told ks = told_text (found_text ks) told

-- a gas heat, a content, a specific content
abbrev pub value_text : ℤ → List ℕ
value_text z = ok_text ++ (9 ∷ decimal_z z)

abbrev pub whole_text : Told ℤ → List ℕ
whole_text = told_text value_text

-- a station in whole numbers: mK, specific content, total mass
abbrev pub numbers_text : StationNumbers → List ℕ
numbers_text n = ((ok_text ++ (9 ∷ decimal_z n.mk)) ++ (9 ∷ decimal_z n.specific)) ++ (9 ∷ decimal_z n.mass)

abbrev pub station_text : Told StationNumbers → List ℕ
station_text = told_text numbers_text

-- the products of a charge: CO2, H2O, O2, N2, Ar
abbrev pub products_text : Products → List ℕ
products_text p =
    ((((ok_text ++ (9 ∷ decimal p.co2)) ++ (9 ∷ decimal p.h2o)) ++ (9 ∷ decimal p.o2)) ++ (9 ∷ decimal p.n2)) ++ (9 ∷ decimal p.ar)

abbrev pub burnt_text : Told Products → List ℕ
burnt_text = told_text products_text

-- a mark
abbrev pub verdict_text : Bool → List ℕ
verdict_text true = bytes_of "counts"
verdict_text false = bytes_of "misses"

abbrev pub mark_text : Told Bool → List ℕ
mark_text = told_text verdict_text

-- ---- a walk
-- the numbers of the charge, and mK
abbrev pub state_text : Charge → ℤ → List ℕ
state_text ch mk = fields_text (numbers_of_charge ch) ++ (9 ∷ decimal_z mk)

-- how a walk ended
abbrev pub course_text : Course → List ℕ
course_text (done n ch mk) = (ok_text ++ (9 ∷ decimal n)) ++ state_text ch mk
course_text (stopped n number ch mk) = ((bytes_of "stopped" ++ (9 ∷ decimal n)) ++ (9 ∷ decimal number)) ++ state_text ch mk
