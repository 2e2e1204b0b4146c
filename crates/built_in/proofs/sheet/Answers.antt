-- `sheet`: the array SHEET in the code, number for number, is the built-in sheet of specs/.
use mathlib.Core.Path.{refl}
use Rattle.built_in.specs.BuiltIn.{built_in}
use Rattle.built_in.proofs.sheet.Goals as goal

pub returns : goal.returns
unfolding built_in
returns c = refl
