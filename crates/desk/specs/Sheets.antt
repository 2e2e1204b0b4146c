-- A sheet that an input brings, piece by piece as it comes (docs/PROGRAM.md): whatever came, the reading that was opened stands behind it, and the list holds its rows.
use Rattle.std.specs.Prelude.{List, ℕ, Result, IfOk}
use Rattle.sheet.specs.Pieces.{Came}
use Rattle.forms.specs.declared.sheets.Intake.{Intake}
use Rattle.stream.specs.declared.Failed.{Failed}

abbrev pub Arrived : List ℕ → Result Intake Failed → List ℕ → Type 0
Arrived before r list = IfOk r (λ intake. Came before intake.reading list)
