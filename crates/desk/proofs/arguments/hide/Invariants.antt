-- `hide`: every byte of the name in turn is put as it is shown.
-- Invariant: the first bytes are as they are shown, the others as they were.
use Rattle.std.proofs.Common.{◌≡◌, map, take, drop}
use Rattle.desk.specs.Names.{shown_byte}
use Rattle.desk.proofs.arguments.hide.Given as goal

abbrev pub invariant-loop-b : goal.invariant-loop-b
invariant-loop-b l = (take l.b-index l.name ≡ map shown_byte (take l.b-index l.initial.name)) × (drop l.b-index l.name ≡ drop l.b-index l.initial.name)
