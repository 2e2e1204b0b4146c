-- The fields that are left of a request line.
use Rattle.std.specs.Prelude.{ℕ, List}
use Rattle.fields.specs.Fields.{fields_from}
use Rattle.console.specs.declared.rest.Rest.{Rest}

abbrev pub fields_left : Rest → List (List ℕ)
fields_left rest = fields_from rest.line.now rest.from
