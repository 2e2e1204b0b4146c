-- A quoted text is its bytes, for texts of ASCII characters: so a definition of a text reads as what is printed.
use Rattle.std.specs.Prelude.{ℕ, List, [], ◌∷◌}
use Prim.Native.Char.{code}
use Prim.Native.String.{String, [] as empty, ◌∷◌ as ◌before◌}

abbrev pub bytes_of : String → List ℕ
bytes_of empty = []
bytes_of (c before s) = code c ∷ bytes_of s
