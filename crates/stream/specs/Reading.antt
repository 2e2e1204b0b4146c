-- An input that is read in pieces (docs/PROGRAM.md): nothing is read after its end, nor where nobody takes the answers any more; a last line needs no line feed.
use Rattle.std.specs.Prelude.{ℕ, Bool, true, false, cond, Option, Some, None, Result, Ok, Err, List, ◌≡◌, eqb}
use Rattle.stream.specs.declared.Failed.{Failed}
use Rattle.stream.specs.declared.Reader.{Reader}
use Rattle.stream.specs.declared.Next.{Next}
use Rattle.stream.specs.Taking.{Held, Inside}
use Rattle.stream.specs.Writing.{Output}

-- the next line of an input, that there is none, or that it is not read
abbrev pub Line : Type 0
Line = Result (Option Held) Failed

-- a piece of n bytes of which none is taken; an input of which nothing is read
abbrev pub piece_of : ℕ → Reader
piece_of n = record { from = 0; end = n; ended = false }

abbrev pub nothing_read : Reader
nothing_read = piece_of 0

-- a line that ended, with the input from the next on; no further line of an input
abbrev pub taken_with : Held → ℕ → Reader → Output → Next
taken_with held next reader output = record { line = Ok (Some held); reader = record { from = next; end = reader.end; ended = reader.ended }; output = output }

abbrev pub over_with : Line → Output → Next
over_with line output = record { line = line; reader = record { from = 0; end = 0; ended = true }; output = output }

-- what a read gives, and leaves in the piece
abbrev pub Reads : Bool → Output → List ℕ → Result ℕ Failed → List ℕ → Type 0
Reads true output before r later = (r ≡ Ok 0) × (later ≡ before)
Reads false (Some n) before r later = Inside r later
Reads false None before r later = (r ≡ Err (record {})) × (later ≡ before)

-- the bytes that no line feed ended are a line, where there are any
abbrev pub last_line : Held → Option Held
last_line (Some n) = cond (eqb n 0) None (Some (Some n))
last_line None = Some None
