-- The lines of an input that comes in pieces (docs/PROGRAM.md): a line ends at its line feed; one that the buffer has no place for is too long, whatever follows it.
use Rattle.std.specs.Prelude.{ℕ, ◌+◌, ◌≤◌, Bool, true, false, cond, Option, Some, None, Result, IfOk, List, [], ◌∷◌, ◌≡◌, eqb, ltb, length, drop, set}
use Rattle.stream.specs.declared.Failed.{Failed}
use Rattle.stream.specs.declared.Taken.{Taken}

-- a line that is still read: how many of its bytes are held, or none where there were too many
abbrev pub Held : Type 0
Held = Option ℕ

-- the bytes of a text before its first line feed, and whether it has one
abbrev pub line_in : List ℕ → List ℕ
line_in [] = []
line_in (b ∷ bs) = cond (eqb b 10) [] (b ∷ line_in bs)

abbrev pub ends : List ℕ → Bool
ends [] = false
ends (b ∷ bs) = cond (eqb b 10) true (ends bs)

-- how much of a line is held, and the buffer that holds it
pub record Holding : Type 0 where
  pub held : Held
  pub buffer : List ℕ

-- the line with one byte more, where the buffer has a place for it
abbrev pub pushed : Held → List ℕ → ℕ → Holding
pushed (Some n) buffer b = cond (ltb n (length buffer)) (record { held = Some (n + 1); buffer = set buffer n b }) (record { held = None; buffer = buffer })
pushed None buffer b = record { held = None; buffer = buffer }

-- the line with the bytes of a text one after the other
abbrev pub pushed_all : Held → List ℕ → List ℕ → Holding
pushed_all held buffer [] = record { held = held; buffer = buffer }
pushed_all held buffer (b ∷ bs) = pushed_all (pushed held buffer b).held (pushed held buffer b).buffer bs

-- what a taking from `from` on leaves: the line with the bytes before the next line feed, and the place after that feed, where there is one
pub record Takes (held : Held) (piece : List ℕ) (from : ℕ) (before : List ℕ) (r : Taken) (after : List ℕ) : Type 0 where
  pub line : record { held = r.held; buffer = after } ≡ pushed_all held before (line_in (drop from piece))
  pub next : r.next ≡ cond (ends (drop from piece)) (Some (from + length (line_in (drop from piece)) + 1)) None

-- what a read gave stands in the piece
abbrev pub Inside : Result ℕ Failed → List ℕ → Type 0
Inside r piece = IfOk r (λ n. n ≤ length piece)
