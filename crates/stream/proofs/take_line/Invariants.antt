-- `take_line`: byte after byte up to a line feed or the end of the piece, it takes the line that stands in the piece (`Takes`).
-- Invariant: what is left to take, on top of what is held, gives the whole taking (`Left`).
use Rattle.std.proofs.Common.{◌≡◌, ℕ, ◌+◌, List, length, drop}
use Rattle.stream.specs.Taking.{Held, line_in, ends, pushed_all}
use Rattle.stream.proofs.take_line.Given as goal

-- the taking from `from` on is that from i on with what is held there
pub record Left (piece : List ℕ) (from : ℕ) (before : List ℕ) (first : Held) (line : List ℕ) (held : Held) (i : ℕ) : Type 0 where
  pub same : pushed_all first before (line_in (drop from piece)) ≡ pushed_all held line (line_in (drop i piece))
  pub place : from + length (line_in (drop from piece)) ≡ i + length (line_in (drop i piece))
  pub end : ends (drop from piece) ≡ ends (drop i piece)
  pub long : length line ≡ length before

abbrev pub invariant-loop-i : goal.invariant-loop-i
invariant-loop-i l = Left l.piece l.from l.initial.line l.initial.held l.line l.held l.i
