-- `write_first`: it never writes past the bytes that it was given.
-- Invariant: from is at most their number.
use Rattle.std.proofs.Common.{◌≤◌, length}
use Rattle.stream.proofs.write_first.Given as goal

abbrev pub invariant-loop : goal.invariant-loop
invariant-loop g l = l.from ≤ length l.bytes
