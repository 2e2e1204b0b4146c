-- What a read gave stands in the piece, also where nothing was read. Assumes nothing.
use Rattle.std.specs.Prelude.{ℕ, Bool, true, false, Some, None, Result, List}
use Rattle.std.proofs.Common.{subst, sym, arith}
use Rattle.stream.specs.declared.Failed.{Failed}
use Rattle.stream.specs.Taking.{Inside}
use Rattle.stream.specs.Writing.{Output}
use Rattle.stream.specs.Reading.{Reads}

pub reads_inside : (ended : Bool) (o : Output) (before : List ℕ) (r : Result ℕ Failed) (later : List ℕ) → Reads ended o before r later → Inside r later
reads_inside true o before r later h = subst (λ (g : Result ℕ Failed). Inside g later) (sym h.0) (omega arith)
reads_inside false (Some n) before r later h = h
reads_inside false None before r later h = subst (λ (g : Result ℕ Failed). Inside g later) (sym h.0) tt
