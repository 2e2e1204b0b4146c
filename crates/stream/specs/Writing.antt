-- The output of a run (docs/PROGRAM.md): the first write that fails ends it. From then on the output is closed: nothing is put, written or read any more.
use Rattle.std.specs.Prelude.{ℕ, ◌/◌, ◌<◌, ◌≤◌, Bool, true, false, cond, Option, Some, None, IfSome, List, ◌⊎◌, ◌≡◌, ltb, length}

-- the output of a run: where its next byte goes, or none after a write that failed
abbrev pub Output : Type 0
Output = Option ℕ

-- what a write came to: the bytes that it took, or where it took none that it may be tried again, or not
abbrev pub outcome_of : ℕ → Bool → Option ℕ
outcome_of taken again = cond (ltb 0 taken) (Some taken) (cond again (Some 0) None)

-- no more bytes are taken than were handed in
abbrev pub Within : Option ℕ → List ℕ → Type 0
Within r part = IfSome r (λ n. n ≤ length part)

-- the output after a write, by whether all was written
abbrev pub after_write : Bool → Output
after_write true = Some 0
after_write false = None

-- a flush goes on at the start or closes the output; a closed one stays closed
abbrev pub Flushed : Output → Output → Type 0
Flushed (Some n) r = (r ≡ Some 0) ⊎ (r ≡ None)
Flushed None r = r ≡ None

-- room is made where half of the buffer is filled
abbrev pub Roomed : Output → List ℕ → Output → Type 0
Roomed (Some n) out r = (n < length out / 2 → r ≡ Some n) × (length out / 2 ≤ n → Flushed (Some n) r)
Roomed None out r = r ≡ None

-- half of the buffer is free, or nothing is put into it any more
abbrev pub Free : Output → List ℕ → Type 0
Free (Some n) out = n ≤ length out / 2
Free None out = Unit {0}

-- a call that is handed a closed output leaves it closed, and the buffer as it was
abbrev pub StaysClosed : Output → List ℕ → Output → List ℕ → Type 0
StaysClosed (Some n) before r later = Unit {0}
StaysClosed None before r later = (r ≡ None) × (later ≡ before)

-- what a call that answers lines leaves of its output
pub record Leaves (output : Output) (before : List ℕ) (r : Output) (later : List ℕ) : Type 0 where
  pub free : Free r later
  pub closed : StaysClosed output before r later
