-- No two outcomes satisfy the promises of the console: `one_answer`, `one_print_walk`. Assumes nothing.
use Rattle.std.specs.Prelude.{◌≡◌, List, ℕ, ℤ, Ok}
use Rattle.text.specs.Puts.{Puts}
use Rattle.text.specs.PutLaws.{one_put}
use Rattle.burning.specs.declared.Charge.{Charge}
use Rattle.console.specs.Limits.{answer_room, page_room}
use Rattle.console.specs.Answers.{answer_of}
use Rattle.console.specs.Walks.{walk_told, printed_walk}

-- the place after the answer, and the buffer
pub one_answer : (sheet line before : List ℕ) (at r s : ℕ) (later after : List ℕ)
    → Puts answer_room (answer_of (Ok tt) sheet line) before at r later → Puts answer_room (answer_of (Ok tt) sheet line) before at s after → (r ≡ s) × (later ≡ after)
one_answer sheet line before at r s later after p q = one_put p.put q.put

pub one_print_walk : (charge : Charge) (mk : ℤ) (steps : List ℤ) (sheet before : List ℕ) (at r s : ℕ) (later after : List ℕ)
    → Puts page_room (printed_walk (walk_told (Ok tt) sheet charge mk steps)) before at r later
    → Puts page_room (printed_walk (walk_told (Ok tt) sheet charge mk steps)) before at s after → (r ≡ s) × (later ≡ after)
one_print_walk charge mk steps sheet before at r s later after p q = one_put p.put q.put
