-- What is answered to the line that is held (docs/PROGRAM.md).
use Rattle.std.specs.Prelude.{ℕ, List, take, Some, None}
use Rattle.text.specs.Bytes.{bytes_of}
use Rattle.sheet.specs.Answers.{SheetAnswer}
use Rattle.console.specs.Answers.{answer_of}
use Rattle.stream.specs.Taking.{Held}

-- the console's answer to the first n bytes of the buffer; or that the line is longer than any buffer
abbrev pub held_answer : SheetAnswer → List ℕ → Held → List ℕ → List ℕ
held_answer verdict sheet (Some n) line = answer_of verdict sheet (take n line)
held_answer verdict sheet None line = bytes_of "error\tthe line is too long\n"
