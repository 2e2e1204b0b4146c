-- The words of the arguments seen one after the other: `form_seen` of ArgumentsLaws.antt shows that all words seen tell `form_of` of them.
use Rattle.std.specs.Prelude.{ℕ, suc, cond, List, [], ◌∷◌, eqb, Option, None}
use Rattle.std.specs.Option.{option_or}
use Rattle.forms.specs.declared.arguments.Word.{Word}
use Rattle.forms.specs.declared.arguments.Word.TheVariants.{Other}
use Rattle.forms.specs.declared.arguments.Words.{Words}
use Rattle.forms.specs.Arguments.{word_of, option_at}

abbrev pub no_words : Words
no_words = record { first = Other; option = None }

abbrev pub first_with : ℕ → Word → Word → Word
first_with i word before = cond (eqb i 1) word before

abbrev pub option_with : ℕ → Word → Option ℕ → Option ℕ
option_with i word before = option_or before (option_at i word)

abbrev pub with_word : Words → ℕ → List ℕ → Words
with_word words i w = record { first = first_with i (word_of w) words.first; option = option_with i (word_of w) words.option }

abbrev pub seen : Words → ℕ → List (List ℕ) → Words
seen words i [] = words
seen words i (w ∷ ws) = seen (with_word words i w) (suc i) ws
