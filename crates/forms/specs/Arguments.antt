-- Which form of `keys` the arguments are (docs/PROGRAM.md): keys, keys walk [FILE], keys ask, keys write, keys sheet FILE, keys --help, -h and --version; at the end of the
-- first four `--sheet FILE` may stand.
use Rattle.std.specs.Prelude.{ℕ, suc, ◌+◌, cond, List, [], ◌∷◌, eqb, ltb, length, Option, Some, None}
use Rattle.std.specs.Option.{option_or}
use Rattle.fields.specs.Words.{Worded, ◌names◌, named_by}
use Rattle.forms.specs.declared.arguments.Word.{Word}
use Rattle.forms.specs.declared.arguments.Word.TheVariants.{Ask, Walk, Sheet, Write, Option as SheetOption, Help, Version, Other}
use Rattle.forms.specs.declared.arguments.Words.{Words}
use Rattle.forms.specs.declared.arguments.Job.TheVariants.{Example, Walk as WalkOf, Ask as AskOf, Write as WriteOf}
use Rattle.forms.specs.declared.arguments.Form.{Form}
use Rattle.forms.specs.declared.arguments.Form.TheVariants.{Over, Sheet as SheetOf, Help as HelpOf, Version as VersionOf, Misplaced, Wrong}

-- what a word is
abbrev pub words : List (Worded Word)
words =
    "ask" names Ask
    ∷ "walk" names Walk
    ∷ "sheet" names Sheet
    ∷ "write" names Write
    ∷ "--sheet" names SheetOption
    ∷ "--help" names Help
    ∷ "-h" names Help
    ∷ "--version" names Version
    ∷ []

unfoldable pub word_of : List ℕ → Word
word_of = named_by words Other

-- a form that takes no other sheet
abbrev pub over_none : Form → Option ℕ → Form
over_none form None = form
over_none form (Some i) = Wrong

-- a word alone
abbrev pub alone : Word → Option ℕ → Form
alone Ask named = Over AskOf named
alone Walk named = Over (WalkOf None) named
alone Sheet named = over_none (SheetOf None) named
alone Write named = Over WriteOf named
alone SheetOption named = Wrong
alone Help named = over_none HelpOf named
alone Version named = over_none VersionOf named
alone Other named = Wrong

-- a word and a file
abbrev pub with_file : Word → Option ℕ → Form
with_file Ask named = Wrong
with_file Walk named = Over (WalkOf (Some 2)) named
with_file Sheet named = over_none (SheetOf (Some 2)) named
with_file Write named = Wrong
with_file SheetOption named = Wrong
with_file Help named = Wrong
with_file Version named = Wrong
with_file Other named = Wrong

-- so many words, the program's name among them, before the sheet that is named
abbrev pub plain : ℕ → Word → Option ℕ → Form
plain count first named =
    cond (ltb count 2) (Over Example named)
    (cond (eqb count 2) (alone first named)
    (cond (eqb count 3) (with_file first named)
    Wrong))

-- `--sheet` is the last word but one, or stands nowhere
abbrev pub form_with : ℕ → Word → Option ℕ → Form
form_with count first None = plain count first None
form_with count first (Some i) = cond (eqb count (i + 2)) (plain i first (Some (i + 1))) Misplaced

abbrev pub form_at : ℕ → Words → Form
form_at count words = form_with count words.first words.option

-- the first word, and the place of the first `--sheet` from place i on
abbrev pub first_of : List (List ℕ) → Word
first_of [] = Other
first_of (w ∷ ws) = word_of w

abbrev pub option_at : ℕ → Word → Option ℕ
option_at i SheetOption = Some i
option_at i Ask = None
option_at i Walk = None
option_at i Sheet = None
option_at i Write = None
option_at i Help = None
option_at i Version = None
option_at i Other = None

abbrev pub option_from : ℕ → List (List ℕ) → Option ℕ
option_from i [] = None
option_from i (w ∷ ws) = option_or (option_at i (word_of w)) (option_from (suc i) ws)

-- the form of the arguments, the words after the program's name
abbrev pub form_of : List (List ℕ) → Form
form_of ws = form_at (suc (length ws)) (record { first = first_of ws; option = option_from 1 ws })
