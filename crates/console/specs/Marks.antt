-- The requests `mark` (docs/PROGRAM.md): mark kelvins x key window, mark content x key window, mark blank key window.
use Rattle.std.specs.Prelude.{ℕ, List, [], ◌∷◌, Float, ℤ, Option, Some, None}
use Rattle.fields.specs.Words.{Worded, ◌names◌, named_by}
use Rattle.fields.specs.Fields.{two_of}
use Rattle.typed.specs.Typed.{number_of}
use Rattle.marking.specs.Marking.{marked}
use Rattle.marking.specs.declared.Typed.{Typed}
use Rattle.marking.specs.declared.Typed.TheVariants.{Kelvins as TypedKelvins, Content as TypedContent, Blank as TypedBlank}
use Rattle.console.specs.declared.marks.Kind.{Kind}
use Rattle.console.specs.declared.marks.Kind.TheVariants.{Kelvins, Content, Blank, Unknown}
use Rattle.console.specs.declared.marks.Measure.{Measure}
use Rattle.console.specs.Requests.{misfit_text, no_number_text}
use Rattle.wording.specs.Texts.{mark_text}

-- the kind of answer that a word names
abbrev pub kinds : List (Worded Kind)
kinds = "kelvins" names Kelvins ∷ "content" names Content ∷ "blank" names Blank ∷ []

unfoldable pub kind_of : List ℕ → Kind
kind_of = named_by kinds Unknown

-- a number that was typed, in kelvins or as a specific content
abbrev pub in_unit : Measure → Float → Typed
in_unit Measure.Kelvins x = TypedKelvins x
in_unit Measure.Content x = TypedContent x

-- the mark of an answer with its key and window
abbrev pub marked_text : Typed → Option (ℤ × ℤ) → List ℕ
marked_text answer (Some (key, window)) = mark_text (marked answer key window)
marked_text answer None = misfit_text

-- of what was typed, where it is a number
abbrev pub number_text : Measure → Option Float → List (List ℕ) → List ℕ
number_text measure (Some x) fs = marked_text (in_unit measure x) (two_of fs)
number_text measure None fs = no_number_text

abbrev pub typed_text : Measure → List (List ℕ) → List ℕ
typed_text measure [] = misfit_text
typed_text measure (x ∷ fs) = number_text measure (number_of x) fs

-- by its kind
abbrev pub kind_text : Kind → List (List ℕ) → List ℕ
kind_text Kelvins fs = typed_text Measure.Kelvins fs
kind_text Content fs = typed_text Measure.Content fs
kind_text Blank fs = marked_text TypedBlank (two_of fs)
kind_text Unknown fs = misfit_text

abbrev pub mark_request : List (List ℕ) → List ℕ
mark_request [] = misfit_text
mark_request (kind ∷ fs) = kind_text (kind_of kind) fs
