-- What a walk with its lists shows (Shown.antt).
use Rattle.std.specs.Prelude.{ℕ, List}
use Rattle.walk.specs.Walk.{paper_walk}
use Rattle.console.specs.declared.walks.Layout.{Layout}
use Rattle.console.specs.declared.walked.Walked.{Walked}
use Rattle.console.specs.inner.Shown.{steps_in, shown, walk_shown}

abbrev pub steps_shown_by : Layout → Walked → List ℕ
steps_shown_by layout walked = shown layout 1 (steps_in (paper_walk walked.answer)) walked.temperatures.now walked.rests.now walked.looks.now

abbrev pub walk_shown_by : Layout → Walked → List ℕ
walk_shown_by layout walked = walk_shown layout (paper_walk walked.answer) walked.temperatures.now walked.rests.now walked.looks.now
