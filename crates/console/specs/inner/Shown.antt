-- What the lists that a walk wrote show, step by step, for the code that puts a walk: the text of its answer and its places. That this is the text of the walk
-- (specs/Walks.antt) is the law `walk_shown_lem`.
use Rattle.std.specs.Prelude.{ℕ, zero, suc, ◌*◌, ◌≤◌, List, [], ◌++◌, ℤ, pos, length, take, drop, get_or}
use Rattle.refusal.specs.Refusals.{Told, gives, refused}
use Rattle.air.specs.Limits.{look_places}
use Rattle.walk.specs.Limits.{most_steps}
use Rattle.walk.specs.Walk.{Trace, Course, done, stopped}
use Rattle.console.specs.declared.walks.Layout.{Layout}
use Rattle.console.specs.declared.walks.Layout.TheVariants.{Line, Page}
use Rattle.wording.specs.Texts.{told_text, used, course_text}
use Rattle.console.specs.Limits.{in_line_room, on_page_room, reply_room, page_room}
use Rattle.console.specs.Walks.{step_text, walk_text, header_text, end_text, printed_walk}

-- how many steps were done
abbrev pub steps_in : Told Course → ℕ
steps_in (gives (done n ch mk)) = n
steps_in (gives (stopped n number ch mk)) = n
steps_in (refused r) = 0

-- n steps from the first places of the lists, numbered from i on
unfoldable pub shown : Layout → ℕ → ℕ → List ℤ → List ℤ → List ℕ → List ℕ
shown layout i zero t r l = []
shown layout i (suc n) t r l = step_text layout i (get_or t 0 (pos 0)) (get_or r 0 (pos 0)) (used (take look_places l)) ++ shown layout (suc i) n (drop 1 t) (drop 1 r) (drop look_places l)

-- a walk from what it tells and the lists
abbrev pub walk_shown : Layout → Told Course → List ℤ → List ℤ → List ℕ → List ℕ
walk_shown Line told t r l = told_text course_text told ++ shown Line 1 (steps_in told) t r l
walk_shown Page told t r l = (header_text ++ shown Page 1 (steps_in told) t r l) ++ end_text told

abbrev pub layout_text : Layout → Told Trace → List ℕ
layout_text Line told = walk_text told
layout_text Page told = printed_walk told

-- the most bytes of a step, and of a walk
abbrev pub step_room : Layout → ℕ
step_room Line = in_line_room
step_room Page = on_page_room

abbrev pub walk_room : Layout → ℕ
walk_room Line = reply_room
walk_room Page = page_room

-- the lists have places for n steps, no more than the longest walk has
pub record Holds (n : ℕ) (t r : List ℤ) (l : List ℕ) : Type 0 where
  pub few : n ≤ most_steps
  pub temperatures : n ≤ length t
  pub rests : n ≤ length r
  pub looks : look_places * n ≤ length l
