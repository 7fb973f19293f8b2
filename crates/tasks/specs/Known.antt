-- A task whose row store has known rows: what it answers is a function of the task, the scenario and the kept rows.
use Rattle.std.specs.Prelude.{◌≡◌, ◌++◌, ℕ, List, [], ◌∷◌, Option, Some, take}
use Rattle.tasks.specs.Prelude.{Held, Recorded, Row, Scenario, Turn, changed, held_run, names_of, recorder, start, start_changes, without_turns}
use Rattle.tasks.specs.declared.asked.Task.{Task}
use Rattle.tasks.specs.Report.{Answer, answer_of, cut_text}
use Rattle.tasks.specs.Stages.{Stage, stages}
use Rattle.tasks.specs.Works.{Work}

-- the opening's state, and the kept rows with what it keeps
abbrev pub opened : Task → Scenario → List Row → Held Recorded
opened c s rows = record { rows = changed rows (start_changes s rows); state = without_turns (start s c.waits rows) }

-- both after these turns
abbrev pub held_from : Task → Scenario → List Row → List Turn → Held Recorded
held_from c s rows ts = held_run recorder (opened c s rows) ts

-- the turns of stages, one after another, each by the run that those before it lead to
abbrev pub turns_from : Held Recorded → List Stage → List Turn
turns_from h [] = []
turns_from h (x ∷ xs) = x h.state ++ turns_from (held_run recorder h (x h.state)) xs

-- all turns: the scenario's, and the command's own
abbrev pub all_turns : Task → Scenario → List Row → List Turn
all_turns c s rows = s.turns ++ turns_from (held_from c s rows s.turns) (stages c.asked)

-- both after the first k of all turns
abbrev pub held_after : Task → Scenario → List Row → ℕ → Held Recorded
held_after c s rows k = held_from c s rows (take k (all_turns c s rows))

-- both after all turns
abbrev pub last_held : Task → Scenario → List Row → Held Recorded
last_held c s rows = held_from c s rows (all_turns c s rows)

-- what is answered
abbrev pub task_answer : Task → Scenario → List Row → Answer
task_answer c s rows = answer_of c (names_of s) s (last_held c s rows).state

-- what is left of it if its first k turns are taken
abbrev pub cut_answer : Task → Scenario → List Row → ℕ → List ℕ
cut_answer c s rows k = cut_text c.asked (names_of s) (held_after c s rows k).state

-- these turns lead to one run, and to one list of kept rows
pub record IsFixed (w : Work) (rows : List Row) (ts : List Turn) (kept : Option (List Row)) (run : Recorded) : Type 0 where
  pub run_is : run ≡ (held_from w.task w.scenario rows ts).state
  pub rows_are : kept ≡ Some (held_from w.task w.scenario rows ts).rows

-- one text begins another
pub record Begins (front text : List ℕ) : Type 0 where
  pub rest : List ℕ
  pub is : text ≡ front ++ rest
