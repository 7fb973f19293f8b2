-- The turns of a round.
use Rattle.std.specs.Prelude.{ℕ, List, [], ◌∷◌, ◌++◌}
use Rattle.unended_jobs.specs.Prelude.{ServerNo, flat_map}
use Rattle.turns.specs.declared.turn.Act.TheVariants as act
use Rattle.turns.specs.declared.turn.Step.TheVariants as step
use Rattle.turns.specs.declared.turn.Turn.{Turn}
use Rattle.turns.specs.declared.turn.Turn.TheVariants as turn

abbrev pub replicates : ServerNo → List Turn
replicates n = turn.Step (step.Fetch n) ∷ turn.Step (step.Apply n) ∷ []

-- by the first poller
abbrev pub polls : ServerNo → List Turn
polls n = turn.Act (act.PollRead 0 n) ∷ turn.Act (act.PollStore 0) ∷ []

-- one turn of the job, then fetch and apply on each server in name order, then a poll of each server in name order
abbrev pub round_over : List ServerNo → ℕ → List Turn
round_over servers job = turn.Act (act.Job job) ∷ flat_map replicates servers ++ flat_map polls servers
