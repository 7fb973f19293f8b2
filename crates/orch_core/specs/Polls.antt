-- Polls, commands and jobs: what orchestrator reads of servers, and how the kept rows change.
use Rattle.std.specs.Prelude.{ℕ, ◌++◌, List, [], replicate, slice_index_or, Option, Some, None}
use Rattle.orch_core.specs.Prelude.{Act, Change, CommandTurn, Numbers, Observation, Outcome, Row, ServerNo, Turn, changes_by, closing_changes}
use Rattle.orch_core.specs.Prelude.{closing_of, job_observation, next_count, outcome_of, pollers, reading_by, scan_by}
use Rattle.orch_core.specs.Prelude.act
use Rattle.orch_core.specs.Prelude.turn
use Rattle.orch_core.specs.Jobs.{turned_at}
use Rattle.orch_core.specs.Nodes.{act_in, claim_changes, release_changes}
use Rattle.orch_core.specs.Restarts.{restart_changes}
use Rattle.orch_core.specs.States.{State}

abbrev pub empty_slots : List (Option Observation)
empty_slots = replicate pollers None

abbrev pub slot_at : State → ℕ → Option Observation
slot_at s p = slice_index_or s.slots p None

-- the next reading
abbrev pub reading : State → ServerNo → Observation
reading s n = reading_by s.world n (next_count s.reads) s.moment

-- the numbers by which a command goes
abbrev pub numbers_of : State → Numbers
numbers_of s = record { reads = s.reads; last_job = s.last_job; wait = s.configuration.wait; every = s.configuration.every; moment = record { 0 = s.moment } }

-- what a command answers and changes
abbrev pub command_outcome : State → CommandTurn → Outcome
command_outcome s c = outcome_of s.world s.book s.audit s.configuration (numbers_of s) c

-- what a scan answers and begins
abbrev pub scan_outcome : State → Outcome
scan_outcome s = scan_by s.world s.book s.audit s.configuration (numbers_of s)

-- the changes of the kept rows that a job's turn makes: by what it observes, and by the entry that ends
abbrev pub job_changes : State → ℕ → List Change
job_changes s job = changes_by s.book (job_observation (turned_at s job)) ++ closing_changes s.audit (record { 0 = s.moment }) (closing_of (turned_at s job))

-- those of what orchestrator does, by the rows that the row store has
abbrev pub act_changes : List Row → State → Act → List Change
act_changes rows s (act.PollRead p n) = []
act_changes rows s (act.PollStore p) = changes_by s.book (slot_at s p)
act_changes rows s (act.Command c) = (command_outcome s c).rows
act_changes rows s (act.Job job) = job_changes s job
act_changes rows s act.Scan = (scan_outcome s).rows
act_changes rows s act.Restart = restart_changes rows s

abbrev pub done_changes : List Row → State → Option Act → List Change
done_changes rows s None = []
done_changes rows s (Some a) = act_changes rows s a

-- those of a turn: of a claim that passes to another node with those of the restart that it brings
abbrev pub changes_of : List Row → State → Turn → List Change
changes_of rows s (turn.Step x) = []
changes_of rows s (turn.Tick seconds) = []
changes_of rows s (turn.Act a) = act_changes rows s a
changes_of rows s (turn.As node a) = done_changes rows s (act_in s (turn.As node a))
changes_of rows s (turn.Claim node) = done_changes rows s (act_in s (turn.Claim node)) ++ claim_changes s node
changes_of rows s (turn.Release node) = release_changes s node
