-- What becomes of an entry of the audit with a turn.
use Rattle.std.specs.Prelude.{◌≡◌, ℕ, ◌==◌, ◌||◌, ◌++◌, true, if◌then◌else◌, List, map, Option, None, Some, Result, Ok, Err}
use Rattle.run_laws.specs.Prelude.{Act, Asks, BookState, CommandTurn, Decides, Decision, Discovers, FollowAudit, Forgets, IsRising, JobStep, Moment}
use Rattle.run_laws.specs.Prelude.{Recovers, Recovery as KeptRecovery, Refusal, Route, Row, ServerNo, State, Taken, TakesOver, Turn, Unended, act_in}
use Rattle.run_laws.specs.Prelude.{cause_name, closed, done_with, hooked, interrupted_at, is_of, is_takeover, job_at, label_at, next_count, permitted}
use Rattle.run_laws.specs.Prelude.{route_of, step as turn_step}
use Rattle.run_laws.specs.Prelude.Recoveries.{Recovery}
use Rattle.run_laws.specs.Prelude.TheVariants.{Begins}
use Rattle.run_laws.specs.Prelude.act
use Rattle.run_laws.specs.Prelude.decision
use Rattle.run_laws.specs.Prelude.ending
use Rattle.run_laws.specs.Prelude.jobstep as step
use Rattle.run_laws.specs.Prelude.turn
use Rattle.run_laws.specs.Prelude.unended
use Rattle.run_laws.specs.Entries.{entries_begun}

-- ---- with its job

-- It stays open while its job goes on. It ends at the moment of the turn in which the job is done, with the server that
-- was promoted, or fails, with the cause's name. Only a takeover that is done is acknowledged.
abbrev pub entry_then : Moment → Recovery → JobStep → KeptRecovery → KeptRecovery
entry_then now r step.Going k = k
entry_then now r (step.Done lines) k = record k { ended = Some now; outcome = done_with r.outcome.promoted; acked = is_takeover r.purpose || k.acked }
entry_then now r (step.Failed c lines) k = record k { ended = Some now; outcome = ending.Failed (cause_name c) }

-- after the turn of its own job, with this entry, and no other
abbrev pub entry_of_turn : Moment → Option ℕ → Taken → KeptRecovery → KeptRecovery
entry_of_turn now None t k = k
entry_of_turn now (Some e) t k = if k.id == e then entry_then now t.recovery t.step k else k

abbrev pub entry_by_job : State → Option Unended → KeptRecovery → KeptRecovery
entry_by_job s None k = k
entry_by_job s (Some (unended.Plan j)) k = k
entry_by_job s (Some (unended.Recovery r d)) k =
    entry_of_turn (record { 0 = s.moment }) d.entry (hooked s.world s.book (next_count s.reads) (record { 0 = s.moment }) r d).taken k

-- ---- with a command

-- the cluster of which a command acknowledges the recoveries
abbrev pub cluster_of : BookState → Result Unit Refusal → Option ServerNo → Option (List ℕ)
cluster_of b (Err r) i = None
cluster_of b (Ok permit) None = None
cluster_of b (Ok permit) (Some i) = Some (label_at b i)

abbrev pub cluster_decided : State → CommandTurn → Decision → Option (List ℕ)
cluster_decided s c decision.BeginDowntime = None
cluster_decided s c decision.EndDowntime = None
cluster_decided s c decision.RegisterCandidate = None
cluster_decided s c decision.DisableRecoveries = None
cluster_decided s c decision.EnableRecoveries = None
cluster_decided s c decision.AckRecoveries = cluster_of s.book (permitted s.book c.command) c.command.i

abbrev pub cluster_acked : State → CommandTurn → Route → Option (List ℕ)
cluster_acked s c Discovers = None
cluster_acked s c Forgets = None
cluster_acked s c (Asks question) = None
cluster_acked s c (Decides d) = cluster_decided s c d
cluster_acked s c (Begins p) = None
cluster_acked s c Recovers = None
cluster_acked s c TakesOver = None

abbrev pub acked_in : Option (List ℕ) → KeptRecovery → KeptRecovery
acked_in None k = k
acked_in (Some cluster) k = if is_of cluster k then record k { acked = true } else k

-- ---- with a turn

-- None except its own job's turn ends it. None except that and an acknowledgement of its cluster acknowledges it. A
-- restart loads all anew.
abbrev pub entry_in_act : State → Act → KeptRecovery → KeptRecovery
entry_in_act s (act.PollRead p n) k = k
entry_in_act s (act.PollStore p) k = k
entry_in_act s (act.Command c) k = acked_in (cluster_acked s c (route_of c.command.name)) k
entry_in_act s (act.Job job) k = entry_by_job s (job_at s.jobs job) k
entry_in_act s act.Scan k = k
entry_in_act s act.Restart k = k

abbrev pub entry_in_done : State → Option Act → KeptRecovery → KeptRecovery
entry_in_done s None k = k
entry_in_done s (Some a) k = entry_in_act s a k

abbrev pub entry_after : State → Turn → KeptRecovery → KeptRecovery
entry_after s t k = entry_in_done s (act_in s t) k

-- each entry that there was becomes what the turn makes of it, and those that begin in it come after
abbrev pub AuditIs : List Row → State → Turn → Type 0
AuditIs rows s t = (turn_step rows s t).audit.recoveries ≡ map (entry_after s t) s.audit.recoveries ++ entries_begun s t

-- if the row store hands back the rows by which all was kept, a restart keeps each entry, and ends those that aren't
-- ended as interrupted
abbrev pub RestartKeepsAll : ℕ → List Row → State → Type 0
RestartKeepsAll count rows s = IsRising rows → FollowAudit count rows s.audit → (turn_step rows s (turn.Act act.Restart)).audit ≡ closed s.audit (interrupted_at rows s)
