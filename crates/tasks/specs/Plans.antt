-- The answer in place of a single command if its plan is asked for: a function of the state after the scenario's turns.
-- Nothing is changed, and nothing is claimed.
use Rattle.std.specs.Prelude.{ℕ, ◌==◌, Bool, false, List, [], Option, Some, None, if◌then◌else◌}
use Rattle.orch_core.specs.CommandOutcomes.Jobs.{means_of as regroup_means}
use Rattle.tasks.specs.Prelude.{ClaimAnswer, Command, CommandTurn, Ground, HostPort, Line, Means, Purpose, Reply, Route, ServerNo, State, Unended}
use Rattle.tasks.specs.Prelude.{act_reply, active, after_act, claimed, has_branches, job_at, nodes_of, plan_text, recovery_plan, route_of}
use Rattle.tasks.specs.Prelude.{straight_lines, unwrap_or}
use Rattle.tasks.specs.Prelude.act
use Rattle.tasks.specs.Prelude.answered
use Rattle.tasks.specs.Prelude.claim
use Rattle.tasks.specs.Prelude.means
use Rattle.tasks.specs.Prelude.route
use Rattle.tasks.specs.Prelude.unended

-- ---- what the command is answered

-- the claim of the first of several orchestrators is refused if another's lasts
abbrev pub taken_by : ClaimAnswer → Option Reply
taken_by (claim.Taken node until) = Some (answered.Taken node until)
taken_by (claim.Held until) = None

-- the first one asks only if none is active
abbrev pub lasting_by : State → Option ℕ → Option Reply
lasting_by s (Some node) = None
lasting_by s None = taken_by (claimed s 1)

abbrev pub lasting : State → Option Reply
lasting s = if nodes_of s == 1 then None else lasting_by s (active s.claims s.moment)

-- whose claim lasts; else what orchestrator answers by what it knows now
abbrev pub planned_reply : CommandTurn → State → Reply
planned_reply c s = unwrap_or (lasting s) (act_reply s (act.Command c))

-- the state in which the command has begun its job; no row of the row store's is asked for
abbrev pub begun_state : CommandTurn → State → State
begun_state c s = after_act [] s (act.Command c)

-- ---- what is planned

-- lines, and whether they are one of several branches
pub record Planned : Type 0 where
  pub branches : Bool
  pub lines : List Line

abbrev pub straight : List Line → Planned
straight lines = record { branches = false; lines = lines }

-- how the replicas of a regroup go below the best of them; the distance of marks isn't given
abbrev pub means_of : Route → Means
means_of route.Discovers = means.Bridges
means_of route.Forgets = means.Bridges
means_of (route.Asks question) = means.Bridges
means_of (route.Decides decision) = means.Bridges
means_of (route.Begins planner) = unwrap_or (regroup_means 0 planner) means.Bridges
means_of route.Recovers = means.Bridges
means_of route.TakesOver = means.Bridges

-- by what is planned
abbrev pub ground_in : State → Ground
ground_in s = record { world = s.world; book = s.book; moment = record { 0 = s.moment } }

-- a recovery for a purpose, by its instance
abbrev pub recovery_planned : Ground → Purpose → Means → Option ServerNo → Planned
recovery_planned g u by None = straight []
recovery_planned g u by (Some i) = record { branches = has_branches u; lines = recovery_plan g u by i }

-- of a plan its operations; of a recovery the branch that is expected
abbrev pub planned_by : State → Command → Option Unended → Planned
planned_by s c None = straight []
planned_by s c (Some (unended.Plan job)) = straight (straight_lines s.book job.ops)
planned_by s c (Some (unended.Recovery r docket)) = recovery_planned (ground_in s) r.purpose (means_of (route_of c.name)) c.i

-- what is planned by the job of a number
abbrev pub planned_in : State → Command → ℕ → Planned
planned_in s c job = planned_by s c (job_at s.jobs job)

-- its text, for servers of these names
abbrev pub planned_text : List HostPort → Planned → List ℕ
planned_text names p = plan_text names p.branches p.lines
