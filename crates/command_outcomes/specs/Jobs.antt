-- The job that a command begins: what refuses it, of which servers it takes the leases, and the job itself.
use Rattle.std.specs.Prelude.{ℕ, Bool, true, false, List, [], Option, Some, None}
use Rattle.command_outcomes.specs.Prelude.{BookState, Case, Command, Coordinates, Gtids, Lead, Matches, Means, Moment, Op, Paths, Planner, Recovery}
use Rattle.command_outcomes.specs.Prelude.{Refusal, ServerNo, Unended, World, about, begun_recovery, job_with, no_docket, refused, replicas_of}
use Rattle.command_outcomes.specs.Prelude.coords
use Rattle.command_outcomes.specs.Prelude.coords_plans
use Rattle.command_outcomes.specs.Prelude.gtid_plans
use Rattle.command_outcomes.specs.Prelude.gtids
use Rattle.command_outcomes.specs.Prelude.match_plans
use Rattle.command_outcomes.specs.Prelude.matches
use Rattle.command_outcomes.specs.Prelude.means
use Rattle.command_outcomes.specs.Prelude.path_plans
use Rattle.command_outcomes.specs.Prelude.paths
use Rattle.command_outcomes.specs.Prelude.purpose
use Rattle.command_outcomes.specs.Prelude.unended

-- ---- a command of some kind about an instance, and the destination that is given

-- what refuses it at a moment, with marks at this distance
abbrev pub refusal_about : World → BookState → Moment → ℕ → Planner → ServerNo → Option ServerNo → Option Refusal
refusal_about w b now every (Coordinates kind) = coords.refusal_about w b kind
refusal_about w b now every (Gtids kind) = gtids.refusal_about w b kind
refusal_about w b now every (Paths kind) = paths.refusal_about w b now kind
refusal_about w b now every (Matches kind) = matches.refusal_about w b now every kind

-- which checks of its row come first, after the one that its instances are known
abbrev pub lead_of : Planner → Lead
lead_of (Coordinates kind) = coords.lead_of kind
lead_of (Gtids kind) = gtids.lead_of kind
lead_of (Paths kind) = paths.lead_of kind
lead_of (Matches kind) = matches.lead_of kind

-- what its checks are about
abbrev pub case_of : World → BookState → Planner → ServerNo → Option ServerNo → Case
case_of w b (Coordinates kind) = coords.case_of b kind
case_of w b (Gtids kind) = gtids.case_of b kind
case_of w b (Paths kind) = paths.case_of w b kind
case_of w b (Matches kind) = matches.case_of b kind

abbrev pub list_of : World → BookState → Planner → ServerNo → Option ServerNo → List ServerNo
list_of w b p i d = (case_of w b p i d).leased

-- its operations; none of a regroup
abbrev pub ops_of : World → BookState → ℕ → Planner → ServerNo → Option ServerNo → List Op
ops_of w b every (Coordinates kind) = coords_plans.ops_of w b kind
ops_of w b every (Gtids kind) = gtid_plans.ops_of b kind
ops_of w b every (Paths kind) = path_plans.ops_of w b kind
ops_of w b every (Matches kind) = match_plans.ops_of b every kind

abbrev pub unless_planned : Bool → Means → Option Means
unless_planned true by = None
unless_planned false by = Some by

-- how the others go in a regroup; none of a command that has a plan
abbrev pub means_of : ℕ → Planner → Option Means
means_of every (Coordinates kind) = None
means_of every (Gtids kind) = None
means_of every (Paths kind) = unless_planned (path_plans.is_planned kind) means.Bridges
means_of every (Matches kind) = unless_planned (match_plans.is_planned kind) (means.Matches every)

-- ---- a command

-- the refusal with the lowest number that applies
abbrev pub refusal_by : World → BookState → Moment → ℕ → Command → Planner → Option Refusal
refusal_by w b now every c p = refused b (refusal_about w b now every) (Some p) c

abbrev pub leases_by : World → BookState → Command → Planner → List ServerNo
leases_by w b c p = about [] (list_of w b) (Some p) c

abbrev pub plan_by : World → BookState → ℕ → Command → Planner → List Op
plan_by w b every c p = about [] (ops_of w b every) (Some p) c

-- the replicas of an instance are regrouped by some means, in name order
abbrev pub regroup_with : BookState → Means → ℕ → ℕ → ServerNo → Recovery
regroup_with b by id wait i = begun_recovery purpose.Regroup by id wait i (replicas_of b i) (replicas_of b i)

-- without an instance nothing is done
abbrev pub regroup_about : BookState → Means → ℕ → ℕ → Option ServerNo → Unended
regroup_about b by id wait None = unended.Plan (job_with id wait [])
regroup_about b by id wait (Some i) = unended.Recovery (regroup_with b by id wait i) no_docket

-- a regroup if means are given, else a plan
abbrev pub job_in : World → BookState → Command → Planner → ℕ → ℕ → ℕ → Option Means → Unended
job_in w b c p id wait every None = unended.Plan (job_with id wait (plan_by w b every c p))
job_in w b c p id wait every (Some by) = regroup_about b by id wait c.i

-- the command's job, with this number, whose operations may wait so often each, with marks at this distance
abbrev pub job_by : World → BookState → Command → Planner → ℕ → ℕ → ℕ → Unended
job_by w b c p id wait every = job_in w b c p id wait every (means_of every p)
