-- Recoveries that begin.
use Rattle.std.specs.Prelude.{ℕ, Bool, true, false, ◌==◌, not, List, [], ◌∷◌, ◌++◌, map, filter, Option, Some, None}
use Rattle.recovery_plans.specs.Prelude.{Op, ServerNo, job_with}
use Rattle.recovery_plans.specs.Prelude.op
use Rattle.recovery_plans.specs.declared.means.Means.{Means}
use Rattle.recovery_plans.specs.declared.purpose.Purpose.{Purpose}
use Rattle.recovery_plans.specs.declared.purpose.Purpose.TheVariants as purpose
use Rattle.recovery_plans.specs.declared.stage.Stage.{Stage}
use Rattle.recovery_plans.specs.declared.stage.Stage.TheVariants as stage
use Rattle.recovery_plans.specs.declared.task.Task.{Task}
use Rattle.recovery_plans.specs.declared.task.Task.TheVariants as task
use Rattle.recovery_plans.specs.Recoveries.{Recovery}

abbrev pub first_stage : Purpose → ServerNo → Stage
first_stage purpose.Regroup f = stage.Idle
first_stage purpose.Master f = stage.Check
first_stage (purpose.Intermediate s) f = stage.Check
first_stage (purpose.Takeover d) f = stage.Meet f d

abbrev pub first_ops : Purpose → ServerNo → List Op
first_ops purpose.Regroup f = []
first_ops purpose.Master f = op.Status f None ∷ []
first_ops (purpose.Intermediate s) f = op.Status f None ∷ []
first_ops (purpose.Takeover d) f = op.Status f None ∷ []

-- the replicas without one
abbrev pub but : List ServerNo → ServerNo → List ServerNo
but replicas d = filter (λ n. not (n.0 == d.0)) replicas

abbrev pub first_tasks : Purpose → List ServerNo → List Task
first_tasks purpose.Regroup replicas = map task.Draining replicas ++ task.Choosing ∷ task.Sorting ∷ []
first_tasks purpose.Master replicas = map task.Draining replicas ++ task.Choosing ∷ task.Sorting ∷ []
first_tasks (purpose.Intermediate s) replicas = task.Reading s ∷ (map task.Draining replicas ++ task.Handing ∷ task.Sorting ∷ [])
first_tasks (purpose.Takeover d) replicas = map task.Trailing (but replicas d) ++ task.Yielding ∷ []

-- the new source, if it is known from the start
abbrev pub first_source : Purpose → Option ServerNo
first_source purpose.Regroup = None
first_source purpose.Master = None
first_source (purpose.Intermediate s) = Some s
first_source (purpose.Takeover d) = Some d

abbrev pub is_master : Purpose → Bool
is_master purpose.Regroup = false
is_master purpose.Master = true
is_master (purpose.Intermediate s) = false
is_master (purpose.Takeover d) = false

abbrev pub is_takeover : Purpose → Bool
is_takeover purpose.Regroup = false
is_takeover purpose.Master = false
is_takeover (purpose.Intermediate s) = false
is_takeover (purpose.Takeover d) = true

-- A recovery begins, as the job of this number, whose operations may wait so often each. It is of this server, with
-- these replicas, and it reports those. The others go by these means.
abbrev pub begun_recovery : Purpose → Means → ℕ → ℕ → ServerNo → List ServerNo → List ServerNo → Recovery
begun_recovery u by id wait failed replicas order = record {
  purpose = u;
  means = by;
  core = job_with id wait (first_ops u failed);
  stage = first_stage u failed;
  queue = first_tasks u replicas;
  failed = failed;
  replicas = replicas;
  order = order;
  drained = [];
  chosen = first_source u;
  lead = None;
  eligible = [];
  swaps = is_master u;
  outcome = record { promoted = first_source u; followers = []; lost = [] };
}
