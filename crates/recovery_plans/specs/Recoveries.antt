-- Recoveries under way.
use Rattle.std.specs.Prelude.{Bool, false, ◌==◌, not, List, [], ◌∷◌, ◌++◌, filter, Option, Some, None}
use Rattle.recovery_plans.specs.Prelude.{Attached, Bridge, Job, Op, Position, ServerNo}
use Rattle.recovery_plans.specs.declared.means.Means.{Means}
use Rattle.recovery_plans.specs.declared.outcome.Follower.{Follower}
use Rattle.recovery_plans.specs.declared.outcome.LostReplica.{LostReplica}
use Rattle.recovery_plans.specs.declared.outcome.Stopped.{Stopped}
use Rattle.recovery_plans.specs.declared.purpose.Purpose.{Purpose}
use Rattle.recovery_plans.specs.declared.stage.Stage.{Stage}
use Rattle.recovery_plans.specs.declared.task.Task.{Task}
use Rattle.recovery_plans.specs.declared.why.Why.{Why}

-- what a recovery comes to: which server is promoted, who follows, and who is lost
pub record Outcome : Type 0 where
  pub promoted : Option ServerNo
  pub followers : List Follower
  pub lost : List LostReplica

-- A recovery:
-- - what it is for, and how the others go;
-- - its job, whose operations are those that are left of its stage, and what is still to do;
-- - the server that failed, or gives up its place;
-- - the replicas that the book had of it, and those that it reports, both in name order;
-- - the replicas that are drained and of which nothing is decided yet;
-- - the new source of the others;
-- - the position at which a designated replica stopped;
-- - the drained ones that might have been chosen;
-- - whether a better one is still to be looked for;
-- - what it came to so far.
pub record Recovery : Type 0 where
  pub purpose : Purpose
  pub means : Means
  pub core : Job
  pub stage : Stage
  pub queue : List Task
  pub failed : ServerNo
  pub replicas : List ServerNo
  pub order : List ServerNo
  pub drained : List Stopped
  pub chosen : Option ServerNo
  pub lead : Option Bridge
  pub eligible : List Stopped
  pub swaps : Bool
  pub outcome : Outcome

-- the position of a bridge's server when the bridge was taken
abbrev pub sight_of : Bridge → Position
sight_of b = record { own_end = Some b.own; source = Attached b.source; exec = b.exec; set = [] }

-- a stage begins, with its operations
abbrev pub working : Recovery → Stage → List Op → Recovery
working r s ops = record r { stage = s; core = record r.core { ops = ops; waited = 0 } }

-- ---- entries of the outcome

abbrev pub loses : Recovery → ServerNo → Why → Recovery
loses r n why = record r { outcome = record r.outcome { lost = r.outcome.lost ++ record { no = n; why = why; detached = false } ∷ [] } }

abbrev pub follows : Recovery → ServerNo → ServerNo → Recovery
follows r n p = record r { outcome = record r.outcome { followers = r.outcome.followers ++ record { no = n; source = p } ∷ [] } }

abbrev pub without_follower : List Follower → ServerNo → List Follower
without_follower xs n = filter (λ x. not (x.no.0 == n.0)) xs

abbrev pub follows_no_more : Recovery → Option ServerNo → Recovery
follows_no_more r None = r
follows_no_more r (Some n) = record r { outcome = record r.outcome { followers = without_follower r.outcome.followers n } }
