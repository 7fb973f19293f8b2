-- That recoveries go by servers of one cluster, now and later.
use Rattle.std.specs.Prelude.{◌≡◌, true, List, IfSome, All, Option}
use Rattle.tidy_laws.specs.Prelude.{Bridge, Job, Recovery, ServerNo, Stage, Stopped, Taken, Task, Unended, Way, World, info, is_going}
use Rattle.tidy_laws.specs.Prelude.task
use Rattle.tidy_laws.specs.Prelude.unended
use Rattle.tidy_laws.specs.Prelude.way
use Rattle.tidy_laws.specs.Clusters.{AreAlike, Clusters}
use Rattle.tidy_laws.specs.Trim.{AllOrderly}
use Rattle.tidy_laws.specs.Within.{IsJobWithin, IsReadWithin, IsWithinCluster}

-- the way of a server
abbrev pub IsWayWithin : Clusters → ServerNo → Way → Type 0
IsWayWithin c n (way.Down b) = IsWithinCluster c b
IsWayWithin c n (way.Up b) = IsWithinCluster c b
IsWayWithin c n (way.Auto to exec) = AreAlike c to.0 n.0
IsWayWithin c n (way.Match to exec every) = AreAlike c to.0 n.0

-- of the tasks of a failed server: if drained ones are handed over, the new source is of its cluster
abbrev pub IsTaskWithin : Clusters → ServerNo → Option ServerNo → Task → Type 0
IsTaskWithin c f chosen (task.Moving n by) = IsWayWithin c n by
IsTaskWithin c f chosen task.Handing = IfSome chosen (λ s. AreAlike c s.0 f.0)
IsTaskWithin c f chosen (task.Reading n) = Unit {0}
IsTaskWithin c f chosen (task.Draining n) = Unit {0}
IsTaskWithin c f chosen task.Choosing = Unit {0}
IsTaskWithin c f chosen task.Sorting = Unit {0}
IsTaskWithin c f chosen (task.Expelling n) = Unit {0}
IsTaskWithin c f chosen (task.Releasing n) = Unit {0}
IsTaskWithin c f chosen (task.Trailing n) = Unit {0}
IsTaskWithin c f chosen task.Yielding = Unit {0}

-- the bridge by which a stage goes
abbrev pub IsStageWithin : Clusters → Stage → Type 0
IsStageWithin c s = IfSome (info s).lead (IsWithinCluster c)

-- of a job at a stage, with what is still to do of a failed server, what is drained, the new source, and the position
-- at which a replica stopped
pub record PartsWithin (c : Clusters) (j : Job) (s : Stage) (ts : List Task) (f : ServerNo) (ds : List Stopped) (chosen : Option ServerNo) (o : Option Bridge) : Type 0 where
  pub core : IsJobWithin c j
  pub stage : IsStageWithin c s
  pub queue : All (IsTaskWithin c f chosen) ts
  pub drained : All (λ d. AreAlike c d.no.0 f.0) ds
  pub lead : IfSome o (IsWithinCluster c)

-- a recovery under way
abbrev pub IsRecoveryWithin : Clusters → Recovery → Type 0
IsRecoveryWithin c r = PartsWithin c r.core r.stage r.queue r.failed r.drained r.chosen r.lead

-- its turn makes exchanges in order, and leaves it so if it goes on
pub record KeepsWithin (c : Clusters) (w : World) (t : Taken) : Type 0 where
  pub orderly : AllOrderly c w t.exchanges
  pub recovery : is_going t.step ≡ true → IsRecoveryWithin c t.recovery
  pub read : IfSome t.observation (IsReadWithin c)

-- an unended job
abbrev pub IsUnendedWithin : Clusters → Unended → Type 0
IsUnendedWithin c (unended.Plan j) = IsJobWithin c j
IsUnendedWithin c (unended.Recovery r docket) = IsRecoveryWithin c r
