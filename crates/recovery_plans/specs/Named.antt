-- Which servers a recovery changes and reads, now or later.
use Rattle.std.specs.Prelude.{◌≡◌, ℕ, ◌<◌, true, List, Option, Some, None, IfSome, All}
use Rattle.recovery_plans.specs.Prelude.{Bridge, Deed, Job, Op, ServerNo, change_of, deed_of, is_going, server_of}
use Rattle.recovery_plans.specs.Prelude.deed
use Rattle.recovery_plans.specs.declared.outcome.Follower.{Follower}
use Rattle.recovery_plans.specs.declared.outcome.Stopped.{Stopped}
use Rattle.recovery_plans.specs.declared.purpose.Purpose.{Purpose}
use Rattle.recovery_plans.specs.declared.purpose.Purpose.TheVariants as purpose
use Rattle.recovery_plans.specs.declared.stage.Stage.{Stage}
use Rattle.recovery_plans.specs.declared.task.Task.{Task}
use Rattle.recovery_plans.specs.declared.task.Task.TheVariants as task
use Rattle.recovery_plans.specs.Recoveries.{Recovery}
use Rattle.recovery_plans.specs.Table.{info}
use Rattle.recovery_plans.specs.Taking.{Taken}

-- the one server that an operation speaks with; a match speaks with two
abbrev pub spoken_to : Deed → Option ServerNo
spoken_to (deed.Look n from) = Some n
spoken_to (deed.Request n a) = Some n
spoken_to (deed.Until n aim) = Some n
spoken_to (deed.Await n aim) = Some n
spoken_to (deed.AwaitSet n m) = Some n
spoken_to (deed.Settle n) = Some n
spoken_to (deed.Cross c a b) = Some a
spoken_to (deed.Same n) = Some n
spoken_to (deed.Auto n m) = Some n
spoken_to (deed.Match n m every) = None
spoken_to (deed.CrossMatch n m) = Some n
spoken_to (deed.Finish lines) = None

-- the servers that a stage may change
abbrev pub changed_by : Stage → List ServerNo
changed_by s = (info s).changes

-- P holds of what an operation may change, and Q of the server that it speaks with
abbrev pub IsOpOf : (ℕ → Type 0) → (ℕ → Type 0) → Op → Type 0
IsOpOf P Q o = IfSome (change_of (deed_of o)) (λ n. P n.0) × IfSome (spoken_to (deed_of o)) (λ n. Q n.0)

abbrev pub IsTaskOf : (ℕ → Type 0) → (ℕ → Type 0) → ServerNo → Task → Type 0
IsTaskOf P Q f (task.Reading n) = Q n.0
IsTaskOf P Q f (task.Draining n) = P n.0
IsTaskOf P Q f task.Choosing = Unit {0}
IsTaskOf P Q f task.Handing = Unit {0}
IsTaskOf P Q f (task.Moving n by) = P n.0
IsTaskOf P Q f task.Sorting = Unit {0}
IsTaskOf P Q f (task.Expelling n) = P n.0
IsTaskOf P Q f (task.Releasing n) = P n.0
IsTaskOf P Q f (task.Trailing n) = P n.0
IsTaskOf P Q f task.Yielding = P f.0

-- a new source may be changed, but a successor is only read; a takeover changes the master, too
abbrev pub AreSourcesOf : (ℕ → Type 0) → (ℕ → Type 0) → Purpose → ServerNo → Option ServerNo → Type 0
AreSourcesOf P Q purpose.Regroup f chosen = IfSome chosen (λ n. P n.0)
AreSourcesOf P Q purpose.Master f chosen = IfSome chosen (λ n. P n.0)
AreSourcesOf P Q (purpose.Intermediate s) f chosen = IfSome chosen (λ n. Q n.0)
AreSourcesOf P Q (purpose.Takeover d) f chosen = P f.0

-- P holds for each server that may be changed, now or later, and Q for each that may be read. The servers are those of
-- a job at a stage, with what is still to do: the failed server, its replicas, those that are drained. Then the new
-- source, the replica that stopped, and the followers.
pub record ServersOf (P Q : ℕ → Type 0) (id : ℕ) (u : Purpose) (j : Job) (s : Stage) (ts : List Task) (f : ServerNo) (ns : List ServerNo) (ds : List Stopped) (chosen : Option ServerNo) (o : Option Bridge) (xs : List Follower) : Type 0 where
  pub number : j.id ≡ id
  pub ops : All (IsOpOf P Q) j.ops
  pub hands : All (λ n. P n.0) j.hands
  pub stage : All (λ n. P n.0) (changed_by s)
  pub queue : All (IsTaskOf P Q f) ts
  pub failed : Q f.0
  pub replicas : All (λ n. P n.0) ns
  pub drained : All (λ s. P s.no.0) ds
  pub sources : AreSourcesOf P Q u f chosen
  pub lead : IfSome o (λ b. P b.no.0)
  pub followers : All (λ x. P x.no.0) xs

-- of the recovery of a job's number
abbrev pub IsOf : (ℕ → Type 0) → (ℕ → Type 0) → ℕ → Recovery → Type 0
IsOf P Q id r = ServersOf P Q id r.purpose r.core r.stage r.queue r.failed r.replicas r.drained r.chosen r.lead r.outcome.followers

-- with what a recovery begins: its replicas; a successor is read; a takeover changes the master and the replica that is
-- to take its place
abbrev pub IsListOf : (ℕ → Type 0) → (ℕ → Type 0) → Purpose → ServerNo → Type 0
IsListOf P Q purpose.Regroup f = Unit {0}
IsListOf P Q purpose.Master f = Unit {0}
IsListOf P Q (purpose.Intermediate s) f = Q s.0
IsListOf P Q (purpose.Takeover d) f = P f.0 × P d.0

-- each server that a recovery changes or reads is one of so many
abbrev pub IsNamedRecovery : ℕ → Recovery → Type 0
IsNamedRecovery count r = IsOf (λ n. n < count) (λ n. n < count) r.core.id r

-- so it is after a turn, and P holds of each server that the turn changes
pub record KeepsOf (P Q : ℕ → Type 0) (id : ℕ) (t : Taken) : Type 0 where
  pub exchanges : All (λ e. P (server_of e)) t.exchanges
  pub servers : is_going t.step ≡ true → IsOf P Q id t.recovery
