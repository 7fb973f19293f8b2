-- How many turns a recovery has at most before it ends.
use Rattle.std.specs.Prelude.{◌≡◌, ℕ, ◌+◌, ◌*◌, ◌≤◌, Bool, true, false, List, [], ◌∷◌, length}
use Rattle.recovery_plans.specs.OrchBase.declared.server.ServerNo.{ServerNo}
use Rattle.recovery_plans.specs.Operations.Ending.{turns_left}
use Rattle.recovery_plans.specs.declared.purpose.Purpose.{Purpose}
use Rattle.recovery_plans.specs.declared.purpose.Purpose.TheVariants as purpose
use Rattle.recovery_plans.specs.declared.stage.Stage.{Stage}
use Rattle.recovery_plans.specs.declared.task.Task.{Task}
use Rattle.recovery_plans.specs.declared.task.Task.TheVariants as task
use Rattle.recovery_plans.specs.Recoveries.{Recovery}
use Rattle.recovery_plans.specs.Table.{info}
use Rattle.recovery_ends.specs.Shapes.{Fits}

-- so many operations may come after a stage's own, for the same task
abbrev pub ops_after : Stage → ℕ
ops_after s = (info s).more

-- so many operations a task may take, if there are these replicas
abbrev pub ops_of_task : List ServerNo → Task → ℕ
ops_of_task ns (task.Reading n) = 1
ops_of_task ns (task.Draining n) = 7
ops_of_task ns task.Choosing = 0
ops_of_task ns task.Handing = 0
ops_of_task ns (task.Moving n by) = 3
ops_of_task ns task.Sorting = 2 * length ns
ops_of_task ns (task.Expelling n) = 1
ops_of_task ns (task.Releasing n) = 1
ops_of_task ns (task.Trailing n) = 8
ops_of_task ns task.Yielding = 6

abbrev pub ops_of_queue : List ServerNo → List Task → ℕ
ops_of_queue ns [] = 0
ops_of_queue ns (t ∷ ts) = ops_of_task ns t + ops_of_queue ns ts

-- nothing comes after the stages' own operations and those after them
abbrev pub closes : Stage → Bool
closes s = (info s).closes

-- with the swap, or without it
abbrev pub ops_of_crown : Bool → ℕ
ops_of_crown true = 18
ops_of_crown false = 5

-- so many operations may come last, when nothing is left to do
abbrev pub ops_last : Purpose → Bool → ℕ
ops_last purpose.Regroup swaps = 2
ops_last purpose.Master swaps = ops_of_crown swaps
ops_last (purpose.Intermediate s) swaps = 1
ops_last (purpose.Takeover d) swaps = 0

abbrev pub ops_at_end : Purpose → Bool → Bool → ℕ
ops_at_end u true swaps = 0
ops_at_end u false swaps = ops_last u swaps

-- so many operations may come beside those that are left of the stage
abbrev pub ops_to_come : Recovery → ℕ
ops_to_come r = ops_after r.stage + (ops_of_queue r.replicas r.queue + (3 * length r.drained + ops_at_end r.purpose (closes r.stage) r.swaps))

abbrev pub turns_to_end : Recovery → ℕ
turns_to_end r = turns_left r.core + (r.core.wait + 1) * ops_to_come r

-- no more waits were spent than an operation has, and a recovery without an operation isn't at its last stages
pub record IsCalm (r : Recovery) : Type 0 where
  pub waited : r.core.waited ≤ r.core.wait
  pub rests : r.core.ops ≡ [] → closes r.stage ≡ false

-- the operations that are left are the stage's, and it is calm
pub record IsShaped (r : Recovery) : Type 0 where
  pub fits : Fits r.stage r.core.ops
  pub calm : IsCalm r
