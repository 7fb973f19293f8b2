use Rattle.std.specs.Prelude.{ℕ, ◌+◌, ◌≤◌, ◌<◌, List, drop, length, vec_capacity}
use Rattle.recovery_turns.specs.Prelude.{Recovery, ServerNo}
use Rattle.recovery_turns.specs.declared.recovery.RecoveryJob.TheInside.{Inside}
use Rattle.recovery_turns.specs.Cores.{core_of}

abbrev pub recovery_of : Inside → Recovery
recovery_of a = record {
  purpose = a.purpose;
  means = a.means;
  core = core_of a.core;
  stage = a.stage;
  queue = drop a.begun a.queue.items;
  failed = a.failed;
  replicas = a.replicas.items;
  order = a.order.items;
  drained = a.drained.items;
  chosen = a.chosen;
  lead = a.lead;
  eligible = a.eligible.items;
  swaps = a.swaps;
  outcome = record { promoted = a.outcome.promoted; followers = a.outcome.followers.items; lost = a.outcome.lost.items };
}

-- one entry for each replica, and some for the servers beside them
abbrev pub room_for : List ServerNo → ℕ
room_for replicas = length replicas + 8

-- each list has that room, and what is begun or done is of what was to do
pub record HasRoom (a : Inside) : Type 0 where
  pub begun : a.begun ≤ length a.queue.items
  pub within : a.core.done ≤ length a.core.ops.items
  pub seen : room_for a.replicas.items ≤ vec_capacity a.core.seen
  pub matches : room_for a.replicas.items ≤ vec_capacity a.core.matches
  pub hands : room_for a.replicas.items ≤ vec_capacity a.core.hands
  pub drained : room_for a.replicas.items ≤ vec_capacity a.drained
  pub followers : room_for a.replicas.items ≤ vec_capacity a.outcome.followers
  pub lost : room_for a.replicas.items ≤ vec_capacity a.outcome.lost

-- the lists that a stage's end makes longer are shorter than that, the list of what was seen by so many
pub record IsRoomy (more : ℕ) (r : Recovery) : Type 0 where
  pub seen : length r.core.seen + more ≤ room_for r.replicas
  pub drained : length r.drained < room_for r.replicas
  pub followers : length r.outcome.followers < room_for r.replicas
  pub lost : length r.outcome.lost < room_for r.replicas
