-- The job of a recovery, by its parts.
use Rattle.std.specs.Prelude.{◌≡◌, ◌<◌, ◌≤◌, drop, length, vec_capacity}
use Rattle.recovery_turns.specs.Prelude.{Job}
use Rattle.recovery_turns.specs.declared.job_parts.JobParts.{JobParts}

abbrev pub core_of : JobParts → Job
core_of c = record {
  id = c.id;
  wait = c.wait;
  ops = drop c.done c.ops.items;
  seen = c.seen.items;
  matches = c.matches.items;
  waited = c.waited;
  hands = c.hands.items;
}

-- there is room for one more sighting, for one more match, and for one more server in the hands
pub record HasRoomFor (c : JobParts) : Type 0 where
  pub seen : length c.seen.items < vec_capacity c.seen
  pub matches : length c.matches.items < vec_capacity c.matches
  pub hands : length c.hands.items < vec_capacity c.hands

-- the same room is there, and the operations that are done are of those that were to be done
pub record IsAsWide (c d : JobParts) : Type 0 where
  pub within : d.done ≤ length d.ops.items
  pub seen : vec_capacity d.seen ≡ vec_capacity c.seen
  pub matches : vec_capacity d.matches ≡ vec_capacity c.matches
  pub hands : vec_capacity d.hands ≡ vec_capacity c.hands
