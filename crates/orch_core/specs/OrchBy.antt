use Rattle.std.specs.Prelude.{◌≡◌, ◌<◌, ◌≤◌, ℕ, length, map, slice_index}
use Rattle.orch_core.specs.Due.{last_poll}
use Rattle.orch_core.specs.Runs.{Recorded}
use Rattle.orch_core.specs.declared.orch.Orch.TheInside.{Inside}

-- what contracts see of a run with its journal
abbrev pub recorded_of : Inside → Recorded
recorded_of a = record { state = a.engine; journal = a.journal.items }

-- the places of the last poll-reads, one for each of 1 to 1,000 servers
pub record KeepsPolls (a : Inside) : Type 0 where
  pub count : length a.polls.items ≡ length a.engine.world.servers
  pub some : 0 < length a.polls.items
  pub few : length a.polls.items ≤ 1000
  pub each : (n : ℕ) → n < length a.polls.items → slice_index a.polls.items n ≡ last_poll n (map (λ e. e.0) a.journal.items)
