-- Readings of servers.
use Rattle.std.specs.Prelude.{ℕ}
use Rattle.command_outcomes.specs.Prelude.{Observation, ServerNo, World, seen_in, status}

-- a reading of a server, with this number, at this moment: what one status shows
abbrev pub reading_by : World → ServerNo → ℕ → ℕ → Observation
reading_by w n read now = record { no = n; read = read; moment = record { 0 = now }; seen = seen_in (status w n.0) }
