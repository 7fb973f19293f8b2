-- The entries that a log keeps, by the first of them.
use Rattle.std.specs.Prelude.{ℕ, length, if◌then◌else◌}
use Rattle.job_plans.specs.Prelude.{Server, purged_len}

-- the index of the first transaction that the log of a server keeps; if it doesn't log, how many it has executed
abbrev pub kept_from : Server → ℕ
kept_from s = if s.settings.logs then purged_len s else length s.history.txns
