-- Logs of servers that are kept while their replicas are looked at.
use Rattle.std.specs.Prelude.{◌≡◌, ℕ, List, length, Option, Some, slice_get}
use Rattle.opening_checks.specs.Prelude.{Index, ServerInit, log_at}

-- for each server its log, or nothing yet
pub record AreLogs (servers : List ServerInit) (logs : List (Option Index)) : Type 0 where
  pub count : length logs ≡ length servers
  pub each : (n : ℕ) (l : Index) → slice_get logs n ≡ Some (Some l) → l.log ≡ log_at servers n
