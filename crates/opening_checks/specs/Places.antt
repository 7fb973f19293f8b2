-- What the logs of all servers need.
use Rattle.std.specs.Prelude.{◌≡◌, ℕ, ◌≤◌, List, length, false, Some, slice_get}
use Rattle.opening_checks.specs.Prelude.{ServerInit, bad_files}

-- each limit of a log's files and each number of flush points is in its range
pub record LimitsInRange (servers : List ServerInit) : Type 0 where
  pub low : (n : ℕ) (i : ServerInit) → slice_get servers n ≡ Some i → 100 ≤ i.settings.limit
  pub high : (n : ℕ) (i : ServerInit) → slice_get servers n ≡ Some i → i.settings.limit ≤ 1073741824
  pub flushes : (n : ℕ) (i : ServerInit) → slice_get servers n ≡ Some i → length i.flushes ≤ 1000000

-- no server has bad flush points or a first kept file that is none of its log's
pub record FilesGood (servers : List ServerInit) : Type 0 where
  pub each : (n : ℕ) (i : ServerInit) → slice_get servers n ≡ Some i → bad_files servers n i ≡ false
