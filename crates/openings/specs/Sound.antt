-- What the servers of a checked opening keep to.
use Rattle.std.specs.Prelude.{◌≡◌, ℕ, ◌≤◌, true, false, List, length, take, Some, None, slice_get}
use Rattle.openings.specs.Prelude.{Grounded, ServerNo, Txn, is_at_or_before, place}
use Rattle.openings.specs.declared.init.ServerInit.{ServerInit}
use Rattle.openings.specs.Listed.{listed_history}
use Rattle.openings.specs.Servers.{sources, parts_of, count_of, history_at, log_at, exec_of, read_of}
use Rattle.openings.specs.Kin.{histories_agree, is_home}
use Rattle.openings.specs.Flaws.{bad_flushes}

-- a server's source is there, logs, and has executed what the server has; the server's coordinates have their places in
-- its log
pub record IsUnder (servers : List ServerInit) (m : ℕ) (i : ServerInit) : Type 0 where
  pub source : ServerInit
  pub there : slice_get servers m ≡ Some source
  pub logs : source.settings.logs ≡ true
  pub executed : i.executed ≤ count_of source
  pub exec_place : place (log_at servers m) (exec_of servers i) ≡ Some i.executed
  pub read_place : (k : ℕ) × (place (log_at servers m) (read_of servers i) ≡ Some k)
  pub order : is_at_or_before (exec_of servers i) (read_of servers i) ≡ true

-- Each server with a source is below it, and no chain of sources comes back. What a server executed is the history that
-- is listed of it, or the first of its source's transactions, as many as it counts. Listed histories agree with one
-- another and with the origins of their transactions.
pub record IsSound (servers : List ServerInit) : Type 0 where
  pub alone : (n : ℕ) (i : ServerInit) (m : ServerNo) → slice_get servers n ≡ Some i → i.source ≡ Some m → i.history ≡ None
  pub under : (n : ℕ) (i : ServerInit) (m : ServerNo) → slice_get servers n ≡ Some i → i.source ≡ Some m → IsUnder servers m.0 i
  pub ends : (n : ℕ) → Grounded (sources servers) n
  pub counts : (n : ℕ) (i : ServerInit) → slice_get servers n ≡ Some i → length (history_at servers n) ≡ count_of i
  pub own : (n : ℕ) (i : ServerInit) → slice_get servers n ≡ Some i → i.source ≡ None → history_at servers n ≡ listed_history (parts_of i)
  pub begins : (n : ℕ) (i : ServerInit) (m : ServerNo) → slice_get servers n ≡ Some i → i.source ≡ Some m → history_at servers n ≡ take i.executed (history_at servers m.0)
  pub agree : (m n : ℕ) (i j : ServerInit) → slice_get servers m ≡ Some i → slice_get servers n ≡ Some j → i.source ≡ None → j.source ≡ None → (m ≡ n → ⊥) → histories_agree (listed_history (parts_of i)) (listed_history (parts_of j)) ≡ true
  pub home : (n : ℕ) (i : ServerInit) (t : Txn) → slice_get servers n ≡ Some i → i.source ≡ None → (k : ℕ) → slice_get (listed_history (parts_of i)) k ≡ Some t → is_home servers t ≡ true
  -- flush points rise, and none passes what was executed; a server without a log has none
  pub flushes : (n : ℕ) (i : ServerInit) → slice_get servers n ≡ Some i → bad_flushes i ≡ false
  -- the first kept file of each server is one of its log's; a server without a log has the one file of an empty log
  pub kept : (n : ℕ) (i : ServerInit) → slice_get servers n ≡ Some i → (1 ≤ i.purged) × (i.purged ≤ (log_at servers n).files)
