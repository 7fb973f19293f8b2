-- Openings: the servers of a scenario, within the limits and without a flaw.
use Rattle.std.specs.Prelude.{◌≡◌, ℕ, ◌*◌, ◌<◌, ◌≤◌, Bool, true, false, List, length, sum_by, All, Some, None, slice_get}
use Rattle.openings.specs.Prelude.{ServerNo, same_name}
use Rattle.openings.specs.declared.part.Part.{Part}
use Rattle.openings.specs.declared.init.ServerInit.{ServerInit}
use Rattle.openings.specs.Listed.{transactions}
use Rattle.openings.specs.Servers.{parts_of}
use Rattle.openings.specs.Flaws.{flaw_in}

-- the servers in the scenario's order, and whether they use GTIDs
pub record Opened : Type 0 where
  pub servers : List ServerInit
  pub gtid : Bool

abbrev pub opening : List ServerInit → Bool → Opened
opening servers gtid = record { servers = servers; gtid = gtid }

-- a part is of one of so many servers, with a size and a count in their ranges
pub record IsPart (servers : ℕ) (p : Part) : Type 0 where
  pub origin : p.origin.0 < servers
  pub some : 1 ≤ p.size
  pub size : p.size ≤ 1000000
  pub count : 1 ≤ p.count
  pub few : p.count ≤ 4000000

-- what speaks of a source alone isn't given
pub record IsAlone (i : ServerInit) : Type 0 where
  pub executed : i.executed ≡ 0
  pub at : i.at ≡ None
  pub read : i.read ≡ None
  pub auto : i.auto ≡ false
  pub detached : i.detached ≡ false
  pub until : i.until ≡ None

-- a server's numbers are in their ranges, and its source is one of the servers
pub record IsServer (servers : ℕ) (gtid : Bool) (i : ServerInit) : Type 0 where
  pub limit_low : 100 ≤ i.settings.limit
  pub limit_high : i.settings.limit ≤ 1073741824
  pub parts : All (IsPart servers) (parts_of i)
  pub flushes : length i.flushes ≤ 1000000
  pub purged : 1 ≤ i.purged
  pub source : (m : ServerNo) → i.source ≡ Some m → m.0 < servers
  pub alone : i.source ≡ None → IsAlone i
  pub auto : i.auto ≡ true → gtid ≡ true

-- 1 to 1,000 servers of different names and UUIDs, with at most 4,000,000 for their number times the listed
-- transactions
pub record IsListed (o : Opened) : Type 0 where
  pub some : 0 < length o.servers
  pub few : length o.servers ≤ 1000
  pub listed : length o.servers * sum_by (λ i. transactions (parts_of i)) o.servers ≤ 4000000
  pub each : (n : ℕ) (i : ServerInit) → slice_get o.servers n ≡ Some i → IsServer (length o.servers) o.gtid i
  pub names : (m n : ℕ) (i j : ServerInit) → slice_get o.servers m ≡ Some i → slice_get o.servers n ≡ Some j → same_name i.settings.name j.settings.name ≡ true → m ≡ n
  pub uuids : (m n : ℕ) (i j : ServerInit) → slice_get o.servers m ≡ Some i → slice_get o.servers n ≡ Some j → i.settings.uuid ≡ j.settings.uuid → m ≡ n

-- listed servers without a flaw
pub record IsChecked (o : Opened) : Type 0 where
  pub listed : IsListed o
  pub sound : flaw_in o.servers ≡ None
