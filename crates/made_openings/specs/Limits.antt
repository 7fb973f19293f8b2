-- What is tested of the servers of an opening.
use Rattle.std.specs.Prelude.{◌≡◌, ◌<◌, ℕ, Bool, List, Some, length, slice_get}
use Rattle.openings.specs.Apart.{IsApart}
use Rattle.openings.specs.Opening.{IsServer}
use Rattle.openings.specs.declared.init.ServerInit.{ServerInit}

-- each server's numbers are in their ranges, and its source is one of the servers
abbrev pub AreServers : Bool → List ServerInit → Type 0
AreServers gtid servers = (n : ℕ) (i : ServerInit) → slice_get servers n ≡ Some i → IsServer (length servers) gtid i

-- each two servers have different names and UUIDs
abbrev pub AreApart : List ServerInit → Type 0
AreApart servers = (m n : ℕ) (i j : ServerInit) → m < n → slice_get servers m ≡ Some i → slice_get servers n ≡ Some j → IsApart i j
