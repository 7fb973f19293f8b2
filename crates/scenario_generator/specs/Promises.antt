-- What is drawn, whatever the seed.
use Rattle.std.specs.Prelude.{◌≡◌, ◌≢◌, ℕ, ◌<◌, ◌≤◌, ◌/◌, ◌%◌, List, Some, slice_get}
use Rattle.scenario_generator.specs.declared.server.DrawnServer.{DrawnServer}
use Rattle.scenario_generator.specs.declared.server.DrawnServer.TheVariants.{Root, Replica}
use Rattle.scenario_generator.specs.declared.turn.DrawnTurn.{DrawnTurn}
use Rattle.scenario_generator.specs.declared.turn.DrawnTurn.TheVariants.{Write, Fetch, Apply, Rotate, PollRead, PollStore}
use Rattle.scenario_generator.specs.Servers.{count_at}

-- server n has an earlier source of its ten, and executed at most what that one has
pub record IsReplica (servers : List DrawnServer) (n source executed : ℕ) : Type 0 where
  pub inner : n % 10 ≢ 0
  pub earlier : source < n
  pub near : source / 10 ≡ n / 10
  pub few : executed ≤ count_at servers source

-- a server in its place
abbrev pub IsPlaced : List DrawnServer → ℕ → DrawnServer → Type 0
IsPlaced servers n Root = n % 10 ≡ 0
IsPlaced servers n (Replica source executed) = IsReplica servers n source executed

-- a root of so many servers takes 1 to 1,000 bytes
pub record IsWrite (servers root size : ℕ) : Type 0 where
  pub there : root < servers
  pub top : root % 10 ≡ 0
  pub some : 1 ≤ size
  pub small : size ≤ 1000

-- a turn of so many servers
abbrev pub IsTurnOf : ℕ → DrawnTurn → Type 0
IsTurnOf servers (Write root size) = IsWrite servers root size
IsTurnOf servers (Fetch n) = n < servers
IsTurnOf servers (Apply n) = n < servers
IsTurnOf servers (Rotate n) = n < servers
IsTurnOf servers (PollRead n) = n < servers
IsTurnOf servers PollStore = Unit {0}

-- each server is in its place
abbrev pub ArePlaced : List DrawnServer → Type 0
ArePlaced servers = (n : ℕ) (s : DrawnServer) → slice_get servers n ≡ Some s → IsPlaced servers n s

-- each turn is one of so many servers
abbrev pub AreTurnsOf : ℕ → List DrawnTurn → Type 0
AreTurnsOf servers turns = (k : ℕ) (t : DrawnTurn) → slice_get turns k ≡ Some t → IsTurnOf servers t
