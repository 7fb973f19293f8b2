-- How much room histories and new files take in a run.
use Rattle.std.specs.Prelude.{◌≡◌, ◌≢◌, ℕ, ◌≤◌, length, Some}
use Rattle.replication_laws.specs.Prelude.{Apply, Attach, AttachAuto, Befall, Exchange, Fetch, Purge, Request, Rotate, Server, World, Write, apply}
use Rattle.replication_laws.specs.Prelude.{server_at, write}
use Rattle.replication_laws.specs.Prelude.applied_as
use Rattle.replication_laws.specs.Prelude.wrote

-- a server with this room for transactions that has executed at most so many
pub record Fitting (room total : ℕ) (s : Server) : Type 0 where
  pub room_is : s.history.room ≡ room
  pub within : length s.history.txns ≤ total

-- each server has this room, and has executed at most so many
abbrev pub AllFit : ℕ → ℕ → World → Type 0
AllFit room total w = (n : ℕ) (s : Server) → server_at w n ≡ Some s → Fitting room total s

-- each server's log has room for so many new files
abbrev pub HasFiles : ℕ → World → Type 0
HasFiles count w = (n : ℕ) (s : Server) → server_at w n ≡ Some s → count ≤ s.log.flushes

-- the exchange finds room in the history of its server
abbrev pub IsNotFull : World → Exchange → Type 0
IsNotFull w (Write n size) = (write w n size).0 ≢ wrote.Full
IsNotFull w (Apply n) = (apply w n).0 ≢ applied_as.Full
IsNotFull w (Fetch n) = Unit {0}
IsNotFull w (Request n a) = Unit {0}
IsNotFull w (Befall n e) = Unit {0}
IsNotFull w (Rotate n) = Unit {0}
IsNotFull w (Purge n file) = Unit {0}
IsNotFull w (Attach n expect to at) = Unit {0}
IsNotFull w (AttachAuto n observed to) = Unit {0}
