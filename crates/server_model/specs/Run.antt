-- Runs: lists of exchanges, one after another.
use Rattle.std.specs.Prelude.{◌≡◌, ℕ, ◌<◌, Bool, true, false, List, [], ◌∷◌, length, take, Some}
use Rattle.server_model.specs.Prelude.{Ask, Coord, Event, Interval, ServerNo, Spot, holds, place}
use Rattle.server_model.specs.declared.server.Server.{Server}
use Rattle.server_model.specs.Attach.{attach_at, same_spot, live_spot, IsTarget}
use Rattle.server_model.specs.Desk.{ask, befall, rotate}
use Rattle.server_model.specs.Purging.{purge}
use Rattle.server_model.specs.Exchanges.{write, fetch, apply}
use Rattle.server_model.specs.Gtids.{attach_auto, executed_set, IsAutoTarget}
use Rattle.server_model.specs.Worlds.{World, server_at}

-- one exchange: a client's write, a step of a replica's receiver or applier, what orchestrator asks of a server, what
-- happens to a server. The others are a new file of its log, a purge of files of its log, and an attachment by a
-- coordinate or by a set that was observed.
pub data Exchange : Type 0 where
  Write : (n size : ℕ) → Exchange
  Fetch : (n : ℕ) → Exchange
  Apply : (n : ℕ) → Exchange
  Request : (n : ℕ) (a : Ask) → Exchange
  Befall : (n : ℕ) (e : Event) → Exchange
  Rotate : (n : ℕ) → Exchange
  Purge : (n file : ℕ) → Exchange
  Attach : (n : ℕ) (expect : Spot) (to : ServerNo) (at : Coord) → Exchange
  AttachAuto : (n : ℕ) (observed : List Interval) (to : ServerNo) → Exchange

-- a client's write
abbrev pub is_write : Exchange → Bool
is_write (Write n size) = true
is_write (Fetch n) = false
is_write (Apply n) = false
is_write (Request n a) = false
is_write (Befall n e) = false
is_write (Rotate n) = false
is_write (Purge n file) = false
is_write (Attach n expect to at) = false
is_write (AttachAuto n observed to) = false

-- a new file is asked for
abbrev pub is_rotate : Exchange → Bool
is_rotate (Rotate n) = true
is_rotate (Write n size) = false
is_rotate (Fetch n) = false
is_rotate (Apply n) = false
is_rotate (Request n a) = false
is_rotate (Befall n e) = false
is_rotate (Purge n file) = false
is_rotate (Attach n expect to at) = false
is_rotate (AttachAuto n observed to) = false

abbrev pub after : World → Exchange → World
after w (Write n size) = (write w n size).1
after w (Fetch n) = (fetch w n).1
after w (Apply n) = (apply w n).1
after w (Request n a) = (ask w n a).1
after w (Befall n e) = befall w n e
after w (Rotate n) = (rotate w n).1
after w (Purge n file) = (purge w n file).1
after w (Attach n expect to at) = (attach_at w n expect to at).1
after w (AttachAuto n observed to) = (attach_auto w n observed to).1

-- what an exchange requires: a transaction takes some bytes, and the coordinate of an attachment has a place in the log
-- of its target. A server is attached by a set only if GTIDs are used, and only to one that logs.
abbrev pub Allowed : World → Exchange → Type 0
Allowed w (Write n size) = 0 < size
Allowed w (Fetch n) = Unit {0}
Allowed w (Apply n) = Unit {0}
Allowed w (Request n a) = Unit {0}
Allowed w (Befall n e) = Unit {0}
Allowed w (Rotate n) = Unit {0}
Allowed w (Purge n file) = Unit {0}
Allowed w (Attach n expect to at) = IsTarget w to.0 at
Allowed w (AttachAuto n observed to) = IsAutoTarget w to.0

-- what r executed is a prefix of what s executed, and the coordinate is the end of that prefix
pub record IsJunction (r s : Server) (at : Coord) : Type 0 where
  pub prefix : take (length r.history.txns) s.history.txns ≡ r.history.txns
  pub place : place s.log.log at ≡ Some (length r.history.txns)

-- the observed set is within what the server has executed
abbrev pub IsObserved : World → List Interval → ℕ → Type 0
IsObserved w observed to = (t : Server) → server_at w to ≡ Some t → (uuid n : ℕ) → holds observed uuid n ≡ true → holds (executed_set w t) uuid n ≡ true

-- An attachment of a server that is at the expected position leads to the end of its history. One by a set goes by a
-- set that is within the new source's.
abbrev pub JoinsWell : World → Exchange → Type 0
JoinsWell w (Attach n expect to at) =
    (r s : Server) → server_at w n ≡ Some r → server_at w to.0 ≡ Some s → same_spot expect (live_spot r expect) ≡ true → IsJunction r s at
JoinsWell w (AttachAuto n observed to) = IsObserved w observed to.0
JoinsWell w (Write n size) = Unit {0}
JoinsWell w (Fetch n) = Unit {0}
JoinsWell w (Apply n) = Unit {0}
JoinsWell w (Request n a) = Unit {0}
JoinsWell w (Befall n e) = Unit {0}
JoinsWell w (Rotate n) = Unit {0}
JoinsWell w (Purge n file) = Unit {0}

-- the world after a list of exchanges
abbrev pub run : World → List Exchange → World
run w [] = w
run w (e ∷ es) = run (after w e) es

-- each exchange of a run is allowed in the world to which those before it led
abbrev pub AllAllowed : World → List Exchange → Type 0
AllAllowed w [] = Unit {0}
AllAllowed w (e ∷ es) = Allowed w e × AllAllowed (after w e) es

-- and each joins well there
abbrev pub AllJoinWell : World → List Exchange → Type 0
AllJoinWell w [] = Unit {0}
AllJoinWell w (e ∷ es) = JoinsWell w e × AllJoinWell (after w e) es
