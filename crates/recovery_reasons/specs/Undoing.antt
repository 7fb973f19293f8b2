-- What a job leaves stopped, and what a turn makes good in which the recovery fails.
use Rattle.std.specs.Prelude.{◌≡◌, All, true, false, Option, Some, None, ◌⊎◌}
use Rattle.recovery_reasons.specs.Prelude.{Attach, Attached, Contains, Coord, Detached, Exchange, Position, Recovery, Request, Server, ServerNo, Stage}
use Rattle.recovery_reasons.specs.Prelude.{Taken, Threads, World, can_attach, can_reach, is_takeover, run, seen_of, server_at}
use Rattle.recovery_reasons.specs.Prelude.asking
use Rattle.recovery_reasons.specs.Prelude.spot
use Rattle.recovery_reasons.specs.Prelude.stage

-- ---- what is left stopped

-- Whom a turn stops is in the job's hands. Whoever was there stays, unless the turn starts it. Nobody else is there.
pub record KeepsHands (r : Recovery) (t : Taken) : Type 0 where
  pub takes : (n : ServerNo) (which : Threads) → Contains t.exchanges (Request n.0 (asking.Stop which)) → Contains t.recovery.core.hands n
  pub keeps : (n : ServerNo) → Contains r.core.hands n → Contains t.recovery.core.hands n ⊎ Contains t.exchanges (Request n.0 asking.Start)
  pub only : (n : ServerNo) → Contains t.recovery.core.hands n → Contains r.core.hands n ⊎ ((which : Threads) × Contains t.exchanges (Request n.0 (asking.Stop which)))

-- a turn in which the recovery fails starts whoever is there
pub record StartsHands (r : Recovery) (t : Taken) : Type 0 where
  pub starts : (n : ServerNo) → Contains r.core.hands n → Contains t.exchanges (Request n.0 asking.Start)

-- ---- the master of a takeover

-- The master that a takeover has closed to writes, at these stages: the failed one, until it is below the designated
-- one. Before that it isn't closed yet.
abbrev pub closed_at : ServerNo → Stage → Option ServerNo
closed_at f (stage.Meet m d) = None
closed_at f (stage.Shut m d) = None
closed_at f (stage.Switched m d) = None
closed_at f (stage.Open n) = None
closed_at f (stage.Opened n) = None
closed_at f (stage.Close lines) = None
closed_at f (stage.Switch m d) = Some m
closed_at f stage.Idle = Some f
closed_at f stage.Check = Some f
closed_at f (stage.Read n) = Some f
closed_at f (stage.Drain n) = Some f
closed_at f (stage.Judged n) = Some f
closed_at f (stage.Move n by) = Some f
closed_at f (stage.Join n p) = Some f
closed_at f (stage.Expel n) = Some f
closed_at f (stage.Expelled n) = Some f
closed_at f (stage.Release n) = Some f
closed_at f (stage.Level p q) = Some f
closed_at f (stage.Swap p q) = Some f
closed_at f (stage.Swapped p q) = Some f
closed_at f (stage.Return p q) = Some f
closed_at f (stage.Resume p q) = Some f
closed_at f (stage.Crown n) = Some f
closed_at f (stage.Gather m d) = Some f
closed_at f (stage.Look n x) = Some f
closed_at f (stage.Looked n x) = Some f
closed_at f (stage.Trail n x) = Some f
closed_at f (stage.Halted n x) = Some f
closed_at f (stage.Yield m d) = Some f

-- The attachment by which the designated one goes back below its master, by its last reading. It is made only if its
-- coordinate has a place in the master's log.
pub record GoesBack (w : World) (r : Recovery) (d : ServerNo) (e : Exchange) : Type 0 where
  pub last : Position
  pub seen : seen_of r.core.seen d.0 ≡ Some last
  pub own : Coord
  pub end : last.own_end ≡ Some own
  pub source : ServerNo
  pub below : (last.source ≡ Attached source) ⊎ (last.source ≡ Detached source)
  pub is : e ≡ Attach d.0 (spot.OwnEnd own) source last.exec
  pub can : can_attach w e ≡ true

-- a server that is there takes writes
pub record IsOpen (w : World) (n : ServerNo) : Type 0 where
  pub server : Server
  pub there : server_at w n.0 ≡ Some server
  pub writable : server.read_only ≡ false

-- An exchange of a turn in which the recovery fails. Whom the job stopped and didn't start again is started. The master
-- that a takeover has closed takes writes. If that one was to go below the designated one, this one goes back and is
-- started.
pub data MakesGood (w : World) (d : Recovery) : Exchange → Type 0 where
  Restarts : (n : ServerNo) → Contains d.core.hands n → MakesGood w d (Request n.0 asking.Start)
  Opens : (m : ServerNo) → is_takeover d.purpose ≡ true → closed_at d.failed d.stage ≡ Some m → MakesGood w d (Request m.0 (asking.SetReadOnly false))
  Starts : (m k : ServerNo) → is_takeover d.purpose ≡ true → d.stage ≡ stage.Switch m k → MakesGood w d (Request k.0 asking.Start)
  Returns : {e : Exchange} (m k : ServerNo) → is_takeover d.purpose ≡ true → d.stage ≡ stage.Switch m k → GoesBack w d k e → MakesGood w d e

-- A turn in which the recovery fails, as it was decided so far. If a takeover has closed its master that one takes
-- writes again if it is reached. If the master was to go below the designated one, that one goes back if this can be
-- made, and is started. The turn makes nothing else, except to start whom the job stopped.
pub record OpensAgain (w : World) (d : Recovery) (t : Taken) : Type 0 where
  pub opens : (m : ServerNo) → is_takeover d.purpose ≡ true → closed_at d.failed d.stage ≡ Some m → Contains t.exchanges (Request m.0 (asking.SetReadOnly false))
  pub writes : (m : ServerNo) → is_takeover d.purpose ≡ true → closed_at d.failed d.stage ≡ Some m → can_reach (server_at w m.0) ≡ true → IsOpen (run w t.exchanges) m
  pub back : (m k : ServerNo) (e : Exchange) → is_takeover d.purpose ≡ true → d.stage ≡ stage.Switch m k → GoesBack w d k e → Contains t.exchanges e
  pub starts : (m k : ServerNo) → is_takeover d.purpose ≡ true → d.stage ≡ stage.Switch m k → Contains t.exchanges (Request k.0 asking.Start)
  pub only : All (MakesGood w d) t.exchanges
