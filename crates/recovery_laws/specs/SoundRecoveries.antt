-- What holds for a recovery in a world without errant writes, beside.
use Rattle.std.specs.Prelude.{◌≡◌, true, List, Option, Some, IfSome, All}
use Rattle.recovery_laws.specs.Prelude.{AllBridged, AllJoinWell, AllMeet, Bridge, Coord, Match, Recovery, ServerNo, Sight, Stage, StandsIn, Stopped}
use Rattle.recovery_laws.specs.Prelude.{Taken, Task, Way, World, info, is_going, run}
use Rattle.recovery_laws.specs.Prelude.task
use Rattle.recovery_laws.specs.Prelude.way
use Rattle.recovery_laws.specs.HeldRecoveries.{stopped_bridge}

abbrev pub IsSoundWay : World → Way → Type 0
IsSoundWay w (way.Down b) = StandsIn w b
IsSoundWay w (way.Up b) = StandsIn w b
IsSoundWay w (way.Auto to exec) = Unit {0}
IsSoundWay w (way.Match to exec every) = Unit {0}

abbrev pub IsSoundTask : World → Task → Type 0
IsSoundTask w (task.Moving n by) = IsSoundWay w by
IsSoundTask w (task.Reading n) = Unit {0}
IsSoundTask w (task.Draining n) = Unit {0}
IsSoundTask w task.Choosing = Unit {0}
IsSoundTask w task.Handing = Unit {0}
IsSoundTask w task.Sorting = Unit {0}
IsSoundTask w (task.Expelling n) = Unit {0}
IsSoundTask w (task.Releasing n) = Unit {0}
IsSoundTask w (task.Trailing n) = Unit {0}
IsSoundTask w task.Yielding = Unit {0}

-- the bridge of a stopped replica is right
abbrev pub IsSoundStop : World → ServerNo → Stopped → Type 0
IsSoundStop w f s = (own : Coord) → s.own_end ≡ Some own → StandsIn w (stopped_bridge f s own)

-- the bridge by which a stage goes is right
abbrev pub IsSoundStage : World → Stage → Type 0
IsSoundStage w s = IfSome (info s).lead (StandsIn w)

-- each reading, match and bridge that is gone by, now or later, shows one point of two logs
pub record SoundParts (w : World) (seen : List Sight) (matches : List Match) (s : Stage) (ts : List Task) (f : ServerNo) (ds : List Stopped) (o : Option Bridge) : Type 0 where
  pub core : AllBridged w seen
  pub met : AllMeet w matches
  pub stage : IsSoundStage w s
  pub queue : All (IsSoundTask w) ts
  pub drained : All (IsSoundStop w f) ds
  pub lead : IfSome o (StandsIn w)

abbrev pub SoundRecovery : World → Recovery → Type 0
SoundRecovery w r = SoundParts w r.core.seen r.core.matches r.stage r.queue r.failed r.drained r.lead

-- in a `Safe` world each attachment joins well, and a recovery that goes on has `Sound`
pub record KeepsSoundRecovery (w : World) (t : Taken) : Type 0 where
  pub joins : AllJoinWell w t.exchanges
  pub sound : is_going t.step ≡ true → SoundRecovery (run w t.exchanges) t.recovery
