-- What holds for a recovery in every world, with errant writes or without.
use Rattle.std.specs.Prelude.{◌≡◌, true, List, Option, Some, IfSome, All, is_some}
use Rattle.recovery_laws.specs.Prelude.{AllAllowed, Bridge, Coord, Fits, HeldJob, Job, Purpose, Recovery, Server, ServerNo, Sight, Spans, Stage, Stopped}
use Rattle.recovery_laws.specs.Prelude.{Taken, Task, Way, World, first_source, info, is_going, logs_at, run, seen_of, server_at}
use Rattle.recovery_laws.specs.Prelude.task
use Rattle.recovery_laws.specs.Prelude.way

-- GTIDs are used, and the server logs and was read
pub record IsAutoSource (w : World) (seen : List Sight) (n : ServerNo) : Type 0 where
  pub gtid : w.gtid ≡ true
  pub logs : logs_at w n.0 ≡ true
  pub read : is_some (seen_of seen n.0) ≡ true

-- a way can be tried: both ends of its bridge have places, or its new source is one by GTIDs, or logs
abbrev pub IsReadyWay : World → List Sight → Way → Type 0
IsReadyWay w seen (way.Down b) = Spans w b
IsReadyWay w seen (way.Up b) = Spans w b
IsReadyWay w seen (way.Auto to exec) = IsAutoSource w seen to
IsReadyWay w seen (way.Match to exec every) = logs_at w to.0 ≡ true

abbrev pub IsReady : World → List Sight → Task → Type 0
IsReady w seen (task.Moving n by) = IsReadyWay w seen by
IsReady w seen (task.Reading n) = Unit {0}
IsReady w seen (task.Draining n) = Unit {0}
IsReady w seen task.Choosing = Unit {0}
IsReady w seen task.Handing = Unit {0}
IsReady w seen task.Sorting = Unit {0}
IsReady w seen (task.Expelling n) = Unit {0}
IsReady w seen (task.Releasing n) = Unit {0}
IsReady w seen (task.Trailing n) = Unit {0}
IsReady w seen task.Yielding = Unit {0}

-- the bridge of a stopped replica, if its own log ended there
abbrev pub stopped_bridge : ServerNo → Stopped → Coord → Bridge
stopped_bridge f s own = record { no = s.no; source = f; own = own; exec = s.exec }

-- a replica that was stopped below the failed server: it was read; if it logs its own end was seen; and if that was
-- seen both ends have places
pub record IsStopped (w : World) (seen : List Sight) (f : ServerNo) (s : Stopped) : Type 0 where
  pub server : Server
  pub there : server_at w s.no.0 ≡ Some server
  pub read : is_some (seen_of seen s.no.0) ≡ true
  pub logs : server.settings.logs ≡ true → (own : Coord) × (s.own_end ≡ Some own)
  pub spans : (own : Coord) → s.own_end ≡ Some own → Spans w (stopped_bridge f s own)

-- the position at which a designated replica stopped below its master
pub record IsLead (w : World) (f : ServerNo) (b : Bridge) : Type 0 where
  pub spans : Spans w b
  pub below : b.source.0 ≡ f.0

-- the bridge by which a stage goes has places
abbrev pub IsReadyStage : World → Stage → Type 0
IsReadyStage w s = IfSome (info s).lead (Spans w)

-- the server that is named at the start as the new source logs
abbrev pub NamesLogging : World → Purpose → Type 0
NamesLogging w u = IfSome (first_source u) (λ n. logs_at w n.0 ≡ true)

-- For a job at a stage, with what is still to do of a failed server, what is drained, the position at which a replica
-- stopped, and the purpose. The operations that are left have `Held` and are the stage's. What is gone by later has
-- places. The new source that is named logs.
pub record HeldParts (w : World) (j : Job) (s : Stage) (ts : List Task) (f : ServerNo) (ds : List Stopped) (o : Option Bridge) (u : Purpose) : Type 0 where
  pub core : HeldJob w j
  pub stage : IsReadyStage w s
  pub fits : Fits s j.ops
  pub queue : All (IsReady w j.seen) ts
  pub drained : All (IsStopped w j.seen f) ds
  pub lead : IfSome o (IsLead w f)
  pub named : NamesLogging w u

-- a recovery under way
abbrev pub HeldRecovery : World → Recovery → Type 0
HeldRecovery w r = HeldParts w r.core r.stage r.queue r.failed r.drained r.lead r.purpose

-- a turn makes exchanges that are allowed, and leaves a recovery that goes on with `Held`
pub record KeepsRecovery (w : World) (t : Taken) : Type 0 where
  pub allowed : AllAllowed w t.exchanges
  pub held : is_going t.step ≡ true → HeldRecovery (run w t.exchanges) t.recovery
