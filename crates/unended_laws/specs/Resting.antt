-- At which positions the replicas of a recovery rest, from their stop until they are below their new source.
use Rattle.std.specs.Prelude.{◌≡◌, ◌⊎◌, ℕ, false, [], ◌∷◌, Some, None, All}
use Rattle.unended_laws.specs.Prelude.{Bridge, Coord, Job, Match, Server, ServerNo, Stage, Task, Way, World, match_found, source_no, tail_of}
use Rattle.unended_laws.specs.Prelude.op
use Rattle.unended_laws.specs.Prelude.spot
use Rattle.unended_laws.specs.Prelude.stage
use Rattle.unended_laws.specs.Prelude.task
use Rattle.unended_laws.specs.Prelude.way
use Rattle.unended_jobs.specs.RecoveryPlans.Recoveries.{Recovery}
use Rattle.unended_laws.specs.There.{Applies, IsApplying, IsThere}

-- ---- servers

-- both its threads are off
pub record IsHalted (s : Server) : Type 0 where
  pub receiver : s.receiver ≡ false
  pub applier : s.applier ≡ false

-- so they are, and this holds of how far it has executed its source's log. Or it started again, and its applier is on.
abbrev pub Halts : (Coord → Type 0) → Server → Type 0
Halts Q s = Applies s ⊎ (IsHalted s × Q s.exec)

abbrev pub WasStopped : Server → Type 0
WasStopped s = Halts (λ c. Unit {0}) s

-- its source is this server, whether it is attached or detached
abbrev pub HasSource : ℕ → Server → Type 0
HasSource m s = source_no s.source ≡ Some m

-- it was stopped below this server, at this coordinate, and is there or started again
abbrev pub Rests : ℕ → Coord → Server → Type 0
Rests m at s = HasSource m s × Halts (λ c. c ≡ at) s

-- ---- replicas that go some way

-- A replica that goes some way is expected below this server, at this coordinate. By GTIDs or a match that is where it
-- was drained below the failed server.
abbrev pub source_by : ServerNo → Way → ServerNo
source_by f (way.Down x) = x.source
source_by f (way.Up x) = x.no
source_by f (way.Auto to exec) = f
source_by f (way.Match to exec every) = f

abbrev pub coord_by : Way → Coord
coord_by (way.Down x) = x.exec
coord_by (way.Up x) = x.own
coord_by (way.Auto to exec) = exec
coord_by (way.Match to exec every) = exec

-- it rests there
abbrev pub RestsFor : World → ServerNo → ServerNo → Way → Type 0
RestsFor w f n by = IsThere (Rests (source_by f by).0 (coord_by by)) w n.0

-- so does each that is still to go
abbrev pub IsResting : World → ServerNo → Task → Type 0
IsResting w f (task.Moving n by) = RestsFor w f n by
IsResting w f (task.Reading n) = Unit {0}
IsResting w f (task.Draining n) = Unit {0}
IsResting w f task.Choosing = Unit {0}
IsResting w f task.Handing = Unit {0}
IsResting w f task.Sorting = Unit {0}
IsResting w f (task.Expelling n) = Unit {0}
IsResting w f (task.Releasing n) = Unit {0}
IsResting w f (task.Trailing n) = Unit {0}
IsResting w f task.Yielding = Unit {0}

-- the match by which it is to be attached was found where it was drained, unless it started again
abbrev pub IsMatchedThere : World → ServerNo → Job → ServerNo → Way → Type 0
IsMatchedThere w f j n (way.Match to exec every) =
    j.ops ≡ tail_of (stage.Move n (way.Match to exec every)) → (x : Match) → match_found j.matches n to ≡ Some x
    → IsApplying w n.0 ⊎ (x.spot ≡ spot.At f exec)
IsMatchedThere w f j n (way.Down x) = Unit {0}
IsMatchedThere w f j n (way.Up x) = Unit {0}
IsMatchedThere w f j n (way.Auto to exec) = Unit {0}

-- ---- a recovery

-- a replica is drained, or comes to the position at which the designated one stopped
abbrev pub IsStopping : Stage → ServerNo → Type 0
IsStopping s n = (s ≡ stage.Drain n) ⊎ ((x : Bridge) × (s ≡ stage.Trail n x))

-- Its replicas rest so far:
-- - One that was to be stopped is, once nothing is left but to read it.
-- - One that comes to the position at which the designated one stopped is below the failed server.
-- - Each that is drained rests where it was drained, until what becomes of it is decided.
-- - Each that is to go some way, or goes it, rests where it is expected, until it is below its new source.
-- - A match found it there.
pub record RestsSoFar (w : World) (r : Recovery) : Type 0 where
  pub stops : (n : ServerNo) → IsStopping r.stage n → r.core.ops ≡ op.Status n None ∷ [] → IsThere WasStopped w n.0
  pub trails : (n : ServerNo) (x : Bridge) → r.stage ≡ stage.Trail n x → IsThere (HasSource r.failed.0) w n.0
  pub drained : All (λ s. IsThere (Rests r.failed.0 s.exec) w s.no.0) r.drained
  pub queue : All (IsResting w r.failed) r.queue
  pub going : (n : ServerNo) (by : Way) → r.stage ≡ stage.Move n by → RestsFor w r.failed n by
  pub matched : (n : ServerNo) (by : Way) → r.stage ≡ stage.Move n by → IsMatchedThere w r.failed r.core n by
