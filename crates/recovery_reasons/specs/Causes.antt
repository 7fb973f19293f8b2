-- What a job's cause means for the world in which an operation stopped it.
use Rattle.std.specs.Prelude.{◌≡◌, ℕ, true, false, ◌||◌, ◌⊎◌, List, Some, Err}
use Rattle.recovery_reasons.specs.Prelude.{Cause, Coord, Interval, MatchFault, Server, ServerNo, Spot, Status, World, attach_answer}
use Rattle.recovery_reasons.specs.Prelude.{attach_auto_answer, cause_of_match, desk_answer, live_spot, match_logs, same_spot, seen_in, server_at}
use Rattle.recovery_reasons.specs.Prelude.{status}
use Rattle.recovery_reasons.specs.Prelude.attaching
use Rattle.recovery_reasons.specs.Prelude.cause

abbrev pub IsUnreached : World → ℕ → Type 0
IsUnreached w n = desk_answer (server_at w n) ≡ Err (record {})

-- the server is there, and a thread of it is on
pub record IsRunning (w : World) (n : ℕ) : Type 0 where
  pub server : Server
  pub there : server_at w n ≡ Some server
  pub running : (server.receiver || server.applier) ≡ true

-- an attachment of the server is refused for what its new source has purged
abbrev pub IsPurgedFor : World → ServerNo → ℕ → Type 0
IsPurgedFor w n first =
    ((expect : Spot) × (to : ServerNo) × (at : Coord) × (attach_answer w n.0 expect to.0 at (server_at w n.0) ≡ Err (attaching.Purged first)))
    ⊎ ((observed : List Interval) × (to : ServerNo) × (attach_auto_answer w n.0 observed to.0 (server_at w n.0) ≡ Err (attaching.Purged first)))

-- What the cause of an operation that works on server n alone means. None of them matches logs or runs hooks.
abbrev pub IsTrueOf : World → ServerNo → Cause → Type 0
IsTrueOf w n (cause.Unreachable m) = (m ≡ n) × IsUnreached w n.0
IsTrueOf w n (cause.WaitSpent m) = (m ≡ n) × ((s : Status) × (seen_in (status w n.0) ≡ Some s))
IsTrueOf w n (cause.Interfered m expected found) =
    (m ≡ n) × ((s : Server) × (server_at w n.0 ≡ Some s) × (found ≡ live_spot s expected) × (same_spot expected (live_spot s expected) ≡ false))
IsTrueOf w n (cause.Running m) = (m ≡ n) × IsRunning w n.0
IsTrueOf w n (cause.Loop m) = m ≡ n
IsTrueOf w n (cause.Errant m set) = (m ≡ n) × ((observed : List Interval) × (to : ServerNo) × (attach_auto_answer w n.0 observed to.0 (server_at w n.0) ≡ Err (attaching.Errant set)))
IsTrueOf w n (cause.Moved m source) = (m ≡ n) × ((s : Status) × (seen_in (status w n.0) ≡ Some s) × (s.source ≡ source))
IsTrueOf w n (cause.Purged m first) = (m ≡ n) × IsPurgedFor w n first
IsTrueOf w n (cause.Reachable m) = ⊥
IsTrueOf w n cause.NoCandidate = ⊥
IsTrueOf w n (cause.NoMark m) = ⊥
IsTrueOf w n (cause.Mismatch m entry) = ⊥
IsTrueOf w n (cause.HookFailed number exit) = ⊥

-- What the cause of a match means: the logs of the two don't match, for the reason in it.
abbrev pub IsMatchCause : World → ServerNo → ServerNo → ℕ → Cause → Type 0
IsMatchCause w n m every c = (fault : MatchFault) × (c ≡ cause_of_match n fault) × (match_logs w n m every ≡ Err fault)
