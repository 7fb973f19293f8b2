-- Which failing operations may end a recovery.
use Rattle.std.specs.Prelude.{◌≡◌, ℕ, Some, ◌⊎◌, List}
use Rattle.recovery_reasons.specs.Prelude.{Bridge, Cause, Coord, Interval, ServerNo, Stage, Way}
use Rattle.recovery_reasons.specs.Prelude.cause
use Rattle.recovery_reasons.specs.Prelude.stage
use Rattle.recovery_reasons.specs.Prelude.way
use Rattle.recovery_reasons.specs.Reasons.{speaks_of}

-- a replica on its way wasn't reached, or started again; or it is elsewhere, or asks for what is purged
abbrev pub IsMissed : Cause → Type 0
IsMissed (cause.Unreachable m) = Unit {0}
IsMissed (cause.Running m) = Unit {0}
IsMissed (cause.Interfered m expected found) = Unit {0}
IsMissed (cause.Purged m first) = Unit {0}
IsMissed (cause.WaitSpent m) = ⊥
IsMissed (cause.Loop m) = ⊥
IsMissed (cause.Errant m set) = ⊥
IsMissed (cause.Moved m source) = ⊥
IsMissed (cause.Reachable m) = ⊥
IsMissed cause.NoCandidate = ⊥
IsMissed (cause.NoMark m) = ⊥
IsMissed (cause.Mismatch m entry) = ⊥
IsMissed (cause.HookFailed number exit) = ⊥

-- the log of one that goes by a match doesn't match its new source's, or it would be below itself
abbrev pub IsUnmatched : Cause → Type 0
IsUnmatched (cause.NoMark m) = Unit {0}
IsUnmatched (cause.Mismatch m entry) = Unit {0}
IsUnmatched (cause.Loop m) = Unit {0}
IsUnmatched (cause.Unreachable m) = ⊥
IsUnmatched (cause.Running m) = ⊥
IsUnmatched (cause.Interfered m expected found) = ⊥
IsUnmatched (cause.Purged m first) = ⊥
IsUnmatched (cause.WaitSpent m) = ⊥
IsUnmatched (cause.Errant m set) = ⊥
IsUnmatched (cause.Moved m source) = ⊥
IsUnmatched (cause.Reachable m) = ⊥
IsUnmatched cause.NoCandidate = ⊥
IsUnmatched (cause.HookFailed number exit) = ⊥

-- What doesn't end a recovery:
-- - one of its replicas isn't reached;
-- - one on its way to its new source is missed, or has transactions of its own;
-- - the log of one that goes by a match is another, or it would be below itself;
-- - one of a takeover takes too long;
-- - the better one can't take the chosen one's place;
-- - a lost one isn't reached.
pub record CanEnd (s : Stage) (c : Cause) : Type 0 where
  pub reached : (n m : ServerNo) → speaks_of s ≡ Some n → c ≡ cause.Unreachable m → ⊥
  pub missed : (n : ServerNo) (by : Way) → s ≡ stage.Move n by → IsMissed c → ⊥
  pub errant : (n to m : ServerNo) (exec : Coord) (set : List Interval) → s ≡ stage.Move n (way.Auto to exec) → c ≡ cause.Errant m set → ⊥
  pub unmatched : (n to : ServerNo) (exec : Coord) (every : ℕ) → s ≡ stage.Move n (way.Match to exec every) → IsUnmatched c → ⊥
  pub late : (n m : ServerNo) (x : Bridge) → s ≡ stage.Trail n x → c ≡ cause.WaitSpent m → ⊥
  pub better : (p q : ServerNo) → (s ≡ stage.Level p q) ⊎ (s ≡ stage.Swap p q) → ⊥
  pub lost : (n : ServerNo) → (s ≡ stage.Expel n) ⊎ (s ≡ stage.Release n) → ⊥
