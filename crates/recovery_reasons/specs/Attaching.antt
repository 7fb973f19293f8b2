-- Which attachments a turn makes, and what becomes of a replica by what its attachment answers.
use Rattle.std.specs.Prelude.{◌≡◌, ℕ, Bool, true, false, List, [], ◌∷◌, ◌++◌, Option, Some, Result, Ok, Err, All, option_map, ◌⊎◌}
use Rattle.recovery_reasons.specs.Prelude.{Ask, Attach, AttachAuto, Attached, AttachFault, Coord, Decisions, Detached, Exchange, Ground, Miss}
use Rattle.recovery_reasons.specs.Prelude.{Position, Recovery, Request, ServerNo, Taken, Way, Why, World, is_takeover, match_found}
use Rattle.recovery_reasons.specs.Prelude.{attach_answer_of, place_on, seen_of, server_at, spot_by, target}
use Rattle.recovery_reasons.specs.Prelude.attaching
use Rattle.recovery_reasons.specs.Prelude.cause
use Rattle.recovery_reasons.specs.Prelude.miss
use Rattle.recovery_reasons.specs.Prelude.op
use Rattle.recovery_reasons.specs.Prelude.spot
use Rattle.recovery_reasons.specs.Prelude.stage
use Rattle.recovery_reasons.specs.Prelude.step
use Rattle.recovery_reasons.specs.Prelude.way
use Rattle.recovery_reasons.specs.Prelude.whys as lost
use Rattle.recovery_reasons.specs.Reasons.{Fact, IsSent}

-- ---- which

-- The attachment by which a replica goes its way. By a bridge it is expected at the one end, and goes to the other. By
-- GTIDs it goes by the set of the last reading of its new source, and else by the match that was found.
abbrev pub attachment_by : Recovery → ServerNo → Way → Option Exchange
attachment_by r n (way.Down x) = Some (Attach n.0 (spot.At x.source x.exec) x.no x.own)
attachment_by r n (way.Up x) = Some (Attach n.0 (spot.At x.no x.own) x.source x.exec)
attachment_by r n (way.Auto to exec) = option_map (λ s. AttachAuto n.0 s.set to) (seen_of r.core.seen to.0)
attachment_by r n (way.Match to exec every) = option_map (λ x. Attach n.0 x.spot to x.at) (match_found r.core.matches n to)

-- An exchange of a turn that goes on, of the recovery as it was decided so far. A replica goes the way that it was
-- sent. A server goes below its replica, at the end of whose position it is expected, by the last reading of the
-- replica. The replica goes back below its source by the same reading. What is asked of a server attaches nobody.
pub data IsMadeSo (P : Fact → Bool) (r : Recovery) : Exchange → Type 0 where
  Goes : {e : Exchange} (n : ServerNo) (by : Way) → r.stage ≡ stage.Move n by → P (IsSent n by) ≡ true → attachment_by r n by ≡ Some e → IsMadeSo P r e
  About : (p q : ServerNo) (own : Coord) (last : Position) → (r.stage ≡ stage.Swap p q) ⊎ (r.stage ≡ stage.Switch p q) → seen_of r.core.seen q.0 ≡ Some last
      → last.own_end ≡ Some own → IsMadeSo P r (Attach p.0 (spot.OwnEnd last.exec) q own)
  Back : (p q m : ServerNo) (own : Coord) (last : Position) → r.stage ≡ stage.Return p q → seen_of r.core.seen q.0 ≡ Some last → last.own_end ≡ Some own
      → (last.source ≡ Attached m) ⊎ (last.source ≡ Detached m) → IsMadeSo P r (Attach q.0 (spot.OwnEnd own) m last.exec)
  Asks : (n : ℕ) (a : Ask) → IsMadeSo P r (Request n a)

-- so is each of a turn's exchanges
pub record AttachesAsSent (P : Fact → Bool) (g : Ground) (r : Recovery) (es : List Exchange) : Type 0 where
  pub decided : Recovery
  pub so : Decisions g r decided
  pub each : All (IsMadeSo P decided) es

-- ---- what becomes of it

-- it is below its new source, and is started next
pub record IsBelowNow (d : Recovery) (n : ServerNo) (by : Way) (e : Exchange) (t : Taken) : Type 0 where
  pub going : t.step ≡ step.Going
  pub made : t.exchanges ≡ e ∷ []
  pub stage : t.recovery.stage ≡ stage.Join n (target by)
  pub next : t.recovery.core.ops ≡ op.Start n ∷ []
  pub outcome : t.recovery.outcome ≡ d.outcome

-- it is lost for this, and the recovery goes on; in a takeover it is started next
pub record IsLostNow (d : Recovery) (n : ServerNo) (why : Why) (t : Taken) : Type 0 where
  pub going : t.step ≡ step.Going
  pub made : t.exchanges ≡ []
  pub lost : t.recovery.outcome.lost ≡ d.outcome.lost ++ record { no = n; why = why; detached = false } ∷ []
  pub others : t.recovery.outcome.followers ≡ d.outcome.followers
  pub started : is_takeover d.purpose ≡ true → (t.recovery.stage ≡ stage.Release n) × (t.recovery.core.ops ≡ op.Start n ∷ [])
  pub left : is_takeover d.purpose ≡ false → (t.recovery.stage ≡ stage.Idle) × (t.recovery.core.ops ≡ [])

-- one that goes by a match is lost for what its attachment met, and left in its place
pub record IsUnmatchedNow (d : Recovery) (n : ServerNo) (m : Miss) (t : Taken) : Type 0 where
  pub going : t.step ≡ step.Going
  pub made : t.exchanges ≡ []
  pub lost : t.recovery.outcome.lost ≡ d.outcome.lost ++ record { no = n; why = lost.unmatched m; detached = false } ∷ []
  pub left : (t.recovery.stage ≡ stage.Idle) × (t.recovery.core.ops ≡ [])

-- only by GTIDs it has transactions that its new source lacks
abbrev pub IsErrantNow : Recovery → ServerNo → Way → Taken → Type 0
IsErrantNow d n (way.Auto to exec) t = IsLostNow d n (lost.ahead exec) t
IsErrantNow d n (way.Down x) t = Unit {0}
IsErrantNow d n (way.Up x) t = Unit {0}
IsErrantNow d n (way.Match to exec every) t = Unit {0}

-- By GTIDs or by a bridge. Only one that would be below itself ends the recovery. No world is out of memory.
abbrev pub IsRefusedNow : World → Recovery → ServerNo → Way → AttachFault → Taken → Type 0
IsRefusedNow w d n by attaching.Unreachable t = IsLostNow d n lost.unreachable t
IsRefusedNow w d n by (attaching.Running at) t = IsLostNow d n (lost.moved (spot_by (server_at w n.0))) t
IsRefusedNow w d n by (attaching.Interfered expected found) t = IsLostNow d n (lost.moved found) t
IsRefusedNow w d n by attaching.Loop t = t.step ≡ step.Failed (cause.Loop n) []
IsRefusedNow w d n by (attaching.Errant set) t = IsErrantNow d n by t
IsRefusedNow w d n by (attaching.Purged first) t = IsLostNow d n (lost.purged (place_on by)) t
IsRefusedNow w d n by attaching.Memory t = Unit {0}

-- by a match
abbrev pub MissesNow : Recovery → ServerNo → AttachFault → Taken → Type 0
MissesNow d n attaching.Unreachable t = IsUnmatchedNow d n (miss.Unreachable n) t
MissesNow d n (attaching.Running at) t = IsUnmatchedNow d n miss.Running t
MissesNow d n (attaching.Interfered expected found) t = IsUnmatchedNow d n (miss.Interfered expected found) t
MissesNow d n attaching.Loop t = IsUnmatchedNow d n miss.Loop t
MissesNow d n (attaching.Errant set) t = Unit {0}
MissesNow d n (attaching.Purged first) t = IsUnmatchedNow d n (miss.Purged first) t
MissesNow d n attaching.Memory t = Unit {0}

abbrev pub IsAnsweredNow : World → Recovery → ServerNo → Way → AttachFault → Taken → Type 0
IsAnsweredNow w d n (way.Down x) fault t = IsRefusedNow w d n (way.Down x) fault t
IsAnsweredNow w d n (way.Up x) fault t = IsRefusedNow w d n (way.Up x) fault t
IsAnsweredNow w d n (way.Auto to exec) fault t = IsRefusedNow w d n (way.Auto to exec) fault t
IsAnsweredNow w d n (way.Match to exec every) fault t = MissesNow d n fault t

abbrev pub Becomes : World → Recovery → ServerNo → Way → Exchange → Result (Unit {0}) AttachFault → Taken → Type 0
Becomes w d n by e (Ok u) t = IsBelowNow d n by e t
Becomes w d n by e (Err fault) t = IsAnsweredNow w d n by fault t

-- the attachment of one that goes its way is made or refused in this turn: it isn't passed over
pub record IsTriedNow (w : World) (d : Recovery) (n : ServerNo) (by : Way) (t : Taken) : Type 0 where
  pub exchange : Exchange
  pub is : attachment_by d n by ≡ Some exchange
  pub becomes : Becomes w d n by exchange (attach_answer_of w exchange) t
