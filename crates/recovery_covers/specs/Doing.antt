-- What a turn of a recovery may change, and whom it chooses among or hands over.
use Rattle.std.specs.Prelude.{◌≡◌, ◌<◌, ◌+◌, ◌⊎◌, ℕ, true, false, List, Some, All}
use Rattle.recovery_covers.specs.Prelude.{Ask, Decisions, Exchange, Ground, IsFree, IsNext, Recovery, ServerNo, Task, World, is_master, is_takeover}
use Rattle.recovery_covers.specs.Prelude.asking
use Rattle.recovery_covers.specs.Prelude.model
use Rattle.recovery_covers.specs.Prelude.stage
use Rattle.recovery_covers.specs.Prelude.task
use Rattle.recovery_covers.specs.SoFar.{IsLost, stopped_nos}
use Rattle.recovery_covers.specs.Covers.{crowns, follower_nos, lost_nos, times}

-- a follower that has come to the end of the chosen one's log is to take its place; that one is promoted until then
pub record TakesPlace (r : Recovery) (q : ServerNo) : Type 0 where
  pub from : ServerNo
  pub stage : r.stage ≡ stage.Level from q
  pub chosen : r.chosen ≡ Some from
  pub promoted : r.outcome.promoted ≡ Some from
  pub follows : 0 < times q.0 (follower_nos r.outcome.followers)

-- A dead master's recovery resets the promoted one when it crowns it, or a follower that is to take its place. A
-- takeover resets the designated one when that takes its master's place.
abbrev pub MayReset : Recovery → ServerNo → Type 0
MayReset r n =
    ((is_master r.purpose ≡ true) × (((r.outcome.promoted ≡ Some n) × (r.stage ≡ stage.Crown n)) ⊎ TakesPlace r n))
    ⊎ ((is_takeover r.purpose ≡ true) × (r.chosen ≡ Some n) × (r.stage ≡ stage.Yield r.failed n))

-- What may be asked of a server in a turn that goes on, of the recovery as it was decided so far. Only a lost one is
-- detached. Only the promoted one takes writes, in its master's place and without a source; and only the old master of
-- a takeover refuses them. Nobody is attached again as it was.
abbrev pub MayAsk : World → Recovery → ServerNo → Ask → Type 0
MayAsk w r n asking.Detach = IsLost r n
MayAsk w r n asking.Reset = MayReset r n
MayAsk w r n (asking.SetReadOnly false) = (crowns r.purpose ≡ true) × (r.outcome.promoted ≡ Some n) × IsFree w n.0
MayAsk w r n (asking.SetReadOnly true) = (is_takeover r.purpose ≡ true) × (n ≡ r.failed)
MayAsk w r n asking.Reattach = ⊥
MayAsk w r n (asking.Stop which) = Unit {0}
MayAsk w r n asking.Start = Unit {0}
MayAsk w r n (asking.StartUntil to) = Unit {0}

abbrev pub MayMake : World → Recovery → Exchange → Type 0
MayMake w r (model.Request n a) = MayAsk w r (record { 0 = n }) a
MayMake w r (model.Attach n expect to at) = Unit {0}
MayMake w r (model.AttachAuto n observed to) = Unit {0}
MayMake w r (model.Write n size) = ⊥
MayMake w r (model.Fetch n) = ⊥
MayMake w r (model.Apply n) = ⊥
MayMake w r (model.Befall n e) = ⊥
MayMake w r (model.Rotate n) = ⊥
MayMake w r (model.Purge n file) = ⊥

-- so are all of a turn's exchanges
pub record MakesWell (w : World) (g : Ground) (r : Recovery) (es : List Exchange) : Type 0 where
  pub decided : Recovery
  pub so : Decisions g r decided
  pub each : All (MayMake w decided) es

-- if one is to be chosen each replica is drained, or lost
abbrev pub ChoosesAmongAll : Recovery → Type 0
ChoosesAmongAll r =
    (ts : List Task) → IsNext r task.Choosing ts → (n : ℕ) → 0 < times n r.replicas → 0 < times n (stopped_nos r.drained) + times n (lost_nos r.outcome.lost)

-- If drained ones are to be handed over to a successor, each replica is drained, lost, or was handed over and follows.
-- So all are drained or lost before the first is.
abbrev pub HandsOverAll : Recovery → Type 0
HandsOverAll r =
    (ts : List Task) → IsNext r task.Handing ts → (n : ℕ) → 0 < times n r.replicas
    → 0 < times n (stopped_nos r.drained) + (times n (lost_nos r.outcome.lost) + times n (follower_nos r.outcome.followers))

-- what becomes of the drained is decided over all replicas
abbrev pub DecidesOverAll : Recovery → Type 0
DecidesOverAll r = ChoosesAmongAll r × HandsOverAll r
