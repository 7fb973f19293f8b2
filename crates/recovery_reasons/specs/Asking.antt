-- Whom a recovery starts and stops, stage by stage.
use Rattle.std.specs.Prelude.{◌≡◌, ◌⊎◌, true, false, List, Some, All, map}
use Rattle.recovery_reasons.specs.Prelude.{Ask, Bridge, Contains, Decisions, Deed, Exchange, Ground, Recovery, ServerNo, Stage, Why, deed_of, is_takeover}
use Rattle.recovery_reasons.specs.Prelude.{why_of}
use Rattle.recovery_reasons.specs.Prelude.asking
use Rattle.recovery_reasons.specs.Prelude.deed
use Rattle.recovery_reasons.specs.Prelude.model
use Rattle.recovery_reasons.specs.Prelude.purpose
use Rattle.recovery_reasons.specs.Prelude.stage
use Rattle.recovery_reasons.specs.Changing.{ChangesIts}
use Rattle.recovery_reasons.specs.OnWay.{IsOnWay, KnowsLead}
use Rattle.recovery_reasons.specs.Reasons.{IsCaredFor, IsToRelease, SpeaksWith, lead_of}
use Rattle.recovery_reasons.specs.Steps.{AreLeft}

-- ---- whom

-- Who is let go: a lost one that is to be started. In a takeover whoever is lost on its way is started at once. In a
-- dead master's recovery a follower is that was to take the chosen one's place, if that was given up.
abbrev pub IsLetGo : Recovery → ServerNo → Type 0
IsLetGo r n =
    IsToRelease r.purpose (why_of r.outcome.lost n)
    ⊎ (((is_takeover r.purpose ≡ true) × ((y : Why) × Contains r.outcome.lost (record { no = n; why = y; detached = false })))
    ⊎ ((r.purpose ≡ purpose.Master) × (r.swaps ≡ false) × Contains (map (λ x. x.no) r.outcome.followers) n))

-- Whom a stage starts: a replica that is below its new source, one that is let go, and the better one that went back.
-- Then the chosen one, which follows the better one by now; and a regroup's chosen one, at last.
abbrev pub StartsAt : Recovery → Stage → ServerNo → Type 0
StartsAt r (stage.Move k by) n = n ≡ k
StartsAt r (stage.Join k p) n = n ≡ k
StartsAt r (stage.Release k) n = (n ≡ k) × IsLetGo r n
StartsAt r (stage.Return p q) n = n ≡ q
StartsAt r (stage.Resume p q) n = n ≡ q
StartsAt r (stage.Open q) n = (r.chosen ≡ Some n) × Contains r.outcome.followers (record { no = n; source = q })
StartsAt r (stage.Close lines) n = (r.purpose ≡ purpose.Regroup) × (r.chosen ≡ Some n)
StartsAt r stage.Idle n = ⊥
StartsAt r stage.Check n = ⊥
StartsAt r (stage.Read k) n = ⊥
StartsAt r (stage.Drain k) n = ⊥
StartsAt r (stage.Judged k) n = ⊥
StartsAt r (stage.Expel k) n = ⊥
StartsAt r (stage.Expelled k) n = ⊥
StartsAt r (stage.Level p q) n = ⊥
StartsAt r (stage.Swap p q) n = ⊥
StartsAt r (stage.Swapped p q) n = ⊥
StartsAt r (stage.Crown k) n = ⊥
StartsAt r (stage.Opened k) n = ⊥
StartsAt r (stage.Meet m d) n = ⊥
StartsAt r (stage.Shut m d) n = ⊥
StartsAt r (stage.Gather m d) n = ⊥
StartsAt r (stage.Look k x) n = ⊥
StartsAt r (stage.Looked k x) n = ⊥
StartsAt r (stage.Trail k x) n = ⊥
StartsAt r (stage.Halted k x) n = ⊥
StartsAt r (stage.Yield m d) n = ⊥
StartsAt r (stage.Switch m d) n = ⊥
StartsAt r (stage.Switched m d) n = ⊥

-- Whom a stage stops, or lets run up to a position first, at which it is stopped then. That is a replica that is
-- drained, the better one, or the designated one. Or it is a replica of a takeover that goes to the position at which
-- the designated one stopped.
abbrev pub StopsAt : Stage → ServerNo → Type 0
StopsAt (stage.Drain k) n = n ≡ k
StopsAt (stage.Level p q) n = n ≡ q
StopsAt (stage.Shut m d) n = n ≡ d
StopsAt (stage.Gather m d) n = n ≡ d
StopsAt (stage.Trail k x) n = n ≡ k
StopsAt stage.Idle n = ⊥
StopsAt stage.Check n = ⊥
StopsAt (stage.Read k) n = ⊥
StopsAt (stage.Judged k) n = ⊥
StopsAt (stage.Move k by) n = ⊥
StopsAt (stage.Join k p) n = ⊥
StopsAt (stage.Expel k) n = ⊥
StopsAt (stage.Expelled k) n = ⊥
StopsAt (stage.Release k) n = ⊥
StopsAt (stage.Swap p q) n = ⊥
StopsAt (stage.Swapped p q) n = ⊥
StopsAt (stage.Return p q) n = ⊥
StopsAt (stage.Resume p q) n = ⊥
StopsAt (stage.Crown k) n = ⊥
StopsAt (stage.Open k) n = ⊥
StopsAt (stage.Opened k) n = ⊥
StopsAt (stage.Meet m d) n = ⊥
StopsAt (stage.Look k x) n = ⊥
StopsAt (stage.Looked k x) n = ⊥
StopsAt (stage.Halted k x) n = ⊥
StopsAt (stage.Yield m d) n = ⊥
StopsAt (stage.Switch m d) n = ⊥
StopsAt (stage.Switched m d) n = ⊥
StopsAt (stage.Close lines) n = ⊥

-- ---- a turn

-- a stage starts and stops only those
abbrev pub AsksAt : Recovery → Stage → ServerNo → Ask → Type 0
AsksAt r s n asking.Start = StartsAt r s n
AsksAt r s n (asking.Stop which) = StopsAt s n
AsksAt r s n (asking.StartUntil to) = StopsAt s n
AsksAt r s n asking.Detach = Unit {0}
AsksAt r s n asking.Reattach = Unit {0}
AsksAt r s n asking.Reset = Unit {0}
AsksAt r s n (asking.SetReadOnly on) = Unit {0}

-- An exchange of a turn that goes on, of the recovery as it was decided so far. What is no orchestrator's isn't made.
abbrev pub IsAskedSo : Recovery → Exchange → Type 0
IsAskedSo r (model.Request n a) = AsksAt r r.stage (record { 0 = n }) a
IsAskedSo r (model.Attach n expect to at) = Unit {0}
IsAskedSo r (model.AttachAuto n observed to) = Unit {0}
IsAskedSo r (model.Write n size) = ⊥
IsAskedSo r (model.Fetch n) = ⊥
IsAskedSo r (model.Apply n) = ⊥
IsAskedSo r (model.Befall n e) = ⊥
IsAskedSo r (model.Rotate n) = ⊥
IsAskedSo r (model.Purge n file) = ⊥

-- so is each of a turn's exchanges
pub record AsksAsDue (g : Ground) (r : Recovery) (es : List Exchange) : Type 0 where
  pub decided : Recovery
  pub so : Decisions g r decided
  pub each : All (IsAskedSo decided) es

-- ---- so far

-- an operation does so
abbrev pub DoesAt : Recovery → Stage → Deed → Type 0
DoesAt r s (deed.Request n a) = AsksAt r s n a
DoesAt r s (deed.Until n to) = StopsAt s n
DoesAt r s (deed.Look n from) = Unit {0}
DoesAt r s (deed.Await n to) = Unit {0}
DoesAt r s (deed.AwaitSet n m) = Unit {0}
DoesAt r s (deed.Settle n) = Unit {0}
DoesAt r s (deed.Cross c a b) = Unit {0}
DoesAt r s (deed.Same n) = Unit {0}
DoesAt r s (deed.Auto n m) = Unit {0}
DoesAt r s (deed.Match n m every) = Unit {0}
DoesAt r s (deed.CrossMatch n m) = Unit {0}
DoesAt r s (deed.Finish lines) = Unit {0}

-- What is left of a stage does so. Only in a dead master's recovery a follower comes to the end of the chosen one's
-- log. Only in a takeover a replica goes to the position at which another stopped.
pub record AsksSoFar (r : Recovery) : Type 0 where
  pub ops : All (λ o. DoesAt r r.stage (deed_of o)) r.core.ops
  pub levels : (p q : ServerNo) → r.stage ≡ stage.Level p q → (r.purpose ≡ purpose.Master) × Contains (map (λ x. x.no) r.outcome.followers) q
  pub led : (x : Bridge) → lead_of r.stage ≡ Some x → is_takeover r.purpose ≡ true

-- A recovery speaks with its servers so, is on its way, and what is left of a stage that waits are its last operations.
-- It changes only its replicas, and in a takeover the master. There it knows the position at which the designated one
-- stopped. Only some of the lost are to be detached or started, and only those that are due are started and stopped.
pub record Speaks (r : Recovery) : Type 0 where
  pub says : SpeaksWith r
  pub way : IsOnWay r
  pub knows : KnowsLead r
  pub listed : AreLeft r.stage r.core.ops
  pub changes : ChangesIts r
  pub cares : IsCaredFor (λ x. true) r
  pub asks : AsksSoFar r
