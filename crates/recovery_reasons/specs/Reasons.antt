-- Why a replica is lost.
use Rattle.std.specs.Prelude.{◌≡◌, ℕ, Bool, true, false, ◌==◌, List, [], ◌∷◌, ◌++◌, Option, Some, None, Ok, Err, All, option_map, ◌⊎◌, filter, find, map}
use Rattle.recovery_reasons.specs.Prelude.{Attach, AttachAuto, Attached, AttachFault, BookState, Bridge, Cause, Contains, Coord, Decisions, Deed, ExecOf}
use Rattle.recovery_reasons.specs.Prelude.{HasExecutedMost, Interval, IsChoice, IsNext, IsOver, Job, LostReplica, MatchFault, Miss, Missed, Moment}
use Rattle.recovery_reasons.specs.Prelude.{Observation, Op, Position, Purpose, Recovery, ServerNo, Sight, Spot, Stage, Status, Stopped, Stops, Task}
use Rattle.recovery_reasons.specs.Prelude.{Way, Why, World, attach_answer_of, before, better_of, by_deed, cause_by, cause_of_match, chosen_of}
use Rattle.recovery_reasons.specs.Prelude.{closes, deed_of, desk_answer, drained_of, follower_of, ground_of, has_exec, has_own, info}
use Rattle.recovery_reasons.specs.Prelude.{is_at_or_before, is_barred, is_before, is_below, is_better, is_eligible, is_look, is_takeover}
use Rattle.recovery_reasons.specs.Prelude.{latest_that, logs_at, loss_of, match_found, match_logs, may_lead, nearer_order, place_on, position_of}
use Rattle.recovery_reasons.specs.Prelude.{reads_last, ring_at, rule_at, same_coord, seen_in, seen_of, server_at, sight_of, spoken_to, spot_by}
use Rattle.recovery_reasons.specs.Prelude.{spot_seen, status, stopped_at, tail_of, why_of}
use Rattle.recovery_reasons.specs.Prelude.attaching
use Rattle.recovery_reasons.specs.Prelude.cross
use Rattle.recovery_reasons.specs.Prelude.deed
use Rattle.recovery_reasons.specs.Prelude.lost as word
use Rattle.recovery_reasons.specs.Prelude.op
use Rattle.recovery_reasons.specs.Prelude.purpose
use Rattle.recovery_reasons.specs.Prelude.spot
use Rattle.recovery_reasons.specs.Prelude.stage
use Rattle.recovery_reasons.specs.Prelude.table
use Rattle.recovery_reasons.specs.Prelude.task
use Rattle.recovery_reasons.specs.Prelude.way
use Rattle.recovery_reasons.specs.Prelude.why
use Rattle.recovery_reasons.specs.Prelude.whys as lost
use Rattle.recovery_reasons.specs.Prelude.Operations.{Match}
use Rattle.recovery_reasons.specs.Causes.{IsRunning, IsUnreached}
use Rattle.recovery_reasons.specs.Choices.{IsBestOne, IsBetterOne, IsFirstOf}
use Rattle.recovery_reasons.specs.OnWay.{IsSwapping, chooses}
use Rattle.recovery_reasons.specs.Ways.{IsWayBelow, IsWayBeside}

-- If one is chosen, without GTIDs: a drained one that executed more than the chosen one. Or one that executed less, if
-- the book keeps no bridge of the chosen one below the failed server at that coordinate.
abbrev pub BesideChosen : World → BookState → ServerNo → Stopped → Stopped → Why → Type 0
BesideChosen w b f p s (why.Lost (word.Ahead c)) = (w.gtid ≡ false) × (c ≡ s.exec) × (is_before p.exec c ≡ true)
BesideChosen w b f p s (why.Lost (word.Behind c)) =
    (w.gtid ≡ false) × (c ≡ s.exec) × (is_before c p.exec ≡ true) × (latest_that (has_exec f c) (ring_at b.rings p.no) ≡ None)
BesideChosen w b f p s (why.Lost (word.Purged c)) = ⊥
BesideChosen w b f p s (why.Lost word.Unreachable) = ⊥
BesideChosen w b f p s (why.Lost (word.Moved at)) = ⊥
BesideChosen w b f p s (why.Lost word.NotLogging) = ⊥
BesideChosen w b f p s (why.Lost word.MustNot) = ⊥
BesideChosen w b f p s (why.Unmatched m) = ⊥

-- if nobody may be chosen: a drained one that doesn't log; or that logs and must not be promoted
abbrev pub WithoutChosen : World → BookState → Moment → Stopped → Why → Type 0
WithoutChosen w b now s (why.Lost word.NotLogging) = logs_at w s.no ≡ false
WithoutChosen w b now s (why.Lost word.MustNot) = (logs_at w s.no ≡ true) × (is_barred (rule_at b s.no now) ≡ true)
WithoutChosen w b now s (why.Lost (word.Ahead c)) = ⊥
WithoutChosen w b now s (why.Lost (word.Behind c)) = ⊥
WithoutChosen w b now s (why.Lost (word.Purged c)) = ⊥
WithoutChosen w b now s (why.Lost word.Unreachable) = ⊥
WithoutChosen w b now s (why.Lost (word.Moved at)) = ⊥
WithoutChosen w b now s (why.Unmatched m) = ⊥

-- without GTIDs, a drained one doesn't go below a successor: the book keeps no bridge of the failed server under it at
-- that coordinate
abbrev pub BelowSuccessor : World → BookState → ServerNo → ServerNo → Stopped → Type 0
BelowSuccessor w b f n s = (w.gtid ≡ false) × (latest_that (has_own n s.exec) (ring_at b.rings f) ≡ None)

-- the replica of which a stage's failing operation makes an entry
abbrev pub speaks_of : Stage → Option ServerNo
speaks_of s = (info s).speaks

-- the bridge by which a stage's replica goes to the position at which the designated one stopped
abbrev pub lead_of : Stage → Option Bridge
lead_of s = (info s).lead

-- while a replica goes to the position at which the designated one stopped, it waits for that alone
abbrev pub WaitsFor : Bridge → Deed → Type 0
WaitsFor x (deed.Await n to) = to ≡ ExecOf x.no
WaitsFor x (deed.AwaitSet n m) = ⊥
WaitsFor x (deed.Settle n) = ⊥
WaitsFor x (deed.Look n from) = Unit {0}
WaitsFor x (deed.Request n a) = Unit {0}
WaitsFor x (deed.Until n to) = Unit {0}
WaitsFor x (deed.Cross c a b) = Unit {0}
WaitsFor x (deed.Same n) = Unit {0}
WaitsFor x (deed.Auto n m) = Unit {0}
WaitsFor x (deed.Match n m every) = Unit {0}
WaitsFor x (deed.CrossMatch n m) = Unit {0}
WaitsFor x (deed.Finish lines) = Unit {0}

-- what is asked of a server, and nothing else
abbrev pub IsAsked : Deed → Type 0
IsAsked (deed.Request n a) = Unit {0}
IsAsked (deed.Look n from) = ⊥
IsAsked (deed.Until n to) = ⊥
IsAsked (deed.Await n to) = ⊥
IsAsked (deed.AwaitSet n m) = ⊥
IsAsked (deed.Settle n) = ⊥
IsAsked (deed.Cross c a b) = ⊥
IsAsked (deed.Same n) = ⊥
IsAsked (deed.Auto n m) = ⊥
IsAsked (deed.Match n m every) = ⊥
IsAsked (deed.CrossMatch n m) = ⊥
IsAsked (deed.Finish lines) = ⊥

-- unless it is that one itself, it waits for the position at which the designated one stopped
abbrev pub AimsAt : List Sight → ServerNo → Bridge → Type 0
AimsAt seen n x = (n.0 ≡ x.no.0 → ⊥) → option_map (λ s. s.exec) (seen_of seen x.no.0) ≡ Some x.exec

-- what a way goes by was seen: its bridge's server, as it was when the bridge was taken
abbrev pub ShowsWay : List Sight → Way → Type 0
ShowsWay seen (way.Down b) = seen_of seen b.no.0 ≡ Some (sight_of b)
ShowsWay seen (way.Up b) = seen_of seen b.no.0 ≡ Some (sight_of b)
ShowsWay seen (way.Auto to exec) = Unit {0}
ShowsWay seen (way.Match to exec every) = Unit {0}

-- a replica that is to go some way changes its source by what was seen, after a match of its log if it needs one, and
-- is started
abbrev pub GoesBy : Job → ServerNo → Way → Type 0
GoesBy j n by = ((j.ops ≡ tail_of (stage.Move n by)) ⊎ (j.ops ≡ before by n ++ tail_of (stage.Move n by))) × ShowsWay j.seen by

-- the attachment by a set is refused, which is that of the job's last reading of the new source
pub record IsRefusedBySet (w : World) (seen : List Sight) (n to : ServerNo) (fault : AttachFault) : Type 0 where
  pub last : Position
  pub read : seen_of seen to.0 ≡ Some last
  pub refused : attach_answer_of w (AttachAuto n.0 last.set to) ≡ Err fault

-- what the attachment is answered by which a replica goes its way; one that goes by a match is lost for a reason of its
-- own
abbrev pub IsRefusedOn : World → List Sight → ServerNo → Way → AttachFault → Type 0
IsRefusedOn w seen n (way.Down b) fault = attach_answer_of w (Attach n.0 (spot.At b.source b.exec) b.no b.own) ≡ Err fault
IsRefusedOn w seen n (way.Up b) fault = attach_answer_of w (Attach n.0 (spot.At b.no b.own) b.source b.exec) ≡ Err fault
IsRefusedOn w seen n (way.Auto to exec) fault = IsRefusedBySet w seen n to fault
IsRefusedOn w seen n (way.Match to exec every) fault = ⊥

-- Each operation that is left of such a stage works on its replica. The bridge is the position at which the designated
-- one was seen to stop, and what is waited for. A replica that is to go some way goes it by what was seen. One that has
-- come below its new source is only asked. One that is to go to the position at which another stopped is only read at
-- first. One that is to follow is started.
pub record SpeaksWith (r : Recovery) : Type 0 where
  pub ops : (n : ServerNo) → speaks_of r.stage ≡ Some n → All (λ o. spoken_to (deed_of o) ≡ Some n) r.core.ops
  pub lead : (x : Bridge) → lead_of r.stage ≡ Some x → r.lead ≡ Some x
  pub waits : (x : Bridge) → lead_of r.stage ≡ Some x → All (λ o. WaitsFor x (deed_of o)) r.core.ops
  pub aims : (n : ServerNo) (x : Bridge) → r.stage ≡ stage.Trail n x → AimsAt r.core.seen n x
  pub goes : (n : ServerNo) (by : Way) → r.stage ≡ stage.Move n by → GoesBy r.core n by
  pub asked : (n p : ServerNo) → r.stage ≡ stage.Join n p → All (λ o. IsAsked (deed_of o)) r.core.ops
  pub looks : (n : ServerNo) (x : Bridge) → r.stage ≡ stage.Look n x → All (λ o. is_look (deed_of o) ≡ true) r.core.ops
  pub starts : (n p : ServerNo) → (info r.stage).made ≡ table.Follows n p → (r.core.ops ≡ op.Start n ∷ []) ⊎ (r.core.ops ≡ [])

-- this task is next
abbrev pub IsDue : Task → Recovery → Type 0
IsDue t r = (ts : List Task) × IsNext r t ts

-- it goes to the position at which the designated one stopped, and is there or waits for it; it isn't that one
pub record IsTrailing (r : Recovery) (n : ServerNo) (x : Bridge) : Type 0 where
  pub speaks : speaks_of r.stage ≡ Some n
  pub leads : lead_of r.stage ≡ Some x
  pub lead : r.lead ≡ Some x
  pub apart : n.0 ≡ x.no.0 → ⊥

-- Why a server is lost in a turn, in its world and its book, of the recovery as it was decided so far.
pub data Reason (w : World) (b : BookState) (now : Moment) (r : Recovery) : ServerNo → Why → Type 0 where
  -- one of the drained is chosen, and this one of them executed more, or less without a bridge; or none may be chosen
  Beside : {why : Why} (p s : Stopped) → IsDue task.Choosing r → chosen_of (ground_of w b now) r.failed r.drained ≡ Some p → Contains r.drained s
      → BesideChosen w b r.failed p s why → Reason w b now r s.no why
  Without : {why : Why} (s : Stopped) → IsDue task.Choosing r → chosen_of (ground_of w b now) r.failed r.drained ≡ None → Contains r.drained s
      → WithoutChosen w b now s why → Reason w b now r s.no why
  -- the first of the drained is to go below the successor, and has no way there
  Below : (n : ServerNo) (s : Stopped) (ss : List Stopped) → IsDue task.Handing r → r.purpose ≡ purpose.Intermediate n → r.chosen ≡ Some n → r.drained ≡ s ∷ ss
      → BelowSuccessor w b r.failed n s → Reason w b now r s.no (lost.behind s.exec)
  -- an exchange with the stage's replica didn't reach it
  Unreached : {n : ServerNo} → speaks_of r.stage ≡ Some n → IsUnreached w n.0 → Reason w b now r n lost.unreachable
  -- its attachment found a thread on, another position, transactions that the new source lacks, or that one's place
  -- purged
  Running : {n : ServerNo} (by : Way) (at : Spot) → r.stage ≡ stage.Move n by → IsRefusedOn w r.core.seen n by (attaching.Running at) → IsRunning w n.0
      → Reason w b now r n (lost.moved (spot_by (server_at w n.0)))
  Interfered : {n : ServerNo} (by : Way) (expected found : Spot) → r.stage ≡ stage.Move n by → IsRefusedOn w r.core.seen n by (attaching.Interfered expected found)
      → Reason w b now r n (lost.moved found)
  Errant : {n : ServerNo} (to : ServerNo) (exec : Coord) (set : List Interval) → r.stage ≡ stage.Move n (way.Auto to exec)
      → IsRefusedOn w r.core.seen n (way.Auto to exec) (attaching.Errant set) → Reason w b now r n (lost.ahead exec)
  Purged : {n : ServerNo} (by : Way) (first : ℕ) → r.stage ≡ stage.Move n by → IsRefusedOn w r.core.seen n by (attaching.Purged first)
      → Reason w b now r n (lost.purged (place_on by))
  -- its log doesn't match its new source's; or its attachment by the match that was found of the two is refused
  Unmatched : {n : ServerNo} (to : ServerNo) (exec : Coord) (every : ℕ) (fault : MatchFault) (m : Miss) → r.stage ≡ stage.Move n (way.Match to exec every)
      → match_logs w n to every ≡ Err fault → loss_of (cause_of_match n fault) ≡ Some (Missed m) → Reason w b now r n (lost.unmatched m)
  Unattached : {n : ServerNo} (to : ServerNo) (exec : Coord) (every : ℕ) (x : Match) (fault : AttachFault) (m : Miss) → r.stage ≡ stage.Move n (way.Match to exec every)
      → match_found r.core.matches n to ≡ Some x → attach_answer_of w (Attach n.0 x.spot to x.at) ≡ Err fault → loss_of (cause_by n fault) ≡ Some (Missed m)
      → Reason w b now r n (lost.unmatched m)
  -- the stage's replica was read, and its source isn't the failed server
  Strayed : {n : ServerNo} (s : Status) → speaks_of r.stage ≡ Some n → reads_last r.stage ≡ true → seen_in (status w n.0) ≡ Some s
      → is_below (position_of s) r.failed ≡ false → Reason w b now r n (lost.moved (spot_seen s.source s.exec))
  -- it stopped, or waited in vain, elsewhere than at the position at which the designated one stopped
  Halted : {n : ServerNo} (x : Bridge) (s : Status) → IsTrailing r n x → reads_last r.stage ≡ true → seen_in (status w n.0) ≡ Some s
      → same_coord s.exec x.exec ≡ false → Reason w b now r n (lost.behind s.exec)
  Late : {n : ServerNo} (x : Bridge) (s : Status) → IsTrailing r n x → seen_in (status w n.0) ≡ Some s
      → is_at_or_before x.exec s.exec ≡ false → Reason w b now r n (lost.behind s.exec)

-- What a turn may report:
-- - a server is lost, or a lost one was detached, was started, or wasn't reached for that;
-- - a replica was stopped, and its position;
-- - one is chosen among those that might be;
-- - another is to take its place, or there is none, or this was given up;
-- - what was observed of a server;
-- - one below its new source was started;
-- - a master goes below the replica that takes its place;
-- - a replica is sent some way;
-- - a designated replica stopped at a coordinate of its master's log.
pub data Fact : Type 0 where
  IsLost : (n : ServerNo) (why : Why) → Fact
  IsDrained : (s : Stopped) → Fact
  IsChosen : (n : ServerNo) (among : List Stopped) → Fact
  IsBetter : (p q : ServerNo) → Fact
  HasNoBetter : (p : ServerNo) → Fact
  IsGivenUp : (p q : ServerNo) → Fact
  IsShown : (n : ServerNo) (seen : Position) → Fact
  IsStarted : (n : ServerNo) → Fact
  IsSwitched : (m : ServerNo) → Fact
  IsExpelled : (n : ServerNo) → Fact
  IsReleased : (n : ServerNo) → Fact
  IsPassed : (n : ServerNo) → Fact
  IsSent : (n : ServerNo) (by : Way) → Fact
  IsLed : (x : Bridge) → Fact

-- recoveries of a dead master or intermediate master
abbrev pub IsOfDead : Purpose → Type 0
IsOfDead purpose.Regroup = ⊥
IsOfDead purpose.Master = Unit {0}
IsOfDead (purpose.Intermediate s) = Unit {0}
IsOfDead (purpose.Takeover d) = ⊥

-- they detach a lost one that executed what its new source didn't, or less, or whose place is purged there; and nobody
-- else
abbrev pub IsToDetach : Purpose → Option Why → Type 0
IsToDetach u None = ⊥
IsToDetach u (Some (why.Lost (word.Ahead c))) = IsOfDead u
IsToDetach u (Some (why.Lost (word.Behind c))) = IsOfDead u
IsToDetach u (Some (why.Lost (word.Purged c))) = IsOfDead u
IsToDetach u (Some (why.Lost word.Unreachable)) = ⊥
IsToDetach u (Some (why.Lost (word.Moved at))) = ⊥
IsToDetach u (Some (why.Lost word.NotLogging)) = ⊥
IsToDetach u (Some (why.Lost word.MustNot)) = ⊥
IsToDetach u (Some (why.Unmatched m)) = ⊥

-- a lost one is elsewhere, or at the position at which its log didn't match
abbrev pub IsElsewhere : Why → Type 0
IsElsewhere (why.Lost (word.Moved at)) = Unit {0}
IsElsewhere (why.Unmatched m) = Unit {0}
IsElsewhere (why.Lost (word.Ahead c)) = ⊥
IsElsewhere (why.Lost (word.Behind c)) = ⊥
IsElsewhere (why.Lost (word.Purged c)) = ⊥
IsElsewhere (why.Lost word.Unreachable) = ⊥
IsElsewhere (why.Lost word.NotLogging) = ⊥
IsElsewhere (why.Lost word.MustNot) = ⊥

-- it was reached
abbrev pub IsReached : Why → Type 0
IsReached (why.Lost word.Unreachable) = ⊥
IsReached (why.Lost (word.Ahead c)) = Unit {0}
IsReached (why.Lost (word.Behind c)) = Unit {0}
IsReached (why.Lost (word.Purged c)) = Unit {0}
IsReached (why.Lost (word.Moved at)) = Unit {0}
IsReached (why.Lost word.NotLogging) = Unit {0}
IsReached (why.Lost word.MustNot) = Unit {0}
IsReached (why.Unmatched m) = Unit {0}

-- a recovery of a dead server starts the lost that are elsewhere, and a regroup all that were reached; a takeover's are
-- started at once
abbrev pub IsToRelease : Purpose → Option Why → Type 0
IsToRelease u None = ⊥
IsToRelease purpose.Regroup (Some y) = IsReached y
IsToRelease purpose.Master (Some y) = IsElsewhere y
IsToRelease (purpose.Intermediate s) (Some y) = IsElsewhere y
IsToRelease (purpose.Takeover d) (Some y) = ⊥

-- a server is to be started at this stage: one that is to follow; or, when nothing else is left, the chosen one
abbrev pub IsToStart : Stage → ServerNo → Type 0
IsToStart s n = ((p : ServerNo) × ((info s).made ≡ table.Follows n p)) ⊎ (closes s ≡ true)

-- a position is what a status shows
pub record Shows (s : Status) (p : Position) : Type 0 where
  pub own_end : p.own_end ≡ s.own_end
  pub source : p.source ≡ s.source
  pub exec : p.exec ≡ s.exec
  pub set : p.set ≡ s.set

-- the operation of this turn, in which it stops its job
pub record IsBefallen (w : World) (now : Moment) (r : Recovery) : Type 0 where
  pub read : ℕ
  pub op : Op
  pub rest : List Op
  pub ops : r.core.ops ≡ op ∷ rest
  pub cause : Cause
  pub observation : Option Observation
  pub stops : by_deed w read now r.core rest (deed_of op) ≡ Stops cause observation

-- Which of them are true of a turn, of the recovery as it was decided so far.
pub data IsTrue (w : World) (b : BookState) (now : Moment) (r : Recovery) : Fact → Type 0 where
  Loses : {n : ServerNo} {why : Why} → Reason w b now r n why → IsTrue w b now r (IsLost n why)
  -- the stage's replica was read below the failed server
  Drains : {n : ServerNo} (s : Status) → speaks_of r.stage ≡ Some n → reads_last r.stage ≡ true → seen_in (status w n.0) ≡ Some s
      → is_below (position_of s) r.failed ≡ true → IsTrue w b now r (IsDrained (stopped_at n (position_of s)))
  -- The first of the drained that may be promoted, by the book of this turn: none of these executed more. Of those that
  -- executed as much none has a better rule, a nearer data centre or an earlier name.
  Chooses : (p : Stopped) → IsDue task.Choosing r → chosen_of (ground_of w b now) r.failed r.drained ≡ Some p
      → HasExecutedMost is_eligible (map (drained_of (ground_of w b now) r.failed) r.drained) p.no → IsFirstOf w b now r.failed r.drained p.no
      → IsTrue w b now r (IsChosen p.no (filter (may_lead (ground_of w b now)) r.drained))
  -- The first of the followers that log and have a strictly better rank than the chosen one, by the book of this turn.
  -- The rank is the rule, then the failed server's data centre.
  Betters : {p q : ServerNo} → r.chosen ≡ Some p → better_of (ground_of w b now) r.failed p (map (λ x. x.no) r.outcome.followers) ≡ Some q
      → IsChoice (nearer_order b.names) (is_better (follower_of (ground_of w b now) r.failed p)) (map (follower_of (ground_of w b now) r.failed) (map (λ x. x.no) r.outcome.followers)) q
      → IsBestOne w b now r.failed p r.outcome.followers q → IsTrue w b now r (IsBetter p q)
  -- a better one is looked for, and there is none by the book of this turn
  Remains : {p : ServerNo} → IsOver r purpose.Master → r.swaps ≡ true → r.chosen ≡ Some p → ((n : ServerNo) → IsBetterOne w b now r.failed p r.outcome.followers n → ⊥)
      → IsTrue w b now r (HasNoBetter p)
  -- an operation stops by which the better one was to take the chosen one's place
  GivesUp : {p q : ServerNo} → (r.stage ≡ stage.Level p q) ⊎ (r.stage ≡ stage.Swap p q) → IsBefallen w now r → IsTrue w b now r (IsGivenUp p q)
  -- the operation speaks with a server, whose status shows this
  Reads : {n : ServerNo} {seen : Position} (o : Op) (rest : List Op) (s : Status) → r.core.ops ≡ o ∷ rest → spoken_to (deed_of o) ≡ Some n → seen_in (status w n.0) ≡ Some s
      → Shows s seen → IsTrue w b now r (IsShown n seen)
  -- the operation starts the server, which is reached
  Starts : {n : ServerNo} (rest : List Op) → IsToStart r.stage n → r.core.ops ≡ op.Start n ∷ rest → desk_answer (server_at w n.0) ≡ Ok tt → IsTrue w b now r (IsStarted n)
  -- the operation takes the master below the designated one
  Switches : {m : ServerNo} (d : ServerNo) (rest : List Op) → r.stage ≡ stage.Switch m d → r.core.ops ≡ op.Cross cross.About m d ∷ rest → IsTrue w b now r (IsSwitched m)
  -- the operation detaches a lost one, which is reached
  Expels : {n : ServerNo} (rest : List Op) → IsToDetach r.purpose (why_of r.outcome.lost n) → r.core.ops ≡ op.Detach n ∷ rest → desk_answer (server_at w n.0) ≡ Ok tt
      → IsTrue w b now r (IsExpelled n)
  -- the operation starts a lost one, which is reached; or one isn't reached that is to be detached or started
  Releases : {n : ServerNo} (rest : List Op) → r.stage ≡ stage.Release n → r.core.ops ≡ op.Start n ∷ rest → desk_answer (server_at w n.0) ≡ Ok tt → IsTrue w b now r (IsReleased n)
  Passes : {n : ServerNo} → (r.stage ≡ stage.Expel n) ⊎ (r.stage ≡ stage.Release n) → IsUnreached w n.0 → IsTrue w b now r (IsPassed n)
  -- one of the drained is chosen, and another is sent below it; or the first of them is sent below the successor
  SendsBeside : {by : Way} (p s : Stopped) → IsDue task.Choosing r → chosen_of (ground_of w b now) r.failed r.drained ≡ Some p → Contains r.drained s
      → IsWayBeside w b r.means r.failed p s by → IsTrue w b now r (IsSent s.no by)
  SendsBelow : {by : Way} (n : ServerNo) (s : Stopped) (ss : List Stopped) → IsDue task.Handing r → r.purpose ≡ purpose.Intermediate n → r.chosen ≡ Some n → r.drained ≡ s ∷ ss
      → IsWayBelow w b r.failed n s by → IsTrue w b now r (IsSent s.no by)
  -- it stopped where the designated one stopped, and is sent below that one there
  SendsThere : {n : ServerNo} (x : Bridge) (s : Status) → IsTrailing r n x → reads_last r.stage ≡ true → seen_in (status w n.0) ≡ Some s
      → same_coord s.exec x.exec ≡ true → IsTrue w b now r (IsSent n (way.Down x))
  -- the last reading of the designated one, below its master: where it stopped, and the end of its own log then
  Leads : {x : Bridge} (m : ServerNo) (s : Status) → r.stage ≡ stage.Gather m x.no → r.core.ops ≡ op.Status x.no (Some m) ∷ [] → seen_in (status w x.no.0) ≡ Some s
      → s.source ≡ Attached x.source → s.own_end ≡ Some x.own → s.exec ≡ x.exec → IsTrue w b now r (IsLed x)

-- Each fact counts that is true of the turn, of what is decided in it so far or of its operation.
abbrev pub ExplainsTruly : World → BookState → Moment → Recovery → (Fact → Bool) → Type 0
ExplainsTruly w b now r P = (d : Recovery) (x : Fact) → Decisions (ground_of w b now) r d → IsTrue w b now d x → P x ≡ true

abbrev pub AllLost : (Fact → Bool) → List LostReplica → Type 0
AllLost P xs = All (λ l. P (IsLost l.no l.why) ≡ true) xs

abbrev pub AllDrained : (Fact → Bool) → List Stopped → Type 0
AllDrained P xs = All (λ s. P (IsDrained s) ≡ true) xs

-- the promoted one was chosen; or one was, and this one is better
abbrev pub IsPromoted : (Fact → Bool) → List Stopped → ServerNo → Type 0
IsPromoted P among n = (P (IsChosen n among) ≡ true) ⊎ ((p : ServerNo) × (P (IsChosen p among) ≡ true) × (P (IsBetter p n) ≡ true))

-- what the job saw of a server was observed; or it is what a bridge has of its own server
abbrev pub IsSeenSo : (Fact → Bool) → Sight → Type 0
IsSeenSo P x = (P (IsShown x.no x.seen) ≡ true) ⊎ ((y : Bridge) × (x ≡ record { no = y.no; seen = sight_of y }))

-- the chosen one is to be started below the better one
abbrev pub IsYetToStart : Recovery → ServerNo → Type 0
IsYetToStart r n = (q : ServerNo) × (r.stage ≡ stage.Open q) × (r.core.ops ≡ op.Start n ∷ op.ReadOnly q false ∷ [])

-- a follower was started, or is yet to be; or it is a master that went below the designated one, and whose threads stay
-- off
abbrev pub IsUp : (Fact → Bool) → Recovery → ServerNo → Type 0
IsUp P r n = (P (IsStarted n) ≡ true) ⊎ ((P (IsSwitched n) ≡ true) ⊎ IsYetToStart r n)

-- it hasn't failed if the promoted one was to be opened
abbrev pub HasNotFailed : Recovery → Type 0
HasNotFailed r = (q : ServerNo) → r.stage ≡ stage.Open q → r.core.ops ≡ [] → ⊥

-- only those of these lost ones are to be detached, and only those to be started
abbrev pub IsOutSo : Purpose → List LostReplica → Task → Type 0
IsOutSo u xs (task.Expelling n) = IsToDetach u (why_of xs n)
IsOutSo u xs (task.Reading n) = Unit {0}
IsOutSo u xs (task.Draining n) = Unit {0}
IsOutSo u xs task.Choosing = Unit {0}
IsOutSo u xs task.Handing = Unit {0}
IsOutSo u xs (task.Moving n by) = Unit {0}
IsOutSo u xs task.Sorting = Unit {0}
IsOutSo u xs (task.Releasing n) = IsToRelease u (why_of xs n)
IsOutSo u xs (task.Trailing n) = Unit {0}
IsOutSo u xs task.Yielding = Unit {0}

-- who is to be detached or started, is being detached and was; and each that is marked as detached was
pub record IsCaredFor (P : Fact → Bool) (r : Recovery) : Type 0 where
  pub out : All (IsOutSo r.purpose r.outcome.lost) r.queue
  pub leaving : (n : ServerNo) → r.stage ≡ stage.Expel n → IsToDetach r.purpose (why_of r.outcome.lost n)
  pub ops : (n : ServerNo) → r.stage ≡ stage.Expel n → (r.core.ops ≡ op.Detach n ∷ []) ⊎ (r.core.ops ≡ [])
  pub left : (n : ServerNo) → r.stage ≡ stage.Expelled n → P (IsExpelled n) ≡ true
  pub told : All (λ l. l.detached ≡ true → P (IsExpelled l.no) ≡ true) r.outcome.lost

-- what becomes of a replica is decided in a task, or in a stage
abbrev pub leads_on : Task → Bool
leads_on (task.Reading n) = false
leads_on (task.Draining n) = true
leads_on task.Choosing = true
leads_on task.Handing = true
leads_on (task.Moving n by) = true
leads_on task.Sorting = false
leads_on (task.Expelling n) = false
leads_on (task.Releasing n) = false
leads_on (task.Trailing n) = false
leads_on task.Yielding = false

abbrev pub is_settling : Stage → Bool
is_settling stage.Idle = false
is_settling stage.Check = false
is_settling (stage.Read n) = false
is_settling (stage.Drain n) = true
is_settling (stage.Judged n) = true
is_settling (stage.Move n by) = true
is_settling (stage.Join n p) = true
is_settling (stage.Expel n) = false
is_settling (stage.Expelled n) = false
is_settling (stage.Release n) = false
is_settling (stage.Level p q) = false
is_settling (stage.Swap p q) = false
is_settling (stage.Swapped p q) = false
is_settling (stage.Return p q) = false
is_settling (stage.Resume p q) = false
is_settling (stage.Crown n) = false
is_settling (stage.Open n) = false
is_settling (stage.Opened n) = false
is_settling (stage.Meet m d) = false
is_settling (stage.Shut m d) = false
is_settling (stage.Gather m d) = false
is_settling (stage.Look n x) = false
is_settling (stage.Looked n x) = false
is_settling (stage.Trail n x) = false
is_settling (stage.Halted n x) = false
is_settling (stage.Yield m d) = false
is_settling (stage.Switch m d) = false
is_settling (stage.Switched m d) = false
is_settling (stage.Close lines) = false

-- such a task has that of the lost after it
abbrev pub AreSorted : List Task → Type 0
AreSorted [] = Unit {0}
AreSorted (t ∷ ts) = (leads_on t ≡ true → Contains ts task.Sorting) × AreSorted ts

-- whether it is marked as detached, if it is lost
abbrev pub mark_of : List LostReplica → ServerNo → Option Bool
mark_of xs n = option_map (λ l. l.detached) (find (λ l. l.no.0 == n.0) xs)

-- a lost one is marked as detached, or will be at the end of this stage
abbrev pub IsMarkedSo : Recovery → ServerNo → Type 0
IsMarkedSo r n = (mark_of r.outcome.lost n ≡ Some true) ⊎ (r.stage ≡ stage.Expelled n)

-- a lost one was detached and is marked so, or wasn't reached then, or is still to be
abbrev pub IsDetachedSo : (Fact → Bool) → Recovery → ServerNo → Type 0
IsDetachedSo P r n =
    ((P (IsExpelled n) ≡ true) × IsMarkedSo r n)
    ⊎ ((P (IsPassed n) ≡ true) ⊎ (Contains r.queue task.Sorting ⊎ (Contains r.queue (task.Expelling n) ⊎ (r.stage ≡ stage.Expel n))))

-- a lost one was started, or wasn't reached then, or is still to be
abbrev pub IsReleasedSo : (Fact → Bool) → Recovery → ServerNo → Type 0
IsReleasedSo P r n =
    (P (IsReleased n) ≡ true)
    ⊎ ((P (IsPassed n) ≡ true) ⊎ (Contains r.queue task.Sorting ⊎ (Contains r.queue (task.Releasing n) ⊎ (r.stage ≡ stage.Release n))))

-- Each replica that is to be detached, or started, is dealt with so once it is lost, unless nobody was found. A replica
-- is settled before the lost are looked at, except in a takeover. One that goes to the position at which the designated
-- one stopped is a takeover's.
pub record AreDealtWith (P : Fact → Bool) (r : Recovery) : Type 0 where
  pub sorted : AreSorted r.queue
  pub settling : is_settling r.stage ≡ true → is_takeover r.purpose ≡ false → Contains r.queue task.Sorting
  pub led : (x : Bridge) → lead_of r.stage ≡ Some x → is_takeover r.purpose ≡ true
  pub ops : (n : ServerNo) → r.stage ≡ stage.Release n → (r.core.ops ≡ op.Start n ∷ []) ⊎ (r.core.ops ≡ [])
  pub detached : (r.chosen ≡ None → ⊥) → (n : ServerNo) → Contains r.replicas n → IsToDetach r.purpose (why_of r.outcome.lost n) → IsDetachedSo P r n
  pub released : (r.chosen ≡ None → ⊥) → (n : ServerNo) → Contains r.replicas n → IsToRelease r.purpose (why_of r.outcome.lost n) → IsReleasedSo P r n

-- who is to go some way was sent that way
abbrev pub IsSentSo : (Fact → Bool) → Task → Type 0
IsSentSo P (task.Moving n by) = P (IsSent n by) ≡ true
IsSentSo P (task.Reading n) = Unit {0}
IsSentSo P (task.Draining n) = Unit {0}
IsSentSo P task.Choosing = Unit {0}
IsSentSo P task.Handing = Unit {0}
IsSentSo P task.Sorting = Unit {0}
IsSentSo P (task.Expelling n) = Unit {0}
IsSentSo P (task.Releasing n) = Unit {0}
IsSentSo P (task.Trailing n) = Unit {0}
IsSentSo P task.Yielding = Unit {0}

-- Each replica that is to go some way, or goes it, was sent that way. The position at which the designated one stopped
-- was read.
pub record AreSent (P : Fact → Bool) (r : Recovery) : Type 0 where
  pub queue : All (IsSentSo P) r.queue
  pub going : (n : ServerNo) (by : Way) → r.stage ≡ stage.Move n by → P (IsSent n by) ≡ true
  pub lead : (x : Bridge) → r.lead ≡ Some x → P (IsLed x) ≡ true

-- the better one takes the chosen one's place, was promoted, or was given up
abbrev pub IsSwapped : (Fact → Bool) → Recovery → ServerNo → ServerNo → Type 0
IsSwapped P r p q = IsSwapping r.stage p q ⊎ ((r.outcome.promoted ≡ Some q) ⊎ ((r.outcome.promoted ≡ Some p) × (P (IsGivenUp p q) ≡ true)))

-- a better one was looked for: there was none, and the chosen one is promoted, or there was
abbrev pub WasLooked : (Fact → Bool) → Recovery → ServerNo → Type 0
WasLooked P r p =
    ((r.outcome.promoted ≡ Some p) × (P (HasNoBetter p) ≡ true))
    ⊎ ((q : ServerNo) × (P (IsBetter p q) ≡ true) × IsSwapped P r p q)

-- What a recovery came to so far has facts that count: those that it has lost, drained and chosen, among whom, and whom
-- it has promoted. Then what it saw, who was started and detached, and who was sent which way. And once a master's
-- recovery looked for a better one, whom it found. That is done before the promoted one is opened.
pub record IsExplained (P : Fact → Bool) (r : Recovery) : Type 0 where
  pub lost : AllLost P r.outcome.lost
  pub drained : AllDrained P r.drained
  pub among : AllDrained P r.eligible
  pub chosen : (n : ServerNo) → chooses r.purpose ≡ true → r.chosen ≡ Some n → P (IsChosen n r.eligible) ≡ true
  pub promoted : (n : ServerNo) → chooses r.purpose ≡ true → r.outcome.promoted ≡ Some n → IsPromoted P r.eligible n
  pub swaps : (p q : ServerNo) → IsSwapping r.stage p q → (r.core.ops ≡ [] → ⊥) → (P (IsChosen p r.eligible) ≡ true) × (P (IsBetter p q) ≡ true)
  pub seen : All (IsSeenSo P) r.core.seen
  pub started : HasNotFailed r → All (λ x. IsUp P r x.no) r.outcome.followers
  pub below : (m d : ServerNo) → r.stage ≡ stage.Switched m d → P (IsSwitched m) ≡ true
  pub care : IsCaredFor P r
  pub dealt : AreDealtWith P r
  pub sent : AreSent P r
  pub opened : r.purpose ≡ purpose.Master → closes r.stage ≡ true → r.swaps ≡ false
  pub looked : (p : ServerNo) → r.purpose ≡ purpose.Master → r.chosen ≡ Some p → r.swaps ≡ false → WasLooked P r p

-- Who is promoted in a dead master's place, if this one was chosen. It is that one, if there was none better, or if an
-- operation stopped by which the better one was to take its place. Else it is the better one.
abbrev pub WasCrowned : (Fact → Bool) → ServerNo → Option ServerNo → Type 0
WasCrowned P p o =
    ((o ≡ Some p) × (P (HasNoBetter p) ≡ true))
    ⊎ ((q : ServerNo) × (P (IsBetter p q) ≡ true) × ((o ≡ Some q) ⊎ ((o ≡ Some p) × (P (IsGivenUp p q) ≡ true))))
