-- The turn of a job, as a function: what it does by its first operation, the exchanges that it makes, and the job
-- after it.
use Rattle.std.specs.Prelude.{ℕ, zero, suc, ◌+◌, ◌-◌, Bool, true, false, ◌==◌, ◌&&◌, ◌||◌, not, nat_lt, if◌then◌else◌, List, [], ◌∷◌, ◌++◌, map, Option, Some, None, Result, Ok, Err}
use Rattle.operations.specs.Prelude.{Apply, Ask, Attach, AttachAuto, Attached, AttachFault, Befall, Bridge, Cause, Coord, Detached, Exchange, Fetch}
use Rattle.operations.specs.Prelude.{Interval, Line, Moment, Observation, Purge, Request, Rotate, ServerNo, SourceState, Spot, Status, Unreachable}
use Rattle.operations.specs.Prelude.{Without, World, Write, attach_at, attach_auto, bridge_by, desk_answer, holds, is_at_or_before, list_all}
use Rattle.operations.specs.Prelude.{option_and_then, option_map, same_coord, seen_in, server_at, status}
use Rattle.operations.specs.Prelude.asking
use Rattle.operations.specs.Prelude.attaching
use Rattle.operations.specs.Prelude.cause
use Rattle.operations.specs.Prelude.spot
use Rattle.operations.specs.declared.step.JobStep.{JobStep}
use Rattle.operations.specs.declared.step.JobStep.TheVariants as step
use Rattle.operations.specs.declared.op.Aim.{Aim}
use Rattle.operations.specs.declared.op.Aim.TheVariants as aim
use Rattle.operations.specs.declared.op.Crossing.{Crossing}
use Rattle.operations.specs.declared.op.Crossing.TheVariants as cross
use Rattle.operations.specs.declared.matching.Match.{Match}
use Rattle.operations.specs.declared.matching.MatchFault.{MatchFault}
use Rattle.operations.specs.declared.matching.MatchFault.TheVariants as matching
use Rattle.operations.specs.declared.op.Op.{Op}
use Rattle.operations.specs.declared.sight.Position.{Position}
use Rattle.operations.specs.declared.sight.Sight.{Sight}
use Rattle.operations.specs.Deeds as deed
use Rattle.operations.specs.Deeds.{Deed, deed_of}
use Rattle.operations.specs.Jobs.{Job, match_found, position_of, seen_of, with_seen, without, with_hand}
use Rattle.operations.specs.Matching.{match_logs, standing_at}
use Rattle.operations.specs.Targets.{can_attach}

-- What a turn of a job comes to, what it observed for the book, the exchanges that changed servers, in order, and the
-- job after it.
pub record Turned : Type 0 where
  pub step : JobStep
  pub observation : Option Observation
  pub exchanges : List Exchange
  pub job : Job

-- the job isn't ended
abbrev pub is_going : JobStep → Bool
is_going step.Going = true
is_going (step.Done lines) = false
is_going (step.Failed c lines) = false

-- the job with its operation done
abbrev pub next : Job → List Op → Job
next j rest = record j { ops = rest; waited = 0 }

-- the job that saw a server at this position, or so by a status
abbrev pub saw_at : Job → ServerNo → Position → Job
saw_at j n seen = record j { seen = with_seen j.seen n seen }

abbrev pub saw : Job → ServerNo → Status → Job
saw j n s = saw_at j n (position_of s)

abbrev pub going : Option Observation → List Exchange → Job → Turned
going o es j = record { step = step.Going; observation = o; exchanges = es; job = j }

-- each server that the job stopped and hasn't started is started; one that isn't reached is passed over
abbrev pub restarts : List ServerNo → List Exchange
restarts hands = map (λ n. Request n.0 asking.Start) hands

abbrev pub ended : Job → Job
ended j = record j { ops = []; hands = [] }

abbrev pub failed : Job → Cause → Option Observation → Turned
failed j c o = record { step = step.Failed c []; observation = o; exchanges = restarts j.hands; job = ended j }

-- What an operation comes to: the job goes on, after what was observed and these exchanges. Or it stops for a cause,
-- with what was observed, and nothing is done. Or it ends.
pub data Attempt : Type 0 where
  Goes : (o : Option Observation) (es : List Exchange) (j : Job) → Attempt
  Stops : (c : Cause) (o : Option Observation) → Attempt
  Ends : (lines : List Line) → Attempt

-- what a plan's job makes of it: it fails if it is stopped
abbrev pub settled : Job → Attempt → Turned
settled j (Goes o es k) = going o es k
settled j (Stops c o) = failed j c o
settled j (Ends lines) = record { step = step.Done lines; observation = None; exchanges = []; job = ended j }

-- ---- a status

abbrev pub observed : World → ℕ → Moment → ServerNo → Observation
observed w read now n = record { no = n; read = read; moment = now; seen = seen_in (status w n.0) }

-- a source is named, and the server isn't attached to it
abbrev pub is_moved : Option ServerNo → SourceState → Bool
is_moved None source = false
is_moved (Some m) Without = true
is_moved (Some m) (Attached k) = not (k.0 == m.0)
is_moved (Some m) (Detached k) = true

abbrev pub after_status : Job → List Op → ServerNo → Option ServerNo → Observation → Status → Bool → Attempt
after_status j rest n from o s moved = if moved then Stops (cause.Moved n s.source) (Some o) else Goes (Some o) [] (next (saw j n s) rest)

abbrev pub after_look : Job → List Op → ServerNo → Option ServerNo → Observation → Option Status → Attempt
after_look j rest n from o None = Stops (cause.Unreachable n) (Some o)
after_look j rest n from o (Some s) = after_status j rest n from o s (is_moved from s.source)

-- ---- what is asked of a server

-- a server that is stopped is in the job's hands, until it is started; a start up to a coordinate is none
abbrev pub hands_after : List ServerNo → ServerNo → Ask → List ServerNo
hands_after hands n (asking.Stop which) = with_hand hands n
hands_after hands n asking.Start = without hands n
hands_after hands n (asking.StartUntil to) = hands
hands_after hands n asking.Detach = hands
hands_after hands n asking.Reattach = hands
hands_after hands n asking.Reset = hands
hands_after hands n (asking.SetReadOnly on) = hands

abbrev pub after_ask : Job → List Op → ServerNo → Ask → Result (Unit {0}) Unreachable → Attempt
after_ask j rest n a (Ok t) = Goes None (Request n.0 a ∷ []) (record (next j rest) { hands = hands_after j.hands n a })
after_ask j rest n a (Err e) = Stops (cause.Unreachable n) None

-- ---- aims

abbrev pub aim_of : List Sight → Aim → Option Coord
aim_of xs (aim.EndOf n) = option_and_then (λ s. s.own_end) (seen_of xs n.0)
aim_of xs (aim.ExecOf n) = option_map (λ s. s.exec) (seen_of xs n.0)

-- the coordinate isn't before the aim
abbrev pub is_reached : Option Coord → Coord → Bool
is_reached None exec = false
is_reached (Some to) exec = is_at_or_before to exec

-- the coordinate to which a server is to go, if it was seen before it
abbrev pub until_by : Option Position → Option Coord → Option Coord
until_by None to = None
until_by (Some s) None = None
until_by (Some s) (Some to) = if is_at_or_before to s.exec then None else Some to

-- without such a coordinate the operation is passed over
abbrev pub after_until : World → Job → List Op → ServerNo → Option Coord → Attempt
after_until w j rest n None = Goes None [] (next j rest)
after_until w j rest n (Some to) = after_ask j rest n (asking.StartUntil to) (desk_answer (server_at w n.0))

-- ---- matches

abbrev pub cause_of_match : ServerNo → MatchFault → Cause
cause_of_match n (matching.Unreachable k) = cause.Unreachable k
cause_of_match n matching.NoMark = cause.NoMark n
cause_of_match n (matching.Mismatch k) = cause.Mismatch n k

-- the job that found a match
abbrev pub with_match : Job → Match → Job
with_match j m = record j { matches = j.matches ++ m ∷ [] }

abbrev pub after_match : Job → List Op → ServerNo → ServerNo → Spot → Result Coord MatchFault → Attempt
after_match j rest n m at (Ok c) = Goes None [] (next (with_match j (record { no = n; to = m; spot = at; at = c })) rest)
after_match j rest n m at (Err fault) = Stops (cause_of_match n fault) None

-- ---- waits

-- one more wait; the last one fails the job
abbrev pub waiting : Job → ServerNo → Status → Attempt
waiting j n s = if nat_lt (j.waited + 1) j.wait then Goes None [] (record (saw j n s) { waited = j.waited + 1 }) else Stops (cause.WaitSpent n) None

abbrev pub after_wait_by : Job → List Op → ServerNo → Status → Bool → Attempt
after_wait_by j rest n s reached = if reached then Goes None [] (next (saw j n s) rest) else waiting j n s

abbrev pub after_wait : Job → List Op → ServerNo → (Status → Bool) → Option Status → Attempt
after_wait j rest n reached None = Stops (cause.Unreachable n) None
after_wait j rest n reached (Some s) = after_wait_by j rest n s (reached s)

-- a set has so many GTIDs of a server, from one on
abbrev pub has_from : List Interval → ℕ → ℕ → ℕ → Bool
has_from ys uuid from zero = true
has_from ys uuid from (suc k) = holds ys uuid from && has_from ys uuid (from + 1) k

abbrev pub has_all : List Interval → Interval → Bool
has_all ys s = has_from ys s.uuid s.first ((s.last + 1) - s.first)

-- each GTID of a set is in another
abbrev pub is_within : List Interval → List Interval → Bool
is_within xs ys = list_all (has_all ys) xs

-- the server's set holds all that was seen of another
abbrev pub holds_seen : Option Position → Status → Bool
holds_seen None s = false
holds_seen (Some m) s = is_within m.set s.set

-- the applier is off, or has executed all that was read
abbrev pub is_settled : Status → Bool
is_settled s = not (s.sql && not (same_coord s.read s.exec))

-- a server is settled, or no wait is left
abbrev pub settles : Job → Status → Bool
settles j s = is_settled s || not (nat_lt (j.waited + 1) j.wait)

-- ---- changes of source

-- the server of a reattachment whose reading it goes by
abbrev pub read_by : Crossing → ServerNo → ServerNo → ServerNo
read_by cross.Up a b = b
read_by cross.Down a b = b
read_by cross.About a b = b
read_by cross.Back a b = a

-- the attachment of a reattachment, by the bridge that the reading has
abbrev pub crossed : Crossing → ServerNo → Option Bridge → Option Exchange
crossed c a None = None
crossed cross.Up a (Some b) = Some (Attach a.0 (spot.At b.no b.own) b.source b.exec)
crossed cross.Down a (Some b) = Some (Attach a.0 (spot.At b.source b.exec) b.no b.own)
crossed cross.About a (Some b) = Some (Attach a.0 (spot.OwnEnd b.exec) b.no b.own)
crossed cross.Back a (Some b) = Some (Attach a.0 (spot.OwnEnd b.own) b.source b.exec)

-- the bridge that was seen of a server that logs and has a source, attached or detached
abbrev pub bridge_at : ServerNo → Option Position → Option Bridge
bridge_at n None = None
bridge_at n (Some s) = bridge_by n s.own_end s.source s.exec

-- what a reattachment makes of what was seen
abbrev pub crossing_of : List Sight → Crossing → ServerNo → ServerNo → Option Exchange
crossing_of xs c a b = crossed c a (bridge_at (read_by c a b) (seen_of xs (read_by c a b).0))

abbrev pub attached_anew : ServerNo → Coord → SourceState → Option Exchange
attached_anew n exec Without = None
attached_anew n exec (Attached m) = Some (Attach n.0 (spot.At m exec) m exec)
attached_anew n exec (Detached m) = Some (Attach n.0 (spot.At m exec) m exec)

-- a server goes on under its own source, if it was seen
abbrev pub same_again : ServerNo → Option Position → Option Exchange
same_again n None = None
same_again n (Some s) = attached_anew n s.exec s.source

-- a server goes below another by the set that was seen of that one
abbrev pub by_set : ServerNo → ServerNo → Option Position → Option Exchange
by_set n m None = None
by_set n m (Some s) = Some (AttachAuto n.0 s.set m)

-- a server goes below another by the match that was found of the two
abbrev pub by_match : ServerNo → ServerNo → Option Match → Option Exchange
by_match n m None = None
by_match n m (Some x) = Some (Attach n.0 x.spot m x.at)

abbrev pub attach_answer_of : World → Exchange → Result (Unit {0}) AttachFault
attach_answer_of w (Attach n expect to at) = (attach_at w n expect to at).0
attach_answer_of w (AttachAuto n observed to) = (attach_auto w n observed to).0
attach_answer_of w (Write n size) = Ok tt
attach_answer_of w (Fetch n) = Ok tt
attach_answer_of w (Apply n) = Ok tt
attach_answer_of w (Request n a) = Ok tt
attach_answer_of w (Befall n e) = Ok tt
attach_answer_of w (Rotate n) = Ok tt
attach_answer_of w (Purge n file) = Ok tt

-- why a job stops whose attachment answered a fault; no world answers the last one, which is out of memory
abbrev pub cause_by : ServerNo → AttachFault → Cause
cause_by n attaching.Unreachable = cause.Unreachable n
cause_by n (attaching.Running at) = cause.Running n
cause_by n (attaching.Interfered expected found) = cause.Interfered n expected found
cause_by n attaching.Loop = cause.Loop n
cause_by n (attaching.Errant set) = cause.Errant n set
cause_by n (attaching.Purged first) = cause.Purged n first
cause_by n attaching.Memory = cause.Unreachable n

abbrev pub after_answer : Job → List Op → ServerNo → Exchange → Result (Unit {0}) AttachFault → Attempt
after_answer j rest n e (Ok t) = Goes None (e ∷ []) (next j rest)
after_answer j rest n e (Err fault) = Stops (cause_by n fault) None

-- A change of source for which nothing was seen, or that can't be made, is passed over. A job with the invariant `Held`
-- has none.
abbrev pub after_attach : World → Job → List Op → ServerNo → Option Exchange → Attempt
after_attach w j rest n None = Goes None [] (next j rest)
after_attach w j rest n (Some e) = if can_attach w e then after_answer j rest n e (attach_answer_of w e) else Goes None [] (next j rest)

-- ---- a turn

abbrev pub by_deed : World → ℕ → Moment → Job → List Op → Deed → Attempt
by_deed w read now j rest (deed.Look n from) = after_look j rest n from (observed w read now n) (seen_in (status w n.0))
by_deed w read now j rest (deed.Request n a) = after_ask j rest n a (desk_answer (server_at w n.0))
by_deed w read now j rest (deed.Until n to) = after_until w j rest n (until_by (seen_of j.seen n.0) (aim_of j.seen to))
by_deed w read now j rest (deed.Await n to) = after_wait j rest n (λ s. is_reached (aim_of j.seen to) s.exec) (seen_in (status w n.0))
by_deed w read now j rest (deed.AwaitSet n m) = after_wait j rest n (holds_seen (seen_of j.seen m.0)) (seen_in (status w n.0))
by_deed w read now j rest (deed.Settle n) = after_wait j rest n (settles j) (seen_in (status w n.0))
by_deed w read now j rest (deed.Cross c a b) = after_attach w j rest a (crossing_of j.seen c a b)
by_deed w read now j rest (deed.Same n) = after_attach w j rest n (same_again n (seen_of j.seen n.0))
by_deed w read now j rest (deed.Auto n m) = after_attach w j rest n (by_set n m (seen_of j.seen m.0))
by_deed w read now j rest (deed.Match n m every) = after_match j rest n m (standing_at (server_at w n.0)) (match_logs w n m every)
by_deed w read now j rest (deed.CrossMatch n m) = after_attach w j rest n (by_match n m (match_found j.matches n m))
by_deed w read now j rest (deed.Finish lines) = Ends lines

abbrev pub by_ops : World → ℕ → Moment → Job → List Op → Attempt
by_ops w read now j [] = Ends []
by_ops w read now j (op ∷ rest) = by_deed w read now j rest (deed_of op)

-- one turn, on a world, with the read number and the moment of what it observes
abbrev pub turned : World → ℕ → Moment → Job → Turned
turned w read now j = settled j (by_ops w read now j j.ops)
