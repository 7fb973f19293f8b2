-- The table of stages: what each is, in one place.
use Rattle.std.specs.Prelude.{ℕ, Bool, true, false, List, [], ◌∷◌, Option, Some, None}
use Rattle.recovery_plans.specs.Prelude.{Bridge, EndOf, ExecOf, Op, ServerNo}
use Rattle.recovery_plans.specs.Prelude.cross
use Rattle.recovery_plans.specs.Prelude.op
use Rattle.recovery_plans.specs.declared.stage.Stage.{Stage}
use Rattle.recovery_plans.specs.declared.stage.Stage.TheVariants as stage
use Rattle.recovery_plans.specs.Standings as standing
use Rattle.recovery_plans.specs.Standings.{Standing}
use Rattle.recovery_plans.specs.declared.task.Way.{Way}
use Rattle.recovery_plans.specs.declared.task.Way.TheVariants as way

-- ---- ways

-- the new source
abbrev pub target : Way → ServerNo
target (way.Down b) = b.no
target (way.Up b) = b.source
target (way.Auto to exec) = to
target (way.Match to exec every) = to

-- the operation that goes a way
abbrev pub move : Way → ServerNo → Op
move (way.Down b) n = op.Cross cross.Down n b.no
move (way.Up b) n = op.Cross cross.Up n b.no
move (way.Auto to exec) n = op.Auto n to
move (way.Match to exec every) n = op.CrossMatch n to

-- those before it: its log is matched with the new source's
abbrev pub before : Way → ServerNo → List Op
before (way.Down b) n = []
before (way.Up b) n = []
before (way.Auto to exec) n = []
before (way.Match to exec every) n = op.Match n to every ∷ []

-- the replica with which alone they speak; a match speaks with two
abbrev pub alone : Way → ServerNo → Option ServerNo
alone (way.Down b) n = Some n
alone (way.Up b) n = Some n
alone (way.Auto to exec) n = Some n
alone (way.Match to exec every) n = None

-- so many operations may come after them: a replica of a takeover that is lost on its way is started, which none is
-- that goes by a match
abbrev pub more_on : Way → ℕ
more_on (way.Down b) = 1
more_on (way.Up b) = 1
more_on (way.Auto to exec) = 1
more_on (way.Match to exec every) = 0

-- ---- operations

-- a replica is stopped once it has executed what it has received
abbrev pub drain : ServerNo → List Op
drain n = op.StopReceiver n ∷ op.Settle n ∷ op.Stop n ∷ op.Status n None ∷ []

-- a follower q comes to the end of its source's log and loses the source, which goes below it
abbrev pub level : ServerNo → ServerNo → List Op
level p q =
    op.Status p None ∷ op.Status q (Some p) ∷ op.Until q (EndOf p) ∷ op.Await q (EndOf p) ∷ op.Stop q ∷ op.Status q (Some p)
    ∷ op.Reset q ∷ op.Cross cross.About p q ∷ []

-- a replica d comes to the end of its master's log, which takes no writes
abbrev pub gather : ServerNo → ServerNo → List Op
gather m d =
    op.Status m None ∷ op.Status d (Some m) ∷ op.Until d (EndOf m) ∷ op.Await d (EndOf m) ∷ op.Stop d ∷ op.Status d (Some m) ∷ []

-- a replica comes to the position at which another was seen
abbrev pub trail : ServerNo → ServerNo → List Op
trail n d = op.Until n (ExecOf d) ∷ op.Await n (ExecOf d) ∷ op.Stop n ∷ op.Status n None ∷ []

-- ---- what a stage is

-- what is seen in a stage may end the recovery: nothing does; that the failed server is reached; that a master has a
-- source
pub data Bar : Type 0 where
  Never : Bar
  Reached : Bar
  Sourced : (m : ServerNo) → Bar

-- the way back of a takeover that fails in a stage: none; the master takes writes again; its replica goes back below it
-- before
pub data Back : Type 0 where
  Nowhere : Back
  Writes : Back
  Whole : (m d : ServerNo) → Back

-- What comes of an operation of a stage that fails. The recovery fails, or nothing more is done with the server, or
-- another stage takes its place. Or a replica may be lost that was to be drained, to go some way, or to be started
-- below its new source. So may one that was to come to the position at which another stopped.
pub data Failing : Type 0 where
  All : Failing
  Passes : Failing
  Drains : (n : ServerNo) → Failing
  Moves : (n : ServerNo) (by : Way) → Failing
  Joins : (n : ServerNo) → Failing
  Trails : (n : ServerNo) → Failing
  Instead : (s : Stage) (ops : List Op) → Failing

-- What the end of a stage makes: nothing; a replica is drained or lost; it follows; it is marked as detached; the
-- designated one was seen to stop. Or the second takes the first one's place; the new source takes writes, and nothing
-- more is changed; a master is to refuse writes. Or a replica was read, or has stopped; a master is below its replica.
pub data Made : Type 0 where
  Nothing : Made
  Judged : (n : ServerNo) → Made
  Follows : (n p : ServerNo) → Made
  Marked : (n : ServerNo) → Made
  Gathered : (d : ServerNo) → Made
  Swapped : (p q : ServerNo) → Made
  Opened : (n : ServerNo) → Made
  Met : (m d : ServerNo) → Made
  Looked : (n : ServerNo) (b : Bridge) → Made
  Halted : (n : ServerNo) (b : Bridge) → Made
  Switched : (m d : ServerNo) → Made

abbrev pub is_nothing : Made → Bool
is_nothing Nothing = true
is_nothing (Judged n) = false
is_nothing (Follows n p) = false
is_nothing (Marked n) = false
is_nothing (Gathered d) = false
is_nothing (Swapped p q) = false
is_nothing (Opened n) = false
is_nothing (Met m d) = false
is_nothing (Looked n b) = false
is_nothing (Halted n b) = false
is_nothing (Switched m d) = false

pub record Info : Type 0 where
  -- the operation that ends the stage, and those after it
  pub tail : List Op
  -- the stage once that operation is done
  pub next : Stage
  -- that operation is the reading of the stage's replica
  pub reads : Bool
  -- nothing is left of the stage but that
  pub due : Bool
  -- a follower that has lost its source as the stage begins
  pub leaves : Option ServerNo
  -- the servers that it may change
  pub changes : List ServerNo
  -- the server that it is placing
  pub places : List ServerNo
  -- the replica that its operations speak with, and that is lost if one of them fails
  pub speaks : Option ServerNo
  -- the bridge by which its replica goes to the position at which the designated one stopped
  pub lead : Option Bridge
  -- so many operations may come after its own, for the same task
  pub more : ℕ
  -- nothing comes after its own operations and those after them
  pub closes : Bool
  -- it comes after a swap
  pub late : Bool
  pub bar : Bar
  pub back : Back
  pub failing : Failing
  pub made : Made
  -- what the recovery counts on while the stage lasts
  pub stands : List Standing

-- a stage that ends by itself, and has nothing else
abbrev pub plain : Stage → List ServerNo → Info
plain s ns = record {
  tail = [];
  next = s;
  reads = false;
  due = false;
  leaves = None;
  changes = ns;
  places = [];
  speaks = None;
  lead = None;
  more = 0;
  closes = false;
  late = false;
  bar = Never;
  back = Writes;
  failing = All;
  made = Nothing;
  stands = [];
}

abbrev pub info : Stage → Info
info stage.Idle = plain stage.Idle []
info stage.Check = record (plain stage.Check []) { bar = Reached; failing = Passes }
info (stage.Read n) = plain (stage.Read n) []
info (stage.Drain n) = record (plain (stage.Judged n) (n ∷ [])) {
  tail = op.Status n None ∷ [];
  reads = true;
  places = n ∷ [];
  speaks = Some n;
  more = 3;
  failing = Drains n;
  stands = standing.Undecided ∷ [];
}
info (stage.Judged n) = record (plain (stage.Judged n) (n ∷ [])) {
  due = true;
  places = n ∷ [];
  more = 3;
  made = Judged n;
  stands = standing.Undecided ∷ standing.AsSeen n ∷ [];
}
info (stage.Move n by) = record (plain (stage.Join n (target by)) (n ∷ [])) {
  tail = move by n ∷ op.Start n ∷ [];
  places = n ∷ [];
  speaks = alone by n;
  more = more_on by;
  failing = Moves n by;
  stands = standing.Chosen (target by) ∷ standing.Sourced n ∷ standing.WayRead by ∷ [];
}
info (stage.Join n p) = record (plain (stage.Join n p) (n ∷ [])) {
  places = n ∷ [];
  speaks = Some n;
  failing = Joins n;
  made = Follows n p;
  stands = standing.Chosen p ∷ standing.Under n p ∷ [];
}
info (stage.Expel n) = record (plain (stage.Expelled n) (n ∷ [])) {
  tail = op.Detach n ∷ [];
  failing = Passes;
  stands = standing.Lost n ∷ standing.Sourced n ∷ [];
}
info (stage.Expelled n) = record (plain (stage.Expelled n) (n ∷ [])) { made = Marked n; stands = standing.Lost n ∷ standing.Apart n ∷ [] }
info (stage.Release n) = record (plain (stage.Release n) (n ∷ [])) { failing = Passes }
info (stage.Level p q) = record (plain (stage.Swap p q) (p ∷ q ∷ [])) {
  tail = op.Reset q ∷ op.Cross cross.About p q ∷ [];
  more = 5;
  failing = Instead (stage.Release q) (op.Start q ∷ []);
  stands = standing.InMastersPlace ∷ standing.Last p ∷ standing.Follower q ∷ [];
}
info (stage.Swap p q) = record (plain (stage.Swapped p q) (p ∷ q ∷ [])) {
  tail = op.Cross cross.About p q ∷ [];
  due = true;
  leaves = Some q;
  places = q ∷ [];
  more = 5;
  failing = Instead (stage.Return p q) (op.Cross cross.Back q p ∷ op.Start q ∷ []);
  stands = standing.InMastersPlace ∷ standing.Last p ∷ standing.Free q ∷ [];
}
info (stage.Swapped p q) = record (plain (stage.Swapped p q) (p ∷ q ∷ [])) {
  places = q ∷ [];
  more = 5;
  made = Swapped p q;
  stands = standing.InMastersPlace ∷ standing.Last p ∷ standing.Free q ∷ standing.Under p q ∷ [];
}
info (stage.Return p q) = record (plain (stage.Resume p q) (p ∷ q ∷ [])) {
  tail = op.Cross cross.Back q p ∷ op.Start q ∷ [];
  places = q ∷ [];
  stands = standing.InMastersPlace ∷ standing.Last p ∷ [];
}
info (stage.Resume p q) = record (plain (stage.Resume p q) (p ∷ q ∷ [])) {
  places = q ∷ [];
  made = Follows q p;
  stands = standing.InMastersPlace ∷ standing.Last p ∷ standing.Under q p ∷ [];
}
info (stage.Crown n) = record (plain (stage.Open n) (n ∷ [])) {
  tail = op.Reset n ∷ op.ReadOnly n false ∷ [];
  more = 3;
  closes = true;
  stands = standing.InMastersPlace ∷ standing.Last n ∷ [];
}
info (stage.Open n) = record (plain (stage.Opened n) (n ∷ [])) {
  tail = op.ReadOnly n false ∷ [];
  more = 3;
  closes = true;
  late = true;
  back = Nowhere;
  stands = standing.Crowned n ∷ standing.Free n ∷ [];
}
info (stage.Opened n) = record (plain (stage.Opened n) (n ∷ [])) {
  more = 3;
  closes = true;
  late = true;
  back = Nowhere;
  made = Opened n;
  stands = standing.Crowned n ∷ standing.Ruling n ∷ [];
}
info (stage.Meet m d) = record (plain (stage.Meet m d) (m ∷ d ∷ [])) {
  more = 7;
  bar = Sourced m;
  back = Nowhere;
  made = Met m d;
  stands = standing.Giving m d ∷ [];
}
info (stage.Shut m d) = record (plain (stage.Gather m d) (m ∷ d ∷ [])) {
  tail = op.ReadOnly m true ∷ gather m d;
  back = Nowhere;
  stands = standing.Giving m d ∷ [];
}
info (stage.Gather m d) = record (plain (stage.Gather m d) (m ∷ d ∷ [])) { made = Gathered d; stands = standing.Giving m d ∷ [] }
info (stage.Look n b) = record (plain (stage.Looked n b) (n ∷ [])) {
  tail = op.Status n None ∷ [];
  reads = true;
  places = n ∷ [];
  speaks = Some n;
  lead = Some b;
  more = 7;
  failing = Trails n;
  stands = standing.InTakeover ∷ standing.Chosen b.no ∷ [];
}
info (stage.Looked n b) = record (plain (stage.Looked n b) (n ∷ [])) {
  due = true;
  places = n ∷ [];
  lead = Some b;
  more = 7;
  made = Looked n b;
  stands = standing.Chosen b.no ∷ standing.AsSeen n ∷ [];
}
info (stage.Trail n b) = record (plain (stage.Halted n b) (n ∷ [])) {
  tail = op.Status n None ∷ [];
  reads = true;
  places = n ∷ [];
  speaks = Some n;
  lead = Some b;
  more = 3;
  failing = Trails n;
  stands = standing.Chosen b.no ∷ standing.Sourced n ∷ [];
}
info (stage.Halted n b) = record (plain (stage.Halted n b) (n ∷ [])) {
  due = true;
  places = n ∷ [];
  lead = Some b;
  more = 3;
  made = Halted n b;
  stands = standing.Chosen b.no ∷ standing.Sourced n ∷ [];
}
info (stage.Yield m d) = record (plain (stage.Switch m d) (m ∷ d ∷ [])) {
  tail = op.Reset d ∷ op.Cross cross.About m d ∷ [];
  places = m ∷ [];
  more = 4;
  stands = standing.Giving m d ∷ standing.Last d ∷ [];
}
info (stage.Switch m d) = record (plain (stage.Switched m d) (m ∷ d ∷ [])) {
  tail = op.Cross cross.About m d ∷ [];
  due = true;
  places = m ∷ [];
  more = 4;
  back = Whole m d;
  stands = standing.Giving m d ∷ standing.Last d ∷ standing.Free d ∷ [];
}
info (stage.Switched m d) = record (plain (stage.Switched m d) (m ∷ d ∷ [])) {
  places = m ∷ [];
  more = 4;
  back = Nowhere;
  made = Switched m d;
  stands = standing.Giving m d ∷ standing.Last d ∷ standing.Free d ∷ standing.Under m d ∷ [];
}
info (stage.Close lines) = record (plain stage.Idle []) {
  tail = op.Finish lines ∷ [];
  closes = true;
  late = true;
  back = Nowhere;
  stands = standing.Closed ∷ standing.Told lines ∷ [];
}
