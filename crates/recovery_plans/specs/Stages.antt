-- The operations of a recovery's stages, and how one stage follows another.
use Rattle.std.specs.Prelude.{Bool, true, false, ◌&&◌, ◌||◌, List, Option}
use Rattle.recovery_plans.specs.Prelude.{Ask, Bridge, Deed, Op, ServerNo, Sight, with_seen}
use Rattle.recovery_plans.specs.Prelude.asking
use Rattle.recovery_plans.specs.Prelude.deed
use Rattle.recovery_plans.specs.declared.stage.Stage.{Stage}
use Rattle.recovery_plans.specs.declared.task.Way.{Way}
use Rattle.recovery_plans.specs.declared.task.Way.TheVariants as way
use Rattle.recovery_plans.specs.Recoveries.{sight_of}
use Rattle.recovery_plans.specs.Table.{info}
pub use Rattle.recovery_plans.specs.Table.{before, drain, gather, level, move, target, trail}

-- ---- ways

-- what was seen, with the reading by which a way goes: that of the bridge's server, as it was when the bridge was taken
abbrev pub with_bridge : List Sight → Bridge → List Sight
with_bridge seen b = with_seen seen b.no (sight_of b)

abbrev pub with_way : List Sight → Way → List Sight
with_way seen (way.Down b) = with_bridge seen b
with_way seen (way.Up b) = with_bridge seen b
with_way seen (way.Auto to exec) = seen
with_way seen (way.Match to exec every) = seen

-- ---- how a stage ends

-- what an operation may change is a source, or whether clients may write
abbrev pub moves_by : Ask → Bool
moves_by (asking.Stop which) = false
moves_by asking.Start = false
moves_by (asking.StartUntil to) = false
moves_by asking.Detach = true
moves_by asking.Reattach = true
moves_by asking.Reset = true
moves_by (asking.SetReadOnly on) = true

abbrev pub moves : Deed → Bool
moves (deed.Look n from) = false
moves (deed.Request n a) = moves_by a
moves (deed.Until n aim) = false
moves (deed.Await n aim) = false
moves (deed.AwaitSet n m) = false
moves (deed.Settle n) = false
moves (deed.Cross c a b) = true
moves (deed.Same n) = true
moves (deed.Auto n m) = true
moves (deed.Match n m every) = false
moves (deed.CrossMatch n m) = true
moves (deed.Finish lines) = false

abbrev pub is_look : Deed → Bool
is_look (deed.Look n from) = true
is_look (deed.Request n a) = false
is_look (deed.Until n aim) = false
is_look (deed.Await n aim) = false
is_look (deed.AwaitSet n m) = false
is_look (deed.Settle n) = false
is_look (deed.Cross c a b) = false
is_look (deed.Same n) = false
is_look (deed.Auto n m) = false
is_look (deed.Match n m every) = false
is_look (deed.CrossMatch n m) = false
is_look (deed.Finish lines) = false

abbrev pub is_finish : Deed → Bool
is_finish (deed.Finish lines) = true
is_finish (deed.Look n from) = false
is_finish (deed.Request n a) = false
is_finish (deed.Until n aim) = false
is_finish (deed.Await n aim) = false
is_finish (deed.AwaitSet n m) = false
is_finish (deed.Settle n) = false
is_finish (deed.Cross c a b) = false
is_finish (deed.Same n) = false
is_finish (deed.Match n m every) = false
is_finish (deed.CrossMatch n m) = false
is_finish (deed.Auto n m) = false

-- a stage that ends with the reading of its replica
abbrev pub reads_last : Stage → Bool
reads_last s = (info s).reads

-- the operation that ends a stage: its change, the reading of its replica, or the end
abbrev pub ends : Stage → Deed → Bool
ends s d = moves d || ((reads_last s && is_look d) || is_finish d)

-- the operation that ends a stage, and those after it
abbrev pub tail_of : Stage → List Op
tail_of s = (info s).tail

-- the stage once its last operation is done
abbrev pub moved : Stage → Stage
moved s = (info s).next

-- a follower that has lost its source, as a stage begins
abbrev pub leaver : Stage → Option ServerNo
leaver s = (info s).leaves
