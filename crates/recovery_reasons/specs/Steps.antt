-- The operations of the stages that wait, in order; no other stage waits.
use Rattle.std.specs.Prelude.{◌≡◌, Bool, true, false, not, List, [], ◌∷◌, ◌++◌, Some, None}
use Rattle.recovery_reasons.specs.Prelude.{Bridge, Deed, EndOf, ExecOf, Op, ServerNo, Stage, deed_of, list_all}
use Rattle.recovery_reasons.specs.Prelude.cross
use Rattle.recovery_reasons.specs.Prelude.deed
use Rattle.recovery_reasons.specs.Prelude.op
use Rattle.recovery_reasons.specs.Prelude.stage

-- a replica's receiver stops; then it executes what it fetched, is stopped and read
abbrev pub draining : ServerNo → List Op
draining n = op.StopReceiver n ∷ op.Settle n ∷ op.Stop n ∷ op.Status n None ∷ []

-- a replica comes to the position at which another stopped, is stopped and read
abbrev pub trailing : ServerNo → Bridge → List Op
trailing n x = op.Until n (ExecOf x.no) ∷ op.Await n (ExecOf x.no) ∷ op.Stop n ∷ op.Status n None ∷ []

-- the better one comes to the end of the chosen one's log, and takes its place
abbrev pub leveling : ServerNo → ServerNo → List Op
leveling p q =
    op.Status p None ∷ op.Status q (Some p) ∷ op.Until q (EndOf p) ∷ op.Await q (EndOf p) ∷ op.Stop q ∷ op.Status q (Some p)
    ∷ op.Reset q ∷ op.Cross cross.About p q ∷ []

-- the designated one comes to the end of its master's log, is stopped and read
abbrev pub gathering : ServerNo → ServerNo → List Op
gathering m d =
    op.Status m None ∷ op.Status d (Some m) ∷ op.Until d (EndOf m) ∷ op.Await d (EndOf m) ∷ op.Stop d ∷ op.Status d (Some m) ∷ []

-- before, the master takes no more writes
abbrev pub shutting : ServerNo → ServerNo → List Op
shutting m d = op.ReadOnly m true ∷ gathering m d

-- an operation that waits
abbrev pub waits : Deed → Bool
waits (deed.Await n to) = true
waits (deed.AwaitSet n m) = true
waits (deed.Settle n) = true
waits (deed.Look n from) = false
waits (deed.Request n a) = false
waits (deed.Until n to) = false
waits (deed.Cross c a b) = false
waits (deed.Same n) = false
waits (deed.Auto n m) = false
waits (deed.Match n m every) = false
waits (deed.CrossMatch n m) = false
waits (deed.Finish lines) = false

-- none of them waits
abbrev pub are_calm : List Op → Bool
are_calm ops = list_all (λ o. not (waits (deed_of o))) ops

-- these are the last ones of all
pub record IsRest (all ops : List Op) : Type 0 where
  pub done : List Op
  pub split : all ≡ done ++ ops

-- what a stage does: nothing that waits; these operations, one after another; or these, of which the first ends it
pub data Steps : Type 0 where
  Calm : Steps
  Listed : (all : List Op) → Steps
  AtOnce : (all : List Op) → Steps

abbrev pub steps_of : Stage → Steps
steps_of (stage.Drain n) = Listed (draining n)
steps_of (stage.Trail n x) = Listed (trailing n x)
steps_of (stage.Level p q) = Listed (leveling p q)
steps_of (stage.Shut m d) = AtOnce (shutting m d)
steps_of (stage.Gather m d) = Listed (gathering m d)
steps_of stage.Idle = Calm
steps_of stage.Check = Calm
steps_of (stage.Read n) = Calm
steps_of (stage.Judged n) = Calm
steps_of (stage.Move n by) = Calm
steps_of (stage.Join n p) = Calm
steps_of (stage.Expel n) = Calm
steps_of (stage.Expelled n) = Calm
steps_of (stage.Release n) = Calm
steps_of (stage.Swap p q) = Calm
steps_of (stage.Swapped p q) = Calm
steps_of (stage.Return p q) = Calm
steps_of (stage.Resume p q) = Calm
steps_of (stage.Crown n) = Calm
steps_of (stage.Open n) = Calm
steps_of (stage.Opened n) = Calm
steps_of (stage.Meet m d) = Calm
steps_of (stage.Look n x) = Calm
steps_of (stage.Looked n x) = Calm
steps_of (stage.Halted n x) = Calm
steps_of (stage.Yield m d) = Calm
steps_of (stage.Switch m d) = Calm
steps_of (stage.Switched m d) = Calm
steps_of (stage.Close lines) = Calm

-- what is left of a stage
abbrev pub AreLeftOf : Steps → List Op → Type 0
AreLeftOf Calm ops = are_calm ops ≡ true
AreLeftOf (Listed all) ops = IsRest all ops
AreLeftOf (AtOnce all) ops = ops ≡ all

abbrev pub AreLeft : Stage → List Op → Type 0
AreLeft s ops = AreLeftOf (steps_of s) ops

-- what a stage that waits begins with: all of them
abbrev pub AreFirstOf : Steps → List Op → Type 0
AreFirstOf Calm ops = Unit {0}
AreFirstOf (Listed all) ops = ops ≡ all
AreFirstOf (AtOnce all) ops = ops ≡ all

abbrev pub AreFirst : Stage → List Op → Type 0
AreFirst s ops = AreFirstOf (steps_of s) ops
