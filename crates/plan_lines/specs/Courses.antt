-- The turns of a recovery one after another, each over the servers and the book of its moment, whatever comes between
-- them. Also which of them do what is in a plan's lines.
use Rattle.std.specs.Prelude.{◌≡◌, ℕ, true, false, List, [], ◌∷◌, ◌++◌, filter_map, Option, Some, None}
use Rattle.plan_lines.specs.Prelude.{Apart, BookState, Expect, Ground, Line, Means, Op, ServerNo, begun_recovery, but}
use Rattle.recovery_plans.specs.Commands.declared.cause.Cause.{Cause}
use Rattle.recovery_plans.specs.Commands.declared.line.Line.{Line as Told}
use Rattle.recovery_plans.specs.KeptRows.declared.observation.Observation.{Observation}
use Rattle.recovery_plans.specs.Operations.Jobs.{Job}
use Rattle.recovery_plans.specs.Operations.declared.op.Op.TheVariants as op
use Rattle.recovery_plans.specs.OrchBase.declared.server.Moment.{Moment}
use Rattle.recovery_plans.specs.ServerModel.Run.{Exchange}
use Rattle.recovery_plans.specs.ServerModel.Worlds.{World}
use Rattle.recovery_plans.specs.Deciding.{decided, ground_of}
use Rattle.recovery_plans.specs.Moves as move
use Rattle.recovery_plans.specs.Recoveries.{Recovery}
use Rattle.recovery_plans.specs.Taking.{is_waiting, taken}
use Rattle.recovery_plans.specs.declared.purpose.Purpose.TheVariants as purpose
use Rattle.plan_texts.specs.declared.line.Apart.TheVariants as apart
use Rattle.plan_texts.specs.declared.line.Expect.TheVariants as expect
use Rattle.plan_texts.specs.declared.line.Line.TheVariants as line
use Rattle.plan_lines.specs.Takeovers.{takeover_lines}

-- ---- turns

-- the servers and the book of a turn, the number of what it reads, and its moment
pub record Place : Type 0 where
  pub world : World
  pub book : BookState
  pub read : ℕ
  pub now : Moment

abbrev pub ground_at : Place → Ground
ground_at a = ground_of a.world a.book a.now

-- a recovery once a turn's decisions are made, and after the turn
abbrev pub set_out : Place → Recovery → Recovery
set_out a r = decided (ground_at a) r

abbrev pub after : Place → Recovery → Recovery
after a r = (taken a.world a.book a.read a.now r).recovery

-- what a turn does that isn't a wait: an operation, or one that isn't done, for some cause
pub data Event : Type 0 where
  Done : (o : Op) → Event
  Missed : (o : Op) → Event

-- The turns of a recovery to its end, and what they do: each one waits, does its operation, or goes on without it; the
-- last one ends the recovery. G holds of each turn's place and the recovery before it. Q holds of what a turn does,
-- between the recovery with its decisions and the one after the turn.
pub data Course (G : Place → Recovery → Type 0) (Q : Recovery → Event → Recovery → Type 0) : Recovery → List Event → Type 0 where
  Waits : {r : Recovery} {es : List Event} (a : Place) → G a r → (o : Op) (rest : List Op) (ob : Option Observation) (xs : List Exchange) (j : Job)
      → move.Does a.world a.read a.now (set_out a r) o rest ob xs j → is_waiting j ≡ true → Course G Q (after a r) es → Course G Q r es
  Does : {r : Recovery} {es : List Event} (a : Place) → G a r → (o : Op) (rest : List Op) (ob : Option Observation) (xs : List Exchange) (j : Job)
      → move.Does a.world a.read a.now (set_out a r) o rest ob xs j → is_waiting j ≡ false → Q (set_out a r) (Done o) (after a r)
      → Course G Q (after a r) es → Course G Q r (Done o ∷ es)
  Misses : {r : Recovery} {es : List Event} (a : Place) → G a r → (o : Op) (rest : List Op) (c : Cause) (ob : Option Observation)
      → move.Stops a.world a.read a.now (set_out a r) o rest c ob → Q (set_out a r) (Missed o) (after a r)
      → Course G Q (after a r) es → Course G Q r (Missed o ∷ es)
  Ends : {r : Recovery} (a : Place) → G a r → (lines : List Told) (rest : List Op) → (set_out a r).core.ops ≡ op.Finish lines ∷ rest
      → Course G Q r (Done (op.Finish lines) ∷ [])

-- ---- lines

-- what an expectation makes of an operation
abbrev pub met_as : Op → Expect → Event
met_as o expect.AsTold = Done o
met_as o (expect.Below n) = Done o
met_as o expect.Root = Done o
met_as o expect.Away = Missed o
met_as o expect.Gone = Missed o
met_as o expect.AttachedByAuto = Done o
met_as o expect.DetachedByAuto = Done o
met_as o (expect.ByHand n) = Done o
met_as o (expect.Behind n) = Done o

-- a replica that is refused below another asks for it; any other loss takes no turn
abbrev pub lost_as : ServerNo → ServerNo → Apart → Option Event
lost_as n beside apart.Behind = None
lost_as n beside apart.Ahead = None
lost_as n beside apart.Refused = Some (Missed (op.Auto n beside))
lost_as n beside apart.Unpaired = None

-- what a turn does by a line; a choice takes none
abbrev pub event_of : Line → Option Event
event_of (line.Does o e) = Some (met_as o e)
event_of (line.Chosen n before less) = None
event_of (line.Lost n beside why) = lost_as n beside why

abbrev pub events_of : List Line → List Event
events_of lines = filter_map event_of lines

-- turns do what lines say, in their order, and then the recovery ends
abbrev pub Follows : List Event → List Line → Type 0
Follows es lines = (told : List Told) × (es ≡ events_of lines ++ Done (op.Finish told) ∷ [])

-- ---- takeovers

-- nothing happens to an operation, and nobody is lost by what it shows
abbrev pub LosesNobody : Recovery → Event → Recovery → Type 0
LosesNobody before (Done o) later = later.outcome.lost ≡ before.outcome.lost
LosesNobody before (Missed o) later = ⊥

abbrev pub Anywhere : Place → Recovery → Type 0
Anywhere a r = Unit {0}

-- the turns of a takeover in which nothing happens to an operation and nobody is lost do what is in its plan
abbrev pub TakeoversFollowTheirPlans : Type 0
TakeoversFollowTheirPlans = (m d : ServerNo) (by : Means) (id wait : ℕ) (replicas order : List ServerNo) (es : List Event)
    → Course Anywhere LosesNobody (begun_recovery (purpose.Takeover d) by id wait m replicas order) es
    → Follows es (takeover_lines m d (but replicas d))
