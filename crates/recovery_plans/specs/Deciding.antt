-- What is decided at the start of a turn, by the servers' settings, what was drained and the book of that turn.
use Rattle.std.specs.Prelude.{ℕ, nat_eq, Bool, true, false, ◌==◌, ◌&&◌, not, if◌then◌else◌, List, [], ◌∷◌, ◌++◌, map, filter, find, Option, Some, None, is_some, option_map, unwrap_or}
use Rattle.recovery_plans.specs.Prelude.{BookState, Bridge, Coord, Drained, Group, Moment, Op, Server, ServerNo, Sight, World, better, group_of}
use Rattle.recovery_plans.specs.Prelude.{has_own, is_barred, latest_that, logs_by, most_advanced, pointwise, ring_at, rule_at, seen_of, server_at}
use Rattle.recovery_plans.specs.Prelude.cross
use Rattle.recovery_plans.specs.Prelude.group
use Rattle.recovery_plans.specs.Prelude.lost
use Rattle.recovery_plans.specs.Prelude.op
use Rattle.recovery_plans.specs.declared.means.Means.{Means}
use Rattle.recovery_plans.specs.declared.means.Means.TheVariants as means
use Rattle.recovery_plans.specs.declared.outcome.LostReplica.{LostReplica}
use Rattle.recovery_plans.specs.declared.outcome.Stopped.{Stopped}
use Rattle.recovery_plans.specs.declared.purpose.Purpose.{Purpose}
use Rattle.recovery_plans.specs.declared.purpose.Purpose.TheVariants as purpose
use Rattle.recovery_plans.specs.declared.stage.Stage.TheVariants as stage
use Rattle.recovery_plans.specs.declared.task.Task.{Task}
use Rattle.recovery_plans.specs.declared.task.Task.TheVariants as task
use Rattle.recovery_plans.specs.declared.task.Way.{Way}
use Rattle.recovery_plans.specs.declared.task.Way.TheVariants as way
use Rattle.recovery_plans.specs.declared.why.Why.{Why}
use Rattle.recovery_plans.specs.declared.why.Why.TheVariants as why
use Rattle.recovery_plans.specs.Recoveries.{Recovery, working, loses}
use Rattle.recovery_plans.specs.Stages.{before, drain, level, move, with_bridge, with_way}
use Rattle.recovery_plans.specs.Telling.{result_lines}
use Rattle.recovery_plans.specs.Whys as whys

-- What is decided by: the servers' settings, whether they use GTIDs, the book, and the moment at which rules of
-- promotion are looked up.
pub record Ground : Type 0 where
  pub world : World
  pub book : BookState
  pub moment : Moment

abbrev pub ground_of : World → BookState → Moment → Ground
ground_of w b now = record { world = w; book = b; moment = now }

-- ---- which is promoted

abbrev pub logs_at : World → ServerNo → Bool
logs_at w n = logs_by (server_at w n.0)

abbrev pub center_in : Option Server → List ℕ
center_in None = []
center_in (Some s) = s.settings.dc

-- two servers are in one data centre
abbrev pub is_near : World → ServerNo → ServerNo → Bool
is_near w one other = pointwise nat_eq (center_in (server_at w one.0)) (center_in (server_at w other.0))

-- a drained replica of a failed server as the choice looks at it, with its rule at this moment
abbrev pub drained_of : Ground → ServerNo → Stopped → Drained
drained_of g f s = record {
  no = s.no;
  exec = s.exec;
  own_end = s.own_end;
  rule = rule_at g.book s.no g.moment;
  logs = logs_at g.world s.no;
  near = is_near g.world f s.no;
}

-- a server that may take the promoted one's place; at its coordinates nobody looks
abbrev pub follower_of : Ground → ServerNo → ServerNo → Drained
follower_of g f n = record {
  no = n;
  exec = record { file = 1; pos = 4 };
  own_end = None;
  rule = rule_at g.book n g.moment;
  logs = logs_at g.world n;
  near = is_near g.world f n;
}

abbrev pub stopped_in : List Stopped → Option ServerNo → Option Stopped
stopped_in xs None = None
stopped_in xs (Some n) = find (λ s. s.no.0 == n.0) xs

-- it logs, and its rule doesn't bar it, in whatever data centre it is
abbrev pub may_lead : Ground → Stopped → Bool
may_lead g s = logs_at g.world s.no && not (is_barred (rule_at g.book s.no g.moment))

abbrev pub chosen_of : Ground → ServerNo → List Stopped → Option Stopped
chosen_of g f xs = stopped_in xs (most_advanced g.book.names (map (drained_of g f) xs))

abbrev pub better_of : Ground → ServerNo → ServerNo → List ServerNo → Option ServerNo
better_of g f p qs = better g.book.names (follower_of g f p) (map (follower_of g f) qs)

-- ---- how the others go

-- a drained replica goes some way, or is lost
pub data Lot : Type 0 where
  Goes : (by : Way) → Lot
  Stays : (why : Why) → Lot

-- below the chosen one, from its position under their source
abbrev pub lot_by_group : ServerNo → ServerNo → Stopped → Group → Lot
lot_by_group p f s (group.Follow at) = Goes (way.Down (record { no = p; source = f; own = at; exec = s.exec }))
lot_by_group p f s group.Ahead = Stays (whys.ahead s.exec)
lot_by_group p f s group.Behind = Stays (whys.behind s.exec)

-- the chosen one logs, so that its own end was seen
abbrev pub own_end_of : Stopped → Coord
own_end_of p = unwrap_or p.own_end p.exec

abbrev pub lot_of : Ground → ServerNo → Stopped → Stopped → Lot
lot_of g f p s =
    if g.world.gtid then Goes (way.Auto p.no s.exec)
    else lot_by_group p.no f s (group_of g.book.rings p.no (own_end_of p) p.exec f s.exec)

-- by these means
abbrev pub lot_by : Means → Ground → ServerNo → Stopped → Stopped → Lot
lot_by means.Bridges g f p s = lot_of g f p s
lot_by (means.Matches every) g f p s = Goes (way.Match p.no s.exec every)

abbrev pub move_of : Stopped → Lot → List Task
move_of s (Goes by) = task.Moving s.no by ∷ []
move_of s (Stays why) = []

abbrev pub stay_of : Stopped → Lot → List LostReplica
stay_of s (Goes by) = []
stay_of s (Stays why) = record { no = s.no; why = why; detached = false } ∷ []

abbrev pub moves_in : (Stopped → Lot) → List Stopped → List Task
moves_in lot [] = []
moves_in lot (s ∷ ss) = move_of s (lot s) ++ moves_in lot ss

abbrev pub losses_in : (Stopped → Lot) → List Stopped → List LostReplica
losses_in lot [] = []
losses_in lot (s ∷ ss) = stay_of s (lot s) ++ losses_in lot ss

abbrev pub without_stopped : List Stopped → ServerNo → List Stopped
without_stopped xs p = filter (λ s. not (s.no.0 == p.0)) xs

abbrev pub choose_by : Recovery → ServerNo → (Stopped → Lot) → List Stopped → Recovery
choose_by r p lot others = record r {
  queue = moves_in lot others ++ r.queue;
  drained = [];
  chosen = Some p;
  outcome = record { promoted = Some p; followers = r.outcome.followers; lost = r.outcome.lost ++ losses_in lot others };
}

-- if none may be promoted, each drained one is lost
abbrev pub unfit : World → Stopped → LostReplica
unfit w s = record { no = s.no; why = if logs_at w s.no then whys.must_not else whys.not_logging; detached = false }

-- nothing is left to do, and there is no new source
abbrev pub stuck : Recovery → Recovery
stuck r = record r { queue = []; chosen = None }

abbrev pub choose : Ground → Recovery → Option Stopped → Recovery
choose g r None = record (stuck r) {
  drained = [];
  outcome = record { promoted = None; followers = r.outcome.followers; lost = r.outcome.lost ++ map (unfit g.world) r.drained };
}
choose g r (Some p) =
    choose_by (record r { eligible = filter (may_lead g) r.drained }) p.no (lot_by r.means g r.failed p) (without_stopped r.drained p.no)

-- a move begins: what it goes by was seen
abbrev pub moving : Recovery → ServerNo → Way → Recovery
moving r n by =
    working (record r { core = record r.core { seen = with_way r.core.seen by } }) (stage.Move n by) (before by n ++ move by n ∷ op.Start n ∷ [])

-- below a successor that logs and was read, as it is and was; by its GTIDs
abbrev pub way_by_set : World → List Sight → ServerNo → Stopped → Option Way
way_by_set w seen s d = if is_some (seen_of seen s.0) && logs_at w s then Some (way.Auto s d.exec) else None

-- below the successor: by its GTIDs, or by the latest kept bridge of the failed server under it at the replica's
-- position
abbrev pub way_below : Ground → List Sight → ServerNo → ServerNo → Stopped → Option Way
way_below g seen x s d =
    if g.world.gtid then way_by_set g.world seen s d else option_map way.Up (latest_that (has_own s d.exec) (ring_at g.book.rings x))

-- with the others still to be handed over, or without a way
abbrev pub hand_by : Recovery → Stopped → List Stopped → Option Way → Recovery → Recovery
hand_by r d ds None without = without
hand_by r d ds (Some by) without = moving (record r { queue = task.Handing ∷ r.queue; drained = ds }) d.no by

abbrev pub hand : Ground → ServerNo → Recovery → List Stopped → Recovery
hand g s r [] = record r { drained = [] }
hand g s r (d ∷ ds) = hand_by r d ds (way_below g r.core.seen r.failed s d) (hand g s (loses r d.no (whys.behind d.exec)) ds)

abbrev pub hand_over : Ground → Recovery → Option ServerNo → Recovery
hand_over g r None = r
hand_over g r (Some s) = hand g s r r.drained

-- ---- what becomes of the lost

abbrev pub why_of : List LostReplica → ServerNo → Option Why
why_of xs n = option_map (λ l. l.why) (find (λ l. l.no.0 == n.0) xs)

-- What a reason means for a lost one: whether it executed what the new source didn't, or less, or its place is purged
-- there. Then whether it is below another source, and whether it was reached.
pub record Care : Type 0 where
  pub apart : Bool
  pub elsewhere : Bool
  pub reached : Bool

-- one that wasn't matched is still at its position
abbrev pub care_of : Why → Care
care_of (why.Lost (lost.Ahead c)) = record { apart = true; elsewhere = false; reached = true }
care_of (why.Lost (lost.Behind c)) = record { apart = true; elsewhere = false; reached = true }
care_of (why.Lost (lost.Purged c)) = record { apart = true; elsewhere = false; reached = true }
care_of (why.Lost lost.Unreachable) = record { apart = false; elsewhere = false; reached = false }
care_of (why.Lost (lost.Moved s)) = record { apart = false; elsewhere = true; reached = true }
care_of (why.Lost lost.NotLogging) = record { apart = false; elsewhere = false; reached = true }
care_of (why.Lost lost.MustNot) = record { apart = false; elsewhere = false; reached = true }
care_of (why.Unmatched m) = record { apart = false; elsewhere = true; reached = true }

abbrev pub is_apart : Option Why → Bool
is_apart None = false
is_apart (Some why) = (care_of why).apart

abbrev pub is_elsewhere : Option Why → Bool
is_elsewhere None = false
is_elsewhere (Some why) = (care_of why).elsewhere

abbrev pub is_reached : Option Why → Bool
is_reached None = false
is_reached (Some why) = (care_of why).reached

abbrev pub expels : Purpose → Option Why → Bool
expels purpose.Regroup why = false
expels purpose.Master why = is_apart why
expels (purpose.Intermediate s) why = is_apart why
expels (purpose.Takeover d) why = false

abbrev pub releases : Purpose → Option Why → Bool
releases purpose.Regroup why = is_reached why
releases purpose.Master why = is_elsewhere why
releases (purpose.Intermediate s) why = is_elsewhere why
releases (purpose.Takeover d) why = false

abbrev pub sort : Recovery → Recovery
sort r = record r {
  queue = map task.Expelling (filter (λ n. expels r.purpose (why_of r.outcome.lost n)) r.replicas)
      ++ (map task.Releasing (filter (λ n. releases r.purpose (why_of r.outcome.lost n)) r.replicas) ++ r.queue);
}

-- ---- what comes last

-- nothing more is changed: these operations, and the lines
abbrev pub closing : Recovery → List Op → Recovery
closing r ops = working r (stage.Close (result_lines r)) (ops ++ op.Finish (result_lines r) ∷ [])

abbrev pub swap_by : Recovery → ServerNo → Option ServerNo → Recovery
swap_by r p None = r
swap_by r p (Some q) = working r (stage.Level p q) (level p q)

abbrev pub swap : Ground → Recovery → Option ServerNo → Recovery
swap g r None = r
swap g r (Some p) = swap_by r p (better_of g r.failed p (map (λ x. x.no) r.outcome.followers))

abbrev pub crown : Recovery → Option ServerNo → Recovery
crown r None = r
crown r (Some p) = working r (stage.Crown p) (op.Reset p ∷ op.ReadOnly p false ∷ [])

-- a better one is looked for once, and then the chosen one is crowned
abbrev pub swap_or_crown : Ground → Recovery → Bool → Recovery
swap_or_crown g r true = swap g (record r { swaps = false }) r.chosen
swap_or_crown g r false = crown r r.chosen

-- the chosen one is started
abbrev pub rejoin : Recovery → Option ServerNo → Recovery
rejoin r None = r
rejoin r (Some p) = closing r (op.Start p ∷ [])

abbrev pub at_last : Ground → Recovery → Purpose → Recovery
at_last g r purpose.Regroup = rejoin r r.chosen
at_last g r purpose.Master = swap_or_crown g r r.swaps
at_last g r (purpose.Intermediate s) = closing r []
at_last g r (purpose.Takeover d) = r

-- ---- what is next

-- the replica is read, and comes to the position at which the designated one stopped
abbrev pub look_at : Recovery → ServerNo → Option Bridge → Recovery
look_at r n None = stuck r
look_at r n (Some b) = working r (stage.Look n b) (op.Status n None ∷ [])

abbrev pub yield : Recovery → Option Bridge → Recovery
yield r None = stuck r
yield r (Some b) =
    working (record r { core = record r.core { seen = with_bridge r.core.seen b } }) (stage.Yield r.failed b.no)
    (op.Reset b.no ∷ op.Cross cross.About r.failed b.no ∷ [])

abbrev pub by_task : Ground → Recovery → Task → Recovery
by_task g r (task.Reading n) = working r (stage.Read n) (op.Status n None ∷ [])
by_task g r (task.Draining n) = working r (stage.Drain n) (drain n)
by_task g r task.Choosing = choose g r (chosen_of g r.failed r.drained)
by_task g r task.Handing = hand_over g r r.chosen
by_task g r (task.Moving n by) = moving r n by
by_task g r task.Sorting = sort r
by_task g r (task.Expelling n) = working r (stage.Expel n) (op.Detach n ∷ [])
by_task g r (task.Releasing n) = working r (stage.Release n) (op.Start n ∷ [])
by_task g r (task.Trailing n) = look_at r n r.lead
by_task g r task.Yielding = yield r r.lead

abbrev pub by_queue : Ground → Recovery → List Op → List Task → Recovery
by_queue g r (x ∷ xs) ts = r
by_queue g r [] [] = at_last g r r.purpose
by_queue g r [] (t ∷ ts) = by_task g (record r { queue = ts }) t

-- the next task, if no operation is left
abbrev pub once : Ground → Recovery → Recovery
once g r = by_queue g r r.core.ops r.queue

-- at most four decisions follow one another
abbrev pub decided : Ground → Recovery → Recovery
decided g r = once g (once g (once g (once g r)))
