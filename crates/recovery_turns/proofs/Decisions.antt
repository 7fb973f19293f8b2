-- What single decisions make of a recovery.
use Rattle.std.proofs.Common.{◌≡◌, ℕ, ◌+◌, ◌<◌, Bool, true, false, List, [], ◌∷◌, ◌++◌, drop, length, map, Option, Some, None, refl, sym, ◌∙◌, ap, subst, arith}
use Rattle.std.specs.Prelude.{filter, find, is_some, slice_get, unwrap_or}
use Rattle.recovery_turns.proofs.Prelude.{BookState, Decided, Ground, IsBusy, Job, LostReplica, Moment, Op, Recovery, ServerNo, Stopped, Task, Way}
use Rattle.recovery_turns.proofs.Prelude.{Why, Work, World, append_assoc, decided_on, drop-drop, expels, false≢true, find-append, follower_line}
use Rattle.recovery_turns.proofs.Prelude.{ground_of, hand, hand_by, loses, once, option_or, releases, settled_on, sort, way_below, why_of, working_on}
use Rattle.recovery_turns.proofs.Prelude.lost
use Rattle.recovery_turns.proofs.Prelude.task

-- if nothing begins
pub idle_on : (r : Recovery) (d : Decided) → d.work ≡ None → decided_on r d ≡ settled_on r d
idle_on r d idle = ap (working_on (settled_on r d)) idle

pub idle_busy : (d : Decided) → d.work ≡ None → IsBusy d.work
idle_busy d idle = Rattle.std.proofs.Common.subst IsBusy (sym idle) tt

-- ---- what is seen of a decided recovery

lost_is : (r : Recovery) (d : Decided) → (decided_on r d).outcome.lost ≡ r.outcome.lost ++ d.lost.items
lost_is r d = go d.work
  where
    go : (o : Option Work) → (working_on (settled_on r d) o).outcome.lost ≡ r.outcome.lost ++ d.lost.items
    go None = refl
    go (Some w) = refl

-- the first that passes is of those that were lost, or else of those that are lost beside them
pub lost_on : (r : Recovery) (d : Decided) (p : LostReplica → Bool) (o : Option LostReplica) → find p r.outcome.lost ≡ o
    → find p (decided_on r d).outcome.lost ≡ option_or o (find p d.lost.items)
lost_on r d p o is =
    ap (find p) (lost_is r d) ∙ find-append p r.outcome.lost d.lost.items ∙ ap (λ (x : Option LostReplica). option_or x (find p d.lost.items)) is

pub follower_on : (r : Recovery) (d : Decided) (n : ServerNo) → follower_line r.outcome n ≡ follower_line (decided_on r d).outcome n
follower_on r d n = go d.work
  where
    go : (o : Option Work) → follower_line r.outcome n ≡ follower_line (working_on (settled_on r d) o).outcome n
    go None = refl
    go (Some w) = refl

-- ---- single decisions

-- the next task is begun
pub pop_on : (r : Recovery) (d e : Decided) → e ≡ record d { begun = e.begun } → e.begun ≡ d.begun + 1 → d.work ≡ None
    → decided_on r e ≡ record (decided_on r d) { queue = drop 1 (decided_on r d).queue }
pop_on r d e is more idle =
    ap (decided_on r) is ∙ ap (working_on (settled_on r (record d { begun = e.begun }))) idle
    ∙ ap (λ (k : ℕ). settled_on r (record d { begun = k })) more
    ∙ ap (λ (ts : List Task). record (settled_on r d) { queue = ts }) (sym (drop-drop 1 d.begun _))
    ∙ ap (λ (x : Recovery). record x { queue = drop 1 x.queue }) (sym (idle_on r d idle))

-- the next drained one is decided
pub handed_on : (r : Recovery) (d e : Decided) → e ≡ record d { handed = e.handed } → e.handed ≡ d.handed + 1 → d.work ≡ None
    → decided_on r e ≡ record (decided_on r d) { drained = drop 1 (decided_on r d).drained }
handed_on r d e is more idle =
    ap (decided_on r) is ∙ ap (working_on (settled_on r (record d { handed = e.handed }))) idle
    ∙ ap (λ (k : ℕ). settled_on r (record d { handed = k })) more
    ∙ ap (λ (ds : List Stopped). record (settled_on r d) { drained = ds }) (sym (drop-drop 1 d.handed _))
    ∙ ap (λ (x : Recovery). record x { drained = drop 1 x.drained }) (sym (idle_on r d idle))

pub first_is : {X : Type 0} (xs : List X) (x : X) → slice_get xs 0 ≡ Some x → xs ≡ x ∷ drop 1 xs
first_is [] x h = absurd (false≢true (ap is_some h))
first_is {X = X} (y ∷ ys) x h = ap (λ (z : X). z ∷ ys) (ap (λ (o : Option X). unwrap_or o y) h)

-- while an operation is left nothing is decided
pub once_busy : (w : World) (b : BookState) (now : Moment) (r : Recovery) → 0 < length r.core.ops → r ≡ once (ground_of w b now) r
once_busy w b now r due = go r.core.ops due
  where
    go : (ops : List Op) → 0 < length ops → r ≡ Rattle.recovery_plans.specs.Deciding.by_queue (ground_of w b now) r ops r.queue
    go [] h = absurd (omega (arith, h))
    go (o ∷ ops) h = refl

pub busy_due : (r : Recovery) (d : Decided) → is_some d.work ≡ true → IsBusy d.work → 0 < length (decided_on r d).core.ops
busy_due r d = go d.work
  where
    go : (o : Option Work) → is_some o ≡ true → IsBusy o → 0 < length (working_on (settled_on r d) o).core.ops
    go None t busy = absurd (false≢true t)
    go (Some x) t busy = busy

pub idle_due : (r : Recovery) (d : Decided) → is_some d.work ≡ false → 0 < length r.core.ops → 0 < length (decided_on r d).core.ops
idle_due r d = go d.work
  where
    go : (o : Option Work) → is_some o ≡ false → 0 < length r.core.ops → 0 < length (working_on (settled_on r d) o).core.ops
    go None t due = due
    go (Some x) t due = absurd (false≢true (sym t))

-- ---- the handing over

-- the next one's way, if it is looked up after that one is taken
pub hand_way : (g : Ground) (s : ServerNo) (r : Recovery) (d m : Decided) (x : Stopped) (j : Job) (f : ServerNo) (o : Option Way)
    → m ≡ record d { handed = m.handed } → m.handed ≡ d.handed + 1 → d.work ≡ None → j ≡ (decided_on r m).core → f ≡ r.failed → o ≡ way_below g j.seen f s x
    → way_below g (decided_on r d).core.seen (decided_on r d).failed s x ≡ o
hand_way g s r d m x j f o is more idle job at told =
    ap (λ (y : Recovery). way_below g y.core.seen y.failed s x) (sym (handed_on r d m is more idle))
    ∙ ap (λ (n : ServerNo). way_below g (decided_on r m).core.seen n s x)
    (ap (λ (y : Recovery). y.failed) (idle_on r m (ap (λ (z : Decided). z.work) is ∙ idle)) ∙ sym at)
    ∙ ap (λ (k : Job). way_below g k.seen f s x) (sym job)
    ∙ sym told

-- one is lost: the others are fewer, and the task stays
pub left_on : (r : Recovery) (d m e : Decided) (x : Stopped) (why : Why) → m ≡ record d { handed = m.handed } → m.handed ≡ d.handed + 1 → d.work ≡ None
    → decided_on r e ≡ loses (decided_on r m) x.no why → decided_on r e ≡ loses (record (decided_on r d) { drained = drop 1 (decided_on r d).drained }) x.no why
left_on r d m e x why is more idle left = left ∙ ap (λ (y : Recovery). loses y x.no why) (handed_on r d m is more idle)

pub left_fewer : (r : Recovery) (d e : Decided) (x : Stopped) (why : Why) → (decided_on r d).drained ≡ x ∷ drop 1 (decided_on r d).drained
    → decided_on r e ≡ loses (record (decided_on r d) { drained = drop 1 (decided_on r d).drained }) x.no why → length (decided_on r e).drained < length (decided_on r d).drained
left_fewer r d e x why head left =
    let same : length (decided_on r e).drained ≡ length (drop 1 (decided_on r d).drained) = ap (λ (y : Recovery). length y.drained) left in
    let long : length (decided_on r d).drained ≡ length (x ∷ drop 1 (decided_on r d).drained) = ap length head in
    omega (arith, same, long)

pub left_task : (r : Recovery) (d e : Decided) (x : Stopped) (why : Why) → (decided_on r d).queue ≡ task.Handing ∷ drop 1 (decided_on r d).queue
    → decided_on r e ≡ loses (record (decided_on r d) { drained = drop 1 (decided_on r d).drained }) x.no why
    → (decided_on r e).queue ≡ task.Handing ∷ drop 1 (decided_on r e).queue
left_task r d e x why queue left = subst (λ (ts : List Task). ts ≡ task.Handing ∷ drop 1 ts) (sym (ap (λ (y : Recovery). y.queue) left)) queue

-- what is handed over doesn't hang on who was drained
pub hand_drained : (g : Ground) (s : ServerNo) (r : Recovery) (xs ds : List Stopped) → hand g s (record r { drained = xs }) ds ≡ hand g s r ds
hand_drained g s r xs [] = refl
hand_drained g s r xs (d ∷ ds) =
    ap (hand_by (record r { drained = xs }) d ds (way_below g r.core.seen r.failed s d)) (hand_drained g s (loses r d.no (lost.behind d.exec)) xs ds)
    ∙ either (way_below g r.core.seen r.failed s d)
  where
    either : (o : Option Way) → hand_by (record r { drained = xs }) d ds o (hand g s (loses r d.no (lost.behind d.exec)) ds)
        ≡ hand_by r d ds o (hand g s (loses r d.no (lost.behind d.exec)) ds)
    either None = refl
    either (Some by) = refl

-- one goes its way
pub hand_goes : (g : Ground) (s : ServerNo) (r : Recovery) (d : Stopped) (ds : List Stopped) (by : Way) → r.queue ≡ task.Handing ∷ drop 1 r.queue → r.drained ≡ d ∷ ds
    → way_below g r.core.seen r.failed s d ≡ Some by
    → Rattle.recovery_plans.specs.Deciding.moving (record r { drained = ds }) d.no by ≡ hand g s (record r { queue = drop 1 r.queue }) r.drained
hand_goes g s r d ds by queue drained goes =
    ap (λ (ts : List Task). Rattle.recovery_plans.specs.Deciding.moving (record r { queue = ts; drained = ds }) d.no by) queue
    ∙ ap (λ (o : Option Way). hand_by (record r { queue = drop 1 r.queue }) d ds o (hand g s (loses (record r { queue = drop 1 r.queue }) d.no (lost.behind d.exec)) ds)) (sym goes)
    ∙ ap (hand g s (record r { queue = drop 1 r.queue })) (sym drained)

-- one is lost, and the others are handed over
pub hand_loses : (g : Ground) (s : ServerNo) (r : Recovery) (d : Stopped) (ds : List Stopped) → r.drained ≡ d ∷ ds → way_below g r.core.seen r.failed s d ≡ None
    → hand g s (record (loses r d.no (lost.behind d.exec)) { queue = drop 1 r.queue; drained = ds }) ds ≡ hand g s (record r { queue = drop 1 r.queue }) r.drained
hand_loses g s r d ds drained none =
    hand_drained g s (record (loses r d.no (lost.behind d.exec)) { queue = drop 1 r.queue }) ds ds
    ∙ ap (λ (o : Option Way). hand_by (record r { queue = drop 1 r.queue }) d ds o (hand g s (loses (record r { queue = drop 1 r.queue }) d.no (lost.behind d.exec)) ds)) (sym none)
    ∙ ap (hand g s (record r { queue = drop 1 r.queue })) (sym drained)

-- ---- if a decision takes the queue's place

-- what is done with the lost
pub sort_on : (r : Recovery) (d e : Decided) → e ≡ record d { queue = e.queue; begun = e.begun } → d.work ≡ None
    → (settled_on r e).queue ≡ (sort (decided_on r d)).queue → decided_on r e ≡ sort (decided_on r d)
sort_on r d e is was queue =
    ap (decided_on r) is ∙ ap (working_on (settled_on r (record d { queue = e.queue; begun = e.begun }))) was
    ∙ ap (λ (ts : List Task). record (settled_on r d) { queue = ts }) (queue ∙ ap (λ (x : Recovery). (sort x).queue) (idle_on r d was))
    ∙ ap sort (sym (idle_on r d was))

sorted_on : (r : Recovery) (d : Decided)
    → map task.Expelling (filter (λ n. expels r.purpose (why_of (decided_on r d).outcome.lost n)) r.replicas)
    ++ (map task.Releasing (filter (λ n. releases r.purpose (why_of (decided_on r d).outcome.lost n)) r.replicas) ++ (decided_on r d).queue)
    ≡ (sort (decided_on r d)).queue
sorted_on r d = go d.work
  where
    go : (o : Option Work)
        → map task.Expelling (filter (λ n. expels r.purpose (why_of (working_on (settled_on r d) o).outcome.lost n)) r.replicas)
        ++ (map task.Releasing (filter (λ n. releases r.purpose (why_of (working_on (settled_on r d) o).outcome.lost n)) r.replicas) ++ (working_on (settled_on r d) o).queue)
        ≡ (sort (working_on (settled_on r d) o)).queue
    go None = refl
    go (Some w) = refl

pub sort_from : (r : Recovery) (d e : Decided) (qs rs ts all : List Task) → e ≡ record d { queue = e.queue; begun = e.begun } → d.work ≡ None → (settled_on r e).queue ≡ all
    → all ≡ (qs ++ rs) ++ ts → qs ≡ map task.Expelling (filter (λ n. expels r.purpose (why_of (decided_on r d).outcome.lost n)) r.replicas)
    → rs ≡ map task.Releasing (filter (λ n. releases r.purpose (why_of (decided_on r d).outcome.lost n)) r.replicas) → ts ≡ (decided_on r d).queue
    → decided_on r e ≡ sort (decided_on r d)
sort_from r d e qs rs ts all is was now parts one two three =
    sort_on r d e is was (now ∙ parts ∙ append_assoc qs rs ts ∙ (λ i. one i ++ (two i ++ three i)) ∙ sorted_on r d)
