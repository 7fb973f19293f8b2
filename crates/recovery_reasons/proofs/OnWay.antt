-- A recovery stays on its way, until nobody is found who takes the failed server's place.
use Rattle.std.proofs.Common.{◌≡◌, ℕ, Bool, true, false, cond, not, List, [], ◌∷◌, ◌++◌, map, filter, refl, sym, ◌∙◌, ap, subst, Option, Some, None, ◌⊎◌, inl, inr, arith, append_assoc, ◌==◌, is_some, slice_index_or}
use Rattle.recovery_reasons.proofs.Prelude.{All, All-append, All-tail, AllFit, Attempt, Bearing, BookState, Bridge, Cause, Contains, Contains-tail}
use Rattle.recovery_reasons.proofs.Prelude.{Coord, Decision, Ending, Exchange, Fate, Fits, IsFit, IsHanding, IsNext, IsOnCourse, IsOnWay, IsRead}
use Rattle.recovery_reasons.proofs.Prelude.{IsSwapping, Job, Keeps, Line, MayBear, MayDecide, MayEnd, Moment, Observation, Op, Position, Purpose}
use Rattle.recovery_reasons.proofs.Prelude.{Recovery, ServerNo, Sight, SourceState, Stage, StageOf, Stopped, SwapOf, Taken, Task, TasksOf, Turning}
use Rattle.recovery_reasons.proofs.Prelude.{Way, World, Yields, borne, bridge_at, bridge_by, by_deed, chooses, closes, decided_by, decides-fits}
use Rattle.recovery_reasons.proofs.Prelude.{decisions-keep, deed_of, ended_by, ends, entered, eq-eqb, expels, false≢true, fate, fate_of}
use Rattle.recovery_reasons.proofs.Prelude.{finds_nobody, first_source, fits-step, follows_lead, follows_no_more, ground_of, hands, info, is_beside}
use Rattle.recovery_reasons.proofs.Prelude.{is_going, is_takeover, kept-along, last_looks, lead_under, leaver, losses_in, lot_by, moved, moved-fits}
use Rattle.recovery_reasons.proofs.Prelude.{moved-leads, moves_in, releases, rests, same-head, same_Some, seen_of, sight_of, stepped}
use Rattle.recovery_reasons.proofs.Prelude.{stepped-fits, tail_of, taken, taken-walks, went-of, why_of, with_bridge, with_way, without_stopped}
use Rattle.recovery_reasons.proofs.Prelude.attempt
use Rattle.recovery_reasons.proofs.Prelude.by
use Rattle.recovery_reasons.proofs.Prelude.lost
use Rattle.recovery_reasons.proofs.Prelude.op
use Rattle.recovery_reasons.proofs.Prelude.purpose
use Rattle.recovery_reasons.proofs.Prelude.sights
use Rattle.recovery_reasons.proofs.Prelude.source
use Rattle.recovery_reasons.proofs.Prelude.stage
use Rattle.recovery_reasons.proofs.Prelude.step
use Rattle.recovery_reasons.proofs.Prelude.table
use Rattle.recovery_reasons.proofs.Prelude.taking
use Rattle.recovery_reasons.proofs.Prelude.task
use Rattle.recovery_reasons.proofs.Prelude.way
use Rattle.recovery_reasons.proofs.Readings.{ReadsNow, read-now}
use Rattle.recovery_reasons.proofs.Tasks.{Suits, before, behind, busy-append, busy-map, busy-moves, calm, chooses-one, fewer, gives, gives-so, last-swap, meeting_in, meets-back, meets-so, moved-bar, moved-meets, moved-places, moved-yields, next-swap, no-bridge, no-meeting, plain-stage, plain-swap, restage, some-op, suit, suit-rest, swap_in, swaps-so, to-yield, unswaps}
use Rattle.recovery_reasons.proofs.Fates.{FitFate, IsFitLost, fit-fate, fit-late, fit-lots, fit-lots-by, fit-marked, fit-stray, one-more}

-- ---- nobody is found

-- nothing is left to do, and there is no new source
pub record IsStuck (r : Recovery) : Type 0 where
  pub ops : r.core.ops ≡ []
  pub queue : r.queue ≡ []
  pub chosen : r.chosen ≡ None
  pub stage : r.stage ≡ stage.Idle
  pub apart : (s : ServerNo) → r.purpose ≡ purpose.Intermediate s → ⊥

pub none-in : (t : Task) → Contains [] t → ⊥
none-in t c = let lt = c.1 in omega (arith, lt)

-- a recovery on its way isn't stuck
pub not-stuck : (r : Recovery) → IsOnWay r → IsStuck r → ⊥
not-stuck r way x = go r.purpose refl
  where
    tasks : TasksOf r.purpose r.stage [] r.chosen r.swaps
    tasks = subst (λ (ts : List Task). TasksOf r.purpose r.stage ts r.chosen r.swaps) x.queue way.course.tasks

    none-chosen : chooses r.purpose ≡ true → ⊥
    none-chosen h = none-in task.Choosing (tasks.chosen h x.chosen)

    go : (u : Purpose) → r.purpose ≡ u → ⊥
    go purpose.Regroup e = none-chosen (ap chooses e)
    go purpose.Master e = none-chosen (ap chooses e)
    go (purpose.Intermediate s) e = x.apart s e
    go (purpose.Takeover d) e = none-in task.Yielding (to-yield r.purpose r.chosen r.swaps r.stage [] tasks (way.rests x.ops) (ap is_takeover e))

abbrev pub Fine : Recovery → Type 0
Fine r = IsOnWay r ⊎ IsStuck r

busy-with : (o : Op) (rest ops : List Op) → ops ≡ o ∷ rest → ops ≡ [] → ⊥
busy-with o rest ops is none = let bad : o ∷ rest ≡ [] = sym is ∙ none in cc

-- with an operation left it is on its way
pub still-on : (r : Recovery) (o : Op) (rest : List Op) → r.core.ops ≡ o ∷ rest → Fine r → IsOnWay r
still-on r o rest is (inl way) = way
still-on r o rest is (inr x) = absurd (busy-with o rest r.core.ops is x.ops)

abbrev pub SwapIn : Recovery → Stage → Type 0
SwapIn y s = SwapOf y.purpose s y.chosen y.outcome.promoted y.swaps

abbrev pub ReadIn : Recovery → Stage → List Op → List Task → List Sight → Type 0
ReadIn y s ops ts seen = IsRead y.purpose s ops ts seen

-- and if a task is next
pub next-on : (r : Recovery) (t : Task) (ts : List Task) → IsNext r t ts → Fine r → IsOnWay r
next-on r t ts next (inl way) = way
next-on r t ts next (inr x) = let bad : [] ≡ t ∷ ts = sym x.queue ∙ next.queue in cc

pub made : (y : Recovery) → TasksOf y.purpose y.stage y.queue y.chosen y.swaps → StageOf y.purpose y.failed y.stage y.core.ops y.lead → SwapIn y y.stage → ReadIn y y.stage y.core.ops y.queue y.core.seen → AllFit y.outcome.lost
    → (y.core.ops ≡ [] → y.stage ≡ stage.Idle) → IsOnWay y
made y tasks place swap read fit rests = record { course = record { tasks = tasks; stage = place; swap = swap; read = read; fit = fit }; rests = rests }

still-read : (xs : List Sight) → sights.StaysRead xs xs
still-read xs n h = h

-- what a way goes by is read, too
way-read : (xs : List Sight) (by : Way) → sights.StaysRead xs (with_way xs by)
way-read xs (way.Down b) = sights.saw-read xs b.no (sight_of b)
way-read xs (way.Up b) = sights.saw-read xs b.no (sight_of b)
way-read xs (way.Auto to exec) = still-read xs
way-read xs (way.Match to exec every) = still-read xs

-- ---- what is decided

pub beside-apart : (u : Purpose) (n : ServerNo) → is_beside u n ≡ true → (d : ServerNo) × (u ≡ purpose.Takeover d) × (n.0 ≡ d.0 → ⊥)
beside-apart (purpose.Takeover d) n h = (d, refl, λ same. false≢true (sym (ap not (eq-eqb n.0 d.0 same)) ∙ h))
beside-apart _ n h = absurd (false≢true h)

hands-so : (u : Purpose) → hands u ≡ true → (n : ServerNo) × (u ≡ purpose.Intermediate n)
hands-so (purpose.Intermediate n) h = (n, refl)
hands-so _ h = absurd (false≢true h)

-- who goes to the position at which the designated one stopped is a task of takeovers
lead-apart : (u : Purpose) (t : Task) → follows_lead t ≡ true → Suits u t → (s : ServerNo) → u ≡ purpose.Intermediate s → ⊥
lead-apart u (task.Trailing n) h fits s e = false≢true (sym (ap (λ (x : Purpose). is_beside x n) e) ∙ fits)
lead-apart u task.Yielding h fits s e = false≢true (sym (ap is_takeover e) ∙ fits)
lead-apart u t h fits s e = false≢true h

-- the server that is to be read next
abbrev first_read : List Task → Option ServerNo
first_read [] = None
first_read (task.Reading n ∷ ts) = Some n
first_read (t ∷ ts) = None

module _ (w : World) (b : BookState) (now : Moment) where
  module _ (r : Recovery) (way : IsOnWay r) where
    abbrev here : StageOf r.purpose r.failed r.stage r.core.ops r.lead
    here = way.course.stage

    -- another stage
    at-stage : (t : Stage) (ops : List Op) → (info t).bar ≡ table.Never → (info t).lead ≡ None → meeting_in t ≡ None → StageOf r.purpose r.failed t ops r.lead
    at-stage t ops never led none = plain-stage r.purpose r.failed r.stage t r.core.ops ops r.lead here never led none

    -- a stage in which no places change
    calm-at : (t : Stage) → swap_in t ≡ None → gives t ≡ false → SwapIn r t
    calm-at t none off = plain-swap r.purpose r.chosen r.outcome.promoted r.swaps r.stage t way.course.swap none off

    -- if no task is left the successor was read
    read-over : r.core.ops ≡ [] → r.queue ≡ [] → (seen : List Sight) → sights.StaysRead r.core.seen seen → (k : Stage) (ops : List Op) (ts : List Task) → ReadIn r k ops ts seen
    read-over none over seen more k ops ts n e = inl (more n.0 (go (way.course.read n e)))
      where
        go : (is_some (seen_of r.core.seen n.0) ≡ true) ⊎ (((xs : List Task) × (r.queue ≡ task.Reading n ∷ xs)) ⊎ ((r.stage ≡ stage.Read n) × (r.core.ops ≡ op.Status n None ∷ [])))
            → is_some (seen_of r.core.seen n.0) ≡ true
        go (inl h) = h
        go (inr (inl x)) = let bad : [] ≡ task.Reading n ∷ x.0 = sym over ∙ x.1 in cc
        go (inr (inr x)) = absurd (busy-with (op.Status n None) [] r.core.ops x.1 none)

    -- and if another task is next
    pub was-read : (t : Task) (ts : List Task) → IsNext r t ts → ((n : ServerNo) (xs : List Task) → t ∷ ts ≡ task.Reading n ∷ xs → ⊥) → (n : ServerNo) → r.purpose ≡ purpose.Intermediate n
        → is_some (seen_of r.core.seen n.0) ≡ true
    was-read t ts next apart n e = go (way.course.read n e)
      where
        go : (is_some (seen_of r.core.seen n.0) ≡ true) ⊎ (((xs : List Task) × (r.queue ≡ task.Reading n ∷ xs)) ⊎ ((r.stage ≡ stage.Read n) × (r.core.ops ≡ op.Status n None ∷ [])))
            → is_some (seen_of r.core.seen n.0) ≡ true
        go (inl h) = h
        go (inr (inl x)) = absurd (apart n x.0 (sym next.queue ∙ x.1))
        go (inr (inr x)) = absurd (busy-with (op.Status n None) [] r.core.ops x.1 next.rests)

    module _ (t : Task) (ts : List Task) (next : IsNext r t ts) where
      -- and still is
      read-next : ((n : ServerNo) (xs : List Task) → t ∷ ts ≡ task.Reading n ∷ xs → ⊥) → (seen : List Sight) → sights.StaysRead r.core.seen seen → (k : Stage) (ops : List Op) (us : List Task)
          → ReadIn r k ops us seen
      read-next apart seen more k ops us n e = inl (more n.0 (was-read t ts next apart n e))

      idle-here : r.stage ≡ stage.Idle
      idle-here = way.rests next.rests

      tasks-here : TasksOf r.purpose r.stage (t ∷ ts) r.chosen r.swaps
      tasks-here = subst (λ (xs : List Task). TasksOf r.purpose r.stage xs r.chosen r.swaps) next.queue way.course.tasks

      pub suit-here : Suits r.purpose t
      suit-here = suit r.purpose r.chosen r.swaps r.stage t ts tasks-here idle-here

      behind-here : (t ≡ task.Choosing → ⊥) → (t ≡ task.Yielding → ⊥) → (k : Stage) → TasksOf r.purpose k ts r.chosen r.swaps
      behind-here apart other k = behind r.purpose r.chosen r.swaps r.stage t ts tasks-here idle-here apart other k

    to-stage : r.core.ops ≡ [] → (k : Stage) → TasksOf r.purpose k r.queue r.chosen r.swaps
    to-stage none k = restage r.purpose r.chosen r.swaps r.stage r.queue way.course.tasks (way.rests none) k

    to-unswapped : r.core.ops ≡ [] → r.queue ≡ [] → (k : Stage) → TasksOf r.purpose k r.queue r.chosen false
    to-unswapped none over k = unswaps r.purpose r.chosen r.swaps r.stage r.queue way.course.tasks (way.rests none) over k

    reading : (n : ServerNo) (ts : List Task) → IsNext r (task.Reading n) ts → ReadIn r (stage.Read n) (op.Status n None ∷ []) ts r.core.seen
    reading n ts next m e = go (way.course.read m e)
      where
        go : (is_some (seen_of r.core.seen m.0) ≡ true) ⊎ (((xs : List Task) × (r.queue ≡ task.Reading m ∷ xs)) ⊎ ((r.stage ≡ stage.Read m) × (r.core.ops ≡ op.Status m None ∷ [])))
            → (is_some (seen_of r.core.seen m.0) ≡ true) ⊎ (((xs : List Task) × (ts ≡ task.Reading m ∷ xs)) ⊎ ((stage.Read n ≡ stage.Read m) × (op.Status n None ∷ [] ≡ op.Status m None ∷ [])))
        go (inl h) = inl h
        go (inr (inl x)) =
            let same : n ≡ m = same_Some n m (ap first_read (sym next.queue ∙ x.1)) in
            inr (inr (ap stage.Read same, ap (λ (k : ServerNo). op.Status k None ∷ []) same))
        go (inr (inr x)) = absurd (busy-with (op.Status m None) [] r.core.ops x.1 next.rests)

    pub decides-way : (d : Decision) → MayDecide (ground_of w b now) r d → finds_nobody d ≡ false → IsOnWay (decided_by (ground_of w b now) r d)
    decides-way (by.Reads n ts) may h =
        made _ (behind-here (task.Reading n) ts may (λ e. cc) (λ e. cc) (stage.Read n)) (at-stage (stage.Read n) (op.Status n None ∷ []) refl refl refl) (calm-at (stage.Read n) refl refl) (reading n ts may) way.course.fit (λ e. cc)
    decides-way (by.Drains n ts) may h =
        made _ (behind-here (task.Draining n) ts may (λ e. cc) (λ e. cc) (stage.Drain n)) (at-stage (stage.Drain n) _ refl refl refl) (calm-at (stage.Drain n) refl refl) (read-next (task.Draining n) ts may (λ m xs e. cc) r.core.seen (still-read r.core.seen) (stage.Drain n) _ ts) way.course.fit (λ e. cc)
    decides-way (by.Sends n go ts) may h =
        made _ (behind-here (task.Moving n go) ts may (λ e. cc) (λ e. cc) (stage.Move n go)) (at-stage (stage.Move n go) _ refl refl refl) (calm-at (stage.Move n go) refl refl) (read-next (task.Moving n go) ts may (λ m xs e. cc) (with_way r.core.seen go) (way-read r.core.seen go) (stage.Move n go) _ ts) way.course.fit (λ e. absurd (some-op n go e))
    decides-way (by.Expels n ts) may h =
        made _ (behind-here (task.Expelling n) ts may (λ e. cc) (λ e. cc) (stage.Expel n)) (at-stage (stage.Expel n) _ refl refl refl) (calm-at (stage.Expel n) refl refl) (read-next (task.Expelling n) ts may (λ m xs e. cc) r.core.seen (still-read r.core.seen) (stage.Expel n) _ ts) way.course.fit (λ e. cc)
    decides-way (by.Releases n ts) may h =
        made _ (behind-here (task.Releasing n) ts may (λ e. cc) (λ e. cc) (stage.Release n)) (at-stage (stage.Release n) _ refl refl refl) (calm-at (stage.Release n) refl refl) (read-next (task.Releasing n) ts may (λ m xs e. cc) r.core.seen (still-read r.core.seen) (stage.Release n) _ ts) way.course.fit (λ e. cc)
    decides-way (by.Looks n x ts) may h =
        made _ (behind-here (task.Trailing n) ts may.0 (λ e. cc) (λ e. cc) (stage.Look n x)) (record {
          first = inl refl;
          meets = λ m d e. absurd (no-meeting (m, d) (meets-so (stage.Look n x) m d e));
          lead = here.lead;
          apart = λ k y e at same.
              let who : n ≡ k = ap (λ (ns : List ServerNo). slice_index_or ns 0 n) at in
              let which : x ≡ y = same_Some x y e in
              other (ap (λ (z : ServerNo). z.0) who ∙ (same ∙ ap (λ (z : Bridge). z.no.0) (sym which)));
        }) (calm-at (stage.Look n x) refl refl) (read-next (task.Trailing n) ts may.0 (λ m xs e. cc) r.core.seen (still-read r.core.seen) (stage.Look n x) _ ts) way.course.fit (λ e. cc)
      where
        other : n.0 ≡ x.no.0 → ⊥
        other same =
            let one = beside-apart r.purpose n (suit-here (task.Trailing n) ts may.0) in
            one.2 (same ∙ ap (λ (k : ServerNo). k.0) (here.lead one.0 x one.1 may.1))
    decides-way (by.Yields x ts) may h =
        let tasks = tasks-here task.Yielding ts may.0 in
        made _ (record {
          few = fewer r.purpose r.chosen r.swaps r.stage task.Yielding ts tasks (way.rests may.0.rests);
          suited = suit-rest r.purpose r.chosen r.swaps r.stage task.Yielding ts tasks (way.rests may.0.rests);
          chosen = λ c none. Contains-tail task.Yielding ts task.Choosing (λ e. cc) (tasks.chosen c none);
          yields = λ over. inr (inl (r.failed, x.no, inl refl));
          named = tasks.named;
          over = λ m e. let bad : task.Yielding ∷ ts ≡ [] = tasks.over m e in cc;
        }) (at-stage (stage.Yield r.failed x.no) _ refl refl refl) (record {
          first = way.course.swap.first;
          taking = λ p q e. absurd (calm (stage.Yield r.failed x.no) refl p q e);
          closed = λ m y. absurd (false≢true (ap is_takeover (sym m) ∙ suit-here task.Yielding ts may.0));
        }) (read-next task.Yielding ts may.0 (λ m xs e. cc) (with_bridge r.core.seen x) (sights.saw-read r.core.seen x.no (sight_of x)) (stage.Yield r.failed x.no) _ ts) way.course.fit (λ e. cc)
    decides-way (by.Sticks t ts) may h = absurd (false≢true (sym h))
    decides-way (by.ChoosesNobody ts) may h = absurd (false≢true (sym h))
    decides-way (by.Chooses p ts) may h =
        made _ (chooses-one r.purpose r.chosen r.swaps r.stage ts (moves_in (lot_by r.means (ground_of w b now) r.failed p) (without_stopped r.drained p.no)) p.no (tasks-here task.Choosing ts may.0)
        (busy-moves r.purpose (lot_by r.means (ground_of w b now) r.failed p) (without_stopped r.drained p.no)) r.stage) here
        (record {
          first = λ m e. refl;
          taking = λ p' q' e. absurd (calm stage.Idle refl p' q' (subst (λ (k : Stage). IsSwapping k p' q') (idle-here task.Choosing ts may.0) e));
          closed = λ m y. absurd (false≢true (ap gives (sym (idle-here task.Choosing ts may.0)) ∙ gives-so r.stage y));
        }) (read-next task.Choosing ts may.0 (λ m xs e. cc) r.core.seen (still-read r.core.seen) r.stage r.core.ops _)
        (All-append IsFitLost r.outcome.lost (losses_in (lot_by r.means (ground_of w b now) r.failed p) (without_stopped r.drained p.no)) way.course.fit
        (fit-lots (lot_by r.means (ground_of w b now) r.failed p) (fit-lots-by r.means w b now r.failed p) (without_stopped r.drained p.no))) way.rests
    decides-way (by.Hands d ds go ts) may h =
        made _ (to-stage may.next.rests (stage.Move d.no go)) (at-stage (stage.Move d.no go) _ refl refl refl) (calm-at (stage.Move d.no go) refl refl) (read-next task.Handing ts may.next (λ m xs e. cc) (with_way r.core.seen go) (way-read r.core.seen go) (stage.Move d.no go) _ r.queue) way.course.fit (λ e. absurd (some-op d.no go e))
    decides-way (by.Leaves d ds ts) may h = made _ way.course.tasks here way.course.swap way.course.read (one-more r.outcome.lost d.no (lost.behind d.exec) way.course.fit refl) way.rests
    decides-way (by.HandedOver ts) may h =
        made _ (behind-here task.Handing ts may.0 (λ e. cc) (λ e. cc) r.stage) here way.course.swap (read-next task.Handing ts may.0 (λ m xs e. cc) r.core.seen (still-read r.core.seen) r.stage r.core.ops ts) way.course.fit way.rests
    decides-way (by.Passes ts) may h =
        made _ (behind-here task.Handing ts may.0 (λ e. cc) (λ e. cc) r.stage) here way.course.swap (read-next task.Handing ts may.0 (λ m xs e. cc) r.core.seen (still-read r.core.seen) r.stage r.core.ops ts) way.course.fit way.rests
    decides-way (by.Sorts ts) may h =
        let out = map task.Expelling (filter (λ n. expels r.purpose (why_of r.outcome.lost n)) r.replicas) in
        let free = map task.Releasing (filter (λ n. releases r.purpose (why_of r.outcome.lost n)) r.replicas) in
        made _ (subst (λ (xs : List Task). TasksOf r.purpose r.stage xs r.chosen r.swaps) (append_assoc out free ts)
        (before r.purpose r.chosen r.swaps r.stage task.Sorting ts (tasks-here task.Sorting ts may) (way.rests may.rests) (λ e. cc) (λ e. cc) (out ++ free)
        (busy-append r.purpose out free (busy-map r.purpose task.Expelling (λ n. refl) (λ n. refl) (filter (λ n. expels r.purpose (why_of r.outcome.lost n)) r.replicas))
        (busy-map r.purpose task.Releasing (λ n. refl) (λ n. refl) (filter (λ n. releases r.purpose (why_of r.outcome.lost n)) r.replicas))) r.stage)) here way.course.swap (read-next task.Sorting ts may (λ m xs e. cc) r.core.seen (still-read r.core.seen) r.stage r.core.ops _) way.course.fit way.rests
    decides-way (by.Levels p q) may h =
        made _ (to-unswapped may.0.rests may.0.queue (stage.Level p q)) (at-stage (stage.Level p q) _ refl refl refl) (record {
          first = λ m e. absurd (false≢true e);
          taking = λ p' q' e.
              let same = same_Some (p, q) (p', q') (swaps-so (stage.Level p q) p' q' e) in
              let which : p ≡ p' = ap (λ (x : ServerNo × ServerNo). x.0) same in
              let chosen : r.chosen ≡ Some p' = may.2 ∙ ap (λ (k : ServerNo). Some k) which in
              (refl, chosen, way.course.swap.first may.0.purpose may.1 ∙ chosen);
          closed = λ m y. refl;
        }) (read-over may.0.rests may.0.queue r.core.seen (still-read r.core.seen) (stage.Level p q) _ r.queue) way.course.fit (λ e. cc)
    decides-way by.Remains may h =
        made _ (to-unswapped may.0.rests may.0.queue r.stage) here (record {
          first = λ m e. absurd (false≢true e);
          taking = λ p' q' e. absurd (calm stage.Idle refl p' q' (subst (λ (k : Stage). IsSwapping k p' q') (way.rests may.0.rests) e));
          closed = λ m y. refl;
        }) way.course.read way.course.fit way.rests
    decides-way (by.Crowns p) may h =
        made _ (to-stage may.0.rests (stage.Crown p)) (at-stage (stage.Crown p) _ refl refl refl) (record {
          first = way.course.swap.first;
          taking = λ p' q' e. absurd (calm (stage.Crown p) refl p' q' e);
          closed = λ m y. may.1;
        }) (read-over may.0.rests may.0.queue r.core.seen (still-read r.core.seen) (stage.Crown p) _ r.queue) way.course.fit (λ e. cc)
    decides-way (by.Rejoins p) may h =
        made _ (to-stage may.0.rests (stage.Close _)) (at-stage (stage.Close _) _ refl refl refl) (record {
          first = way.course.swap.first;
          taking = λ p' q' e. absurd (calm (stage.Close _) refl p' q' e);
          closed = λ m y. let bad : purpose.Regroup ≡ purpose.Master = sym may.0.purpose ∙ m in cc;
        }) (read-over may.0.rests may.0.queue r.core.seen (still-read r.core.seen) (stage.Close _) _ r.queue) way.course.fit (λ e. cc)
    decides-way by.Closes may h =
        made _ (to-stage may.1.rests (stage.Close _)) (at-stage (stage.Close _) _ refl refl refl) (record {
          first = way.course.swap.first;
          taking = λ p' q' e. absurd (calm (stage.Close _) refl p' q' e);
          closed = λ m y. let bad : purpose.Intermediate may.0 ≡ purpose.Master = sym may.1.purpose ∙ m in cc;
        }) (read-over may.1.rests may.1.queue r.core.seen (still-read r.core.seen) (stage.Close _) _ r.queue) way.course.fit (λ e. cc)

    pub decides-lost : (d : Decision) → MayDecide (ground_of w b now) r d → finds_nobody d ≡ true → IsStuck (decided_by (ground_of w b now) r d)
    decides-lost (by.Sticks t ts) may h = record { ops = may.0.rests; queue = refl; chosen = refl; stage = way.rests may.0.rests; apart = lead-apart r.purpose t may.1 (suit-here t ts may.0) }
    decides-lost (by.ChoosesNobody ts) may h = record {
      ops = may.0.rests;
      queue = refl;
      chosen = refl;
      stage = way.rests may.0.rests;
      apart = λ s e. false≢true (sym (ap chooses e) ∙ suit-here task.Choosing ts may.0);
    }
    decides-lost (by.Reads n ts) may h = absurd (false≢true h)
    decides-lost d may h = absurd (false≢true h)

  -- who hands over has a successor, which is the chosen one, and was read
  pub handing : (r : Recovery) (d : Stopped) (ds : List Stopped) (o : Option Way) (ts : List Task) → IsOnWay r → (m : IsHanding (ground_of w b now) r d ds o ts)
      → (r.purpose ≡ purpose.Intermediate m.source) × (is_some (seen_of r.core.seen m.source.0) ≡ true)
  handing r d ds o ts way m =
      let one = hands-so r.purpose (suit-here r way task.Handing ts m.next) in
      let same : one.0 ≡ m.source = same_Some one.0 m.source (sym (way.course.tasks.named one.0 one.1) ∙ m.chosen) in
      let is : r.purpose ≡ purpose.Intermediate m.source = one.1 ∙ ap purpose.Intermediate same in
      (is, was-read r way task.Handing ts m.next (λ n xs e. cc) m.source is)

  no-next : (r : Recovery) (t : Task) (ts : List Task) → IsStuck r → IsNext r t ts → ⊥
  no-next r t ts x next = let bad : [] ≡ t ∷ ts = sym x.queue ∙ next.queue in cc

  pub decides-stuck : (r : Recovery) (d : Decision) → MayDecide (ground_of w b now) r d → IsStuck r → IsStuck (decided_by (ground_of w b now) r d)
  decides-stuck r by.Remains may x = record { ops = x.ops; queue = x.queue; chosen = x.chosen; stage = x.stage; apart = x.apart }
  decides-stuck r (by.Levels p q) may x = let bad : None ≡ Some p = sym x.chosen ∙ may.2 in cc
  decides-stuck r (by.Crowns p) may x = let bad : None ≡ Some p = sym x.chosen ∙ may.2 in cc
  decides-stuck r (by.Rejoins p) may x = let bad : None ≡ Some p = sym x.chosen ∙ may.1 in cc
  decides-stuck r by.Closes may x = absurd (x.apart may.0 may.1.purpose)
  decides-stuck r (by.Reads n ts) may x = absurd (no-next r _ _ x may)
  decides-stuck r (by.Drains n ts) may x = absurd (no-next r _ _ x may)
  decides-stuck r (by.Sends n go ts) may x = absurd (no-next r _ _ x may)
  decides-stuck r (by.Expels n ts) may x = absurd (no-next r _ _ x may)
  decides-stuck r (by.Releases n ts) may x = absurd (no-next r _ _ x may)
  decides-stuck r (by.Sorts ts) may x = absurd (no-next r _ _ x may)
  decides-stuck r (by.Hands d ds go ts) may x = absurd (no-next r _ _ x may.next)
  decides-stuck r (by.Leaves d ds ts) may x = absurd (no-next r _ _ x may.next)
  decides-stuck r d may x = absurd (no-next r _ _ x may.0)

  pub decides-fine : (r : Recovery) (d : Decision) → MayDecide (ground_of w b now) r d → Fine r → Fine (decided_by (ground_of w b now) r d)
  decides-fine r d may (inr x) = inr (decides-stuck r d may x)
  decides-fine r d may (inl way) = go (finds_nobody d) refl
    where
      go : (a : Bool) → finds_nobody d ≡ a → Fine (decided_by (ground_of w b now) r d)
      go true e = inr (decides-lost r way d may e)
      go false e = inl (decides-way r way d may e)

-- ---- an operation

-- what is left of the operations
on-stage : (u : Purpose) (f : ServerNo) (s : Stage) (ops rest : List Op) (o : Option Bridge) → StageOf u f s ops o → ((Q : Op → Type 0) → All Q ops → All Q rest) → StageOf u f s rest o
on-stage u f s ops rest o h on = record { first = go h.first; meets = h.meets; lead = h.lead; apart = h.apart }
  where
    go : ((info s).bar ≡ table.Never) ⊎ All (λ x. x ≡ op.Status f None) ops → ((info s).bar ≡ table.Never) ⊎ All (λ x. x ≡ op.Status f None) rest
    go (inl never) = inl never
    go (inr all) = inr (on (λ x. x ≡ op.Status f None) all)

-- the stage that follows
next-stage : (u : Purpose) (f : ServerNo) (s : Stage) (ops : List Op) (o : Option Bridge) → StageOf u f s ops o → StageOf u f (moved s) ops o
next-stage u f s ops o h = record {
  first = go h.first;
  meets = λ m d e. h.meets m d (meets-back s m d (sym (moved-meets s) ∙ meets-so (moved s) m d e));
  lead = h.lead;
  apart = λ n x e at. h.apart n x (sym (moved-leads s) ∙ e) (sym (moved-places s x e) ∙ at);
}
  where
    go : ((info s).bar ≡ table.Never) ⊎ All (λ x. x ≡ op.Status f None) ops → ((info (moved s)).bar ≡ table.Never) ⊎ All (λ x. x ≡ op.Status f None) ops
    go (inl never) = inl (moved-bar s ∙ never)
    go (inr all) = inr all

module _ (w : World) (read : ℕ) (now : Moment) (r : Recovery) (o : Op) (rest : List Op) (is : r.core.ops ≡ o ∷ rest) (fits : Fits r.stage (o ∷ rest)) (c : IsOnCourse r)
    (ob : Option Observation) (es : List Exchange) (j : Job) (goes : by_deed w read now r.core rest (deed_of o) ≡ attempt.Goes ob es j) where
  abbrev later : Recovery
  later = record r { core = j }

  behind-op : (Q : Op → Type 0) → All Q r.core.ops → All Q rest
  behind-op Q all = All-tail Q o rest (subst (λ (xs : List Op). All Q xs) is all)

  -- its last operation ends it, and doesn't go on
  not-closed : o ∷ rest ≡ tail_of r.stage → (lines : List Line) → r.stage ≡ stage.Close lines → ⊥
  not-closed t lines at =
      let same : o ≡ op.Finish lines = same-head o (op.Finish lines) rest [] (t ∙ ap tail_of at) in
      let bad : attempt.Ends lines ≡ attempt.Goes ob es j = subst (λ (x : Op). by_deed w read now r.core rest (deed_of x) ≡ attempt.Goes ob es j) same goes in
      cc

  -- each server that was read still is
  reads-on : sights.StaysRead r.core.seen j.seen
  reads-on = subst (λ (a : Attempt). sights.Reads r.core a) goes (sights.deed-reads r.core rest w read now (deed_of o))

  read-shown : (n : ServerNo) → o ≡ op.Status n None → is_some (seen_of j.seen n.0) ≡ true
  read-shown n at =
      let shown = subst (λ (a : Attempt). ReadsNow w n a) (subst (λ (y : Op). by_deed w read now r.core rest (deed_of y) ≡ attempt.Goes ob es j) at goes) (read-now w read now r.core rest n) in
      ap is_some shown.2

  read-then : (k : Stage) (ops : List Op) → ReadIn r k ops r.queue j.seen
  read-then k ops n e = go (c.read n e)
    where
      go : (is_some (seen_of r.core.seen n.0) ≡ true) ⊎ (((xs : List Task) × (r.queue ≡ task.Reading n ∷ xs)) ⊎ ((r.stage ≡ stage.Read n) × (r.core.ops ≡ op.Status n None ∷ [])))
          → (is_some (seen_of j.seen n.0) ≡ true) ⊎ (((xs : List Task) × (r.queue ≡ task.Reading n ∷ xs)) ⊎ ((k ≡ stage.Read n) × (ops ≡ op.Status n None ∷ [])))
      go (inl h) = inl (reads-on n.0 h)
      go (inr (inl x)) = inr (inl x)
      go (inr (inr x)) = inl (read-shown n (same-head o (op.Status n None) rest [] (sym is ∙ x.1)))

  pub stepped-course : j.ops ≡ rest → IsOnCourse (stepped later o)
  stepped-course left = go (fits-step r.stage o rest fits)
    where
      on : (Q : Op → Type 0) → All Q r.core.ops → All Q j.ops
      on Q all = subst (λ (xs : List Op). All Q xs) (sym left) (behind-op Q all)

      same : IsOnCourse later
      same = record { tasks = c.tasks; stage = on-stage r.purpose r.failed r.stage r.core.ops j.ops r.lead c.stage on; swap = c.swap; read = read-then r.stage j.ops; fit = c.fit }

      swap : SwapIn r (moved r.stage)
      swap = next-swap r.purpose r.chosen r.outcome.promoted r.swaps r.stage c.swap

      tasks : o ∷ rest ≡ tail_of r.stage → TasksOf r.purpose (moved r.stage) r.queue r.chosen r.swaps
      tasks t = record { few = c.tasks.few; suited = c.tasks.suited; chosen = c.tasks.chosen; yields = λ over. by (c.tasks.yields over); named = c.tasks.named; over = c.tasks.over }
        where
          by : Contains r.queue task.Yielding ⊎ Yields r.stage → Contains r.queue task.Yielding ⊎ Yields (moved r.stage)
          by (inl x) = inl x
          by (inr y) = inr (moved-yields r.stage (not-closed t) (gives-so r.stage y))

      ahead : o ∷ rest ≡ tail_of r.stage → (q : Option ServerNo) → IsOnCourse (record (follows_no_more later q) { stage = moved r.stage })
      ahead t None = record { tasks = tasks t; stage = next-stage r.purpose r.failed r.stage j.ops r.lead same.stage; swap = swap; read = read-then (moved r.stage) j.ops; fit = c.fit }
      ahead t (Some m) = record { tasks = tasks t; stage = next-stage r.purpose r.failed r.stage j.ops r.lead same.stage; swap = swap; read = read-then (moved r.stage) j.ops; fit = c.fit }

      go : ((ends r.stage (deed_of o) ≡ false) × Fits r.stage rest) ⊎ (o ∷ rest ≡ tail_of r.stage) → IsOnCourse (stepped later o)
      go (inl p) = subst (λ (a : Bool). IsOnCourse (cond a (entered later (moved r.stage)) later)) (sym p.0) same
      go (inr t) =
          subst (λ (a : Bool). IsOnCourse (cond a (entered later (moved r.stage)) later)) (sym (moved-fits r.stage o rest t).0) (ahead t (leaver (moved r.stage)))

  -- and if it waits the operation stays
  pub waited-way : j.ops ≡ r.core.ops → IsOnWay later
  waited-way left = record {
    course = record {
      tasks = c.tasks;
      stage = on-stage r.purpose r.failed r.stage r.core.ops j.ops r.lead c.stage (λ Q all. subst (λ (xs : List Op). All Q xs) (sym left) all);
      swap = c.swap;
      read = read-then r.stage j.ops;
      fit = c.fit;
    };
    rests = λ none. absurd (busy-with o rest j.ops (left ∙ is) none);
  }

-- ---- the end of a stage

abbrev is_given : Ending → Bool
is_given (by.Switches m d) = true
is_given (by.Ends n) = true
is_given _ = false

pub no-tail : (front : List Op) (x : Op) (xs : List Op) → [] ≡ front ++ (x ∷ xs) → ⊥
no-tail [] x xs e = cc
no-tail (y ∷ ys) x xs e = cc

-- with no operation left such a stage makes something
rests-out : (s : Stage) → Fits s [] → rests s ≡ true → gives s ≡ true → ⊥
rests-out (stage.Yield m d) fits h g = no-tail fits.front _ _ fits.is
rests-out (stage.Switch m d) fits h g = no-tail fits.front _ _ fits.is
rests-out (stage.Switched m d) fits h g = false≢true h
rests-out (stage.Crown n) fits h g = no-tail fits.front _ _ fits.is
rests-out (stage.Open n) fits h g = no-tail fits.front _ _ fits.is
rests-out (stage.Opened n) fits h g = false≢true h
rests-out (stage.Close lines) fits h g = no-tail fits.front _ _ fits.is
rests-out s fits h g = false≢true g

never-empty : (xs : List Op) (o : Op) → xs ++ o ∷ [] ≡ [] → ⊥
never-empty [] o e = cc
never-empty (x ∷ xs) o e = cc

-- what was seen of the designated one is its own
lead-no : (m d : ServerNo) (o : Option Position) (x : Bridge) → lead_under m (bridge_at d o) ≡ Some x → x.no ≡ d
lead-no m d None x e = absurd (no-bridge x e)
lead-no m d (Some s) x e = by-end s.own_end s.source e
  where
    below : (z : Bridge) → z.no ≡ d → (a : Bool) → cond a (Some z) None ≡ Some x → x.no ≡ d
    below z its true h = sym (ap (λ (y : Bridge). y.no) (same_Some z x h)) ∙ its
    below z its false h = absurd (no-bridge x h)

    by-source : (own : Coord) (q : SourceState) → lead_under m (bridge_by d (Some own) q s.exec) ≡ Some x → x.no ≡ d
    by-source own source.Without h = absurd (no-bridge x h)
    by-source own (source.Attached k) h = below (record { no = d; source = k; own = own; exec = s.exec }) refl (k.0 == m.0) h
    by-source own (source.Detached k) h = below (record { no = d; source = k; own = own; exec = s.exec }) refl (k.0 == m.0) h

    by-end : (own : Option Coord) (q : SourceState) → lead_under m (bridge_by d own q s.exec) ≡ Some x → x.no ≡ d
    by-end None q h = absurd (no-bridge x h)
    by-end (Some own) q h = by-source own q h

module _ (r : Recovery) (none : r.core.ops ≡ []) (c : IsOnCourse r) (fits : IsFit r) where
  off : (s : Stage) → r.stage ≡ s → gives s ≡ false → gives r.stage ≡ true → ⊥
  off s at f g = false≢true (sym f ∙ (sym (ap gives at) ∙ g))

  ends-out : (e : Ending) → MayEnd r e → is_given e ≡ false → gives r.stage ≡ true → ⊥
  ends-out by.Rests may not g = rests-out r.stage (subst (λ (xs : List Op). Fits r.stage xs) none fits) may g
  ends-out (by.Stays n s) may not g = off (stage.Judged n) may.0 refl g
  ends-out (by.Loses n y) may not g = by-read may.0
    where
      by-read : (r.stage ≡ stage.Judged n) ⊎ ((x : Bridge) × (r.stage ≡ stage.Looked n x)) → ⊥
      by-read (inl at) = off (stage.Judged n) at refl g
      by-read (inr at) = off (stage.Looked n at.0) at.1 refl g
  ends-out (by.Frees n y) may not g = off (stage.Halted n may.0) may.1 refl g
  ends-out (by.Follows n p) may not g = by-end may
    where
      by-end : (r.stage ≡ stage.Join n p) ⊎ (r.stage ≡ stage.Resume p n) → ⊥
      by-end (inl at) = off (stage.Join n p) at refl g
      by-end (inr at) = off (stage.Resume p n) at refl g
  ends-out (by.Marks n) may not g = off (stage.Expelled n) may refl g
  ends-out (by.Leads d) may not g = off (stage.Gather may.0 d) may.1 refl g
  ends-out (by.Trails n x) may not g = off (stage.Looked n x) may.0 refl g
  ends-out (by.Joins n x) may not g = off (stage.Halted n x) may.0 refl g
  ends-out (by.Swaps p q) may not g = off (stage.Swapped p q) may refl g
  ends-out (by.Shuts m d) may not g = off (stage.Meet m d) may refl g
  ends-out (by.Switches m d) may not g = false≢true (sym not)
  ends-out (by.Ends n) may not g = false≢true (sym not)

  -- the designated one is still to take its master's place
  kept-tasks : (gives r.stage ≡ true → ⊥) → (k : Stage) → TasksOf r.purpose k r.queue r.chosen r.swaps
  kept-tasks out k = record { few = c.tasks.few; suited = c.tasks.suited; chosen = c.tasks.chosen; yields = λ over. by (c.tasks.yields over); named = c.tasks.named; over = c.tasks.over }
    where
      by : Contains r.queue task.Yielding ⊎ Yields r.stage → Contains r.queue task.Yielding ⊎ Yields k
      by (inl x) = inl x
      by (inr y) = absurd (out (gives-so r.stage y))

  -- or has taken it
  given-tasks : (k : Stage) → closes k ≡ true → TasksOf r.purpose k r.queue r.chosen r.swaps
  given-tasks k h = record { few = c.tasks.few; suited = c.tasks.suited; chosen = c.tasks.chosen; yields = λ over. inr (inr h); named = c.tasks.named; over = c.tasks.over }

  -- no places change then, nor is anything opened
  calm-next : (t : Stage) → swap_in t ≡ None → gives t ≡ false → SwapIn r t
  calm-next t nobody out = plain-swap r.purpose r.chosen r.outcome.promoted r.swaps r.stage t c.swap nobody out

  read-left : (k : Stage) (ops : List Op) (seen : List Sight) → sights.StaysRead r.core.seen seen → ReadIn r k ops r.queue seen
  read-left k ops seen more n e = go (c.read n e)
    where
      go : (is_some (seen_of r.core.seen n.0) ≡ true) ⊎ (((xs : List Task) × (r.queue ≡ task.Reading n ∷ xs)) ⊎ ((r.stage ≡ stage.Read n) × (r.core.ops ≡ op.Status n None ∷ [])))
          → (is_some (seen_of seen n.0) ≡ true) ⊎ (((xs : List Task) × (r.queue ≡ task.Reading n ∷ xs)) ⊎ ((k ≡ stage.Read n) × (ops ≡ op.Status n None ∷ [])))
      go (inl h) = inl (more n.0 h)
      go (inr (inl x)) = inr (inl x)
      go (inr (inr x)) = absurd (busy-with (op.Status n None) [] r.core.ops x.1 none)

  read-idle : ReadIn r stage.Idle r.core.ops r.queue r.core.seen
  read-idle = read-left stage.Idle r.core.ops r.core.seen (still-read r.core.seen)

  at-next : (t : Stage) (ops : List Op) → (info t).bar ≡ table.Never → (info t).lead ≡ None → meeting_in t ≡ None → StageOf r.purpose r.failed t ops r.lead
  at-next t ops never led nobody = plain-stage r.purpose r.failed r.stage t r.core.ops ops r.lead c.stage never led nobody

  at-idle : StageOf r.purpose r.failed stage.Idle r.core.ops r.lead
  at-idle = at-next stage.Idle r.core.ops refl refl refl

  pub completes-way : (e : Ending) → MayEnd r e → IsOnWay (ended_by r e)
  completes-way (by.Loses n y) may =
      made _ (kept-tasks (ends-out (by.Loses n y) may refl) stage.Idle) at-idle (calm-next stage.Idle refl refl) read-idle (one-more r.outcome.lost n y c.fit (fit-stray r.failed (seen_of r.core.seen n.0) y may.1)) (λ h. refl)
  completes-way (by.Frees n y) may =
      made _ (kept-tasks (ends-out (by.Frees n y) may refl) (stage.Release n)) (at-next (stage.Release n) _ refl refl refl)
      (calm-next (stage.Release n) refl refl) (read-left (stage.Release n) _ r.core.seen (still-read r.core.seen))
      (one-more r.outcome.lost n y c.fit (fit-late may.0 (seen_of r.core.seen n.0) y may.2)) (λ h. cc)
  completes-way (by.Marks n) may = made _ (kept-tasks (ends-out (by.Marks n) may refl) stage.Idle) at-idle (calm-next stage.Idle refl refl) read-idle (fit-marked n r.outcome.lost c.fit) (λ h. refl)
  completes-way (by.Leads d) may =
      made _ (kept-tasks (ends-out (by.Leads d) may refl) stage.Idle) (record {
        first = inl refl;
        meets = λ m k e. absurd (no-meeting (m, k) (meets-so stage.Idle m k e));
        lead = λ k x over e.
            lead-no r.failed d (seen_of r.core.seen d.0) x e
            ∙ same_Some d k (ap first_source (sym (c.stage.meets may.0 d (inr (inr may.1))).1 ∙ over));
        apart = λ n x e at same. no-bridge x e;
      }) (calm-next stage.Idle refl refl) read-idle c.fit (λ h. refl)
  completes-way (by.Trails n x) may =
      made _ (kept-tasks (ends-out (by.Trails n x) may refl) (stage.Trail n x)) (record {
        first = inl refl;
        meets = λ m k e. absurd (no-meeting (m, k) (meets-so (stage.Trail n x) m k e));
        lead = c.stage.lead;
        apart = λ k y e at. c.stage.apart k y (ap (λ (s : Stage). (info s).lead) may.0 ∙ e) (ap (λ (s : Stage). (info s).places) may.0 ∙ at);
      }) (calm-next (stage.Trail n x) refl refl) (read-left (stage.Trail n x) _ (with_bridge r.core.seen x) (sights.saw-read r.core.seen x.no (sight_of x))) c.fit (λ h. cc)
  completes-way (by.Joins n x) may = made _ (kept-tasks (ends-out (by.Joins n x) may refl) (stage.Move n (way.Down x))) (at-next (stage.Move n (way.Down x)) _ refl refl refl) (calm-next (stage.Move n (way.Down x)) refl refl) (read-left (stage.Move n (way.Down x)) _ (with_bridge r.core.seen x) (sights.saw-read r.core.seen x.no (sight_of x))) c.fit (λ h. cc)
  completes-way (by.Swaps p q) may = made _ (given-tasks (stage.Open q) refl) (at-next (stage.Open q) _ refl refl refl) (record {
    first = λ m e. absurd (false≢true (sym (c.swap.taking p q (inr (inr may))).0 ∙ e));
    taking = λ p' q' e. absurd (calm (stage.Open q) refl p' q' e);
    closed = λ m y. (c.swap.taking p q (inr (inr may))).0;
  }) (read-left (stage.Open q) _ r.core.seen (still-read r.core.seen)) c.fit (λ h. cc)
  completes-way (by.Switches m d) may = made _ (given-tasks (stage.Open d) refl) (at-next (stage.Open d) _ refl refl refl)
      (last-swap r.purpose r.chosen r.outcome.promoted r.swaps r.stage (stage.Open d) c.swap refl (inl (m, d, inr (inr may))))
      (read-left (stage.Open d) _ r.core.seen (still-read r.core.seen)) c.fit (λ h. cc)
  completes-way (by.Shuts m d) may =
      made _ (kept-tasks (ends-out (by.Shuts m d) may refl) (stage.Shut m d)) (record {
        first = inl refl;
        meets = λ k n e.
            subst (λ (x : ServerNo × ServerNo). (x.0 ≡ r.failed) × (r.purpose ≡ purpose.Takeover x.1)) (same_Some (m, d) (k, n) (meets-so (stage.Shut m d) k n e))
            (c.stage.meets m d (inl may));
        lead = c.stage.lead;
        apart = λ n x e at same. no-bridge x e;
      }) (calm-next (stage.Shut m d) refl refl) (read-left (stage.Shut m d) _ r.core.seen (still-read r.core.seen)) c.fit (λ h. cc)
  completes-way (by.Ends n) may =
      made _ (given-tasks (stage.Close _) refl) (at-next (stage.Close _) _ refl refl refl)
      (last-swap r.purpose r.chosen r.outcome.promoted r.swaps r.stage (stage.Close _) c.swap refl (inr (ap closes may)))
      (read-left (stage.Close _) _ r.core.seen (still-read r.core.seen)) c.fit (λ h. absurd (never-empty (last_looks r r.purpose n) _ h))
  completes-way x may = made _ (kept-tasks (ends-out x may refl) stage.Idle) at-idle (calm-next stage.Idle refl refl) read-idle c.fit (λ h. refl)

-- ---- a failing operation

bears-out : (s : Stage) (e : Bearing) → MayBear s e → gives s ≡ true → ⊥
bears-out s e may g = go e may
  where
    off-at : (t : Stage) → s ≡ t → gives t ≡ false → ⊥
    off-at t at f = false≢true (sym f ∙ (sym (ap gives at) ∙ g))

    go : (x : Bearing) → MayBear s x → ⊥
    go by.Drops (inl at) = off-at stage.Check at refl
    go by.Drops (inr x) = by-name x.1
      where
        by-name : (s ≡ stage.Expel x.0) ⊎ (s ≡ stage.Release x.0) → ⊥
        by-name (inl at) = off-at (stage.Expel x.0) at refl
        by-name (inr at) = off-at (stage.Release x.0) at refl
    go (by.Misses n y) (inl at) = off-at (stage.Drain n) at refl
    go (by.Misses n y) (inr (inl x)) = off-at (stage.Move n x.0) x.1 refl
    go (by.Misses n y) (inr (inr x)) = off-at (stage.Join n x.0) x.1 refl
    go (by.Lets n y) (inl x) = off-at (stage.Move n x.0) x.1 refl
    go (by.Lets n y) (inr x) = by-lead x.1
      where
        by-lead : (s ≡ stage.Look n x.0) ⊎ (s ≡ stage.Trail n x.0) → ⊥
        by-lead (inl at) = off-at (stage.Look n x.0) at refl
        by-lead (inr at) = off-at (stage.Trail n x.0) at refl
    go (by.Restarts p q) at = off-at (stage.Level p q) at refl
    go (by.Returns p q) at = off-at (stage.Swap p q) at refl

-- a failing operation after which a recovery goes on
pub fails-not : (e : Bearing) → taking.Fails ≡ fate_of e → ⊥
fails-not by.Drops h = cc
fails-not (by.Misses n y) h = cc
fails-not e h = cc

module _ (w : World) (r : Recovery) (way : IsOnWay r) where
  borne-tasks : (e : Bearing) → MayBear r.stage e → (k : Stage) → TasksOf r.purpose k r.queue r.chosen r.swaps
  borne-tasks e may k = record {
    few = way.course.tasks.few;
    suited = way.course.tasks.suited;
    chosen = way.course.tasks.chosen;
    yields = λ over. by (way.course.tasks.yields over);
    named = way.course.tasks.named;
    over = way.course.tasks.over;
  }
    where
      by : Contains r.queue task.Yielding ⊎ Yields r.stage → Contains r.queue task.Yielding ⊎ Yields k
      by (inl x) = inl x
      by (inr y) = absurd (bears-out r.stage e may (gives-so r.stage y))

  at-borne : (t : Stage) (ops : List Op) → (info t).bar ≡ table.Never → (info t).lead ≡ None → meeting_in t ≡ None → StageOf r.purpose r.failed t ops r.lead
  at-borne t ops never led nobody = plain-stage r.purpose r.failed r.stage t r.core.ops ops r.lead way.course.stage never led nobody

  calm-borne : (t : Stage) → swap_in t ≡ None → gives t ≡ false → SwapIn r t
  calm-borne t nobody out = plain-swap r.purpose r.chosen r.outcome.promoted r.swaps r.stage t way.course.swap nobody out

  read-borne : (c : Cause) (e : Bearing) → fate w r.purpose r.stage c ≡ fate_of e → (k : Stage) (ops : List Op) → ReadIn r k ops r.queue r.core.seen
  read-borne c e is k ops n u = go (way.course.read n u)
    where
      go : (is_some (seen_of r.core.seen n.0) ≡ true) ⊎ (((xs : List Task) × (r.queue ≡ task.Reading n ∷ xs)) ⊎ ((r.stage ≡ stage.Read n) × (r.core.ops ≡ op.Status n None ∷ [])))
          → (is_some (seen_of r.core.seen n.0) ≡ true) ⊎ (((xs : List Task) × (r.queue ≡ task.Reading n ∷ xs)) ⊎ ((k ≡ stage.Read n) × (ops ≡ op.Status n None ∷ [])))
      go (inl h) = inl h
      go (inr (inl x)) = inr (inl x)
      go (inr (inr x)) = absurd (fails-not e (sym (ap (λ (s : Stage). fate w r.purpose s c) x.0) ∙ is))

  pub bears-way : (c : Cause) (e : Bearing) → fate w r.purpose r.stage c ≡ fate_of e → MayBear r.stage e → IsOnWay (borne r (fate_of e))
  bears-way c e is may = go e may (subst (λ (f : Fate). FitFate f) is (fit-fate w r.purpose r.stage c))
    where
      go : (x : Bearing) → MayBear r.stage x → FitFate (fate_of x) → IsOnWay (borne r (fate_of x))
      go by.Drops m fit = made _ (borne-tasks by.Drops m stage.Idle) (at-borne stage.Idle [] refl refl refl) (calm-borne stage.Idle refl refl) (read-borne c e is stage.Idle []) way.course.fit (λ h. refl)
      go (by.Misses n y) m fit = made _ (borne-tasks (by.Misses n y) m stage.Idle) (at-borne stage.Idle [] refl refl refl) (calm-borne stage.Idle refl refl) (read-borne c e is stage.Idle []) (one-more r.outcome.lost n y way.course.fit fit) (λ h. refl)
      go (by.Lets n y) m fit =
          made _ (borne-tasks (by.Lets n y) m (stage.Release n)) (at-borne (stage.Release n) _ refl refl refl) (calm-borne (stage.Release n) refl refl) (read-borne c e is (stage.Release n) _) (one-more r.outcome.lost n y way.course.fit fit) (λ h. cc)
      go (by.Restarts p q) m fit = made _ (borne-tasks (by.Restarts p q) m (stage.Release q)) (at-borne (stage.Release q) _ refl refl refl) (calm-borne (stage.Release q) refl refl) (read-borne c e is (stage.Release q) _) way.course.fit (λ h. cc)
      go (by.Returns p q) m fit = made _ (borne-tasks (by.Returns p q) m (stage.Return p q)) (at-borne (stage.Return p q) _ refl refl refl) (calm-borne (stage.Return p q) refl refl) (read-borne c e is (stage.Return p q) _) way.course.fit (λ h. cc)

-- ---- a turn

keeps-way : (w : World) (b : BookState) (read : ℕ) (now : Moment) → Keeps w b read now (λ r. IsFit r × Fine r) (λ v r. IsFit r × IsOnCourse r) (λ v r. IsOnWay r)
keeps-way w b read now = record {
  decides = λ r d may h. (decides-fits w b now r d may h.0, decides-fine w b now r d may h.1);
  waits = λ r o rest ob es j did e h.
      let way = still-on r o rest did.ops h.1 in
      waited-way w read now r o rest did.ops (subst (λ (xs : List Op). Fits r.stage xs) did.ops h.0) way.course ob es j did.goes ((went-of w read now r o rest ob es j did).waits e).0;
  acts = λ r o rest ob es j did e h.
      let way = still-on r o rest did.ops h.1 in
      let fits = subst (λ (xs : List Op). Fits r.stage xs) did.ops h.0 in
      let left = (went-of w read now r o rest ob es j did).done e in
      (stepped-fits r o rest j fits left, stepped-course w read now r o rest did.ops fits way.course ob es j did.goes left);
  continues = λ v r x xs is h. record { course = h.1; rests = λ none. absurd (busy-with x xs r.core.ops is none) };
  completes = λ v r e none may h. completes-way r none h.1 h.0 e may;
  bears = λ r o rest c ob e stops is may h. bears-way w r (still-on r o rest stops.ops h.1) c e is may;
}

pub taken-way : (w : World) (b : BookState) (read : ℕ) (now : Moment) (r : Recovery) → IsFit r → IsOnWay r → is_going (taken w b read now r).step ≡ true → IsOnWay (taken w b read now r).recovery
taken-way w b read now r fits way = kept-along w b read now (λ x. IsFit x × Fine x) (λ v x. IsFit x × IsOnCourse x) (λ v x. IsOnWay x) (keeps-way w b read now) r (fits, inl way)

-- one that is done has nobody lost because none may be promoted
pub done-fit : (w : World) (b : BookState) (read : ℕ) (now : Moment) (r : Recovery) → IsOnWay r → (lines : List Line) → (taken w b read now r).step ≡ step.Done lines → AllFit (taken w b read now r).recovery.outcome.lost
done-fit w b read now r way lines = go (taken w b read now r) (taken-walks w b read now r)
  where
    go : (t : Taken) → Turning w b read now r t → t.step ≡ step.Done lines → AllFit t.recovery.outcome.lost
    go t (by.Waits ds o rest ob es j did e) h = cc
    go t (by.Acts ds o rest ob es j did e end) h = cc
    go t (by.Bears ds o rest x ob e stops is may) h = cc
    go t (by.Fails ds x ob y) h = cc
    go t (by.Finishes {d} ds o rest ls is e) h =
        (still-on d o rest is (decisions-keep w b now Fine (decides-fine w b now) ds (inl way))).course.fit

-- and has looked for a better one
pub done-swap : (w : World) (b : BookState) (read : ℕ) (now : Moment) (r : Recovery) → IsOnWay r → (lines : List Line) → (taken w b read now r).step ≡ step.Done lines
    → SwapIn (taken w b read now r).recovery (taken w b read now r).recovery.stage
done-swap w b read now r way lines = go (taken w b read now r) (taken-walks w b read now r)
  where
    go : (t : Taken) → Turning w b read now r t → t.step ≡ step.Done lines → SwapIn t.recovery t.recovery.stage
    go t (by.Waits ds o rest ob es j did e) h = cc
    go t (by.Acts ds o rest ob es j did e end) h = cc
    go t (by.Bears ds o rest x ob e stops is may) h = cc
    go t (by.Fails ds x ob y) h = cc
    go t (by.Finishes {d} ds o rest ls is e) h =
        (still-on d o rest is (decisions-keep w b now Fine (decides-fine w b now) ds (inl way))).course.swap
