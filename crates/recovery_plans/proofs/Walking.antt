-- Each turn of a recovery is a walk of moves, and what each of them keeps a turn keeps.
use Rattle.std.proofs.Common.{◌≡◌, ℕ, Bool, true, false, cond, List, [], ◌∷◌, ◌++◌, map, refl, sym, ◌∙◌, ap, subst, Option, Some, None, ◌⊎◌, inl, inr, IfSome}
use Rattle.recovery_plans.proofs.Prelude.{AtEnd, Attempt, Bearing, BookState, Bridge, Cause, Decision, Decisions, Does, Ending, Exchange, FailsFor}
use Rattle.recovery_plans.proofs.Prelude.{Fate, IsHanding, IsNext, IsOver, Job, Line, Loss, MayBear, MayDecide, MayEnd, Miss, Moment, Observation, Op}
use Rattle.recovery_plans.proofs.Prelude.{Position, Purpose, Recovery, ServerNo, Stage, Stopped, Stops, Taken, Task, Turning, Way, Why, World, acted}
use Rattle.recovery_plans.proofs.Prelude.{at_end, at_last, attempted, barred_by, better_of, borne, by_deed, by_queue, by_task, choose, chosen_of}
use Rattle.recovery_plans.proofs.Prelude.{completed, crown, decided, decided_by, deed_of, ended, ended_by, ends, entered, exec_by, false≢true, fate}
use Rattle.recovery_plans.proofs.Prelude.{fate_of, fate_of_drain, fate_of_errant, fate_of_trail, frees, goes_on, ground_of, halted, hand, hand_by}
use Rattle.recovery_plans.proofs.Prelude.{hand_over, idle, is_below, is_going, is_waiting, judged, last_exchanges, late, look_at, looked, loses}
use Rattle.recovery_plans.proofs.Prelude.{loss_of, lost_on_way, lost_or_fails, match_fate, met, missed_fate, more_on, move_fate, moved, moving}
use Rattle.recovery_plans.proofs.Prelude.{on_going, once, progressed, rejoin, rests, run, same_coord, seen_of, server_at, spot_seen, stepped, stray}
use Rattle.recovery_plans.proofs.Prelude.{swap, swap_by, swap_or_crown, taken, trail, way_below, way_fate, why_missed, with_bridge, working, yield}
use Rattle.recovery_plans.proofs.Prelude.attempt
use Rattle.recovery_plans.proofs.Prelude.by as move
use Rattle.recovery_plans.proofs.Prelude.cause
use Rattle.recovery_plans.proofs.Prelude.purpose
use Rattle.recovery_plans.proofs.Prelude.stage
use Rattle.recovery_plans.proofs.Prelude.taking
use Rattle.recovery_plans.proofs.Prelude.task
use Rattle.recovery_plans.proofs.Prelude.way
use Rattle.recovery_plans.proofs.Prelude.whys as lost

-- ---- what is decided

module _ (w : World) (b : BookState) (now : Moment) where
  one : (r : Recovery) (d : Decision) → MayDecide (ground_of w b now) r d → Decisions (ground_of w b now) r (decided_by (ground_of w b now) r d)
  one r d may = move.Then d may move.Still

  pub joined : {r s t : Recovery} → Decisions (ground_of w b now) r s → Decisions (ground_of w b now) s t → Decisions (ground_of w b now) r t
  joined move.Still other = other
  joined (move.Then d may rest) other = move.Then d may (joined rest other)

  -- those without a way are left, up to the first that has one
  hand-walks : (k : ServerNo) (ts : List Task) (ds : List Stopped) (r : Recovery) → r.core.ops ≡ [] → r.chosen ≡ Some k
      → Decisions (ground_of w b now) (record r { queue = task.Handing ∷ ts; drained = ds }) (hand (ground_of w b now) k (record r { queue = ts }) ds)
  hand-walks k ts [] r none chosen =
      one (record r { queue = task.Handing ∷ ts; drained = [] }) (move.HandedOver ts)
      (record { rests = none; queue = refl }, refl, λ h. let bad : None ≡ Some k = sym h ∙ chosen in cc)
  hand-walks k ts (d ∷ ds) r none chosen =
      go (way_below (ground_of w b now) r.core.seen r.failed k d) refl (hand-walks k ts ds (loses r d.no (lost.behind d.exec)) none chosen)
    where
      handing : (o : Option Way) → way_below (ground_of w b now) r.core.seen r.failed k d ≡ o → IsHanding (ground_of w b now) (record r { queue = task.Handing ∷ ts; drained = d ∷ ds }) d ds o ts
      handing o e = record { next = record { rests = none; queue = refl }; drained = refl; source = k; chosen = chosen; way = e }

      go : (o : Option Way) → way_below (ground_of w b now) r.core.seen r.failed k d ≡ o
          → Decisions (ground_of w b now) (record (loses r d.no (lost.behind d.exec)) { queue = task.Handing ∷ ts; drained = ds }) (hand (ground_of w b now) k (loses (record r { queue = ts }) d.no (lost.behind d.exec)) ds)
          → Decisions (ground_of w b now) (record r { queue = task.Handing ∷ ts; drained = d ∷ ds }) (hand_by (record r { queue = ts }) d ds o (hand (ground_of w b now) k (loses (record r { queue = ts }) d.no (lost.behind d.exec)) ds))
      go None e rest = move.Then (move.Leaves d ds ts) (handing None e) rest
      go (Some by) e rest = one (record r { queue = task.Handing ∷ ts; drained = d ∷ ds }) (move.Hands d ds by ts) (handing (Some by) e)

  over-walks : (r : Recovery) (ts : List Task) → IsNext r task.Handing ts → (o : Option ServerNo) → r.chosen ≡ o → Decisions (ground_of w b now) r (hand_over (ground_of w b now) (record r { queue = ts }) o)
  over-walks r ts next None e = one r (move.Passes ts) (next, e)
  over-walks r ts next (Some k) e =
      subst (λ (q : List Task). Decisions (ground_of w b now) (record r { queue = q }) (hand (ground_of w b now) k (record r { queue = ts }) r.drained)) (sym next.queue)
      (hand-walks k ts r.drained r next.rests e)

  choose-walks : (r : Recovery) (ts : List Task) → IsNext r task.Choosing ts → (o : Option Stopped) → chosen_of (ground_of w b now) r.failed r.drained ≡ o
      → Decisions (ground_of w b now) r (choose (ground_of w b now) (record r { queue = ts }) o)
  choose-walks r ts next None e = one r (move.ChoosesNobody ts) (next, e)
  choose-walks r ts next (Some p) e = one r (move.Chooses p ts) (next, e)

  look-walks : (r : Recovery) (n : ServerNo) (ts : List Task) → IsNext r (task.Trailing n) ts → (o : Option Bridge) → r.lead ≡ o → Decisions (ground_of w b now) r (look_at (record r { queue = ts }) n o)
  look-walks r n ts next None e = one r (move.Sticks (task.Trailing n) ts) (next, refl, e)
  look-walks r n ts next (Some x) e = one r (move.Looks n x ts) (next, e)

  yield-walks : (r : Recovery) (ts : List Task) → IsNext r task.Yielding ts → (o : Option Bridge) → r.lead ≡ o → Decisions (ground_of w b now) r (yield (record r { queue = ts }) o)
  yield-walks r ts next None e = one r (move.Sticks task.Yielding ts) (next, refl, e)
  yield-walks r ts next (Some x) e = one r (move.Yields x ts) (next, e)

  task-walks : (r : Recovery) (t : Task) (ts : List Task) → IsNext r t ts → Decisions (ground_of w b now) r (by_task (ground_of w b now) (record r { queue = ts }) t)
  task-walks r (task.Reading n) ts next = one r (move.Reads n ts) next
  task-walks r (task.Draining n) ts next = one r (move.Drains n ts) next
  task-walks r task.Choosing ts next = choose-walks r ts next (chosen_of (ground_of w b now) r.failed r.drained) refl
  task-walks r task.Handing ts next = over-walks r ts next r.chosen refl
  task-walks r (task.Moving n by) ts next = one r (move.Sends n by ts) next
  task-walks r task.Sorting ts next = one r (move.Sorts ts) next
  task-walks r (task.Expelling n) ts next = one r (move.Expels n ts) next
  task-walks r (task.Releasing n) ts next = one r (move.Releases n ts) next
  task-walks r (task.Trailing n) ts next = look-walks r n ts next r.lead refl
  task-walks r task.Yielding ts next = yield-walks r ts next r.lead refl

  module _ (r : Recovery) (none : r.core.ops ≡ []) (empty : r.queue ≡ []) where
    over : (u : Purpose) → r.purpose ≡ u → IsOver r u
    over u is = record { rests = none; queue = empty; purpose = is }

    rejoin-walks : r.purpose ≡ purpose.Regroup → (o : Option ServerNo) → r.chosen ≡ o → Decisions (ground_of w b now) r (rejoin r o)
    rejoin-walks is None e = move.Still
    rejoin-walks is (Some p) e = one r (move.Rejoins p) (over purpose.Regroup is, e)

    crown-walks : r.purpose ≡ purpose.Master → r.swaps ≡ false → (o : Option ServerNo) → r.chosen ≡ o → Decisions (ground_of w b now) r (crown r o)
    crown-walks is swaps None e = move.Still
    crown-walks is swaps (Some p) e = one r (move.Crowns p) (over purpose.Master is, swaps, e)

    swap-walks : r.purpose ≡ purpose.Master → r.swaps ≡ true → (o : Option ServerNo) → r.chosen ≡ o → Decisions (ground_of w b now) r (swap (ground_of w b now) (record r { swaps = false }) o)
    swap-walks is swaps None e =
        one r move.Remains
        (over purpose.Master is, swaps, subst (λ (o : Option ServerNo). IfSome o (λ p. better_of (ground_of w b now) r.failed p (map (λ x. x.no) r.outcome.followers) ≡ None)) (sym e) tt)
    swap-walks is swaps (Some p) e = go (better_of (ground_of w b now) r.failed p (map (λ x. x.no) r.outcome.followers)) refl
      where
        go : (o : Option ServerNo) → better_of (ground_of w b now) r.failed p (map (λ x. x.no) r.outcome.followers) ≡ o → Decisions (ground_of w b now) r (swap_by (record r { swaps = false }) p o)
        go None f =
            one r move.Remains
            (over purpose.Master is, swaps, subst (λ (o : Option ServerNo). IfSome o (λ p. better_of (ground_of w b now) r.failed p (map (λ x. x.no) r.outcome.followers) ≡ None)) (sym e) f)
        go (Some q) f = one r (move.Levels p q) (over purpose.Master is, swaps, e, f)

    last-walks : (u : Purpose) → r.purpose ≡ u → Decisions (ground_of w b now) r (at_last (ground_of w b now) r u)
    last-walks purpose.Regroup is = rejoin-walks is r.chosen refl
    last-walks purpose.Master is = go r.swaps refl
      where
        go : (a : Bool) → r.swaps ≡ a → Decisions (ground_of w b now) r (swap_or_crown (ground_of w b now) r a)
        go true e = swap-walks is e r.chosen refl
        go false e = crown-walks is e r.chosen refl
    last-walks (purpose.Intermediate s) is = one r move.Closes (s, over (purpose.Intermediate s) is)
    last-walks (purpose.Takeover d) is = move.Still

  pub once-walks : (r : Recovery) → Decisions (ground_of w b now) r (once (ground_of w b now) r)
  once-walks r = go r.core.ops r.queue refl refl
    where
      go : (ops : List Op) (ts : List Task) → r.core.ops ≡ ops → r.queue ≡ ts → Decisions (ground_of w b now) r (by_queue (ground_of w b now) r ops ts)
      go (x ∷ xs) ts none q = move.Still
      go [] [] none q = last-walks r none q r.purpose refl
      go [] (t ∷ ts) none q = task-walks r t ts (record { rests = none; queue = q })

  pub decided-walks : (r : Recovery) → Decisions (ground_of w b now) r (decided (ground_of w b now) r)
  decided-walks r =
      let a = once (ground_of w b now) r in
      let c = once (ground_of w b now) a in
      let d = once (ground_of w b now) c in
      joined (once-walks r) (joined (once-walks a) (joined (once-walks c) (once-walks d)))

-- ---- the end of a stage

module _ (r : Recovery) (none : r.core.ops ≡ []) where
  over-at : (e : Ending) → MayEnd r e → AtEnd r (ended_by r e)
  over-at e may = move.Completes e none may

  stray-at : (s : Position) → is_below s r.failed ≡ false → stray r.failed (Some s) ≡ Some (lost.moved (spot_seen s.source s.exec))
  stray-at s f = ap (λ a. cond a None (Some (lost.moved (spot_seen s.source s.exec)))) f

  judged-ends : (n : ServerNo) → r.stage ≡ stage.Judged n → (o : Option Position) → seen_of r.core.seen n.0 ≡ o → AtEnd r (idle (judged r n o))
  judged-ends n is None e = over-at (move.Loses n lost.unreachable) (inl is, ap (stray r.failed) e)
  judged-ends n is (Some s) e = go (is_below s r.failed) refl
    where
      go : (a : Bool) → is_below s r.failed ≡ a
          → AtEnd r (idle (cond a (record r { drained = r.drained ++ record { no = n; exec = s.exec; own_end = s.own_end } ∷ [] }) (loses r n (lost.moved (spot_seen s.source s.exec)))))
      go true f = over-at (move.Stays n s) (is, e, f)
      go false f = over-at (move.Loses n (lost.moved (spot_seen s.source s.exec))) (inl is, ap (stray r.failed) e ∙ stray-at s f)

  looked-ends : (n : ServerNo) (x : Bridge) → r.stage ≡ stage.Looked n x → (o : Option Position) → seen_of r.core.seen n.0 ≡ o → AtEnd r (looked r n x o)
  looked-ends n x is None e = over-at (move.Loses n lost.unreachable) (inr (x, is), ap (stray r.failed) e)
  looked-ends n x is (Some s) e = go (is_below s r.failed) refl
    where
      go : (a : Bool) → is_below s r.failed ≡ a
          → AtEnd r (cond a (working (record r { core = record r.core { seen = with_bridge r.core.seen x } }) (stage.Trail n x) (trail n x.no)) (idle (loses r n (lost.moved (spot_seen s.source s.exec)))))
      go true f = over-at (move.Trails n x) (is, ap (stray r.failed) e ∙ ap (λ a. cond a None (Some (lost.moved (spot_seen s.source s.exec)))) f)
      go false f = over-at (move.Loses n (lost.moved (spot_seen s.source s.exec))) (inr (x, is), ap (stray r.failed) e ∙ stray-at s f)

  halted-ends : (n : ServerNo) (x : Bridge) → r.stage ≡ stage.Halted n x → (o : Option Position) → seen_of r.core.seen n.0 ≡ o → AtEnd r (halted r n x o)
  halted-ends n x is None e = over-at (move.Frees n lost.unreachable) (x, is, ap (late x) e)
  halted-ends n x is (Some s) e = go (same_coord s.exec x.exec) refl
    where
      go : (a : Bool) → same_coord s.exec x.exec ≡ a → AtEnd r (cond a (moving r n (way.Down x)) (frees r n (lost.behind s.exec)))
      go true f = over-at (move.Joins n x) (is, ap (late x) e ∙ ap (λ a. cond a None (Some (lost.behind s.exec))) f)
      go false f = over-at (move.Frees n (lost.behind s.exec)) (x, is, ap (late x) e ∙ ap (λ a. cond a None (Some (lost.behind s.exec))) f)

  completed-ends : (s : Stage) → r.stage ≡ s → AtEnd r (completed r s)
  completed-ends (stage.Judged n) is = judged-ends n is (seen_of r.core.seen n.0) refl
  completed-ends (stage.Join n p) is = over-at (move.Follows n p) (inl is)
  completed-ends (stage.Resume p q) is = over-at (move.Follows q p) (inr is)
  completed-ends (stage.Expelled n) is = over-at (move.Marks n) is
  completed-ends (stage.Swapped p q) is = over-at (move.Swaps p q) is
  completed-ends (stage.Opened n) is = over-at (move.Ends n) is
  completed-ends (stage.Meet m d) is = over-at (move.Shuts m d) is
  completed-ends (stage.Gather m d) is = over-at (move.Leads d) (m, is)
  completed-ends (stage.Looked n x) is = looked-ends n x is (seen_of r.core.seen n.0) refl
  completed-ends (stage.Halted n x) is = halted-ends n x is (seen_of r.core.seen n.0) refl
  completed-ends (stage.Switched m d) is = over-at (move.Switches m d) is
  completed-ends s is = over-at move.Rests (ap rests is)

pub at-end : (r : Recovery) → AtEnd r (at_end r r.core.ops)
at-end r = go r.core.ops refl
  where
    go : (ops : List Op) → r.core.ops ≡ ops → AtEnd r (at_end r ops)
    go [] is = completed-ends r is r.stage refl
    go (x ∷ xs) is = move.Continues x xs is

-- ---- a failing operation

-- the recovery fails, or bears it
data Fated (s : Stage) : Fate → Type 0 where
  Fatal : Fated s taking.Fails
  Borne : (e : Bearing) → MayBear s e → Fated s (fate_of e)

drain-fated : (n : ServerNo) (c : Cause) → Fated (stage.Drain n) (fate_of_drain n c)
drain-fated n (cause.Unreachable m) = Borne (move.Misses n lost.unreachable) (inl refl)
drain-fated n c = Fatal

trail-fated : (w : World) (n : ServerNo) (x : Bridge) (s : Stage) → (s ≡ stage.Look n x) ⊎ (s ≡ stage.Trail n x) → (c : Cause) → Fated s (fate_of_trail w n c)
trail-fated w n x s at (cause.Unreachable m) = Borne (move.Lets n lost.unreachable) (inr (x, at))
trail-fated w n x s at (cause.WaitSpent m) = Borne (move.Lets n (lost.behind (exec_by (server_at w n.0)))) (inr (x, at))
trail-fated w n x s at c = Fatal

lost-fated : (u : Purpose) (n : ServerNo) (by : Way) (why : Why) → more_on by ≡ 1 → Fated (stage.Move n by) (lost_on_way u n why)
lost-fated (purpose.Takeover d) n by why more = Borne (move.Lets n why) (inl (by, refl, more))
lost-fated _ n by why more = Borne (move.Misses n why) (inr (inl (by, refl)))

errant-fated : (u : Purpose) (n : ServerNo) (by : Way) → Fated (stage.Move n by) (fate_of_errant u n by)
errant-fated u n (way.Auto to exec) = lost-fated u n (way.Auto to exec) (lost.ahead exec) refl
errant-fated u n _ = Fatal

missed-fated : (w : World) (u : Purpose) (n : ServerNo) (by : Way) → more_on by ≡ 1 → (m : Miss) → Fated (stage.Move n by) (missed_fate w u n by m)
missed-fated w u n by more m = go (why_missed w n by m)
  where
    go : (o : Option Why) → Fated (stage.Move n by) (lost_or_fails u n o)
    go None = Fatal
    go (Some why) = lost-fated u n by why more

move-fated : (w : World) (u : Purpose) (n : ServerNo) (by : Way) → more_on by ≡ 1 → (l : Option Loss) → Fated (stage.Move n by) (move_fate w u n by l)
move-fated w u n by more None = Fatal
move-fated w u n by more (Some taking.Spent) = Fatal
move-fated w u n by more (Some taking.Differs) = errant-fated u n by
move-fated w u n by more (Some (taking.Missed m)) = missed-fated w u n by more m

match-fated : (n : ServerNo) (by : Way) (l : Option Loss) → Fated (stage.Move n by) (match_fate n l)
match-fated n by None = Fatal
match-fated n by (Some taking.Spent) = Fatal
match-fated n by (Some taking.Differs) = Fatal
match-fated n by (Some (taking.Missed m)) = Borne (move.Misses n (lost.unmatched m)) (inr (inl (by, refl)))

way-fated : (w : World) (u : Purpose) (n : ServerNo) (by : Way) (l : Option Loss) → Fated (stage.Move n by) (way_fate w u n by l)
way-fated w u n (way.Match to exec every) l = match-fated n (way.Match to exec every) l
way-fated w u n x l = move-fated w u n x refl l

fated : (w : World) (u : Purpose) (s : Stage) (c : Cause) → Fated s (fate w u s c)
fated w u (stage.Drain n) c = drain-fated n c
fated w u (stage.Move n by) c = way-fated w u n by (loss_of c)
fated w u (stage.Join n p) c = Borne (move.Misses n lost.unreachable) (inr (inr (p, refl)))
fated w u (stage.Look n x) c = trail-fated w n x (stage.Look n x) (inl refl) c
fated w u (stage.Trail n x) c = trail-fated w n x (stage.Trail n x) (inr refl) c
fated w u stage.Check c = Borne move.Drops (inl refl)
fated w u (stage.Expel n) c = Borne move.Drops (inr (n, inl refl))
fated w u (stage.Release n) c = Borne move.Drops (inr (n, inr refl))
fated w u (stage.Level p q) c = Borne (move.Restarts p q) refl
fated w u (stage.Swap p q) c = Borne (move.Returns p q) refl
fated w u s c = Fatal

-- ---- a turn

module _ (w : World) (b : BookState) (read : ℕ) (now : Moment) (r d : Recovery) (ds : Decisions (ground_of w b now) r d) where
  acted-walks : (ops : List Op) → d.core.ops ≡ ops → Turning w b read now r (acted w read now d ops)
  acted-walks [] is = move.Fails ds cause.NoCandidate None (move.NoSource is)
  acted-walks (o ∷ rest) is = go (by_deed w read now d.core rest (deed_of o)) refl
    where
      bears : (c : Cause) (ob : Option Observation) → Stops w read now d o rest c ob → {f : Fate} → Fated d.stage f → fate w d.purpose d.stage c ≡ f → Turning w b read now r (met w d c ob f)
      bears c ob stops Fatal e = move.Fails ds c ob (move.Fatal o rest stops e)
      bears c ob stops (Borne move.Drops may) e = move.Bears ds o rest c ob move.Drops stops e may
      bears c ob stops (Borne (move.Misses n why) may) e = move.Bears ds o rest c ob (move.Misses n why) stops e may
      bears c ob stops (Borne (move.Lets n why) may) e = move.Bears ds o rest c ob (move.Lets n why) stops e may
      bears c ob stops (Borne (move.Restarts p q) may) e = move.Bears ds o rest c ob (move.Restarts p q) stops e may
      bears c ob stops (Borne (move.Returns p q) may) e = move.Bears ds o rest c ob (move.Returns p q) stops e may

      done : (ob : Option Observation) (es : List Exchange) (j : Job) → Does w read now d o rest ob es j → (a : Bool) → is_waiting j ≡ a
          → Turning w b read now r (goes_on ob es (progressed (record d { core = j }) o a))
      done ob es j does true e = move.Waits ds o rest ob es j does e
      done ob es j does false e = move.Acts ds o rest ob es j does e (at-end (stepped (record d { core = j }) o))

      goes : (ob : Option Observation) (es : List Exchange) (j : Job) → by_deed w read now d.core rest (deed_of o) ≡ attempt.Goes ob es j → (x : Option Cause)
          → barred_by d.stage d.failed j.seen ≡ x → Turning w b read now r (on_going w d o ob es j x)
      goes ob es j e None f = done ob es j (record { ops = is; goes = e; free = f }) (is_waiting j) refl
      goes ob es j e (Some c) f = move.Fails ds c ob (move.Barred o rest es j is e f)

      go : (a : Attempt) → by_deed w read now d.core rest (deed_of o) ≡ a → Turning w b read now r (attempted w d o a)
      go (attempt.Goes ob es j) e = goes ob es j e (barred_by d.stage d.failed j.seen) refl
      go (attempt.Stops c ob) e = bears c ob (record { ops = is; stops = e }) (fated w d.purpose d.stage c) refl
      go (attempt.Ends lines) e = move.Finishes ds o rest lines is e

pub taken-walks : (w : World) (b : BookState) (read : ℕ) (now : Moment) (r : Recovery) → Turning w b read now r (taken w b read now r)
taken-walks w b read now r = acted-walks w b read now r (decided (ground_of w b now) r) (decided-walks w b now r) (decided (ground_of w b now) r).core.ops refl

-- ---- what is kept

-- no operation is left if something is decided
pub decides-idle : (w : World) (b : BookState) (now : Moment) (r : Recovery) (d : Decision) → MayDecide (ground_of w b now) r d → r.core.ops ≡ []
decides-idle w b now r (move.Reads n ts) may = may.rests
decides-idle w b now r (move.Drains n ts) may = may.rests
decides-idle w b now r (move.Sends n by ts) may = may.rests
decides-idle w b now r (move.Expels n ts) may = may.rests
decides-idle w b now r (move.Releases n ts) may = may.rests
decides-idle w b now r (move.Sorts ts) may = may.rests
decides-idle w b now r (move.Hands d ds by ts) may = may.next.rests
decides-idle w b now r (move.Leaves d ds ts) may = may.next.rests
decides-idle w b now r move.Closes may = may.1.rests
decides-idle w b now r d may = may.0.rests

-- what each decision keeps
pub decisions-keep : (w : World) (b : BookState) (now : Moment) (P : Recovery → Type 0) → ((r : Recovery) (d : Decision) → MayDecide (ground_of w b now) r d → P r → P (decided_by (ground_of w b now) r d))
    → {r s : Recovery} → Decisions (ground_of w b now) r s → P r → P s
decisions-keep w b now P keep move.Still p = p
decisions-keep w b now P keep (move.Then {r} d may rest) p = decisions-keep w b now P keep rest (keep r d may p)

-- Each move leaves what the next one finds: what holds before the turn's operation, between it and the end of the
-- stage, and after that. Each holds with the world as it is then.
pub record Keeps (w : World) (b : BookState) (read : ℕ) (now : Moment) (Before : Recovery → Type 0) (Between After : World → Recovery → Type 0) : Type 0 where
  pub decides : (r : Recovery) (d : Decision) → MayDecide (ground_of w b now) r d → Before r → Before (decided_by (ground_of w b now) r d)
  pub waits : (r : Recovery) (o : Op) (rest : List Op) (ob : Option Observation) (es : List Exchange) (j : Job) → Does w read now r o rest ob es j → is_waiting j ≡ true
      → Before r → After (run w es) (record r { core = j })
  pub acts : (r : Recovery) (o : Op) (rest : List Op) (ob : Option Observation) (es : List Exchange) (j : Job) → Does w read now r o rest ob es j → is_waiting j ≡ false
      → Before r → Between (run w es) (stepped (record r { core = j }) o)
  pub continues : (v : World) (r : Recovery) (x : Op) (xs : List Op) → r.core.ops ≡ x ∷ xs → Between v r → After v r
  pub completes : (v : World) (r : Recovery) (e : Ending) → r.core.ops ≡ [] → MayEnd r e → Between v r → After v (ended_by r e)
  pub bears : (r : Recovery) (o : Op) (rest : List Op) (c : Cause) (ob : Option Observation) (e : Bearing) → Stops w read now r o rest c ob → fate w r.purpose r.stage c ≡ fate_of e
      → MayBear r.stage e → Before r → After w (borne r (fate_of e))

-- And so does the end of the recovery, by failing or by being done.
pub record KeepsEnds (w : World) (read : ℕ) (now : Moment) (Before : Recovery → Type 0) (After : World → Recovery → Type 0) : Type 0 where
  pub fails : (r : Recovery) (c : Cause) (ob : Option Observation) → FailsFor w read now r c ob → Before r → After (run w (last_exchanges w r)) (record r { core = ended r.core })
  pub finishes : (r : Recovery) (o : Op) (rest : List Op) (lines : List Line) → r.core.ops ≡ o ∷ rest → by_deed w read now r.core rest (deed_of o) ≡ attempt.Ends lines
      → Before r → After w (record r { core = ended r.core })

module _ (w : World) (b : BookState) (read : ℕ) (now : Moment) (Before : Recovery → Type 0) where
  module _ (Between After : World → Recovery → Type 0) (keeps : Keeps w b read now Before Between After) where
    end-keeps : (v : World) {r s : Recovery} → AtEnd r s → Between v r → After v s
    end-keeps v (move.Continues {r} x xs is) p = keeps.continues v r x xs is p
    end-keeps v (move.Completes {r} e none may) p = keeps.completes v r e none may p

    kept : (r : Recovery) (t : Taken) → Turning w b read now r t → Before r → is_going t.step ≡ true → After (run w t.exchanges) t.recovery
    kept r t (move.Waits {d} ds o rest ob es j does e) p h = keeps.waits d o rest ob es j does e (decisions-keep w b now Before keeps.decides ds p)
    kept r t (move.Acts {d} ds o rest ob es j does e end) p h =
        end-keeps (run w es) end (keeps.acts d o rest ob es j does e (decisions-keep w b now Before keeps.decides ds p))
    kept r t (move.Bears {d} ds o rest c ob e stops is may) p h = keeps.bears d o rest c ob e stops is may (decisions-keep w b now Before keeps.decides ds p)
    kept r t (move.Fails ds c ob why) p h = absurd (false≢true h)
    kept r t (move.Finishes ds o rest lines is e) p h = absurd (false≢true h)

    whole : (r : Recovery) (t : Taken) → KeepsEnds w read now Before After → Turning w b read now r t → Before r → After (run w t.exchanges) t.recovery
    whole r t ends (move.Waits ds o rest ob es j did e) p = kept r t (move.Waits ds o rest ob es j did e) p refl
    whole r t ends (move.Acts ds o rest ob es j did e end) p = kept r t (move.Acts ds o rest ob es j did e end) p refl
    whole r t ends (move.Bears ds o rest c ob e stops is may) p = kept r t (move.Bears ds o rest c ob e stops is may) p refl
    whole r t ends (move.Fails {d} ds c ob why) p = ends.fails d c ob why (decisions-keep w b now Before keeps.decides ds p)
    whole r t ends (move.Finishes {d} ds o rest lines is e) p = ends.finishes d o rest lines is e (decisions-keep w b now Before keeps.decides ds p)

    -- what each move keeps a turn keeps after which the recovery goes on
    pub kept-along : (r : Recovery) → Before r → is_going (taken w b read now r).step ≡ true → After (run w (taken w b read now r).exchanges) (taken w b read now r).recovery
    kept-along r = kept r (taken w b read now r) (taken-walks w b read now r)

    -- and what its end keeps, too, any turn
    pub kept-whole : KeepsEnds w read now Before After → (r : Recovery) → Before r → After (run w (taken w b read now r).exchanges) (taken w b read now r).recovery
    kept-whole ends r = whole r (taken w b read now r) ends (taken-walks w b read now r)

  -- and of the exchanges of any turn, also of one that fails, holds what holds of each operation's and of the last ones
  module _ (E : List Exchange → Type 0) (none : E []) (decides : (r : Recovery) (d : Decision) → MayDecide (ground_of w b now) r d → Before r → Before (decided_by (ground_of w b now) r d))
      (does : (r : Recovery) (o : Op) (rest : List Op) (ob : Option Observation) (es : List Exchange) (j : Job) → Does w read now r o rest ob es j → Before r → E es)
      (fails : (r : Recovery) (c : Cause) (ob : Option Observation) → FailsFor w read now r c ob → Before r → E (last_exchanges w r)) where
    made : (r : Recovery) (t : Taken) → Turning w b read now r t → Before r → E t.exchanges
    made r t (move.Waits {d} ds o rest ob es j did e) p = does d o rest ob es j did (decisions-keep w b now Before decides ds p)
    made r t (move.Acts {d} ds o rest ob es j did e end) p = does d o rest ob es j did (decisions-keep w b now Before decides ds p)
    made r t (move.Bears ds o rest c ob e stops is may) p = none
    made r t (move.Fails {d} ds c ob why) p = fails d c ob why (decisions-keep w b now Before decides ds p)
    made r t (move.Finishes ds o rest lines is e) p = none

    pub made-along : (r : Recovery) → Before r → E (taken w b read now r).exchanges
    made-along r = made r (taken w b read now r) (taken-walks w b read now r)

-- ---- what holds at each moment

-- each move keeps what holds at each moment, of the world as it is then
pub record KeepsAlways (w : World) (b : BookState) (read : ℕ) (now : Moment) (P : World → Recovery → Type 0) : Type 0 where
  pub decides : (r : Recovery) (d : Decision) → MayDecide (ground_of w b now) r d → P w r → P w (decided_by (ground_of w b now) r d)
  pub does : (r : Recovery) (o : Op) (rest : List Op) (ob : Option Observation) (es : List Exchange) (j : Job) → Does w read now r o rest ob es j → P w r
      → P (run w es) (record r { core = j })
  pub enters : (v : World) (r : Recovery) → P v r → P v (entered r (moved r.stage))
  pub completes : (v : World) (r : Recovery) (e : Ending) → r.core.ops ≡ [] → MayEnd r e → P v r → P v (ended_by r e)
  pub bears : (r : Recovery) (o : Op) (rest : List Op) (c : Cause) (ob : Option Observation) (e : Bearing) → Stops w read now r o rest c ob → fate w r.purpose r.stage c ≡ fate_of e
      → MayBear r.stage e → P w r → P w (borne r (fate_of e))

pub always : (w : World) (b : BookState) (read : ℕ) (now : Moment) (P : World → Recovery → Type 0) → KeepsAlways w b read now P → Keeps w b read now (P w) P P
always w b read now P keeps = record {
  decides = keeps.decides;
  waits = λ r o rest ob es j did e p. keeps.does r o rest ob es j did p;
  acts = λ r o rest ob es j did e p. steps (run w es) (record r { core = j }) o (keeps.does r o rest ob es j did p);
  continues = λ v r x xs is p. p;
  completes = keeps.completes;
  bears = keeps.bears;
}
  where
    steps : (v : World) (r : Recovery) (o : Op) → P v r → P v (stepped r o)
    steps v r o p = go (ends r.stage (deed_of o))
      where
        go : (a : Bool) → P v (cond a (entered r (moved r.stage)) r)
        go true = keeps.enters v r p
        go false = p

-- and what follows from what it keeps
pub weakened : (w : World) (b : BookState) (read : ℕ) (now : Moment) (Before : Recovery → Type 0) (Between After Less : World → Recovery → Type 0)
    → ((v : World) (r : Recovery) → After v r → Less v r) → Keeps w b read now Before Between After → Keeps w b read now Before Between Less
weakened w b read now Before Between After Less less keeps = record {
  decides = keeps.decides;
  waits = λ r o rest ob es j did e p. less (run w es) (record r { core = j }) (keeps.waits r o rest ob es j did e p);
  acts = keeps.acts;
  continues = λ v r x xs is p. less v r (keeps.continues v r x xs is p);
  completes = λ v r e none may p. less v (ended_by r e) (keeps.completes v r e none may p);
  bears = λ r o rest c ob e stops is may p. less w (borne r (fate_of e)) (keeps.bears r o rest c ob e stops is may p);
}
