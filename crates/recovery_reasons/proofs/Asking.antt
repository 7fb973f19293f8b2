-- A turn starts and stops only whom its stage starts and stops.
use Rattle.std.proofs.Common.{◌≡◌, ℕ, Bool, true, false, cond, List, [], ◌∷◌, ◌++◌, map, arith, refl, sym, ◌∙◌, ap, subst, Option, Some, None, ◌⊎◌, inl, inr}
use Rattle.recovery_reasons.proofs.Prelude.{All, All-cons, All-head, All-nil, All-tail, AsksAsDue, AsksSoFar, Attempt, Attempts, Bearing, BookState}
use Rattle.recovery_reasons.proofs.Prelude.{Bridge, Cause, Contains, Contains-append_right, Coord, Decision, Decisions, Deed, Does, DoesAt, Ending, Exchange}
use Rattle.recovery_reasons.proofs.Prelude.{Fits, HeldRecovery, HeldRings, IsAskedSo, IsCaredFor, IsFit, IsLetGo, IsNext, IsOnCourse, IsOnWay}
use Rattle.recovery_reasons.proofs.Prelude.{IsOutSo, IsToRelease, Job, Keeps, Line, Loss, LostReplica, MayBear, MayDecide, MayEnd, Means, Moment, Observation}
use Rattle.recovery_reasons.proofs.Prelude.{Op, Purpose, Recovery, Request, ServerNo, Speaks, Stage, Taken, Task, TasksOf, Turning, Way, Why, World, before}
use Rattle.recovery_reasons.proofs.Prelude.{begun_recovery, borne, by_deed, decided_by, decides-held, decides-idle, decisions-keep, deed_of, drain}
use Rattle.recovery_reasons.proofs.Prelude.{attempts, ended_by, ends, entered, false≢true, fate, fate_of, fits-step, follows_no_more}
use Rattle.recovery_reasons.proofs.Prelude.{gather, ground_of, is_beside, is_going, is_takeover, kept-along, last_looks, lead_of, leaver, level, loss_of}
use Rattle.recovery_reasons.proofs.Prelude.{lost_on_way, lost_or_fails, more_on, move, moved, moved-fits, moved-leads, result_lines, same-tail, stepped}
use Rattle.recovery_reasons.proofs.Prelude.{stepped-fits, tail_of, taken, taken-walks, target, trail, way_fate, went-of, why_missed, why_of}
use Rattle.recovery_reasons.proofs.Prelude.asking
use Rattle.recovery_reasons.proofs.Prelude.attempt
use Rattle.recovery_reasons.proofs.Prelude.by
use Rattle.recovery_reasons.proofs.Prelude.cross
use Rattle.recovery_reasons.proofs.Prelude.deed
use Rattle.recovery_reasons.proofs.Prelude.doing
use Rattle.recovery_reasons.proofs.Prelude.op
use Rattle.recovery_reasons.proofs.Prelude.purpose
use Rattle.recovery_reasons.proofs.Prelude.stage
use Rattle.recovery_reasons.proofs.Prelude.taking
use Rattle.recovery_reasons.proofs.Prelude.task
use Rattle.recovery_reasons.proofs.Prelude.way
use Rattle.recovery_reasons.proofs.Caring.{decided-cared}
use Rattle.recovery_reasons.proofs.Choosing.{best-of}
use Rattle.recovery_reasons.proofs.OnWay.{Fine, decides-fine, next-on, still-on, stepped-course}
use Rattle.recovery_reasons.proofs.Readings.{fits-of}
use Rattle.recovery_reasons.proofs.Tasks.{suit}

-- ---- the operations of stages

abbrev DoesSo : Recovery → Stage → Op → Type 0
DoesSo r s o = DoesAt r s (deed_of o)

module _ (r : Recovery) (s : Stage) where
  abbrev Each : List Op → Type 0
  Each [] = Unit {0}
  Each (o ∷ os) = DoesSo r s o × Each os

  each : (os : List Op) → Each os → All (DoesSo r s) os
  each [] h = All-nil (DoesSo r s)
  each (o ∷ os) h = All-cons (DoesSo r s) o os h.0 (each os h.1)

move-asks : (r : Recovery) (n : ServerNo) (go : Way) → All (DoesSo r (stage.Move n go)) (before go n ++ move go n ∷ op.Start n ∷ [])
move-asks r n (way.Match to exec every) = each r (stage.Move n (way.Match to exec every)) (op.Match n to every ∷ op.CrossMatch n to ∷ op.Start n ∷ []) (tt, (tt, (refl, tt)))
move-asks r n (way.Down x) = each r (stage.Move n (way.Down x)) (move (way.Down x) n ∷ op.Start n ∷ []) (tt, (refl, tt))
move-asks r n y = each r (stage.Move n y) (move y n ∷ op.Start n ∷ []) (tt, (refl, tt))

gather-asks : (r : Recovery) (m d : ServerNo) → All (DoesSo r (stage.Gather m d)) (gather m d)
gather-asks r m d = each r (stage.Gather m d) (gather m d) (tt, (tt, (refl, (tt, (refl, (tt, tt))))))

last-asks : (r y : Recovery) (u : Purpose) (n : ServerNo) (lines : List Line) → All (DoesSo y (stage.Close lines)) (last_looks r u n ++ op.Finish lines ∷ [])
last-asks r y (purpose.Takeover d) n lines = each y (stage.Close lines) (op.Status r.failed None ∷ op.Status n None ∷ op.Finish lines ∷ []) (tt, (tt, (tt, tt)))
last-asks r y purpose.Regroup n lines = each y (stage.Close lines) (op.Status n None ∷ op.Finish lines ∷ []) (tt, (tt, tt))
last-asks r y _ n lines = each y (stage.Close lines) (op.Status n None ∷ op.Finish lines ∷ []) (tt, (tt, tt))

-- a stage begins at which nobody is being levelled and no bridge is gone by
begins : (y : Recovery) → All (DoesSo y y.stage) y.core.ops → ((p q : ServerNo) → y.stage ≡ stage.Level p q → ⊥) → lead_of y.stage ≡ None → AsksSoFar y
begins y all off none = record { ops = all; levels = λ p q at. absurd (off p q at); led = λ x e. let bad : None ≡ Some x = sym none ∙ e in cc }

-- ---- what is decided

module _ (w : World) (b : BookState) (now : Moment) where
  -- a lost one that is to be started
  released : (x : Recovery) (n : ServerNo) (ts : List Task) → IsNext x (task.Releasing n) ts → IsCaredFor (λ f. true) x → IsToRelease x.purpose (why_of x.outcome.lost n)
  released x n ts next care =
      All-head (IsOutSo x.purpose x.outcome.lost) (task.Releasing n) ts (subst (λ (xs : List Task). All (IsOutSo x.purpose x.outcome.lost) xs) next.queue care.out)

  over-beside : (u : Purpose) (k : ServerNo) → is_beside u k ≡ true → is_takeover u ≡ true
  over-beside (purpose.Takeover d) k e = refl
  over-beside _ k e = absurd (false≢true e)

  -- a replica that goes to the position at which another stopped is a takeover's
  trails-over : (x : Recovery) (n : ServerNo) (ts : List Task) → IsNext x (task.Trailing n) ts → Fine x → is_takeover x.purpose ≡ true
  trails-over x n ts next fine =
      let on = next-on x (task.Trailing n) ts next fine in
      over-beside x.purpose n (suit x.purpose x.chosen x.swaps x.stage (task.Trailing n) ts (subst (λ (xs : List Task). TasksOf x.purpose x.stage xs x.chosen x.swaps) next.queue on.course.tasks) (on.rests next.rests))

  abbrev so-now : Recovery → Decision → Recovery
  so-now x d = decided_by (ground_of w b now) x d

  decides-asks : (x : Recovery) (d : Decision) → MayDecide (ground_of w b now) x d → Fine x → IsCaredFor (λ f. true) x → AsksSoFar x → AsksSoFar (decided_by (ground_of w b now) x d)
  decides-asks x (by.Reads n ts) may fine care h = begins _ (each (so-now x (by.Reads n ts)) (stage.Read n) (op.Status n None ∷ []) (tt, tt)) (λ p q at. cc) refl
  decides-asks x (by.Drains n ts) may fine care h = begins _ (each (so-now x (by.Drains n ts)) (stage.Drain n) (drain n) (refl, (tt, (refl, (tt, tt))))) (λ p q at. cc) refl
  decides-asks x (by.Sends n go ts) may fine care h = begins _ (move-asks (so-now x (by.Sends n go ts)) n go) (λ p q at. cc) refl
  decides-asks x (by.Hands d ds go ts) may fine care h = begins _ (move-asks (so-now x (by.Hands d ds go ts)) d.no go) (λ p q at. cc) refl
  decides-asks x (by.Expels n ts) may fine care h = begins _ (each (so-now x (by.Expels n ts)) (stage.Expel n) (op.Detach n ∷ []) (tt, tt)) (λ p q at. cc) refl
  decides-asks x (by.Releases n ts) may fine care h =
      begins _ (each (so-now x (by.Releases n ts)) (stage.Release n) (op.Start n ∷ []) ((refl, inl (released x n ts may care)), tt)) (λ p q at. cc) refl
  decides-asks x (by.Looks n y ts) may fine care h = record {
    ops = each (so-now x (by.Looks n y ts)) (stage.Look n y) (op.Status n None ∷ []) (tt, tt);
    levels = λ p q at. cc;
    led = λ z e. trails-over x n ts may.0 fine;
  }
  decides-asks x (by.Yields y ts) may fine care h =
      begins _ (each (so-now x (by.Yields y ts)) (stage.Yield x.failed y.no) (op.Reset y.no ∷ op.Cross cross.About x.failed y.no ∷ []) (tt, (tt, tt))) (λ p q at. cc) refl
  decides-asks x (by.Levels p q) may fine care h = record {
    ops = each (so-now x (by.Levels p q)) (stage.Level p q) (level p q) (tt, (tt, (refl, (tt, (refl, (tt, (tt, (tt, tt))))))));
    levels = λ i k at. (
      may.0.purpose,
      subst (λ (j : ServerNo). Contains (map (λ y. y.no) x.outcome.followers) j) (ap better_in at) (best-of w b now x.failed p x.outcome.followers q may.3).better.follows,
    );
    led = λ z e. cc;
  }
    where
      better_in : Stage → ServerNo
      better_in (stage.Level i k) = k
      better_in _ = q
  decides-asks x (by.Crowns p) may fine care h = begins _ (each (so-now x (by.Crowns p)) (stage.Crown p) (op.Reset p ∷ op.ReadOnly p false ∷ []) (tt, (tt, tt))) (λ i k at. cc) refl
  decides-asks x (by.Rejoins p) may fine care h = begins _ (each (so-now x (by.Rejoins p)) (stage.Close (result_lines x)) (op.Start p ∷ op.Finish (result_lines x) ∷ []) ((may.0.purpose, may.1), (tt, tt))) (λ i k at. cc) refl
  decides-asks x by.Closes may fine care h = begins _ (each (so-now x by.Closes) (stage.Close (result_lines x)) (op.Finish (result_lines x) ∷ []) (tt, tt)) (λ i k at. cc) refl
  decides-asks x d may fine care h = record {
    ops = subst (λ (os : List Op). All (DoesSo (so-now x d) x.stage) os) (sym (decides-idle w b now x d may)) (All-nil (DoesSo (so-now x d) x.stage));
    levels = h.levels;
    led = h.led;
  }

-- ---- the end of a stage

-- one more that is lost
lost-now : (xs : List LostReplica) (n : ServerNo) (y : Why) → Contains (xs ++ record { no = n; why = y; detached = false } ∷ []) (record { no = n; why = y; detached = false })
lost-now xs n y = Contains-append_right xs (record { no = n; why = y; detached = false } ∷ []) (record { no = n; why = y; detached = false }) (0, omega arith, refl)

-- in a takeover it is let go at once
gone-now : (z y : Recovery) (n : ServerNo) (why' : Why) → y.purpose ≡ z.purpose → y.outcome.lost ≡ z.outcome.lost ++ record { no = n; why = why'; detached = false } ∷ [] → is_takeover z.purpose ≡ true → IsLetGo y n
gone-now z y n why' aim lost over =
    inr (inl (ap is_takeover aim ∙ over, (why', subst (λ (xs : List LostReplica). Contains xs (record { no = n; why = why'; detached = false })) (sym lost) (lost-now z.outcome.lost n why'))))

completes-asks : (z : Recovery) (e : Ending) → z.core.ops ≡ [] → MayEnd z e → IsOnCourse z → AsksSoFar z → AsksSoFar (ended_by z e)
completes-asks z (by.Frees n y) none may c h =
    begins _ (each (ended_by z (by.Frees n y)) (stage.Release n) (op.Start n ∷ []) ((refl, gone-now z (ended_by z (by.Frees n y)) n y refl refl (h.led may.0 (ap lead_of may.1))), tt)) (λ p q at. cc) refl
completes-asks z (by.Trails n x) none may c h = record {
  ops = each (ended_by z (by.Trails n x)) (stage.Trail n x) (trail n x.no) (refl, (tt, (refl, (tt, tt))));
  levels = λ p q at. cc;
  led = λ y e. h.led x (ap lead_of may.0);
}
completes-asks z (by.Joins n x) none may c h = begins _ (move-asks (ended_by z (by.Joins n x)) n (way.Down x)) (λ p q at. cc) refl
completes-asks z (by.Swaps p q) none may c h =
    begins _ (each (ended_by z (by.Swaps p q)) (stage.Open q) (op.Start p ∷ op.ReadOnly q false ∷ []) (((c.swap.taking p q (inr (inr may))).1, follows-now), (tt, tt))) (λ i k at. cc) refl
  where
    follows-now : Contains (z.outcome.followers ++ record { no = p; source = q } ∷ []) (record { no = p; source = q })
    follows-now = Contains-append_right z.outcome.followers (record { no = p; source = q } ∷ []) (record { no = p; source = q }) (0, omega arith, refl)
completes-asks z (by.Switches m d) none may c h = begins _ (each (ended_by z (by.Switches m d)) (stage.Open d) (op.ReadOnly d false ∷ []) (tt, tt)) (λ p q at. cc) refl
completes-asks z (by.Shuts m d) none may c h =
    begins _ (each (ended_by z (by.Shuts m d)) (stage.Shut m d) (op.ReadOnly m true ∷ gather m d) (tt, (tt, (tt, (refl, (tt, (refl, (tt, tt)))))))) (λ p q at. cc) refl
completes-asks z (by.Ends n) none may c h = begins _ (last-asks z (ended_by z (by.Ends n)) z.purpose n _) (λ p q at. cc) refl
completes-asks z by.Rests none may c h = begins _ (subst (λ (os : List Op). All (DoesSo (ended_by z by.Rests) stage.Idle) os) (sym none) (All-nil (DoesSo (ended_by z by.Rests) stage.Idle))) (λ p q at. cc) refl
completes-asks z e none may c h = begins _ (subst (λ (os : List Op). All (DoesSo (ended_by z e) stage.Idle) os) (sym none) (All-nil (DoesSo (ended_by z e) stage.Idle))) (λ p q at. cc) refl

-- ---- a failing operation

-- only in a takeover a replica that is lost on its way is started at once
way-frees : (u : Purpose) (n k : ServerNo) (y z : Why) → lost_on_way u n y ≡ taking.Frees k z → is_takeover u ≡ true
way-frees (purpose.Takeover d) n k y z e = refl
way-frees purpose.Regroup n k y z e = cc
way-frees _ n k y z e = cc

miss-frees : (u : Purpose) (n k : ServerNo) (o : Option Why) (z : Why) → lost_or_fails u n o ≡ taking.Frees k z → is_takeover u ≡ true
miss-frees u n k None z e = cc
miss-frees u n k (Some y) z e = way-frees u n k y z e

move-frees : (w : World) (u : Purpose) (n k : ServerNo) (go : Way) (l : Option Loss) (z : Why) → way_fate w u n go l ≡ taking.Frees k z → is_takeover u ≡ true
move-frees w u n k (way.Match to exec every) None z e = cc
move-frees w u n k (way.Match to exec every) (Some taking.Spent) z e = cc
move-frees w u n k (way.Match to exec every) (Some taking.Differs) z e = cc
move-frees w u n k (way.Match to exec every) (Some (taking.Missed m)) z e = cc
move-frees w u n k (way.Auto to exec) (Some taking.Differs) z e = way-frees u n k _ z e
move-frees w u n k (way.Auto to exec) (Some (taking.Missed m)) z e = miss-frees u n k (why_missed w n (way.Auto to exec) m) z e
move-frees w u n k (way.Down x) (Some (taking.Missed m)) z e = miss-frees u n k (why_missed w n (way.Down x) m) z e
move-frees w u n k (way.Up x) (Some (taking.Missed m)) z e = miss-frees u n k (why_missed w n (way.Up x) m) z e
move-frees w u n k go None z e = cc
move-frees w u n k go (Some taking.Spent) z e = cc
move-frees w u n k go l z e = cc

borne-asks : (w : World) (x : Recovery) (c : Cause) (e : Bearing) → fate w x.purpose x.stage c ≡ fate_of e → MayBear x.stage e → IsOnCourse x → AsksSoFar x → AsksSoFar (borne x (fate_of e))
borne-asks w x c by.Drops is may on h = begins _ (All-nil (DoesSo (borne x (fate_of by.Drops)) stage.Idle)) (λ p q at. cc) refl
borne-asks w x c (by.Misses n y) is may on h = begins _ (All-nil (DoesSo (borne x (fate_of (by.Misses n y))) stage.Idle)) (λ p q at. cc) refl
borne-asks w x c (by.Lets n y) is may on h =
    begins _ (each (borne x (fate_of (by.Lets n y))) (stage.Release n) (op.Start n ∷ []) ((refl, gone-now x (borne x (fate_of (by.Lets n y))) n y refl refl (go may)), tt)) (λ p q at. cc) refl
  where
    go : ((go' : Way) × (x.stage ≡ stage.Move n go') × (more_on go' ≡ 1)) ⊎ ((z : Bridge) × ((x.stage ≡ stage.Look n z) ⊎ (x.stage ≡ stage.Trail n z))) → is_takeover x.purpose ≡ true
    go (inl (go', at, more)) = move-frees w x.purpose n n go' (loss_of c) y (ap (λ (s : Stage). fate w x.purpose s c) (sym at) ∙ is)
    go (inr (z, inl at)) = h.led z (ap lead_of at)
    go (inr (z, inr at)) = h.led z (ap lead_of at)
borne-asks w x c (by.Restarts p q) is may on h =
    let levelled = h.levels p q may in
    begins _ (each (borne x (fate_of (by.Restarts p q))) (stage.Release q) (op.Start q ∷ []) ((refl, inr (inr (levelled.0, (on.swap.taking p q (inl may)).0, levelled.1))), tt)) (λ i k at. cc) refl
borne-asks w x c (by.Returns p q) is may on h = begins _ (each (borne x (fate_of (by.Returns p q))) (stage.Return p q) (op.Cross cross.Back q p ∷ op.Start q ∷ []) (tt, (refl, tt))) (λ i k at. cc) refl

-- ---- an operation

-- what is left once a stage is ended by its operation
moved-asks : (y : Recovery) (s : Stage) (o : Op) (rest : List Op) → o ∷ rest ≡ tail_of s → All (DoesSo y (moved s)) rest
moved-asks y s o rest t = go s t
  where
    left : (k : Stage) (x : Op) (xs : List Op) → o ∷ rest ≡ x ∷ xs → All (DoesSo y k) xs → All (DoesSo y k) rest
    left k x xs e h = subst (λ (zs : List Op). All (DoesSo y k) zs) (sym (same-tail o x rest xs e)) h

    go : (k : Stage) → o ∷ rest ≡ tail_of k → All (DoesSo y (moved k)) rest
    go (stage.Drain n) e = left (stage.Judged n) (op.Status n None) [] e (All-nil (DoesSo y (stage.Judged n)))
    go (stage.Look n x) e = left (stage.Looked n x) (op.Status n None) [] e (All-nil (DoesSo y (stage.Looked n x)))
    go (stage.Trail n x) e = left (stage.Halted n x) (op.Status n None) [] e (All-nil (DoesSo y (stage.Halted n x)))
    go (stage.Move n x) e = left (stage.Join n (target x)) (move x n) (op.Start n ∷ []) e (each y (stage.Join n (target x)) (op.Start n ∷ []) (refl, tt))
    go (stage.Expel n) e = left (stage.Expelled n) (op.Detach n) [] e (All-nil (DoesSo y (stage.Expelled n)))
    go (stage.Level p q) e = left (stage.Swap p q) (op.Reset q) (op.Cross cross.About p q ∷ []) e (each y (stage.Swap p q) (op.Cross cross.About p q ∷ []) (tt, tt))
    go (stage.Swap p q) e = left (stage.Swapped p q) (op.Cross cross.About p q) [] e (All-nil (DoesSo y (stage.Swapped p q)))
    go (stage.Return p q) e = left (stage.Resume p q) (op.Cross cross.Back q p) (op.Start q ∷ []) e (each y (stage.Resume p q) (op.Start q ∷ []) (refl, tt))
    go (stage.Crown n) e = left (stage.Open n) (op.Reset n) (op.ReadOnly n false ∷ []) e (each y (stage.Open n) (op.ReadOnly n false ∷ []) (tt, tt))
    go (stage.Open n) e = left (stage.Opened n) (op.ReadOnly n false) [] e (All-nil (DoesSo y (stage.Opened n)))
    go (stage.Shut m d) e = left (stage.Gather m d) (op.ReadOnly m true) (gather m d) e (gather-asks y m d)
    go (stage.Yield m d) e = left (stage.Switch m d) (op.Reset d) (op.Cross cross.About m d ∷ []) e (each y (stage.Switch m d) (op.Cross cross.About m d ∷ []) (tt, tt))
    go (stage.Switch m d) e = left (stage.Switched m d) (op.Cross cross.About m d) [] e (All-nil (DoesSo y (stage.Switched m d)))
    go (stage.Close lines) e = left stage.Idle (op.Finish lines) [] e (All-nil (DoesSo y stage.Idle))
    go _ e = cc

unlevelled : (s : Stage) (o : Op) (rest : List Op) → o ∷ rest ≡ tail_of s → (p q : ServerNo) → moved s ≡ stage.Level p q → ⊥
unlevelled (stage.Move n x) o rest t p q e = cc
unlevelled s o rest t p q e = cc

stepped-asks : (r : Recovery) (o : Op) (rest : List Op) (j : Job) → Fits r.stage (o ∷ rest) → r.core.ops ≡ o ∷ rest → j.ops ≡ rest → AsksSoFar r → AsksSoFar (stepped (record r { core = j }) o)
stepped-asks r o rest j fits is left h = go (fits-step r.stage o rest fits)
  where
    later : Recovery
    later = record r { core = j }

    same : AsksSoFar later
    same = record {
      ops = subst (λ (os : List Op). All (DoesSo r r.stage) os) (sym left) (All-tail (DoesSo r r.stage) o rest (subst (λ (os : List Op). All (DoesSo r r.stage) os) is h.ops));
      levels = h.levels;
      led = h.led;
    }

    later-at : Option ServerNo → Recovery
    later-at q = record (follows_no_more later q) { stage = moved r.stage }

    next : o ∷ rest ≡ tail_of r.stage → (q : Option ServerNo) → AsksSoFar (record (follows_no_more later q) { stage = moved r.stage })
    next t None = record {
      ops = subst (λ (os : List Op). All (DoesSo (later-at None) (moved r.stage)) os) (sym left) (moved-asks (later-at None) r.stage o rest t);
      levels = λ p q at. absurd (unlevelled r.stage o rest t p q at);
      led = λ x e. h.led x (sym (moved-leads r.stage) ∙ e);
    }
    next t (Some m) = record {
      ops = subst (λ (os : List Op). All (DoesSo (later-at (Some m)) (moved r.stage)) os) (sym left) (moved-asks (later-at (Some m)) r.stage o rest t);
      levels = λ p q at. absurd (unlevelled r.stage o rest t p q at);
      led = λ x e. h.led x (sym (moved-leads r.stage) ∙ e);
    }

    go : ((ends r.stage (deed_of o) ≡ false) × Fits r.stage rest) ⊎ (o ∷ rest ≡ tail_of r.stage) → AsksSoFar (stepped later o)
    go (inl p) = subst (λ (a : Bool). AsksSoFar (cond a (entered later (moved r.stage)) later)) (sym p.0) same
    go (inr t) = subst (λ (a : Bool). AsksSoFar (cond a (entered later (moved r.stage)) later)) (sym (moved-fits r.stage o rest t).0) (next t (leaver (moved r.stage)))

waited-asks : (r : Recovery) (j : Job) → j.ops ≡ r.core.ops → AsksSoFar r → AsksSoFar (record r { core = j })
waited-asks r j same h = record { ops = subst (λ (os : List Op). All (DoesSo r r.stage) os) (sym same) h.ops; levels = h.levels; led = h.led }

-- ---- a turn

module _ (w : World) (b : BookState) (read : ℕ) (now : Moment) (r : Recovery) (rings : HeldRings w b.rings) where
  abbrev Before : Recovery → Type 0
  Before x = HeldRecovery w x × (Fine x × (IsCaredFor (λ f. true) x × AsksSoFar x))

  decides-on : (x : Recovery) (d : Decision) → MayDecide (ground_of w b now) x d → Before x → Before (decided_by (ground_of w b now) x d)
  decides-on x d may h = (
    decides-held w b now rings x d may h.0,
    (
      decides-fine w b now x d may h.1.0,
      (decided-cared w b now r (λ f. true) (λ k f so is. refl) x h.1.1.0 d may, decides-asks w b now x d may h.1.0 h.1.1.0 h.1.1.1),
    ),
  )

  keeps-asks : Keeps w b read now Before (λ v x. IsFit x × (IsOnCourse x × AsksSoFar x)) (λ v x. AsksSoFar x)
  keeps-asks = record {
    decides = decides-on;
    waits = λ x o rest ob es j did e h. waited-asks x j ((went-of w read now x o rest ob es j did).waits e).0 h.1.1.1;
    acts = λ x o rest ob es j did e h.
        let fits = fits-of w x o rest did.ops h.0 in
        let left = (went-of w read now x o rest ob es j did).done e in (
          stepped-fits x o rest j fits left,
          (
            stepped-course w read now x o rest did.ops fits (still-on x o rest did.ops h.1.0).course ob es j did.goes left,
            stepped-asks x o rest j fits did.ops left h.1.1.1,
          ),
        );
    continues = λ v x y ys is h. h.1.1;
    completes = λ v x e none may h. completes-asks x e none may h.1.0 h.1.1;
    bears = λ x o rest c ob e stops is may h. borne-asks w x c e is may (still-on x o rest stops.ops h.1.0).course h.1.1.1;
  }

  pub taken-asks : HeldRecovery w r → IsOnWay r → IsCaredFor (λ f. true) r → AsksSoFar r → is_going (taken w b read now r).step ≡ true → AsksSoFar (taken w b read now r).recovery
  taken-asks held on care h = kept-along w b read now Before (λ v x. IsFit x × (IsOnCourse x × AsksSoFar x)) (λ v x. AsksSoFar x) keeps-asks r (held, (inl on, (care, h)))

-- ---- the exchanges of a turn

module _ (w : World) (Q : Exchange → Type 0) (attaches : (n : ServerNo) (e : Exchange) → doing.IsAttachment n e → Q e) where
  -- what an operation asks
  abbrev Asks : Deed → Type 0
  Asks (deed.Request n a) = Q (Request n.0 a)
  Asks (deed.Until n to) = (c : Coord) → Q (Request n.0 (asking.StartUntil c))
  Asks (deed.Look n from) = Unit {0}
  Asks (deed.Await n to) = Unit {0}
  Asks (deed.AwaitSet n m) = Unit {0}
  Asks (deed.Settle n) = Unit {0}
  Asks (deed.Cross c a b) = Unit {0}
  Asks (deed.Same n) = Unit {0}
  Asks (deed.Auto n m) = Unit {0}
  Asks (deed.Match n m every) = Unit {0}
  Asks (deed.CrossMatch n m) = Unit {0}
  Asks (deed.Finish lines) = Unit {0}

  abbrev Well : Attempt → Type 0
  Well (attempt.Goes o es k) = All Q es
  Well (attempt.Stops c o) = Unit {0}
  Well (attempt.Ends lines) = Unit {0}

  one : (e : Exchange) → Q e → All Q (e ∷ [])
  one e h = All-cons Q e [] h (All-nil Q)

  asks-by : (j : Job) (rest : List Op) (read : ℕ) (now : Moment) (d : Deed) (a : Attempt) → Attempts w read now j rest d a → Asks d → Well a
  asks-by j rest read now d a (doing.Misses n from c why) h = tt
  asks-by j rest read now d a (doing.Fails x c why) h = tt
  asks-by j rest read now d a (doing.Asks n k) h = one (Request n.0 k) h
  asks-by j rest read now d a (doing.Begins n to c until) h = one (Request n.0 (asking.StartUntil c)) (h c)
  asks-by j rest read now d a (doing.Attaches n x e is made of can done) h = one e (attaches n e of)
  asks-by j rest read now d a (doing.Finishes lines) h = tt
  asks-by j rest read now d a _ h = All-nil Q

  deed-asks : (j : Job) (rest : List Op) (read : ℕ) (now : Moment) (d : Deed) → Asks d → Well (by_deed w read now j rest d)
  deed-asks j rest read now d h = asks-by j rest read now d (by_deed w read now j rest d) (attempts w read now j rest d) h

attached-so : (d : Recovery) (n : ServerNo) (e : Exchange) → doing.IsAttachment n e → IsAskedSo d e
attached-so d n e (doing.At expect to at) = tt
attached-so d n e (doing.BySet set to) = tt

asked-so : (w : World) (d : Recovery) (x : Deed) → DoesAt d d.stage x → Asks w (IsAskedSo d) (attached-so d) x
asked-so w d (deed.Request n a) h = h
asked-so w d (deed.Until n to) h = λ c. h
asked-so w d _ h = tt

module _ (w : World) (b : BookState) (read : ℕ) (now : Moment) (r : Recovery) (rings : HeldRings w b.rings) (held : HeldRecovery w r) (speaks : Speaks r) where
  -- what is left of a stage does so, as it is decided
  pub asks-far : {d : Recovery} → Decisions (ground_of w b now) r d → AsksSoFar d
  asks-far so = (decisions-keep w b now (Before w b read now r rings) (decides-on w b read now r rings) so (held, (inl speaks.way, (speaks.cares, speaks.asks)))).1.1.1

  asks-so : (d : Recovery) → Decisions (ground_of w b now) r d → (o : Op) (rest : List Op) (ob : Option Observation) (es : List Exchange) (j : Job) → Does w read now d o rest ob es j → AsksAsDue (ground_of w b now) r es
  asks-so d so o rest ob es j did = record {
    decided = d;
    so = so;
    each =
        subst (λ (a : Attempt). Well w (IsAskedSo d) (attached-so d) a) did.goes
        (deed-asks w (IsAskedSo d) (attached-so d) d.core rest read now (deed_of o)
        (asked-so w d (deed_of o) (All-head (DoesSo d d.stage) o rest (subst (λ (os : List Op). All (DoesSo d d.stage) os) did.ops (asks-far so).ops))));
  }

  pub turn-asks : is_going (taken w b read now r).step ≡ true → AsksAsDue (ground_of w b now) r (taken w b read now r).exchanges
  turn-asks = go (taken w b read now r) (taken-walks w b read now r)
    where
      go : (t : Taken) → Turning w b read now r t → is_going t.step ≡ true → AsksAsDue (ground_of w b now) r t.exchanges
      go t (by.Waits {d} so o rest ob es j did e) h = asks-so d so o rest ob es j did
      go t (by.Acts {d} so o rest ob es j did e end) h = asks-so d so o rest ob es j did
      go t (by.Bears {d} so o rest x ob e stops is may) h = record { decided = d; so = so; each = All-nil (IsAskedSo d) }
      go t (by.Fails so x ob y) h = absurd (false≢true h)
      go t (by.Finishes so o rest ls is e) h = absurd (false≢true h)

-- ---- a recovery that begins

pub begun-asks : (u : Purpose) (by' : Means) (id wait : ℕ) (f : ServerNo) (ns order : List ServerNo) → AsksSoFar (begun_recovery u by' id wait f ns order)
begun-asks purpose.Regroup by' id wait f ns order = begins _ (All-nil (DoesSo (begun_recovery purpose.Regroup by' id wait f ns order) stage.Idle)) (λ p q at. cc) refl
begun-asks purpose.Master by' id wait f ns order = begins _ (each (begun_recovery purpose.Master by' id wait f ns order) stage.Check (op.Status f None ∷ []) (tt, tt)) (λ p q at. cc) refl
begun-asks (purpose.Intermediate s) by' id wait f ns order = begins _ (each (begun_recovery (purpose.Intermediate s) by' id wait f ns order) stage.Check (op.Status f None ∷ []) (tt, tt)) (λ p q at. cc) refl
begun-asks (purpose.Takeover d) by' id wait f ns order = begins _ (each (begun_recovery (purpose.Takeover d) by' id wait f ns order) (stage.Meet f d) (op.Status f None ∷ []) (tt, tt)) (λ p q at. cc) refl
