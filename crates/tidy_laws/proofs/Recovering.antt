-- A recovery's turn makes exchanges in order, and what it goes by stays within the cluster.
use Rattle.std.proofs.Common.{◌≡◌, ℕ, Bool, true, false, cond, List, [], ◌∷◌, ◌++◌, map, refl, sym, ◌∙◌, ap, subst, Option, Some, None, ◌==◌, IfSome, filter, option_map}
use Rattle.tidy_laws.proofs.Prelude.{All, All-append, All-at, All-chosen, All-cons, All-filter, All-head, All-latest, All-nil, All-push, All-tail}
use Rattle.tidy_laws.proofs.Prelude.{All-weaker, AllOrderly, AllWithin, AreAlike, AreDueWithin, Attempt, Bearing, BookState, Bridge, Cause, Clusters}
use Rattle.tidy_laws.proofs.Prelude.{Decision, Does, Ending, Exchange, FailsFor, Group, HeldRecovery, HeldRings, IsHanding, IsNext, IsReadWithin}
use Rattle.tidy_laws.proofs.Prelude.{IsRecoveryWithin, IsStageWithin, IsTaskWithin, IsTriedWithin, IsTrim, IsWayWithin, IsWithinCluster, Job, Keeps}
use Rattle.tidy_laws.proofs.Prelude.{KeepsWithin, Lot, MayDecide, MayEnd, Means, Moment, Observation, Op, Placed, Purpose, Recovery, Request}
use Rattle.tidy_laws.proofs.Prelude.{ServerNo, Sight, Stage, StoodWithin, Stopped, Taken, Task, Turning, Way, Why, World, after, before, borne}
use Rattle.tidy_laws.proofs.Prelude.{bridge_at, by_deed, can_attach, choose, chosen_of, crossing_of, decided_by, decides-held, decisions-keep}
use Rattle.tidy_laws.proofs.Prelude.{deed_of, drain, due, ended_by, ends, entered, expels, fate_of, follows, follows_no_more, frees, gather}
use Rattle.tidy_laws.proofs.Prelude.{goes_back, ground_of, group_of, has_own, idle, kept-along, label, last_exchanges, last_looks, latest_that}
use Rattle.tidy_laws.proofs.Prelude.{lead_under, leaver, level, loses, lot_by, lot_by_group, made-along, move, move_of, moved, moved-leads, moves_in}
use Rattle.tidy_laws.proofs.Prelude.{moving, own_end_of, releases, restarts, ring_at, run, same_Some, seen_of, sight_of, sort, source-is, source_no}
use Rattle.tidy_laws.proofs.Prelude.{result_lines, stepped, swapped, taken, taken-walks, takes_writes, that_can, undone, way_back, way_below, way_by_set}
use Rattle.tidy_laws.proofs.Prelude.{why_of, with-one, with_bridge, with_way, without_stopped, working}
use Rattle.tidy_laws.proofs.Prelude.asking
use Rattle.tidy_laws.proofs.Prelude.attempt
use Rattle.tidy_laws.proofs.Prelude.by
use Rattle.tidy_laws.proofs.Prelude.cross
use Rattle.tidy_laws.proofs.Prelude.deciding
use Rattle.tidy_laws.proofs.Prelude.group
use Rattle.tidy_laws.proofs.Prelude.means
use Rattle.tidy_laws.proofs.Prelude.op
use Rattle.tidy_laws.proofs.Prelude.purpose
use Rattle.tidy_laws.proofs.Prelude.stage
use Rattle.tidy_laws.proofs.Prelude.task
use Rattle.tidy_laws.proofs.Prelude.way
use Rattle.tidy_laws.proofs.Turns.{back-within, bridge-within, deed-within, orderly-restarts}

module _ (c : Clusters) where
  -- ---- a bridge as a reading

  bridge-stood : (b : Bridge) → IsWithinCluster c b → StoodWithin c b.no.0 (sight_of b)
  bridge-stood b h = record { source = λ m from. ap (λ (k : ℕ). label (c k)) (sym (same_Some b.source.0 m from)) ∙ h; bare = λ none. cc }

  seen-within : (xs : List Sight) (b : Bridge) → AllWithin c xs → IsWithinCluster c b → AllWithin c (with_bridge xs b)
  seen-within xs b all h = with-one (StoodWithin c) xs b.no (sight_of b) all (bridge-stood b h)

  way-within : (xs : List Sight) (n : ServerNo) (by : Way) → AllWithin c xs → IsWayWithin c n by → AllWithin c (with_way xs by)
  way-within xs n (way.Down b) all h = seen-within xs b all h
  way-within xs n (way.Up b) all h = seen-within xs b all h
  way-within xs n (way.Auto to exec) all h = all
  way-within xs n (way.Match to exec every) all h = all

  move-within : (n : ServerNo) (by : Way) → IsWayWithin c n by → AreDueWithin c (before by n ++ move by n ∷ op.Start n ∷ [])
  move-within n (way.Down b) h = (tt, tt)
  move-within n (way.Up b) h = (tt, tt)
  move-within n (way.Auto to exec) h = (h, (tt, tt))
  move-within n (way.Match to exec every) h = λ found. (found, (tt, tt))

  -- ---- stages that begin

  working-within : (r : Recovery) (x : Stage) (ops : List Op) → IsRecoveryWithin c r → IsStageWithin c x → AreDueWithin c ops → IsRecoveryWithin c (working r x ops)
  working-within r x ops s h due = record { core = record { seen = s.core.seen; left = due }; stage = h; queue = s.queue; drained = s.drained; lead = s.lead }

  moving-within : (r : Recovery) (n : ServerNo) (by : Way) → IsRecoveryWithin c r → IsWayWithin c n by → IsRecoveryWithin c (moving r n by)
  moving-within r n by s h = record {
    core = record { seen = way-within r.core.seen n by s.core.seen h; left = move-within n by h };
    stage = tt;
    queue = s.queue;
    drained = s.drained;
    lead = s.lead;
  }

  level-due : (p q : ServerNo) → AreDueWithin c (level p q)
  level-due p q = λ first. (tt, λ again. (tt, tt))

  gather-due : (m d : ServerNo) → AreDueWithin c (gather m d)
  gather-due m d = λ first. (tt, λ again. tt)

  -- another new source
  task-rechosen : (f : ServerNo) (a b : Option ServerNo) → IfSome b (λ s. AreAlike c s.0 f.0) → (t : Task) → IsTaskWithin c f a t → IsTaskWithin c f b t
  task-rechosen f a b fine (task.Moving n by) h = h
  task-rechosen f a b fine task.Handing h = fine
  task-rechosen f a b fine _ h = tt

  queue-rechosen : (f : ServerNo) (a b : Option ServerNo) (ts : List Task) → IfSome b (λ s. AreAlike c s.0 f.0) → All (IsTaskWithin c f a) ts → All (IsTaskWithin c f b) ts
  queue-rechosen f a b ts fine all = All-weaker (IsTaskWithin c f a) (IsTaskWithin c f b) (task-rechosen f a b fine) ts all

  -- ---- what is decided

  module _ (w : World) (b : BookState) (now : Moment) (rings : All (All (IsWithinCluster c)) b.rings) where
    abbrev IsLotWithin : ServerNo → Lot → Type 0
    IsLotWithin n (deciding.Goes by) = IsWayWithin c n by
    IsLotWithin n (deciding.Stays why) = Unit {0}

    moves-within : (f : ServerNo) (chosen : Option ServerNo) (lot : Stopped → Lot) (ss : List Stopped) → All (λ s. AreAlike c s.no.0 f.0) ss → ((s : Stopped) → AreAlike c s.no.0 f.0 → IsLotWithin s.no (lot s))
        → All (IsTaskWithin c f chosen) (moves_in lot ss)
    moves-within f chosen lot [] all each = All-nil (IsTaskWithin c f chosen)
    moves-within f chosen lot (s ∷ ss) all each =
        All-append (IsTaskWithin c f chosen) (move_of s (lot s)) (moves_in lot ss) (go (lot s) (each s (All-head (λ (x : Stopped). AreAlike c x.no.0 f.0) s ss all)))
        (moves-within f chosen lot ss (All-tail (λ (x : Stopped). AreAlike c x.no.0 f.0) s ss all) each)
      where
        go : (x : Lot) → IsLotWithin s.no x → All (IsTaskWithin c f chosen) (move_of s x)
        go (deciding.Goes by) h = All-cons (IsTaskWithin c f chosen) (task.Moving s.no by) [] h (All-nil (IsTaskWithin c f chosen))
        go (deciding.Stays why) h = All-nil (IsTaskWithin c f chosen)

    lot-within : (m : Means) (f : ServerNo) (p : Stopped) → AreAlike c p.no.0 f.0 → (s : Stopped) → AreAlike c s.no.0 f.0 → IsLotWithin s.no (lot_by m (ground_of w b now) f p s)
    lot-within (means.Matches every) f p alike s also = alike ∙ sym also
    lot-within means.Bridges f p alike s also = go w.gtid
      where
        by : (g : Group) → IsLotWithin s.no (lot_by_group p.no f s g)
        by (group.Follow at) = sym alike
        by group.Ahead = tt
        by group.Behind = tt

        go : (g : Bool) → IsLotWithin s.no (cond g (deciding.Goes (way.Auto p.no s.exec)) (lot_by_group p.no f s (group_of b.rings p.no (own_end_of p) p.exec f s.exec)))
        go true = alike ∙ sym also
        go false = by (group_of b.rings p.no (own_end_of p) p.exec f s.exec)

    -- with other tasks, drained ones and another new source
    queued-within : (r : Recovery) (ts : List Task) (ds : List Stopped) (chosen : Option ServerNo) → IsRecoveryWithin c r → All (IsTaskWithin c r.failed chosen) ts → All (λ d. AreAlike c d.no.0 r.failed.0) ds
        → IsRecoveryWithin c (record r { queue = ts; drained = ds; chosen = chosen })
    queued-within r ts ds chosen s queue drained = record { core = s.core; stage = s.stage; queue = queue; drained = drained; lead = s.lead }

    next-within : (r : Recovery) (t : Task) (ts : List Task) → IsNext r t ts → IsRecoveryWithin c r → IsTaskWithin c r.failed r.chosen t × IsRecoveryWithin c (record r { queue = ts })
    next-within r t ts next s =
        let all = subst (λ (q : List Task). All (IsTaskWithin c r.failed r.chosen) q) next.queue s.queue in
        (All-head (IsTaskWithin c r.failed r.chosen) t ts all, queued-within r ts r.drained r.chosen s (All-tail (IsTaskWithin c r.failed r.chosen) t ts all) s.drained)

    -- the first of the drained ones and the successor are of the cluster
    handed-within : (r : Recovery) (d : Stopped) (ds : List Stopped) (o : Option Way) (ts : List Task) (k : IsHanding (ground_of w b now) r d ds o ts) → IsRecoveryWithin c r
        → AreAlike c k.source.0 d.no.0 × IsRecoveryWithin c (record r { drained = ds })
    handed-within r d ds o ts k s =
        let all = subst (λ (xs : List Stopped). All (λ (x : Stopped). AreAlike c x.no.0 r.failed.0) xs) k.drained s.drained in
        let alike : AreAlike c k.source.0 r.failed.0 = subst (λ (q : Option ServerNo). IfSome q (λ x. AreAlike c x.0 r.failed.0)) k.chosen (next-within r task.Handing ts k.next s).0 in (
          alike ∙ sym (All-head (λ (x : Stopped). AreAlike c x.no.0 r.failed.0) d ds all),
          queued-within r r.queue ds r.chosen s s.queue (All-tail (λ (x : Stopped). AreAlike c x.no.0 r.failed.0) d ds all),
        )

    lead-of : (r : Recovery) (x : Bridge) → r.lead ≡ Some x → IsRecoveryWithin c r → IsWithinCluster c x
    lead-of r x is s = subst (λ (o : Option Bridge). IfSome o (IsWithinCluster c)) is s.lead

    chooses-within : (r : Recovery) (p : Stopped) → IsRecoveryWithin c r → chosen_of (ground_of w b now) r.failed r.drained ≡ Some p → IsRecoveryWithin c (choose (ground_of w b now) r (Some p))
    chooses-within r p s e =
        let one = All-chosen w b now r.failed (λ (d : Stopped). AreAlike c d.no.0 r.failed.0) r.drained p s.drained e in
        queued-within r (moves_in (lot_by r.means (ground_of w b now) r.failed p) (without_stopped r.drained p.no) ++ r.queue) [] (Some p.no) s
        (All-append (IsTaskWithin c r.failed (Some p.no)) (moves_in (lot_by r.means (ground_of w b now) r.failed p) (without_stopped r.drained p.no)) r.queue
        (moves-within r.failed (Some p.no) (lot_by r.means (ground_of w b now) r.failed p) (without_stopped r.drained p.no) (All-filter _ (λ (d : Stopped). AreAlike c d.no.0 r.failed.0) r.drained s.drained) (lot-within r.means r.failed p one))
        (queue-rechosen r.failed r.chosen (Some p.no) r.queue one s.queue)) (All-nil (λ (d : Stopped). AreAlike c d.no.0 r.failed.0))

    below-within : (seen : List Sight) (x k : ServerNo) (d : Stopped) → AreAlike c k.0 d.no.0 → (o : Option Way) → way_below (ground_of w b now) seen x k d ≡ o → IfSome o (IsWayWithin c d.no)
    below-within seen x k d alike o e = subst (λ (y : Option Way). IfSome y (IsWayWithin c d.no)) e (go w.gtid)
      where
        by-set : (a : Bool) → IfSome (cond a (Some (way.Auto k d.exec)) None) (IsWayWithin c d.no)
        by-set true = alike
        by-set false = tt

        by-log : (y : Option Bridge) → latest_that (has_own k d.exec) (ring_at b.rings x) ≡ y → IfSome (option_map way.Up y) (IsWayWithin c d.no)
        by-log None f = tt
        by-log (Some y) f =
            (All-latest (IsWithinCluster c) (has_own k d.exec) (ring_at b.rings x) y (All-at (All (IsWithinCluster c)) b.rings x.0 [] (All-nil (IsWithinCluster c)) rings) f).0

        go : (g : Bool) → IfSome (cond g (way_by_set w seen k d) (option_map way.Up (latest_that (has_own k d.exec) (ring_at b.rings x)))) (IsWayWithin c d.no)
        go true = by-set _
        go false = by-log (latest_that (has_own k d.exec) (ring_at b.rings x)) refl

    within-map : (f : ServerNo) (chosen : Option ServerNo) (t : ServerNo → Task) (ns : List ServerNo) → ((n : ServerNo) → IsTaskWithin c f chosen (t n)) → All (IsTaskWithin c f chosen) (map t ns)
    within-map f chosen t [] each = All-nil (IsTaskWithin c f chosen)
    within-map f chosen t (n ∷ ns) each = All-cons (IsTaskWithin c f chosen) (t n) (map t ns) (each n) (within-map f chosen t ns each)

    sort-within : (r : Recovery) → IsRecoveryWithin c r → IsRecoveryWithin c (sort r)
    sort-within r s =
        let out = filter (λ (n : ServerNo). expels r.purpose (why_of r.outcome.lost n)) r.replicas in
        let free = filter (λ (n : ServerNo). releases r.purpose (why_of r.outcome.lost n)) r.replicas in
        record {
          core = s.core;
          stage = s.stage;
          queue =
              All-append (IsTaskWithin c r.failed r.chosen) (map task.Expelling out) (map task.Releasing free ++ r.queue) (within-map r.failed r.chosen task.Expelling out (λ n. tt))
              (All-append (IsTaskWithin c r.failed r.chosen) (map task.Releasing free) r.queue (within-map r.failed r.chosen task.Releasing free (λ n. tt)) s.queue);
          drained = s.drained;
          lead = s.lead;
        }

    decides-within : (r : Recovery) (d : Decision) → MayDecide (ground_of w b now) r d → IsRecoveryWithin c r → IsRecoveryWithin c (decided_by (ground_of w b now) r d)
    decides-within r (by.Reads n ts) next s = working-within (record r { queue = ts }) (stage.Read n) (op.Status n None ∷ []) (next-within r (task.Reading n) ts next s).1 tt tt
    decides-within r (by.Drains n ts) next s = working-within (record r { queue = ts }) (stage.Drain n) (drain n) (next-within r (task.Draining n) ts next s).1 tt (tt, (tt, tt))
    decides-within r (by.Sends n way ts) next s = let h = next-within r (task.Moving n way) ts next s in moving-within (record r { queue = ts }) n way h.1 h.0
    decides-within r (by.Expels n ts) next s = working-within (record r { queue = ts }) (stage.Expel n) (op.Detach n ∷ []) (next-within r (task.Expelling n) ts next s).1 tt (tt, tt)
    decides-within r (by.Releases n ts) next s = working-within (record r { queue = ts }) (stage.Release n) (op.Start n ∷ []) (next-within r (task.Releasing n) ts next s).1 tt (tt, tt)
    decides-within r (by.Looks n x ts) (next, e) s =
        working-within (record r { queue = ts }) (stage.Look n x) (op.Status n None ∷ []) (next-within r (task.Trailing n) ts next s).1 (lead-of r x e s) tt
    decides-within r (by.Yields x ts) (next, e) s =
        let h = (next-within r task.Yielding ts next s).1 in
        record { core = record { seen = seen-within r.core.seen x s.core.seen (lead-of r x e s); left = (tt, tt) }; stage = tt; queue = h.queue; drained = s.drained; lead = s.lead }
    decides-within r (by.Sticks t ts) g s = queued-within r [] r.drained None s (All-nil (IsTaskWithin c r.failed None)) s.drained
    decides-within r (by.Chooses p ts) (next, e) s = chooses-within (record r { queue = ts }) p (next-within r task.Choosing ts next s).1 e
    decides-within r (by.ChoosesNobody ts) g s = queued-within r [] [] None s (All-nil (IsTaskWithin c r.failed None)) (All-nil (λ (d : Stopped). AreAlike c d.no.0 r.failed.0))
    decides-within r (by.Hands d ds way ts) g s =
        let h = handed-within r d ds (Some way) ts g s in moving-within (record r { drained = ds }) d.no way h.1 (below-within r.core.seen r.failed g.source d h.0 (Some way) g.way)
    decides-within r (by.Leaves d ds ts) g s = (handed-within r d ds None ts g s).1
    decides-within r (by.HandedOver ts) g s = queued-within r ts [] r.chosen s (next-within r task.Handing ts g.0 s).1.queue (All-nil (λ (d : Stopped). AreAlike c d.no.0 r.failed.0))
    decides-within r (by.Passes ts) g s = (next-within r task.Handing ts g.0 s).1
    decides-within r (by.Sorts ts) next s = sort-within (record r { queue = ts }) (next-within r task.Sorting ts next s).1
    decides-within r (by.Levels p q) g s = working-within (record r { swaps = false }) (stage.Level p q) (level p q) s tt (level-due p q)
    decides-within r by.Remains g s = s
    decides-within r (by.Crowns p) g s = working-within r (stage.Crown p) (op.Reset p ∷ op.ReadOnly p false ∷ []) s tt (tt, (tt, tt))
    decides-within r (by.Rejoins p) g s = working-within r (stage.Close (result_lines r)) (op.Start p ∷ op.Finish (result_lines r) ∷ []) s tt (tt, tt)
    decides-within r by.Closes g s = working-within r (stage.Close (result_lines r)) (op.Finish (result_lines r) ∷ []) s tt tt

  -- ---- a stage that is done

  idle-within : (r : Recovery) → IsRecoveryWithin c r → IsRecoveryWithin c (idle r)
  idle-within r s = record { core = s.core; stage = tt; queue = s.queue; drained = s.drained; lead = s.lead }

  lead-within : (r : Recovery) (d : ServerNo) → IsRecoveryWithin c r → IfSome (lead_under r.failed (bridge_at d (seen_of r.core.seen d.0))) (IsWithinCluster c)
  lead-within r d s = go (bridge_at d (seen_of r.core.seen d.0)) refl
    where
      go : (o : Option Bridge) → bridge_at d (seen_of r.core.seen d.0) ≡ o → IfSome (lead_under r.failed o) (IsWithinCluster c)
      go None e = tt
      go (Some x) e = at (x.source.0 == r.failed.0)
        where
          at : (a : Bool) → IfSome (cond a (Some x) None) (IsWithinCluster c)
          at true = bridge-within c r.core.seen s.core.seen d x e
          at false = tt

  frees-within : (r : Recovery) (n : ServerNo) (why : Why) → IsRecoveryWithin c r → IsRecoveryWithin c (frees r n why)
  frees-within r n why s = working-within (loses r n why) (stage.Release n) (op.Start n ∷ []) s tt (tt, tt)

  looks-due : (r : Recovery) (u : Purpose) (n : ServerNo) → AreDueWithin c (last_looks r u n ++ op.Finish (result_lines r) ∷ [])
  looks-due r purpose.Regroup n = tt
  looks-due r _ n = tt

  stage-of : (r : Recovery) (x : Stage) → r.stage ≡ x → IsRecoveryWithin c r → IsStageWithin c x
  stage-of r x is s = subst (λ (y : Stage). IsStageWithin c y) is s.stage

  completes-within : (r : Recovery) (e : Ending) → MayEnd r e → IsRecoveryWithin c r → IsRecoveryWithin c (ended_by r e)
  completes-within r by.Rests may s = idle-within r s
  completes-within r (by.Stays n x) may s = record {
    core = s.core;
    stage = tt;
    queue = s.queue;
    drained = All-push (λ (d : Stopped). AreAlike c d.no.0 r.failed.0) r.drained _ s.drained (sym ((s.core.seen n.0 x may.1).source r.failed.0 (source-is (source_no x.source) r.failed may.2)));
    lead = s.lead;
  }
  completes-within r (by.Loses n why) may s = idle-within (loses r n why) s
  completes-within r (by.Frees n why) may s = frees-within r n why s
  completes-within r (by.Follows n p) may s = idle-within (follows r n p) s
  completes-within r (by.Marks n) may s = record { core = s.core; stage = tt; queue = s.queue; drained = s.drained; lead = s.lead }
  completes-within r (by.Leads d) may s = record { core = s.core; stage = tt; queue = s.queue; drained = s.drained; lead = lead-within r d s }
  completes-within r (by.Trails n x) may s =
      let h = stage-of r (stage.Looked n x) may.0 s in
      record { core = record { seen = seen-within r.core.seen x s.core.seen h; left = (tt, tt) }; stage = h; queue = s.queue; drained = s.drained; lead = s.lead }
  completes-within r (by.Joins n x) may s = moving-within r n (way.Down x) s (stage-of r (stage.Halted n x) may.0 s)
  completes-within r (by.Swaps p q) may s = working-within (swapped r p q) (stage.Open q) (op.Start p ∷ op.ReadOnly q false ∷ []) s tt (tt, (tt, tt))
  completes-within r (by.Switches m d) may s = working-within (follows r m d) (stage.Open d) (op.ReadOnly d false ∷ []) s tt (tt, tt)
  completes-within r (by.Shuts m d) may s = working-within r (stage.Shut m d) (op.ReadOnly m true ∷ gather m d) s tt (tt, gather-due m d)
  completes-within r (by.Ends n) may s = working-within r (stage.Close (result_lines r)) (last_looks r r.purpose n ++ op.Finish (result_lines r) ∷ []) s tt (looks-due r r.purpose n)

  moved-within : (x : Stage) → IsStageWithin c x → IsStageWithin c (moved x)
  moved-within x h = subst (λ (o : Option Bridge). IfSome o (IsWithinCluster c)) (sym (moved-leads x)) h

  stepped-within : (r : Recovery) (o : Op) → IsRecoveryWithin c r → IsRecoveryWithin c (stepped r o)
  stepped-within r o s = go (ends r.stage (deed_of o))
    where
      enter : (k : Option ServerNo) → IsRecoveryWithin c (record (follows_no_more r k) { stage = moved r.stage })
      enter None = record { core = s.core; stage = moved-within r.stage s.stage; queue = s.queue; drained = s.drained; lead = s.lead }
      enter (Some n) = record { core = s.core; stage = moved-within r.stage s.stage; queue = s.queue; drained = s.drained; lead = s.lead }

      go : (d : Bool) → IsRecoveryWithin c (cond d (entered r (moved r.stage)) r)
      go true = enter (leaver (moved r.stage))
      go false = s

  bears-within : (r : Recovery) (e : Bearing) → IsRecoveryWithin c r → IsRecoveryWithin c (borne r (fate_of e))
  bears-within r by.Drops s = working-within r stage.Idle [] s tt tt
  bears-within r (by.Misses n why) s = working-within (loses r n why) stage.Idle [] s tt tt
  bears-within r (by.Lets n why) s = frees-within r n why s
  bears-within r (by.Restarts p q) s = working-within r (stage.Release q) (op.Start q ∷ []) s tt (tt, tt)
  bears-within r (by.Returns p q) s = working-within r (stage.Return p q) (op.Cross cross.Back q p ∷ op.Start q ∷ []) s tt (tt, tt)

  -- ---- exchanges of a turn that fails

  append-orderly : (w : World) (es fs : List Exchange) → AllOrderly c w es → AllOrderly c (run w es) fs → AllOrderly c w (es ++ fs)
  append-orderly w [] fs one other = other
  append-orderly w (e ∷ es) fs one other = (one.0, append-orderly (after w e) es fs one.1 other)

  back-orderly : (w : World) (seen : List Sight) (m d : ServerNo) → IsTrim c w → AllWithin c seen → AllOrderly c w (goes_back w seen m d)
  back-orderly w seen m d trim all =
      append-orderly w (that_can w (crossing_of seen cross.Back d m)) (Request d.0 asking.Start ∷ takes_writes m) (go (crossing_of seen cross.Back d m) refl) (tt, (tt, tt))
    where
      go : (o : Option Exchange) → crossing_of seen cross.Back d m ≡ o → AllOrderly c w (that_can w o)
      go None e = tt
      go (Some x) e = at (can_attach w x)
        where
          at : (b : Bool) → AllOrderly c w (cond b (x ∷ []) [])
          at true = (back-within c w trim seen all d x e, tt)
          at false = tt

  way-back-orderly : (w : World) (seen : List Sight) (f : ServerNo) (x : Stage) → IsTrim c w → AllWithin c seen → AllOrderly c w (way_back w seen f x)
  way-back-orderly w seen f (stage.Switch m d) trim all = back-orderly w seen m d trim all
  way-back-orderly w seen f (stage.Meet k d) trim all = tt
  way-back-orderly w seen f (stage.Shut k d) trim all = tt
  way-back-orderly w seen f (stage.Switched k d) trim all = tt
  way-back-orderly w seen f (stage.Open n) trim all = tt
  way-back-orderly w seen f (stage.Opened n) trim all = tt
  way-back-orderly w seen f (stage.Close lines) trim all = tt
  way-back-orderly w seen f x trim all = (tt, tt)

  undone-orderly : (w : World) (u : Purpose) (r : Recovery) → IsTrim c w → AllWithin c r.core.seen → AllOrderly c w (undone w u r.core.seen r.failed r.stage)
  undone-orderly w (purpose.Takeover d) r trim all = way-back-orderly w r.core.seen r.failed r.stage trim all
  undone-orderly w _ r trim all = tt

  last-orderly : (w : World) (r : Recovery) → IsTrim c w → AllWithin c r.core.seen → AllOrderly c w (last_exchanges w r)
  last-orderly w r trim all =
      append-orderly w (undone w r.purpose r.core.seen r.failed r.stage) (restarts r.core.hands) (undone-orderly w r.purpose r trim all)
      (orderly-restarts c (run w (undone w r.purpose r.core.seen r.failed r.stage)) r.core.hands)

  -- ---- a turn

  module _ (w : World) (b : BookState) (read : ℕ) (now : Moment) (placed : Placed w) (trim : IsTrim c w) (rings : HeldRings w b.rings) (alike : All (All (IsWithinCluster c)) b.rings) where
    abbrev Before : Recovery → Type 0
    Before r = HeldRecovery w r × IsRecoveryWithin c r

    decides-both : (r : Recovery) (d : Decision) → MayDecide (ground_of w b now) r d → Before r → Before (decided_by (ground_of w b now) r d)
    decides-both r d may h = (decides-held w b now rings r d may h.0, decides-within w b now alike r d may h.1)

    tried : (r : Recovery) (o : Op) (rest : List Op) → r.core.ops ≡ o ∷ rest → Before r → IsTriedWithin c w (by_deed w read now r.core rest (deed_of o))
    tried r o rest is h =
        deed-within c w read now r.core rest (deed_of o) placed trim h.0.core.shown h.1.core.seen h.1.core.left (due w read now r o rest placed h.0 is).found
        (subst (λ (ops : List Op). AreDueWithin c ops) is h.1.core.left)

    goes : (r : Recovery) (o : Op) (rest : List Op) (ob : Option Observation) (es : List Exchange) (j : Job) → Does w read now r o rest ob es j → Before r → IsTriedWithin c w (attempt.Goes ob es j)
    goes r o rest ob es j did h = subst (λ (a : Attempt). IsTriedWithin c w a) did.goes (tried r o rest did.ops h)

    does-within : (r : Recovery) (o : Op) (rest : List Op) (ob : Option Observation) (es : List Exchange) (j : Job) → Does w read now r o rest ob es j → Before r → IsRecoveryWithin c (record r { core = j })
    does-within r o rest ob es j did h = record { core = (goes r o rest ob es j did h).job; stage = h.1.stage; queue = h.1.queue; drained = h.1.drained; lead = h.1.lead }

    keeps-within : Keeps w b read now Before (λ v r. IsRecoveryWithin c r) (λ v r. IsRecoveryWithin c r)
    keeps-within = record {
      decides = decides-both;
      waits = λ r o rest ob es j did e h. does-within r o rest ob es j did h;
      acts = λ r o rest ob es j did e h. stepped-within (record r { core = j }) o (does-within r o rest ob es j did h);
      continues = λ v r x xs is s. s;
      completes = λ v r e none may s. completes-within r e may s;
      bears = λ r o rest why ob e stops is may h. bears-within r e h.1;
    }

    stops-read : (r : Recovery) (o : Op) (rest : List Op) (why : Cause) (ob : Option Observation) → by.Stops w read now r o rest why ob → Before r → IfSome ob (IsReadWithin c)
    stops-read r o rest why ob stops h = subst (λ (a : Attempt). IsTriedWithin c w a) stops.stops (tried r o rest stops.ops h)

    -- what is observed, whatever the turn comes to
    observes : (r : Recovery) (t : Taken) → Turning w b read now r t → Before r → IfSome t.observation (IsReadWithin c)
    observes r t (by.Waits {d} ds o rest ob es j did e) h = (goes d o rest ob es j did (decisions-keep w b now Before decides-both ds h)).read
    observes r t (by.Acts {d} ds o rest ob es j did e end) h = (goes d o rest ob es j did (decisions-keep w b now Before decides-both ds h)).read
    observes r t (by.Bears {d} ds o rest why ob e stops is may) h = stops-read d o rest why ob stops (decisions-keep w b now Before decides-both ds h)
    observes r t (by.Fails {d} ds why ob fatal) h = go why ob fatal
      where
        before : Before d
        before = decisions-keep w b now Before decides-both ds h

        go : (x : Cause) (o : Option Observation) → FailsFor w read now d x o → IfSome o (IsReadWithin c)
        go x o (by.NoSource none) = tt
        go x o (by.Barred y rest es j is e bar) = (subst (λ (a : Attempt). IsTriedWithin c w a) e (tried d y rest is before)).read
        go x o (by.Fatal y rest stops e) = stops-read d y rest x o stops before
    observes r t (by.Finishes ds o rest lines is e) h = tt

  pub taken-within : (w : World) (b : BookState) (read : ℕ) (now : Moment) (r : Recovery) → Placed w → IsTrim c w → HeldRings w b.rings → All (All (IsWithinCluster c)) b.rings → HeldRecovery w r → IsRecoveryWithin c r
      → KeepsWithin c w (taken w b read now r)
  taken-within w b read now r placed trim rings alike held s = record {
    orderly =
        made-along w b read now (Before w b read now placed trim rings alike) (AllOrderly c w) tt (decides-both w b read now placed trim rings alike)
        (λ x o rest ob es j did h. (goes w b read now placed trim rings alike x o rest ob es j did h).orderly) (λ x why ob fatal h. last-orderly w x trim h.1.core.seen) r (held, s);
    recovery =
        kept-along w b read now (Before w b read now placed trim rings alike) (λ v x. IsRecoveryWithin c x) (λ v x. IsRecoveryWithin c x) (keeps-within w b read now placed trim rings alike) r (held, s);
    read = observes w b read now placed trim rings alike r (taken w b read now r) (taken-walks w b read now r) (held, s);
  }
