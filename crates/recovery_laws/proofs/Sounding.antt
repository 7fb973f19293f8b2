-- In a `Safe` world a recovery's attachments join well, and what it goes by is right.
use Rattle.std.proofs.Common.{◌≡◌, ℕ, Bool, true, false, cond, List, [], ◌∷◌, ◌++◌, map, refl, sym, ◌∙◌, ap, subst, Option, Some, None, ◌==◌, IfSome, filter, option_map}
use Rattle.recovery_laws.proofs.Prelude.{All, All-append, All-at, All-chosen, All-cons, All-head, All-nil, All-push, All-tail, All-weaker, AllAllowed}
use Rattle.recovery_laws.proofs.Prelude.{AllBridged, AllBridged-run, AllJoinWell, AllMeet-run, Bearing, BookState, Bridge, Coord, Decision, Does}
use Rattle.recovery_laws.proofs.Prelude.{Ending, Exchange, Fits, Grows-run, HeldRecovery, HeldRings, IsBridged, IsHanding, IsNext, IsSoundStage}
use Rattle.recovery_laws.proofs.Prelude.{IsSoundStop, IsSoundTask, IsSoundWay, IsStopped, Job, Keeps, KeepsSound, KeepsSoundRecovery, Lot, MayDecide}
use Rattle.recovery_laws.proofs.Prelude.{MayEnd, Means, Moment, Observation, Op, Placed, Purpose, Recovery, Request, Safe, ServerNo, Sight}
use Rattle.recovery_laws.proofs.Prelude.{SoundRecovery, SoundRings, Stage, Stands, Stands-grows, StandsIn, Stopped, Task, Way, World, after}
use Rattle.recovery_laws.proofs.Prelude.{and_parts, are_held, borne, bridge_at, by_bridge, can_attach, choose, chosen-logs, chosen_of, crossing-joins}
use Rattle.recovery_laws.proofs.Prelude.{crossing_of, decided_by, deed_of, drain, ended_by, ends, entered, eqb-true, expels, fate_of, finds, follows}
use Rattle.recovery_laws.proofs.Prelude.{follows_no_more, footing, gather, goes-kept, goes-sound, goes_back, going, ground_of, group_of, has_exec}
use Rattle.recovery_laws.proofs.Prelude.{has_own, idle, is_before, kept-along, last_exchanges, last_looks, latest_that, lead_under, leaver, level}
use Rattle.recovery_laws.proofs.Prelude.{logs_at, loses, lot_by, lot_by_group, made-along, move_of, moved, moved-leads, moves_in, moving, own_end_of}
use Rattle.recovery_laws.proofs.Prelude.{releases, restarts, restarts-join, ring_at, run, same_coord, same_coord-true, same_Some, seen_of, sight_of}
use Rattle.recovery_laws.proofs.Prelude.{result_lines, sort, source_no, stands-at, stepped, stopped_bridge, swapped, taken, takes_writes, that_can, undone}
use Rattle.recovery_laws.proofs.Prelude.{way_back, way_below, way_by_set, why_of, with-one, with_bridge, with_way, without_stopped, working}
use Rattle.recovery_laws.proofs.Prelude.asking
use Rattle.recovery_laws.proofs.Prelude.by
use Rattle.recovery_laws.proofs.Prelude.cross
use Rattle.recovery_laws.proofs.Prelude.deciding
use Rattle.recovery_laws.proofs.Prelude.group
use Rattle.recovery_laws.proofs.Prelude.means
use Rattle.recovery_laws.proofs.Prelude.op
use Rattle.recovery_laws.proofs.Prelude.purpose
use Rattle.recovery_laws.proofs.Prelude.stage
use Rattle.recovery_laws.proofs.Prelude.task
use Rattle.recovery_laws.proofs.Prelude.way
use Rattle.recovery_laws.proofs.Choosing.{All-latest, own-is}
use Rattle.recovery_laws.proofs.Deciding.{decides-held}
use Rattle.recovery_laws.proofs.Taking.{due, source-is}

-- ---- a bridge as a reading

bridge-bridged : (w : World) (b : Bridge) → StandsIn w b → IsBridged w b.no.0 (sight_of b)
bridge-bridged w b s m own from end =
    subst (λ (x : Coord). Stands w b.no.0 m x b.exec) (same_Some b.own own end) (subst (λ (x : ℕ). Stands w b.no.0 x b.own b.exec) (same_Some b.source.0 m from) s)

seen-bridged : (w : World) (xs : List Sight) (b : Bridge) → AllBridged w xs → StandsIn w b → AllBridged w (with_bridge xs b)
seen-bridged w xs b all s = with-one (IsBridged w) xs b.no (sight_of b) all (bridge-bridged w b s)

way-bridged : (w : World) (xs : List Sight) (by : Way) → AllBridged w xs → IsSoundWay w by → AllBridged w (with_way xs by)
way-bridged w xs (way.Down b) all s = seen-bridged w xs b all s
way-bridged w xs (way.Up b) all s = seen-bridged w xs b all s
way-bridged w xs (way.Auto to exec) all s = all
way-bridged w xs (way.Match to exec every) all s = all

-- ---- a stage begins

module _ (w : World) where
  begun-sound : (r : Recovery) (x : Stage) (ops : List Op) → SoundRecovery w r → IsSoundStage w x → SoundRecovery w (working r x ops)
  begun-sound r x ops s h = record { core = s.core; met = s.met; stage = h; queue = s.queue; drained = s.drained; lead = s.lead }

  moving-sound : (r : Recovery) (n : ServerNo) (by : Way) → SoundRecovery w r → IsSoundWay w by → SoundRecovery w (moving r n by)
  moving-sound r n by s h = record { core = way-bridged w r.core.seen by s.core h; met = s.met; stage = tt; queue = s.queue; drained = s.drained; lead = s.lead }

  idle-sound : (r : Recovery) → SoundRecovery w r → SoundRecovery w (idle r)
  idle-sound r s = record { core = s.core; met = s.met; stage = tt; queue = s.queue; drained = s.drained; lead = s.lead }

abbrev IsHeldAndSound : World → Recovery → Type 0
IsHeldAndSound w r = HeldRecovery w r × SoundRecovery w r

-- ---- what is decided

module _ (w : World) (b : BookState) (now : Moment) (rings : HeldRings w b.rings) (stand : SoundRings w b.rings) where
  abbrev IsSoundLot : Lot → Type 0
  IsSoundLot (deciding.Goes by) = IsSoundWay w by
  IsSoundLot (deciding.Stays why) = Unit {0}

  moves-sound : (lot : Stopped → Lot) (ss : List Stopped) → ((s : Stopped) → IsSoundLot (lot s)) → All (IsSoundTask w) (moves_in lot ss)
  moves-sound lot [] each = All-nil (IsSoundTask w)
  moves-sound lot (s ∷ ss) each = All-append (IsSoundTask w) (move_of s (lot s)) (moves_in lot ss) (go (lot s) (each s)) (moves-sound lot ss each)
    where
      go : (x : Lot) → IsSoundLot x → All (IsSoundTask w) (move_of s x)
      go (deciding.Goes by) h = All-cons (IsSoundTask w) (task.Moving s.no by) [] h (All-nil (IsSoundTask w))
      go (deciding.Stays why) h = All-nil (IsSoundTask w)

  lot-sound : (seen : List Sight) (f : ServerNo) (p : Stopped) → IsStopped w seen f p → logs_at w p.no ≡ true → IsSoundStop w f p → (m : Means) (s : Stopped) → IsSoundLot (lot_by m (ground_of w b now) f p s)
  lot-sound seen f p stopped logs sound (means.Matches every) s = tt
  lot-sound seen f p stopped logs sound means.Bridges s = go w.gtid
    where
      own-stands : StandsIn w (stopped_bridge f p (own_end_of p))
      own-stands = sound (own_end_of p) (own-is w seen b f p rings stopped logs)

      kept : (o : Option Bridge) → latest_that (has_exec f s.exec) (ring_at b.rings p.no) ≡ o → IsSoundLot (lot_by_group p.no f s (by_bridge o))
      kept None e = tt
      kept (Some x) e =
          let ring = ring_at b.rings p.no in
          let one = All-latest (StandsIn w) (has_exec f s.exec) ring x (All-at (All (StandsIn w)) b.rings p.no.0 [] (All-nil (StandsIn w)) stand) e in
          let own = All-latest (λ (y : Bridge). y.no.0 ≡ p.no.0) (has_exec f s.exec) ring x (rings.own p.no) e in
          let parts = and_parts (x.source.0 == f.0) (same_coord x.exec s.exec) own.1 in
          subst (λ (n : ℕ). Stands w n f.0 x.own s.exec) own.0
          (subst (λ (c : Coord). Stands w x.no.0 f.0 x.own c) (same_coord-true x.exec s.exec parts.1) (subst (λ (n : ℕ). Stands w x.no.0 n x.own x.exec) (eqb-true x.source.0 f.0 parts.0) one.0))

      later : (a : Bool) → IsSoundLot (lot_by_group p.no f s (cond a group.Ahead (by_bridge (latest_that (has_exec f s.exec) (ring_at b.rings p.no)))))
      later true = tt
      later false = kept (latest_that (has_exec f s.exec) (ring_at b.rings p.no)) refl

      level : (a : Bool) → same_coord s.exec p.exec ≡ a
          → IsSoundLot (lot_by_group p.no f s (cond a (group.Follow (own_end_of p)) (cond (is_before p.exec s.exec) group.Ahead (by_bridge (latest_that (has_exec f s.exec) (ring_at b.rings p.no))))))
      level true e = subst (λ (c : Coord). Stands w p.no.0 f.0 (own_end_of p) c) (sym (same_coord-true s.exec p.exec e)) own-stands
      level false e = later (is_before p.exec s.exec)

      go : (g : Bool) → IsSoundLot (cond g (deciding.Goes (way.Auto p.no s.exec)) (lot_by_group p.no f s (group_of b.rings p.no (own_end_of p) p.exec f s.exec)))
      go true = tt
      go false = level (same_coord s.exec p.exec) refl

  -- with another queue and other drained ones
  queued-sound : (r : Recovery) (ts : List Task) (ds : List Stopped) → SoundRecovery w r → All (IsSoundTask w) ts → All (IsSoundStop w r.failed) ds
      → SoundRecovery w (record r { queue = ts; drained = ds })
  queued-sound r ts ds s queue drained = record { core = s.core; met = s.met; stage = s.stage; queue = queue; drained = drained; lead = s.lead }

  next-sound : (r : Recovery) (t : Task) (ts : List Task) → IsNext r t ts → SoundRecovery w r → IsSoundTask w t × SoundRecovery w (record r { queue = ts })
  next-sound r t ts next s =
      let all = subst (λ (q : List Task). All (IsSoundTask w) q) next.queue s.queue in
      (All-head (IsSoundTask w) t ts all, queued-sound r ts r.drained s (All-tail (IsSoundTask w) t ts all) s.drained)

  handed-sound : (r : Recovery) (d : Stopped) (ds : List Stopped) (o : Option Way) (ts : List Task) → IsHanding (ground_of w b now) r d ds o ts → SoundRecovery w r → SoundRecovery w (record r { drained = ds })
  handed-sound r d ds o ts g s =
      queued-sound r r.queue ds s s.queue (All-tail (IsSoundStop w r.failed) d ds (subst (λ (xs : List Stopped). All (IsSoundStop w r.failed) xs) g.drained s.drained))

  lead-of : (r : Recovery) (x : Bridge) → r.lead ≡ Some x → SoundRecovery w r → StandsIn w x
  lead-of r x is s = subst (λ (o : Option Bridge). IfSome o (StandsIn w)) is s.lead

  chooses-sound : (r : Recovery) (p : Stopped) → All (IsStopped w r.core.seen r.failed) r.drained → SoundRecovery w r → chosen_of (ground_of w b now) r.failed r.drained ≡ Some p
      → SoundRecovery w (choose (ground_of w b now) r (Some p))
  chooses-sound r p stopped s e =
      let one = All-chosen w b now r.failed (IsStopped w r.core.seen r.failed) r.drained p stopped e in
      let stop = All-chosen w b now r.failed (IsSoundStop w r.failed) r.drained p s.drained e in
      queued-sound r (moves_in (lot_by r.means (ground_of w b now) r.failed p) (without_stopped r.drained p.no) ++ r.queue) [] s
      (All-append (IsSoundTask w) (moves_in (lot_by r.means (ground_of w b now) r.failed p) (without_stopped r.drained p.no)) r.queue
      (moves-sound (lot_by r.means (ground_of w b now) r.failed p) (without_stopped r.drained p.no) (lot-sound r.core.seen r.failed p one (chosen-logs w b now r.failed r.drained p e) stop r.means)) s.queue)
      (All-nil (IsSoundStop w r.failed))

  below-sound : (seen : List Sight) (x k : ServerNo) (d : Stopped) (o : Option Way) → way_below (ground_of w b now) seen x k d ≡ o → IfSome o (IsSoundWay w)
  below-sound seen x k d o e = subst (λ (y : Option Way). IfSome y (IsSoundWay w)) e (go w.gtid)
    where
      by-set : (a : Bool) → IfSome (cond a (Some (way.Auto k d.exec)) None) (IsSoundWay w)
      by-set true = tt
      by-set false = tt

      by-log : (y : Option Bridge) → latest_that (has_own k d.exec) (ring_at b.rings x) ≡ y → IfSome (option_map way.Up y) (IsSoundWay w)
      by-log None f = tt
      by-log (Some y) f =
          (All-latest (StandsIn w) (has_own k d.exec) (ring_at b.rings x) y (All-at (All (StandsIn w)) b.rings x.0 [] (All-nil (StandsIn w)) stand) f).0

      go : (g : Bool) → IfSome (cond g (way_by_set w seen k d) (option_map way.Up (latest_that (has_own k d.exec) (ring_at b.rings x)))) (IsSoundWay w)
      go true = by-set _
      go false = by-log (latest_that (has_own k d.exec) (ring_at b.rings x)) refl

  sound-map : (t : ServerNo → Task) (ns : List ServerNo) → ((n : ServerNo) → IsSoundTask w (t n)) → All (IsSoundTask w) (map t ns)
  sound-map t [] each = All-nil (IsSoundTask w)
  sound-map t (n ∷ ns) each = All-cons (IsSoundTask w) (t n) (map t ns) (each n) (sound-map t ns each)

  sort-sound : (r : Recovery) → SoundRecovery w r → SoundRecovery w (sort r)
  sort-sound r s =
      let out = filter (λ (n : ServerNo). expels r.purpose (why_of r.outcome.lost n)) r.replicas in
      let free = filter (λ (n : ServerNo). releases r.purpose (why_of r.outcome.lost n)) r.replicas in
      record {
        core = s.core;
        met = s.met;
        stage = s.stage;
        queue =
            All-append (IsSoundTask w) (map task.Expelling out) (map task.Releasing free ++ r.queue) (sound-map task.Expelling out (λ n. tt))
            (All-append (IsSoundTask w) (map task.Releasing free) r.queue (sound-map task.Releasing free (λ n. tt)) s.queue);
        drained = s.drained;
        lead = s.lead;
      }

  pub decides-sound : (r : Recovery) (d : Decision) → MayDecide (ground_of w b now) r d → HeldRecovery w r → SoundRecovery w r → SoundRecovery w (decided_by (ground_of w b now) r d)
  decides-sound r (by.Reads n ts) next held s = begun-sound w (record r { queue = ts }) (stage.Read n) (op.Status n None ∷ []) (next-sound r (task.Reading n) ts next s).1 tt
  decides-sound r (by.Drains n ts) next held s = begun-sound w (record r { queue = ts }) (stage.Drain n) (drain n) (next-sound r (task.Draining n) ts next s).1 tt
  decides-sound r (by.Sends n way ts) next held s = let h = next-sound r (task.Moving n way) ts next s in moving-sound w (record r { queue = ts }) n way h.1 h.0
  decides-sound r (by.Expels n ts) next held s = begun-sound w (record r { queue = ts }) (stage.Expel n) (op.Detach n ∷ []) (next-sound r (task.Expelling n) ts next s).1 tt
  decides-sound r (by.Releases n ts) next held s = begun-sound w (record r { queue = ts }) (stage.Release n) (op.Start n ∷ []) (next-sound r (task.Releasing n) ts next s).1 tt
  decides-sound r (by.Looks n x ts) (next, e) held s =
      begun-sound w (record r { queue = ts }) (stage.Look n x) (op.Status n None ∷ []) (next-sound r (task.Trailing n) ts next s).1 (lead-of r x e s)
  decides-sound r (by.Yields x ts) (next, e) held s =
      let h = (next-sound r task.Yielding ts next s).1 in
      record { core = seen-bridged w r.core.seen x s.core (lead-of r x e s); met = s.met; stage = tt; queue = h.queue; drained = s.drained; lead = s.lead }
  decides-sound r (by.Sticks t ts) g held s = queued-sound r [] r.drained s (All-nil (IsSoundTask w)) s.drained
  decides-sound r (by.Chooses p ts) (next, e) held s = chooses-sound (record r { queue = ts }) p held.drained (next-sound r task.Choosing ts next s).1 e
  decides-sound r (by.ChoosesNobody ts) g held s = queued-sound r [] [] s (All-nil (IsSoundTask w)) (All-nil (IsSoundStop w r.failed))
  decides-sound r (by.Hands d ds way ts) g held s =
      moving-sound w (record r { drained = ds }) d.no way (handed-sound r d ds (Some way) ts g s) (below-sound r.core.seen r.failed g.source d (Some way) g.way)
  decides-sound r (by.Leaves d ds ts) g held s = handed-sound r d ds None ts g s
  decides-sound r (by.HandedOver ts) g held s = queued-sound r ts [] s (next-sound r task.Handing ts g.0 s).1.queue (All-nil (IsSoundStop w r.failed))
  decides-sound r (by.Passes ts) g held s = (next-sound r task.Handing ts g.0 s).1
  decides-sound r (by.Sorts ts) next held s = sort-sound (record r { queue = ts }) (next-sound r task.Sorting ts next s).1
  decides-sound r (by.Levels p q) g held s = begun-sound w (record r { swaps = false }) (stage.Level p q) (level p q) s tt
  decides-sound r by.Remains g held s = s
  decides-sound r (by.Crowns p) g held s = begun-sound w r (stage.Crown p) (op.Reset p ∷ op.ReadOnly p false ∷ []) s tt
  decides-sound r (by.Rejoins p) g held s = begun-sound w r (stage.Close (result_lines r)) (op.Start p ∷ op.Finish (result_lines r) ∷ []) s tt
  decides-sound r by.Closes g held s = begun-sound w r (stage.Close (result_lines r)) (op.Finish (result_lines r) ∷ []) s tt

  decides-both : (r : Recovery) (d : Decision) → MayDecide (ground_of w b now) r d → IsHeldAndSound w r → IsHeldAndSound w (decided_by (ground_of w b now) r d)
  decides-both r d may h = (decides-held w b now rings r d may h.0, decides-sound r d may h.0 h.1)

-- ---- what others do

way-on : (w : World) (es : List Exchange) → Placed w → AllAllowed w es → (by : Way) → IsSoundWay w by → IsSoundWay (run w es) by
way-on w es placed allowed (way.Down b) h = Stands-grows w (run w es) b.no.0 b.source.0 b.own b.exec (Grows-run w es placed allowed) h
way-on w es placed allowed (way.Up b) h = Stands-grows w (run w es) b.no.0 b.source.0 b.own b.exec (Grows-run w es placed allowed) h
way-on w es placed allowed (way.Auto to exec) h = tt
way-on w es placed allowed (way.Match to exec every) h = tt

module _ (w : World) (es : List Exchange) (placed : Placed w) (allowed : AllAllowed w es) where
  stands-on : (b : Bridge) → StandsIn w b → StandsIn (run w es) b
  stands-on b h = Stands-grows w (run w es) b.no.0 b.source.0 b.own b.exec (Grows-run w es placed allowed) h

  task-on : (t : Task) → IsSoundTask w t → IsSoundTask (run w es) t
  task-on (task.Moving n by) h = way-on w es placed allowed by h
  task-on _ h = tt

  stage-on : (s : Stage) → IsSoundStage w s → IsSoundStage (run w es) s
  stage-on (stage.Look n b) h = stands-on b h
  stage-on (stage.Looked n b) h = stands-on b h
  stage-on (stage.Trail n b) h = stands-on b h
  stage-on (stage.Halted n b) h = stands-on b h
  stage-on (stage.Move n by) h = tt
  stage-on s h = tt

  lead-on : (o : Option Bridge) → IfSome o (StandsIn w) → IfSome o (StandsIn (run w es))
  lead-on None h = tt
  lead-on (Some b) h = stands-on b h

  pub others-sound : (r : Recovery) → SoundRecovery w r → SoundRecovery (run w es) r
  others-sound r s = record {
    core = AllBridged-run w es r.core.seen placed allowed s.core;
    met = AllMeet-run w es placed allowed r.core.matches s.met;
    stage = stage-on r.stage s.stage;
    queue = All-weaker (IsSoundTask w) (IsSoundTask (run w es)) task-on r.queue s.queue;
    drained = All-weaker (IsSoundStop w r.failed) (IsSoundStop (run w es) r.failed) (λ d h own e. stands-on (stopped_bridge r.failed d own) (h own e)) r.drained s.drained;
    lead = lead-on r.lead s.lead;
  }

-- ---- a stage that is done

module _ (w : World) where
  lead-sound : (r : Recovery) (d : ServerNo) → SoundRecovery w r → IfSome (lead_under r.failed (bridge_at d (seen_of r.core.seen d.0))) (StandsIn w)
  lead-sound r d s = go (bridge_at d (seen_of r.core.seen d.0)) refl
    where
      go : (o : Option Bridge) → bridge_at d (seen_of r.core.seen d.0) ≡ o → IfSome (lead_under r.failed o) (StandsIn w)
      go None e = tt
      go (Some x) e = at (x.source.0 == r.failed.0)
        where
          at : (a : Bool) → IfSome (cond a (Some x) None) (StandsIn w)
          at true = stands-at w d (seen_of r.core.seen d.0) x (s.core d.0) e
          at false = tt

  stage-of : (r : Recovery) (x : Stage) → r.stage ≡ x → SoundRecovery w r → IsSoundStage w x
  stage-of r x is s = subst (λ (y : Stage). IsSoundStage w y) is s.stage

  completes-sound : (r : Recovery) (e : Ending) → MayEnd r e → SoundRecovery w r → SoundRecovery w (ended_by r e)
  completes-sound r by.Rests may s = idle-sound w r s
  completes-sound r (by.Stays n x) may s = record {
    core = s.core;
    met = s.met;
    stage = tt;
    queue = s.queue;
    drained = All-push (IsSoundStop w r.failed) r.drained _ s.drained (λ own end. s.core n.0 x may.1 r.failed.0 own (source-is (source_no x.source) r.failed may.2) end);
    lead = s.lead;
  }
  completes-sound r (by.Loses n why) may s = idle-sound w (loses r n why) s
  completes-sound r (by.Frees n why) may s = begun-sound w (loses r n why) (stage.Release n) (op.Start n ∷ []) s tt
  completes-sound r (by.Follows n p) may s = idle-sound w (follows r n p) s
  completes-sound r (by.Marks n) may s = idle-sound w r s
  completes-sound r (by.Leads d) may s = record { core = s.core; met = s.met; stage = tt; queue = s.queue; drained = s.drained; lead = lead-sound r d s }
  completes-sound r (by.Trails n x) may s =
      let h = stage-of r (stage.Looked n x) may.0 s in
      record { core = seen-bridged w r.core.seen x s.core h; met = s.met; stage = h; queue = s.queue; drained = s.drained; lead = s.lead }
  completes-sound r (by.Joins n x) may s = moving-sound w r n (way.Down x) s (stage-of r (stage.Halted n x) may.0 s)
  completes-sound r (by.Swaps p q) may s = begun-sound w (swapped r p q) (stage.Open q) (op.Start p ∷ op.ReadOnly q false ∷ []) s tt
  completes-sound r (by.Switches m d) may s = begun-sound w (follows r m d) (stage.Open d) (op.ReadOnly d false ∷ []) s tt
  completes-sound r (by.Shuts m d) may s = begun-sound w r (stage.Shut m d) (op.ReadOnly m true ∷ gather m d) s tt
  completes-sound r (by.Ends n) may s = begun-sound w r (stage.Close (result_lines r)) (last_looks r r.purpose n ++ op.Finish (result_lines r) ∷ []) s tt

  -- the bridge of a stage is that of the next
  moved-sound : (x : Stage) → IsSoundStage w x → IsSoundStage w (moved x)
  moved-sound x h = subst (λ (o : Option Bridge). IfSome o (StandsIn w)) (sym (moved-leads x)) h

  stepped-sound : (r : Recovery) (o : Op) → SoundRecovery w r → SoundRecovery w (stepped r o)
  stepped-sound r o s = go (ends r.stage (deed_of o))
    where
      enter : (k : Option ServerNo) → SoundRecovery w (record (follows_no_more r k) { stage = moved r.stage })
      enter None = record { core = s.core; met = s.met; stage = moved-sound r.stage s.stage; queue = s.queue; drained = s.drained; lead = s.lead }
      enter (Some n) = record { core = s.core; met = s.met; stage = moved-sound r.stage s.stage; queue = s.queue; drained = s.drained; lead = s.lead }

      go : (c : Bool) → SoundRecovery w (cond c (entered r (moved r.stage)) r)
      go true = enter (leaver (moved r.stage))
      go false = s

  -- no stage that takes another's place goes by a bridge
  bears-sound : (r : Recovery) (e : Bearing) → SoundRecovery w r → SoundRecovery w (borne r (fate_of e))
  bears-sound r by.Drops s = begun-sound w r stage.Idle [] s tt
  bears-sound r (by.Misses n why) s = begun-sound w (loses r n why) stage.Idle [] s tt
  bears-sound r (by.Lets n why) s = begun-sound w (loses r n why) (stage.Release n) (op.Start n ∷ []) s tt
  bears-sound r (by.Restarts p q) s = begun-sound w r (stage.Release q) (op.Start q ∷ []) s tt
  bears-sound r (by.Returns p q) s = begun-sound w r (stage.Return p q) (op.Cross cross.Back q p ∷ op.Start q ∷ []) s tt

-- ---- exchanges of a turn that fails

append-join : (w : World) (es fs : List Exchange) → AllJoinWell w es → AllJoinWell (run w es) fs → AllJoinWell w (es ++ fs)
append-join w [] fs one other = other
append-join w (e ∷ es) fs one other = (one.0, append-join (after w e) es fs one.1 other)

-- the designated replica goes back by the reading by which the master was to go below it
back-joins : (w : World) (seen : List Sight) (m d : ServerNo) → Safe w → AllBridged w seen → finds (footing w seen) (deed_of (op.Cross cross.Back d m)) ≡ true → AllJoinWell w (goes_back w seen m d)
back-joins w seen m d safe all found =
    append-join w (that_can w (crossing_of seen cross.Back d m)) (Request d.0 asking.Start ∷ takes_writes m) (go (crossing_of seen cross.Back d m) refl) (tt, (tt, tt))
  where
    go : (o : Option Exchange) → crossing_of seen cross.Back d m ≡ o → AllJoinWell w (that_can w o)
    go None e = tt
    go (Some x) e = at (can_attach w x)
      where
        at : (b : Bool) → AllJoinWell w (cond b (x ∷ []) [])
        at true = (crossing-joins w seen safe all cross.Back d m x found e, tt)
        at false = tt

way-back-joins : (w : World) (j : Job) (f : ServerNo) (x : Stage) → Safe w → AllBridged w j.seen → are_held (footing w j.seen) j.ops ≡ true → Fits x j.ops → AllJoinWell w (way_back w j.seen f x)
way-back-joins w j f (stage.Switch m d) safe all left fits =
    let is : j.ops ≡ op.Cross cross.About m d ∷ [] = fits.is ∙ ap (λ xs. xs ++ op.Cross cross.About m d ∷ []) (fits.due refl) in
    let found = and_parts (finds (footing w j.seen) (deed_of (op.Cross cross.About m d))) true (sym (ap (are_held (footing w j.seen)) is) ∙ left) in
    back-joins w j.seen m d safe all found.0
way-back-joins w j f (stage.Meet k d) safe all left fits = tt
way-back-joins w j f (stage.Shut k d) safe all left fits = tt
way-back-joins w j f (stage.Switched k d) safe all left fits = tt
way-back-joins w j f (stage.Open n) safe all left fits = tt
way-back-joins w j f (stage.Opened n) safe all left fits = tt
way-back-joins w j f (stage.Close lines) safe all left fits = tt
way-back-joins w j f x safe all left fits = (tt, tt)

undone-joins : (w : World) (u : Purpose) (r : Recovery) → Safe w → HeldRecovery w r → AllBridged w r.core.seen → AllJoinWell w (undone w u r.core.seen r.failed r.stage)
undone-joins w (purpose.Takeover d) r safe held all = way-back-joins w r.core r.failed r.stage safe all held.core.left held.fits
undone-joins w _ r safe held all = tt

last-joins : (w : World) (r : Recovery) → Safe w → HeldRecovery w r → AllBridged w r.core.seen → AllJoinWell w (last_exchanges w r)
last-joins w r safe held all =
    append-join w (undone w r.purpose r.core.seen r.failed r.stage) (restarts r.core.hands) (undone-joins w r.purpose r safe held all)
    (restarts-join (run w (undone w r.purpose r.core.seen r.failed r.stage)) r.core.hands)

-- ---- a turn

module _ (w : World) (b : BookState) (read : ℕ) (now : Moment) (safe : Safe w) (placed : Placed w) (rings : HeldRings w b.rings) (stand : SoundRings w b.rings) where
  module _ (r : Recovery) (o : Op) (rest : List Op) (ob : Option Observation) (es : List Exchange) (j : Job) (did : Does w read now r o rest ob es j) (h : IsHeldAndSound w r) where
    well : KeepsSound w (going ob es j)
    well = goes-sound w read now r.core j rest (deed_of o) ob es safe placed h.0.core.shown h.1.core h.1.met (due w read now r o rest placed h.0 did.ops) did.goes

    does-sound : SoundRecovery (run w es) (record r { core = j })
    does-sound =
        let kept = goes-kept w read now r.core j rest (deed_of o) ob es placed h.0.core.shown h.0.core.ends (due w read now r o rest placed h.0 did.ops) did.goes in
        let on = others-sound w es placed kept.allowed r h.1 in
        record { core = well.bridged; met = well.met; stage = on.stage; queue = on.queue; drained = on.drained; lead = on.lead }

  keeps-sound : Keeps w b read now (IsHeldAndSound w) (λ v r. SoundRecovery v r) (λ v r. SoundRecovery v r)
  keeps-sound = record {
    decides = decides-both w b now rings stand;
    waits = λ r o rest ob es j did e h. does-sound r o rest ob es j did h;
    acts = λ r o rest ob es j did e h. stepped-sound (run w es) (record r { core = j }) o (does-sound r o rest ob es j did h);
    continues = λ v r x xs is s. s;
    completes = λ v r e none may s. completes-sound v r e may s;
    bears = λ r o rest c ob e stops is may h. bears-sound w r e h.1;
  }

pub taken-sound : (w : World) (b : BookState) (read : ℕ) (now : Moment) (r : Recovery) → Safe w → Placed w → HeldRings w b.rings → SoundRings w b.rings → HeldRecovery w r → SoundRecovery w r
    → KeepsSoundRecovery w (taken w b read now r)
taken-sound w b read now r safe placed rings stand held s = record {
  joins =
      made-along w b read now (IsHeldAndSound w) (AllJoinWell w) tt (decides-both w b now rings stand)
      (λ x o rest ob es j did h. (well w b read now safe placed rings stand x o rest ob es j did h).joins) (λ x c ob why h. last-joins w x safe h.0 h.1.core) r (held, s);
  sound =
      kept-along w b read now (IsHeldAndSound w) (λ v x. SoundRecovery v x) (λ v x. SoundRecovery v x) (keeps-sound w b read now safe placed rings stand) r (held, s);
}

pub run-sound : (w : World) (es : List Exchange) (r : Recovery) → Placed w → AllAllowed w es → SoundRecovery w r → SoundRecovery (run w es) r
run-sound w es r placed allowed s = others-sound w es placed allowed r s
