-- What is decided covers the replicas as far as before: how the next drained one goes below a successor.
use Rattle.std.proofs.Common.{◌≡◌, Bool, true, false, cond, List, [], ◌∷◌, ◌++◌, refl, sym, ◌∙◌, ap, subst, Option, Some, None, ◌&&◌, inl, inr, arith, ◌==◌, is_some, option_map}
use Rattle.recovery_covers.proofs.Prelude.{All, All-cons, All-head, All-latest, All-nil, All-push, All-tail, Awaits, BookState, Bridge, CoversAt}
use Rattle.recovery_covers.proofs.Prelude.{CoversSoFar, IsApart, IsHanding, IsSourced, Leads, LostReplica, Moment, Op, Reads, Recovery, ServerNo}
use Rattle.recovery_covers.proofs.Prelude.{Sight, Stage, Stopped, Task, Way, World, and_parts, before, eq-eqb, eqb-true, expels, false≢true}
use Rattle.recovery_covers.proofs.Prelude.{ground_of, has_own, in_order, latest_that, logs_at, loses, moving, ring_at, same-no, same_coord, same_Some}
use Rattle.recovery_covers.proofs.Prelude.{seen-at, seen_of, sight_of, source_shown, tail_of, target, way_below, way_by_set, with_way}
use Rattle.recovery_covers.proofs.Prelude.lost
use Rattle.recovery_covers.proofs.Prelude.stage
use Rattle.recovery_covers.proofs.Prelude.task
use Rattle.recovery_covers.proofs.Prelude.way
use Rattle.recovery_covers.proofs.Covering.{queue-as}
use Rattle.recovery_covers.proofs.Times.{times-push}

-- ---- ways

-- by what it goes was seen
pub way-reads : (xs : List Sight) (by : Way) → Reads (with_way xs by) by
way-reads xs (way.Up b) =
    ap source_shown (seen-at xs b.no (sight_of b) b.no.0 ∙ ap (λ (x : Bool). cond x (Some (sight_of b)) (seen_of xs b.no.0)) (eq-eqb b.no.0 b.no.0 refl))
way-reads xs _ = tt

-- the operations of a replica that goes some way
abbrev pub ops_in : Stage → List Op
ops_in (stage.Move n by) = before by n ++ tail_of (stage.Move n by)
ops_in s = []

pub some-op : (n : ServerNo) (by : Way) → ops_in (stage.Move n by) ≡ [] → ⊥
some-op n (way.Down b) h = cc
some-op n _ h = cc

-- a way below the successor leads there
pub way-leads : (w : World) (b : BookState) (now : Moment) (xs : List Sight) (x s : ServerNo) (d : Stopped) (by : Way) → way_below (ground_of w b now) xs x s d ≡ Some by → target by ≡ s
way-leads w b now xs x s d by h = go w.gtid h
  where
    units : (ys : List Bridge) → All (λ (y : Bridge). Unit {0}) ys
    units [] = All-nil (λ (y : Bridge). Unit {0})
    units (y ∷ ys) = All-cons (λ (z : Bridge). Unit {0}) y ys tt (units ys)

    by-set : (a : Bool) → cond a (Some (way.Auto s d.exec)) None ≡ Some by → target by ≡ s
    by-set true e = sym (ap target (same_Some (way.Auto s d.exec) by e))
    by-set false e = cc

    by-log : (o : Option Bridge) → latest_that (has_own s d.exec) (ring_at b.rings x) ≡ o → option_map way.Up o ≡ Some by → target by ≡ s
    by-log None f e = cc
    by-log (Some y) f e =
        let passes = (All-latest (λ (z : Bridge). Unit {0}) (has_own s d.exec) (ring_at b.rings x) y (units (ring_at b.rings x)) f).1 in
        sym (ap target (same_Some (way.Up y) by e)) ∙ same-no y.source s (eqb-true y.source.0 s.0 (and_parts (y.source.0 == s.0) (same_coord y.own d.exec) passes).0)

    go : (g : Bool) → cond g (way_by_set w xs s d) (option_map way.Up (latest_that (has_own s d.exec) (ring_at b.rings x))) ≡ Some by → target by ≡ s
    go true e = by-set (is_some (seen_of xs s.0) && logs_at w s) e
    go false e = by-log (latest_that (has_own s d.exec) (ring_at b.rings x)) refl e

-- ---- one after another

module _ (w : World) (b : BookState) where
  abbrev Hands : Recovery → List Stopped → Type 0
  Hands r ds = CoversAt w (record r { queue = task.Handing ∷ r.queue; drained = ds }) stage.Idle

  -- nobody is left
  handed : (r : Recovery) → Hands r [] → CoversAt w (record r { drained = [] }) stage.Idle
  handed r c = record {
    replicas = c.replicas;
    once = c.once;
    order = (and_parts _ (in_order r.queue) c.order).1;
    unchosen = c.unchosen;
    undrained = λ h. refl;
    named = c.named;
    lead = c.lead;
    leads = first c.leads;
    drained = All-nil (λ (d : Stopped). IsSourced w d.no.0);
    queue =
        queue-as w (record r { queue = task.Handing ∷ r.queue; drained = [] }) (record r { drained = [] }) (record { purpose = refl; chosen = refl; lost = λ n h. h }) r.queue
        (All-tail (Awaits w (record r { queue = task.Handing ∷ r.queue; drained = [] })) task.Handing r.queue c.queue);
    stage = tt;
    attached = c.attached;
    follow = c.follow;
    sourced = c.sourced;
    apart = c.apart;
  }
    where
      first : Leads (record r { queue = task.Handing ∷ r.queue; drained = [] }) stage.Idle → Leads (record r { drained = [] }) stage.Idle
      first (inl e) = inl e
      first (inr x) = absurd (false≢true x.0)

  -- the next one has no way
  stays : (r : Recovery) (d : Stopped) (ds : List Stopped) → Hands r (d ∷ ds) → Hands (loses r d.no (lost.behind d.exec)) ds
  stays r d ds c = record {
    replicas = c.replicas;
    once = λ n.
        let e = c.once n in
        let p = times-push (λ (l : LostReplica). l.no) n r.outcome.lost (record { no = d.no; why = lost.behind d.exec; detached = false }) in
        omega (arith, e, p);
    order = c.order;
    unchosen = c.unchosen;
    undrained = λ h. absurd (false≢true (sym h));
    named = c.named;
    lead = c.lead;
    leads = first c.leads;
    drained = All-tail (λ (x : Stopped). IsSourced w x.no.0) d ds c.drained;
    queue =
        queue-as w (record r { queue = task.Handing ∷ r.queue; drained = d ∷ ds }) new
        (record {
          purpose = refl;
          chosen = refl;
          lost = λ n h.
              let p = times-push (λ (l : LostReplica). l.no) n r.outcome.lost (record { no = d.no; why = lost.behind d.exec; detached = false }) in
              omega (arith, p, h);
        }) (task.Handing ∷ r.queue) c.queue;
    stage = tt;
    attached = c.attached;
    follow = c.follow;
    sourced =
        All-push (λ (l : LostReplica). expels r.purpose (Some l.why) ≡ true → IsSourced w l.no.0) r.outcome.lost _ c.sourced
        (λ e. All-head (λ (x : Stopped). IsSourced w x.no.0) d ds c.drained);
    apart = All-push (λ (l : LostReplica). l.detached ≡ true → IsApart w l.no.0) r.outcome.lost _ c.apart (λ h. absurd (false≢true h));
  }
    where
      new : Recovery
      new = record (loses r d.no (lost.behind d.exec)) { queue = task.Handing ∷ r.queue; drained = ds }

      first : Leads (record r { queue = task.Handing ∷ r.queue; drained = d ∷ ds }) stage.Idle → Leads new stage.Idle
      first (inl e) = inl e
      first (inr x) = absurd (false≢true x.0)

  -- or it goes there
  goes : (r : Recovery) (d : Stopped) (ds : List Stopped) (by : Way) → r.chosen ≡ Some (target by) → Hands r (d ∷ ds)
      → CoversSoFar w (moving (record r { queue = task.Handing ∷ r.queue; drained = ds }) d.no by)
  goes r d ds by leads c = record {
    at = record {
      replicas = c.replicas;
      once = λ n. let e = c.once n in omega (arith, e);
      order = c.order;
      unchosen = c.unchosen;
      undrained = λ h. absurd (false≢true (sym h));
      named = c.named;
      lead = c.lead;
      leads = first c.leads;
      drained = All-tail (λ (x : Stopped). IsSourced w x.no.0) d ds c.drained;
      queue =
          queue-as w (record r { queue = task.Handing ∷ r.queue; drained = d ∷ ds }) new (record { purpose = refl; chosen = refl; lost = λ n h. h }) (task.Handing ∷ r.queue) c.queue;
      stage = (leads, All-head (λ (x : Stopped). IsSourced w x.no.0) d ds c.drained, way-reads r.core.seen by);
      attached = c.attached;
      follow = c.follow;
      sourced = c.sourced;
      apart = c.apart;
    };
    rests = λ h. absurd (some-op d.no by h);
    moves = λ n b' h. ap ops_in h;
  }
    where
      new : Recovery
      new = moving (record r { queue = task.Handing ∷ r.queue; drained = ds }) d.no by

      first : Leads (record r { queue = task.Handing ∷ r.queue; drained = d ∷ ds }) stage.Idle → Leads new (stage.Move d.no by)
      first (inl e) = inl e
      first (inr x) = absurd (false≢true x.0)

  -- before a decision over the next one
  handing : (r : Recovery) (ds : List Stopped) (ts : List Task) → r.queue ≡ task.Handing ∷ ts → r.drained ≡ ds → CoversAt w r stage.Idle → Hands (record r { queue = ts }) ds
  handing r ds ts queue drained c =
      subst (λ (xs : List Stopped). CoversAt w (record r { queue = task.Handing ∷ ts; drained = xs }) stage.Idle) drained
      (subst (λ (q : List Task). CoversAt w (record r { queue = q }) stage.Idle) queue c)

  pub handed-over : (r : Recovery) (ts : List Task) → r.queue ≡ task.Handing ∷ ts → r.drained ≡ [] → CoversAt w r stage.Idle → CoversAt w (record r { queue = ts; drained = [] }) stage.Idle
  handed-over r ts queue drained c = handed (record r { queue = ts }) (handing r [] ts queue drained c)

  pub leaves-covers : (now : Moment) (r : Recovery) (d : Stopped) (ds : List Stopped) (o : Option Way) (ts : List Task) → IsHanding (ground_of w b now) r d ds o ts → CoversAt w r stage.Idle
      → CoversAt w (record (loses r d.no (lost.behind d.exec)) { drained = ds }) stage.Idle
  leaves-covers now r d ds o ts g c =
      subst (λ (q : List Task). CoversAt w (record (loses r d.no (lost.behind d.exec)) { queue = q; drained = ds }) stage.Idle) (sym g.next.queue)
      (stays (record r { queue = ts }) d ds (handing r (d ∷ ds) ts g.next.queue g.drained c))

  pub hands-covers : (now : Moment) (r : Recovery) (d : Stopped) (ds : List Stopped) (by : Way) (ts : List Task) → IsHanding (ground_of w b now) r d ds (Some by) ts → CoversAt w r stage.Idle
      → CoversSoFar w (moving (record r { drained = ds }) d.no by)
  hands-covers now r d ds by ts g c =
      subst (λ (q : List Task). CoversSoFar w (moving (record r { queue = q; drained = ds }) d.no by)) (sym g.next.queue)
      (goes (record r { queue = ts }) d ds by (g.chosen ∙ ap Some (sym (way-leads w b now r.core.seen r.failed g.source d by g.way))) (handing r (d ∷ ds) ts g.next.queue g.drained c))
