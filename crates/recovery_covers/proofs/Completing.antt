-- A stage that is done covers the replicas as far as before.
use Rattle.std.proofs.Common.{◌≡◌, ℕ, ◌+◌, Bool, true, false, cond, List, [], ◌∷◌, ◌++◌, map, refl, sym, ◌∙◌, ap, subst, Option, Some, None, ◌⊎◌, inl, inr, arith, ◌==◌, IfSome}
use Rattle.recovery_covers.proofs.Prelude.{All, All-cons, All-head, All-nil, All-push, All-tail, All-weaker, Attached, Bridge, Contains}
use Rattle.recovery_covers.proofs.Prelude.{Contains-push, CoversAt, CoversSoFar, Detached, Ending, Fits, Follower, FollowsBy, IsApart, IsLast}
use Rattle.recovery_covers.proofs.Prelude.{IsPromoted, IsSourced, IsUnder, Job, Leads, LostReplica, MayEnd, OldFollows, Op, Position, Purpose}
use Rattle.recovery_covers.proofs.Prelude.{Recovery, ServerNo, SourceState, Stage, Stands, Stopped, WasRead, Why, Without, World, bridge-parts}
use Rattle.recovery_covers.proofs.Prelude.{bridge_at, chooses, closing, crowns, ended_by, eqb-true, expelled, expels, false≢true, first_source}
use Rattle.recovery_covers.proofs.Prelude.{follows, frees, gathered, has_source, idle, is_below, is_late, is_source, is_takeover, last_looks}
use Rattle.recovery_covers.proofs.Prelude.{lead_under, leader, listed, loses, lost_nos, marked, of_stage, rests, same-no, same_Some, seen_of}
use Rattle.recovery_covers.proofs.Prelude.{result_lines, source_no, spot_seen, stopped_at, swapped, tail_of, times}
use Rattle.recovery_covers.proofs.Prelude.by
use Rattle.recovery_covers.proofs.Prelude.lost
use Rattle.recovery_covers.proofs.Prelude.op
use Rattle.recovery_covers.proofs.Prelude.purpose
use Rattle.recovery_covers.proofs.Prelude.stage
use Rattle.recovery_covers.proofs.Prelude.way
use Rattle.recovery_covers.proofs.Times.{one, times-push}
use Rattle.recovery_covers.proofs.Covering.{queue-as, master-crowns, takeover-crowns, crowned-leader, giving-on, restaged}
use Rattle.recovery_covers.proofs.Changing.{old-master}
use Rattle.recovery_covers.proofs.Decided.{so-far, at-rest}

-- a stage whose last operation is still to come has something left
not-ended : (s : Stage) (x : Op) (xs : List Op) → tail_of s ≡ x ∷ xs → Fits s [] → ⊥
not-ended s x xs t f = go f.front (f.is ∙ ap (λ ys. f.front ++ ys) t)
  where
    go : (front : List Op) → [] ≡ front ++ x ∷ xs → ⊥
    go [] h = cc
    go (y ∷ ys) h = cc

-- a server whose source shows has one
pub below-sourced : (x : SourceState) (f : ServerNo) → is_source (source_no x) f ≡ true → has_source x ≡ true
below-sourced Without f h = h
below-sourced (Attached m) f h = refl
below-sourced (Detached m) f h = refl

module _ (w : World) where
  early : (r r' : Recovery) (s s' : Stage) → is_late s ≡ false → Leads r s → r'.outcome.promoted ≡ r.outcome.promoted → r'.chosen ≡ r.chosen → Leads r' s'
  early r r' s s' late (inl e) p ch = inl (p ∙ e ∙ sym ch)
  early r r' s s' late (inr x) p ch = absurd (false≢true (sym late ∙ x.0))

  -- ---- one more is lost

  pub lose-covers : (r : Recovery) (s s' : Stage) (n : ServerNo) (why : Why) (core : Job) → CoversAt w r s → of_stage s ≡ n ∷ [] → of_stage s' ≡ [] → is_late s ≡ false
      → (expels r.purpose (Some why) ≡ true → IsSourced w n.0) → Stands w (record (loses r n why) { stage = s'; core = core }) s' → CoversAt w (record (loses r n why) { stage = s'; core = core }) s'
  lose-covers r s s' n why core c same none late sourced stands = record {
    replicas = c.replicas;
    once = λ k.
        let e = c.once k in
        let b : times k (of_stage s) ≡ one k n + 0 = ap (times k) same in
        let d : times k (of_stage s') ≡ 0 = ap (times k) none in
        let p = times-push (λ (l : LostReplica). l.no) k r.outcome.lost (record { no = n; why = why; detached = false }) in
        omega (arith, e, b, d, p);
    order = c.order;
    unchosen = c.unchosen;
    undrained = c.undrained;
    named = c.named;
    lead = c.lead;
    leads = early r (record (loses r n why) { stage = s'; core = core }) s s' late c.leads refl refl;
    drained = c.drained;
    queue =
        queue-as w r (record (loses r n why) { stage = s'; core = core })
        (record {
          purpose = refl;
          chosen = refl;
          lost = λ k h. let p = times-push (λ (l : LostReplica). l.no) k r.outcome.lost (record { no = n; why = why; detached = false }) in omega (arith, p, h);
        }) r.queue c.queue;
    stage = stands;
    attached = c.attached;
    follow = c.follow;
    sourced = All-push (λ (l : LostReplica). expels r.purpose (Some l.why) ≡ true → IsSourced w l.no.0) r.outcome.lost _ c.sourced sourced;
    apart = All-push (λ (l : LostReplica). l.detached ≡ true → IsApart w l.no.0) r.outcome.lost _ c.apart (λ h. absurd (false≢true h));
  }

  -- it is left, or started
  pub left-covers : (r : Recovery) (s : Stage) (n : ServerNo) (why : Why) → CoversAt w r s → of_stage s ≡ n ∷ [] → is_late s ≡ false → (expels r.purpose (Some why) ≡ true → IsSourced w n.0)
      → CoversSoFar w (idle (loses r n why))
  left-covers r s n why c same late sourced = at-rest w (idle (loses r n why)) refl (lose-covers r s stage.Idle n why r.core c same refl late sourced tt)

  pub freed-covers : (r : Recovery) (s : Stage) (n : ServerNo) (why : Why) → CoversAt w r s → of_stage s ≡ n ∷ [] → is_late s ≡ false → (expels r.purpose (Some why) ≡ true → IsSourced w n.0)
      → CoversSoFar w (frees r n why)
  freed-covers r s n why c same late sourced =
      so-far w (frees r n why) (stage.Release n) (op.Start n) [] refl refl (λ m by h. cc)
      (lose-covers r s (stage.Release n) n why (record r.core { ops = op.Start n ∷ []; waited = 0 }) c same refl late sourced tt)

  expels-unreachable : (u : Purpose) → expels u (Some lost.unreachable) ≡ false
  expels-unreachable purpose.Regroup = refl
  expels-unreachable _ = refl

  expels-moved : (u : Purpose) (x : _) → expels u (Some (lost.moved x)) ≡ false
  expels-moved purpose.Regroup x = refl
  expels-moved _ x = refl

  pub unreached : (u : Purpose) (n : ℕ) → expels u (Some lost.unreachable) ≡ true → IsSourced w n
  unreached u n h = absurd (false≢true (sym (expels-unreachable u) ∙ h))

  -- ---- a replica that was stopped and read

  -- if it isn't below the failed server it stays as it is
  stray-leaves : (u : Purpose) (f : ServerNo) (o : Option Position) (why : Why) → by.stray f o ≡ Some why → expels u (Some why) ≡ false
  stray-leaves u f None why h = subst (λ (y : Why). expels u (Some y) ≡ false) (same_Some lost.unreachable why h) (expels-unreachable u)
  stray-leaves u f (Some s) why h = go (is_below s f) h
    where
      go : (a : Bool) → cond a None (Some (lost.moved (spot_seen s.source s.exec))) ≡ Some why → expels u (Some why) ≡ false
      go true e = cc
      go false e = subst (λ (y : Why). expels u (Some y) ≡ false) (same_Some (lost.moved (spot_seen s.source s.exec)) why e) (expels-moved u (spot_seen s.source s.exec))

  -- else it was seen there
  not-stray : (f : ServerNo) (o : Option Position) → by.stray f o ≡ None → (s : Position) × (o ≡ Some s) × (is_below s f ≡ true)
  not-stray f None h = cc
  not-stray f (Some s) h = (s, refl, go (is_below s f) refl h)
    where
      go : (a : Bool) → is_below s f ≡ a → cond a None (Some (lost.moved (spot_seen s.source s.exec))) ≡ None → is_below s f ≡ true
      go true e h = e
      go false e h = cc

  stays-covers : (r : Recovery) (n : ServerNo) (s : Position) → CoversAt w r (stage.Judged n) → seen_of r.core.seen n.0 ≡ Some s → is_below s r.failed ≡ true
      → CoversAt w (idle (record r { drained = r.drained ++ stopped_at n s ∷ [] })) stage.Idle
  stays-covers r n s c e f = record {
    replicas = c.replicas;
    once = λ k.
        let x = c.once k in
        let p = times-push (λ (d : Stopped). d.no) k r.drained (stopped_at n s) in
        omega (arith, x, p);
    order = c.order;
    unchosen = c.unchosen;
    undrained = λ h. absurd (false≢true (sym h ∙ c.stage.0));
    named = c.named;
    lead = c.lead;
    leads = early r new (stage.Judged n) stage.Idle refl c.leads refl refl;
    drained = All-push (λ (d : Stopped). IsSourced w d.no.0) r.drained _ c.drained (c.stage.1 s e (below-sourced s.source r.failed f));
    queue = queue-as w r new (record { purpose = refl; chosen = refl; lost = λ k h. h }) r.queue c.queue;
    stage = tt;
    attached = c.attached;
    follow = c.follow;
    sourced = c.sourced;
    apart = c.apart;
  }
    where
      new : Recovery
      new = idle (record r { drained = r.drained ++ stopped_at n s ∷ [] })

  -- ---- one more follows

  follow-covers : (r : Recovery) (s s' : Stage) (n p : ServerNo) (core : Job) → CoversAt w r s → of_stage s ≡ n ∷ [] → of_stage s' ≡ [] → is_late s ≡ false → r.chosen ≡ Some p → IsUnder w n.0 p.0
      → Stands w (record (follows r n p) { stage = s'; core = core }) s' → CoversAt w (record (follows r n p) { stage = s'; core = core }) s'
  follow-covers r s s' n p core c same none late chosen under stands = record {
    replicas = c.replicas;
    once = λ k.
        let e = c.once k in
        let b : times k (of_stage s) ≡ one k n + 0 = ap (times k) same in
        let d : times k (of_stage s') ≡ 0 = ap (times k) none in
        let x = times-push (λ (y : Follower). y.no) k r.outcome.followers (record { no = n; source = p }) in
        omega (arith, e, b, d, x);
    order = c.order;
    unchosen = c.unchosen;
    undrained = c.undrained;
    named = c.named;
    lead = c.lead;
    leads = early r (record (follows r n p) { stage = s'; core = core }) s s' late c.leads refl refl;
    drained = c.drained;
    queue = queue-as w r (record (follows r n p) { stage = s'; core = core }) (record { purpose = refl; chosen = refl; lost = λ k h. h }) r.queue c.queue;
    stage = stands;
    attached = All-push (λ (x : Follower). IsUnder w x.no.0 x.source.0) r.outcome.followers _ c.attached under;
    follow = All-push (FollowsBy r.chosen r.outcome.promoted) r.outcome.followers _ c.follow (inl chosen);
    sourced = c.sourced;
    apart = c.apart;
  }

  joined : (r : Recovery) (s : Stage) (n p : ServerNo) → CoversAt w r s → of_stage s ≡ n ∷ [] → is_late s ≡ false → r.chosen ≡ Some p → IsUnder w n.0 p.0 → CoversSoFar w (idle (follows r n p))
  joined r s n p c same late chosen under = at-rest w (idle (follows r n p)) refl (follow-covers r s stage.Idle n p r.core c same refl late chosen under tt)

  -- ---- a lost one is detached

  marked-times : (k : ℕ) (n : ServerNo) (xs : List LostReplica) → times k (lost_nos (map (marked n) xs)) ≡ times k (lost_nos xs)
  marked-times k n [] = refl
  marked-times k n (l ∷ ls) = go (l.no.0 == n.0) (marked-times k n ls)
    where
      go : (b : Bool) → times k (lost_nos (map (marked n) ls)) ≡ times k (lost_nos ls)
          → one k (cond b (record l { detached = true }) l).no + times k (lost_nos (map (marked n) ls)) ≡ one k l.no + times k (lost_nos ls)
      go true h = ap (λ x. one k l.no + x) h
      go false h = ap (λ x. one k l.no + x) h

  marked-all : (P Q : LostReplica → Type 0) (n : ServerNo) (xs : List LostReplica) → All P xs → ((l : LostReplica) → P l → (l.no.0 == n.0) ≡ false → Q l)
      → ((l : LostReplica) → P l → (l.no.0 == n.0) ≡ true → Q (record l { detached = true })) → All Q (map (marked n) xs)
  marked-all P Q n [] all f g = All-nil Q
  marked-all P Q n (l ∷ ls) all f g = All-cons Q (marked n l) (map (marked n) ls) (go (l.no.0 == n.0) refl) (marked-all P Q n ls (All-tail P l ls all) f g)
    where
      go : (b : Bool) → (l.no.0 == n.0) ≡ b → Q (cond b (record l { detached = true }) l)
      go true e = g l (All-head P l ls all) e
      go false e = f l (All-head P l ls all) e

  expelled-covers : (r : Recovery) (n : ServerNo) → CoversAt w r (stage.Expelled n) → CoversAt w (idle (expelled r n)) stage.Idle
  expelled-covers r n c = record {
    replicas = c.replicas;
    once = λ k. let e = c.once k in let m = marked-times k n r.outcome.lost in omega (arith, e, m);
    order = c.order;
    unchosen = c.unchosen;
    undrained = c.undrained;
    named = c.named;
    lead = c.lead;
    leads = early r (idle (expelled r n)) (stage.Expelled n) stage.Idle refl c.leads refl refl;
    drained = c.drained;
    queue =
        queue-as w r (idle (expelled r n)) (record { purpose = refl; chosen = refl; lost = λ k h. let m = marked-times k n r.outcome.lost in omega (arith, m, h) }) r.queue c.queue;
    stage = tt;
    attached = c.attached;
    follow = c.follow;
    sourced =
        marked-all (λ (l : LostReplica). expels r.purpose (Some l.why) ≡ true → IsSourced w l.no.0) (λ (l : LostReplica). expels r.purpose (Some l.why) ≡ true → IsSourced w l.no.0) n
        r.outcome.lost c.sourced (λ l h e. h) (λ l h e. h);
    apart =
        marked-all (λ (l : LostReplica). l.detached ≡ true → IsApart w l.no.0) (λ (l : LostReplica). l.detached ≡ true → IsApart w l.no.0) n r.outcome.lost c.apart (λ l h e. h)
        (λ l h e d. subst (λ (m : ℕ). IsApart w m) (sym (eqb-true l.no.0 n.0 e)) c.stage.1);
  }

  -- ---- the better one takes the promoted one's place

  swapped-covers : (r : Recovery) (p q : ServerNo) (core : Job) → CoversAt w r (stage.Swapped p q) → CoversAt w (record (swapped r p q) { stage = stage.Open q; core = core }) (stage.Open q)
  swapped-covers r p q core c = record {
    replicas = c.replicas;
    once = λ k.
        let e = c.once k in
        let b : times k (leader r.purpose r.outcome.promoted) ≡ one k p + 0 = ap (times k) (crowned-leader r.purpose r.outcome.promoted crowned) ∙ ap (λ o. times k (listed o)) last.promoted in
        let d : times k (leader r.purpose (Some q)) ≡ one k q + 0 = ap (times k) (crowned-leader r.purpose (Some q) crowned) in
        let x = times-push (λ (y : Follower). y.no) k r.outcome.followers (record { no = p; source = q }) in
        omega (arith, e, b, d, x);
    order = c.order;
    unchosen = λ h. absurd (false≢true (sym (ap chooses last.queue) ∙ h));
    undrained = c.undrained;
    named = c.named;
    lead = c.lead;
    leads = inr (
      refl,
      record { was = p; is = q; chosen = last.chosen; promoted = refl; master = c.stage.0; follows = Contains-push r.outcome.followers (record { no = p; source = q }) },
    );
    drained = c.drained;
    queue = queue-as w r new (record { purpose = refl; chosen = refl; lost = λ k h. h }) r.queue c.queue;
    stage = (
      record {
        promoted = record { promoted = refl; queue = last.queue; drained = last.drained; old = old-master r.purpose r.failed _ c.stage.0 };
        crowns = crowned;
      },
      c.stage.2,
    );
    attached = All-push (λ (x : Follower). IsUnder w x.no.0 x.source.0) r.outcome.followers _ c.attached c.stage.3;
    follow =
        All-push (FollowsBy r.chosen (Some q)) r.outcome.followers _
        (All-weaker (FollowsBy r.chosen r.outcome.promoted) (FollowsBy r.chosen (Some q)) on r.outcome.followers c.follow) (inr (last.chosen, refl));
    sourced = c.sourced;
    apart = c.apart;
  }
    where
      last : IsLast r p
      last = c.stage.1

      crowned : crowns r.purpose ≡ true
      crowned = master-crowns r.purpose c.stage.0

      new : Recovery
      new = record (swapped r p q) { stage = stage.Open q; core = core }

      on : (x : Follower) → FollowsBy r.chosen r.outcome.promoted x → FollowsBy r.chosen (Some q) x
      on x (inl e) = inl e
      on x (inr e) = inl (last.chosen ∙ sym last.promoted ∙ e.1)

  -- ---- the old master follows the designated one

  old-given : (u : Purpose) (f m d : ServerNo) (chosen : Option ServerNo) (xs : List Follower) → is_takeover u ≡ true → f ≡ m → chosen ≡ Some d → IfSome (first_source u) (λ n. chosen ≡ Some n)
      → Contains xs (record { no = m; source = d }) → OldFollows u f xs
  old-given (purpose.Takeover e) f m d chosen xs u same is named has =
      subst (λ (n : ServerNo). Contains xs (record { no = n; source = e })) (sym same)
      (subst (λ (n : ServerNo). Contains xs (record { no = m; source = n })) (same_Some d e (sym is ∙ named)) has)
  old-given _ f m d chosen xs u same is named has = tt

  switched-covers : (r : Recovery) (m d : ServerNo) (core : Job) → CoversAt w r (stage.Switched m d) → CoversAt w (record (follows r m d) { stage = stage.Open d; core = core }) (stage.Open d)
  switched-covers r m d core c =
      follow-covers r (stage.Switched m d) (stage.Open d) m d core c refl refl refl c.stage.1.chosen c.stage.3 (
        record {
          promoted = record {
            promoted = c.stage.1.promoted;
            queue = c.stage.1.queue;
            drained = c.stage.1.drained;
            old =
                old-given r.purpose r.failed m d r.chosen _ c.stage.0.takeover c.stage.0.failed c.stage.0.chosen c.named (Contains-push r.outcome.followers (record { no = m; source = d }));
          };
          crowns = takeover-crowns r.purpose c.stage.0.takeover;
        },
        c.stage.2,
      )

  -- ---- a designated replica has come to its master's end

  gather-covers : (r : Recovery) (m d : ServerNo) → CoversAt w r (stage.Gather m d) → CoversAt w (idle (gathered r d)) stage.Idle
  gather-covers r m d c = record {
    replicas = c.replicas;
    once = c.once;
    order = c.order;
    unchosen = c.unchosen;
    undrained = c.undrained;
    named = c.named;
    lead = go (bridge_at d (seen_of r.core.seen d.0)) refl;
    leads = early r (idle (gathered r d)) (stage.Gather m d) stage.Idle refl c.leads refl refl;
    drained = c.drained;
    queue = queue-as w r (idle (gathered r d)) (record { purpose = refl; chosen = refl; lost = λ k h. h }) r.queue c.queue;
    stage = tt;
    attached = c.attached;
    follow = c.follow;
    sourced = c.sourced;
    apart = c.apart;
  }
    where
      go : (o : Option Bridge) → bridge_at d (seen_of r.core.seen d.0) ≡ o → IfSome (lead_under r.failed o) (λ b. r.chosen ≡ Some b.no)
      go None e = tt
      go (Some b) e = at (b.source.0 == r.failed.0)
        where
          at : (a : Bool) → IfSome (cond a (Some b) None) (λ x. r.chosen ≡ Some x.no)
          at true = c.stage.chosen ∙ ap Some (same-no d b.no (bridge-parts d (seen_of r.core.seen d.0) b e).no)
          at false = tt

  -- ---- the promoted one takes writes

  opened-covers : (r : Recovery) (n : ServerNo) → CoversAt w r (stage.Opened n) → CoversSoFar w (closing r (last_looks r r.purpose n))
  opened-covers r n c = record {
    at = restaged w r (stage.Opened n) (stage.Close (result_lines r)) _ c refl (λ h. refl) (
      record {
        no = n;
        promoted = record { promoted = one.promoted; queue = one.queue; drained = one.drained; old = one.old };
        rules = λ h. c.stage.1;
      },
      refl,
    );
    rests = λ h. absurd (some (last_looks r r.purpose n) h);
    moves = λ m by h. cc;
  }
    where
      one : IsPromoted r n
      one = c.stage.0.promoted

      some : (xs : List Op) → xs ++ op.Finish (result_lines r) ∷ [] ≡ [] → ⊥
      some [] h = cc
      some (x ∷ xs) h = cc

  -- ---- any stage

  rests-covers : (r : Recovery) (s : Stage) → CoversAt w r s → of_stage s ≡ [] → is_late s ≡ false → CoversSoFar w (idle r)
  rests-covers r s c none late = at-rest w (idle r) refl (restaged w r s stage.Idle r.core c (sym none) (λ h. absurd (false≢true (sym late ∙ h))) tt)

  -- one whose end makes nothing has none to come
  rests-at : (r : Recovery) (s : Stage) → rests s ≡ true → Fits s [] → CoversAt w r s → CoversSoFar w (idle r)
  rests-at r stage.Idle h f c = rests-covers r stage.Idle c refl refl
  rests-at r stage.Check h f c = rests-covers r stage.Check c refl refl
  rests-at r (stage.Read n) h f c = rests-covers r (stage.Read n) c refl refl
  rests-at r (stage.Release n) h f c = rests-covers r (stage.Release n) c refl refl
  rests-at r (stage.Judged n) h f c = absurd (false≢true h)
  rests-at r (stage.Join n p) h f c = absurd (false≢true h)
  rests-at r (stage.Expelled n) h f c = absurd (false≢true h)
  rests-at r (stage.Swapped p q) h f c = absurd (false≢true h)
  rests-at r (stage.Resume p q) h f c = absurd (false≢true h)
  rests-at r (stage.Opened n) h f c = absurd (false≢true h)
  rests-at r (stage.Meet m d) h f c = absurd (false≢true h)
  rests-at r (stage.Gather m d) h f c = absurd (false≢true h)
  rests-at r (stage.Looked n x) h f c = absurd (false≢true h)
  rests-at r (stage.Halted n x) h f c = absurd (false≢true h)
  rests-at r (stage.Switched m d) h f c = absurd (false≢true h)
  rests-at r s h f c = absurd (not-ended s _ _ refl f)

  module _ (r : Recovery) (fits : Fits r.stage []) (c : CoversAt w r r.stage) where
    covers-as : (s : Stage) → r.stage ≡ s → CoversAt w r s
    covers-as s is = subst (λ (x : Stage). CoversAt w r x) is c

    pub completes-covers : (e : Ending) → MayEnd r e → CoversSoFar w (ended_by r e)
    completes-covers by.Rests may = rests-at r r.stage may fits c
    completes-covers (by.Stays n s) may = at-rest w _ refl (stays-covers r n s (covers-as (stage.Judged n) may.0) may.1 may.2)
    completes-covers (by.Loses n why) may = go may.0
      where
        kept : expels r.purpose (Some why) ≡ true → IsSourced w n.0
        kept h = absurd (false≢true (sym (stray-leaves r.purpose r.failed (seen_of r.core.seen n.0) why may.1) ∙ h))

        go : WasRead r.stage n → CoversSoFar w (idle (loses r n why))
        go (inl is) = left-covers r (stage.Judged n) n why (covers-as (stage.Judged n) is) refl refl kept
        go (inr (x, is)) = left-covers r (stage.Looked n x) n why (covers-as (stage.Looked n x) is) refl refl kept
    completes-covers (by.Frees n why) may =
        let at = covers-as (stage.Halted n may.0) may.1 in freed-covers r (stage.Halted n may.0) n why at refl refl (λ h. at.stage.1)
    completes-covers (by.Follows n p) may = go may
      where
        go : (r.stage ≡ stage.Join n p) ⊎ (r.stage ≡ stage.Resume p n) → CoversSoFar w (idle (follows r n p))
        go (inl is) = let at = covers-as (stage.Join n p) is in joined r (stage.Join n p) n p at refl refl at.stage.0 at.stage.1
        go (inr is) = let at = covers-as (stage.Resume p n) is in joined r (stage.Resume p n) n p at refl refl at.stage.1.chosen at.stage.2
    completes-covers (by.Marks n) may = at-rest w (idle (expelled r n)) refl (expelled-covers r n (covers-as (stage.Expelled n) may))
    completes-covers (by.Leads d) may = at-rest w (idle (gathered r d)) refl (gather-covers r may.0 d (covers-as (stage.Gather may.0 d) may.1))
    -- a replica that comes to the position at which the designated one stopped
    completes-covers (by.Trails n x) may =
        let at = covers-as (stage.Looked n x) may.0 in
        let seen = not-stray r.failed (seen_of r.core.seen n.0) may.1 in
        so-far w _ (stage.Trail n x) _ _ refl refl (λ m way h. cc)
        (restaged w r (stage.Looked n x) (stage.Trail n x) _ at refl (λ h. h) (at.stage.0, at.stage.1 seen.0 seen.1 (below-sourced seen.0.source r.failed seen.2)))
    completes-covers (by.Joins n x) may =
        let at = covers-as (stage.Halted n x) may.0 in
        record {
          at = restaged w r (stage.Halted n x) (stage.Move n (way.Down x)) _ at refl (λ h. h) (at.stage.0, at.stage.1, tt);
          rests = λ h. cc;
          moves = λ m y h. ap tail_of h;
        }
    completes-covers (by.Swaps p q) may = so-far w _ (stage.Open q) _ _ refl refl (λ m way h. cc) (swapped-covers r p q _ (covers-as (stage.Swapped p q) may))
    completes-covers (by.Switches m d) may = so-far w _ (stage.Open d) _ _ refl refl (λ n way h. cc) (switched-covers r m d _ (covers-as (stage.Switched m d) may))
    completes-covers (by.Shuts m d) may =
        let at = covers-as (stage.Meet m d) may in
        so-far w _ (stage.Shut m d) _ _ refl refl (λ n way h. cc) (restaged w r (stage.Meet m d) (stage.Shut m d) _ at refl (λ h. h) (giving-on r (stage.Shut m d) _ m d at.stage))
    completes-covers (by.Ends n) may = opened-covers r n (covers-as (stage.Opened n) may)
