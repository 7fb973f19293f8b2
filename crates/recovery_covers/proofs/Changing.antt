-- A stage's change covers the replicas as far as before.
use Rattle.std.proofs.Common.{◌≡◌, ℕ, ◌+◌, ◌<◌, Bool, true, false, cond, not, List, [], ◌∷◌, refl, sym, ◌∙◌, ap, subst, Some, inl, inr, arith, ◌==◌, filter}
use Rattle.recovery_covers.proofs.Prelude.{All-filter, Apart-keeps, Attached, CoversAt, Detached, Follower, FollowsBy, Free-keeps, IsApart, IsFree}
use Rattle.recovery_covers.proofs.Prelude.{IsMoved, IsSourced, IsUnder, IsWritable, Job, KeepsSource, Leads, OldFollows, Purpose, Recovery, ServerNo}
use Rattle.recovery_covers.proofs.Prelude.{Sourced-keeps, SourceState, Stage, Stands, Stays, Stays-keeps, Under-keeps, Way, Without, World, crowns}
use Rattle.recovery_covers.proofs.Prelude.{eq-eqb, eqb-true, false≢true, follower_nos, follows_no_more, has_source, is_detached, is_late, is_master}
use Rattle.recovery_covers.proofs.Prelude.{leader, listed, lost_nos, ne_eqb, of_queue, of_stage, owed, stopped_nos, target, times, total}
use Rattle.recovery_covers.proofs.Prelude.purpose
use Rattle.recovery_covers.proofs.Prelude.stage
use Rattle.recovery_covers.proofs.Times.{one, times-out, self-times}
use Rattle.recovery_covers.proofs.Covering.{attached-on, sourced-on, apart-on, drained-on, queue-on, master-crowns, takeover-crowns, crowned-leader, last-on, crowned-on, giving-on, carried, carried-keeping}

-- only one server may have another state than before
abbrev pub AllButOne : World → World → ℕ → Type 0
AllButOne w w' m = (k : ℕ) → (k ≡ m → ⊥) → Stays w w' k

pub old-master : (u : Purpose) (f : ServerNo) (xs : List Follower) → is_master u ≡ true → OldFollows u f xs
old-master (purpose.Takeover d) f xs h = absurd (false≢true h)
old-master _ f xs h = tt

-- the server is in no list
pub record IsAlone (r : Recovery) (m : ℕ) : Type 0 where
  pub followers : times m (follower_nos r.outcome.followers) ≡ 0
  pub lost : times m (lost_nos r.outcome.lost) ≡ 0
  pub drained : times m (stopped_nos r.drained) ≡ 0
  pub queue : times m (of_queue r.failed r.queue) ≡ 0

module _ (w : World) (r : Recovery) (s : Stage) (c : CoversAt w r s) where
  -- the one that the stage places
  pub placed-alone : (n : ServerNo) → of_stage s ≡ n ∷ [] → IsAlone r n.0 × (times n.0 (leader r.purpose r.outcome.promoted) ≡ 0)
  placed-alone n is =
      let e = c.once n.0 in
      let most = c.replicas.distinct n.0 in
      let here : 0 < times n.0 (of_stage s) = subst (λ (ks : List ServerNo). 0 < times n.0 ks) (sym is) (self-times n []) in (
        record { followers = omega (arith, e, most, here); lost = omega (arith, e, most, here); drained = omega (arith, e, most, here); queue = omega (arith, e, most, here) },
        omega (arith, e, most, here),
      )

  -- the one that is promoted
  pub leader-alone : crowns r.purpose ≡ true → (n : ServerNo) → r.outcome.promoted ≡ Some n → IsAlone r n.0 × (times n.0 (of_stage s) ≡ 0)
  leader-alone crowned n is =
      let e = c.once n.0 in
      let most = c.replicas.distinct n.0 in
      let same : leader r.purpose r.outcome.promoted ≡ n ∷ [] = crowned-leader r.purpose r.outcome.promoted crowned ∙ ap listed is in
      let here : 0 < times n.0 (leader r.purpose r.outcome.promoted) = subst (λ (ks : List ServerNo). 0 < times n.0 ks) (sym same) (self-times n []) in (
        record { followers = omega (arith, e, most, here); lost = omega (arith, e, most, here); drained = omega (arith, e, most, here); queue = omega (arith, e, most, here) },
        omega (arith, e, most, here),
      )

-- two servers of which one is in some place and the other isn't
apart-by : (x : ℕ → ℕ) (n m : ℕ) → 0 < x n → x m ≡ 0 → n ≡ m → ⊥
apart-by x n m some none same = let bad : 0 < x m = subst (λ (i : ℕ). 0 < x i) same some in omega (arith, bad, none)

-- ---- a server that a stage moves is nowhere else, so what else is covered is covered as before

module _ (w w' : World) (r : Recovery) (s s' : Stage) (core : Job) (m : ℕ) (but : AllButOne w w' m) (c : CoversAt w r s) (alone : IsAlone r m) where
  keeps-from : (x : ℕ → ℕ) → x m ≡ 0 → (k : ℕ) → 0 < x k → KeepsSource w w' k
  keeps-from x none k h = Stays-keeps w w' k (but k (apart-by x k m h none))

  -- the lists of those who are to move or lost
  pub standing : (k : ℕ) → 0 < times k (of_queue r.failed r.queue) + (times k (stopped_nos r.drained) + times k (lost_nos r.outcome.lost)) → KeepsSource w w' k
  standing k h =
      keeps-from (λ i. times i (of_queue r.failed r.queue) + (times i (stopped_nos r.drained) + times i (lost_nos r.outcome.lost)))
      (let a = alone.queue in let b = alone.drained in let d = alone.lost in omega (arith, a, b, d)) k h

  pub moved-covers : of_stage s' ≡ of_stage s → (is_late s ≡ true → is_late s' ≡ true) → Stands w' (record r { stage = s'; core = core }) s' → CoversAt w' (record r { stage = s'; core = core }) s'
  moved-covers same late stands =
      carried w w' r s s' core c same late
      (λ n k h u. Under-keeps w w' n k (keeps-from (λ i. times i (follower_nos r.outcome.followers)) alone.followers n h) u)
      (λ n h u. Sourced-keeps w w' n (standing n h) u)
      (λ n h u. Apart-keeps w w' n (keeps-from (λ i. times i (lost_nos r.outcome.lost)) alone.lost n h) u) stands

-- ---- stage by stage

module _ (w w' : World) (r : Recovery) (core : Job) where
  -- a replica goes below its new source
  pub move-covers : (n : ServerNo) (by : Way) → CoversAt w r (stage.Move n by) → IsMoved w w' n.0 (target by).0
      → CoversAt w' (record r { stage = stage.Join n (target by); core = core }) (stage.Join n (target by))
  move-covers n by c m =
      let a = placed-alone w r (stage.Move n by) c n refl in
      moved-covers w w' r (stage.Move n by) (stage.Join n (target by)) core n.0 m.others c a.0 refl (λ h. h) (c.stage.0, m.under)

  -- a lost one is detached
  pub expel-covers : (n : ServerNo) → CoversAt w r (stage.Expel n) → IsApart w' n.0 → AllButOne w w' n.0 → CoversAt w' (record r { stage = stage.Expelled n; core = core }) (stage.Expelled n)
  expel-covers n c apart but =
      carried w w' r (stage.Expel n) (stage.Expelled n) core c refl (λ h. h)
      (λ k m h u. Under-keeps w w' k m (Stays-keeps w w' k (but k (λ same.
      let e = c.once k in
      let most = c.replicas.distinct k in
      let l : 0 < times k (lost_nos r.outcome.lost) = subst (λ (i : ℕ). 0 < times i (lost_nos r.outcome.lost)) (sym same) c.stage.0 in
      omega (arith, e, most, l, h)))) u)
      (λ k h u. keep-sourced k u) (λ k h u. keep-apart k u) (c.stage.0, apart)
    where
      apart-sourced : (k : ℕ) → IsApart w' k → IsSourced w' k
      apart-sourced k a = record { server = a.server; there = a.there; sourced = by a.server.source a.apart }
        where
          by : (x : SourceState) → is_detached x ≡ true → has_source x ≡ true
          by Without h = h
          by (Attached m) h = refl
          by (Detached m) h = refl

      keep-sourced : (k : ℕ) → IsSourced w k → IsSourced w' k
      keep-sourced k h = go (k == n.0) refl
        where
          go : (b : Bool) → (k == n.0) ≡ b → IsSourced w' k
          go true e = subst (λ (i : ℕ). IsSourced w' i) (sym (eqb-true k n.0 e)) (apart-sourced n.0 apart)
          go false e = Sourced-keeps w w' k (Stays-keeps w w' k (but k (λ same. false≢true (sym e ∙ eq-eqb k n.0 same)))) h

      keep-apart : (k : ℕ) → IsApart w k → IsApart w' k
      keep-apart k h = go (k == n.0) refl
        where
          go : (b : Bool) → (k == n.0) ≡ b → IsApart w' k
          go true e = subst (λ (i : ℕ). IsApart w' i) (sym (eqb-true k n.0 e)) apart
          go false e = Apart-keeps w w' k (Stays-keeps w w' k (but k (λ same. false≢true (sym e ∙ eq-eqb k n.0 same)))) h

  -- the promoted one goes below the better one
  pub swap-covers : (p q : ServerNo) → CoversAt w r (stage.Swap p q) → IsMoved w w' p.0 q.0 → CoversAt w' (record r { stage = stage.Swapped p q; core = core }) (stage.Swapped p q)
  swap-covers p q c m =
      let a = leader-alone w r (stage.Swap p q) c (master-crowns r.purpose c.stage.0) p c.stage.1.promoted in
      let other : q.0 ≡ p.0 → ⊥ = apart-by (λ i. times i (q ∷ [])) q.0 p.0 (self-times q []) a.1 in
      moved-covers w w' r (stage.Swap p q) (stage.Swapped p q) core p.0 m.others c a.0 refl (λ h. absurd (false≢true h))
      (c.stage.0, last-on r (stage.Swapped p q) core p c.stage.1, Free-keeps w w' q.0 (Stays-keeps w w' q.0 (m.others q.0 other)) c.stage.2, m.under)

  -- the better one goes back
  pub return-covers : (p q : ServerNo) → CoversAt w r (stage.Return p q) → IsMoved w w' q.0 p.0 → CoversAt w' (record r { stage = stage.Resume p q; core = core }) (stage.Resume p q)
  return-covers p q c m =
      let a = placed-alone w r (stage.Return p q) c q refl in
      moved-covers w w' r (stage.Return p q) (stage.Resume p q) core q.0 m.others c a.0 refl (λ h. h) (c.stage.0, last-on r (stage.Resume p q) core p c.stage.1, m.under)

  -- the promoted one has no source
  pub crown-covers : (n : ServerNo) → CoversAt w r (stage.Crown n) → IsFree w' n.0 → AllButOne w w' n.0 → CoversAt w' (record r { stage = stage.Open n; core = core }) (stage.Open n)
  crown-covers n c free but =
      let a = leader-alone w r (stage.Crown n) c (master-crowns r.purpose c.stage.0) n c.stage.1.promoted in
      let last = c.stage.1 in
      moved-covers w w' r (stage.Crown n) (stage.Open n) core n.0 but c a.0 refl (λ h. absurd (false≢true h)) (
        record {
          promoted = record { promoted = last.promoted; queue = last.queue; drained = last.drained; old = old-master r.purpose r.failed r.outcome.followers c.stage.0 };
          crowns = master-crowns r.purpose c.stage.0;
        },
        free,
      )

  -- it takes writes
  pub open-covers : (n : ServerNo) → CoversAt w r (stage.Open n) → IsWritable w' n.0 → ((k : ℕ) → KeepsSource w w' k) → CoversAt w' (record r { stage = stage.Opened n; core = core }) (stage.Opened n)
  open-covers n c writable keeps =
      carried-keeping w w' r (stage.Open n) (stage.Opened n) core c refl (λ h. refl) keeps
      (crowned-on r (stage.Opened n) core n c.stage.0, record { free = Free-keeps w w' n.0 (keeps n.0) c.stage.1; writable = writable })

  -- a master takes no writes
  pub shut-covers : (m d : ServerNo) → CoversAt w r (stage.Shut m d) → ((k : ℕ) → KeepsSource w w' k) → CoversAt w' (record r { stage = stage.Gather m d; core = core }) (stage.Gather m d)
  shut-covers m d c keeps =
      carried-keeping w w' r (stage.Shut m d) (stage.Gather m d) core c refl (λ h. h) keeps (giving-on r (stage.Gather m d) core m d c.stage)

  -- the designated one has no source
  pub yield-covers : (m d : ServerNo) → CoversAt w r (stage.Yield m d) → IsFree w' d.0 → AllButOne w w' d.0 → CoversAt w' (record r { stage = stage.Switch m d; core = core }) (stage.Switch m d)
  yield-covers m d c free but =
      let a = leader-alone w r (stage.Yield m d) c (takeover-crowns r.purpose c.stage.0.takeover) d c.stage.1.promoted in
      moved-covers w w' r (stage.Yield m d) (stage.Switch m d) core d.0 but c a.0 refl (λ h. h)
      (giving-on r (stage.Switch m d) core m d c.stage.0, last-on r (stage.Switch m d) core d c.stage.1, free)

  -- the old master goes below it
  pub switch-covers : (m d : ServerNo) → CoversAt w r (stage.Switch m d) → IsMoved w w' m.0 d.0 → CoversAt w' (record r { stage = stage.Switched m d; core = core }) (stage.Switched m d)
  switch-covers m d c x =
      let a = placed-alone w r (stage.Switch m d) c m refl in
      let lead = leader-alone w r (stage.Switch m d) c (takeover-crowns r.purpose c.stage.0.takeover) d c.stage.1.promoted in
      let other : d.0 ≡ m.0 → ⊥ = λ same. apart-by (λ i. times i (m ∷ [])) m.0 d.0 (self-times m []) lead.1 (sym same) in
      moved-covers w w' r (stage.Switch m d) (stage.Switched m d) core m.0 x.others c a.0 refl (λ h. h) (
        giving-on r (stage.Switched m d) core m d c.stage.0,
        last-on r (stage.Switched m d) core d c.stage.1,
        Free-keeps w w' d.0 (Stays-keeps w w' d.0 (x.others d.0 other)) c.stage.2,
        x.under,
      )

  -- the better one has no source, and follows no more
  pub level-covers : (p q : ServerNo) → CoversAt w r (stage.Level p q) → IsFree w' q.0 → AllButOne w w' q.0
      → CoversAt w' (record (follows_no_more r (Some q)) { stage = stage.Swap p q; core = core }) (stage.Swap p q)
  level-covers p q c free but = record {
    replicas = c.replicas;
    once = λ k. let e = c.once k in let o = times-out (λ (x : Follower). x.no) k q.0 r.outcome.followers in go k (k == q.0) refl o e;
    order = c.order;
    unchosen = c.unchosen;
    undrained = c.undrained;
    named = c.named;
    lead = c.lead;
    leads = first c.leads;
    drained = drained-on w w' r.drained (λ n h u. Sourced-keeps w w' n (from (λ i. times i (stopped_nos r.drained)) only.1 n h) u) c.drained;
    queue =
        queue-on w w' r new (record { purpose = refl; chosen = refl; lost = λ n h. h }) r.failed
        (λ n h u. Sourced-keeps w w' n (from (λ i. times i (lost_nos r.outcome.lost)) only.0 n h) u) r.queue
        (λ n h u. Sourced-keeps w w' n (from (λ i. times i (of_queue r.failed r.queue)) only.2 n h) u) c.queue;
    stage = (
      c.stage.0,
      record { chosen = c.stage.1.chosen; promoted = c.stage.1.promoted; queue = c.stage.1.queue; drained = c.stage.1.drained },
      free,
    );
    attached =
        attached-on w w' (filter (λ (x : Follower). not (x.no.0 == q.0)) r.outcome.followers)
        (λ n m h u. Under-keeps w w' n m (from (λ i. times i (follower_nos (filter (λ (x : Follower). not (x.no.0 == q.0)) r.outcome.followers))) out n h) u)
        (All-filter (λ (x : Follower). not (x.no.0 == q.0)) (λ (x : Follower). IsUnder w x.no.0 x.source.0) r.outcome.followers c.attached);
    follow = All-filter (λ (x : Follower). not (x.no.0 == q.0)) (FollowsBy r.chosen r.outcome.promoted) r.outcome.followers c.follow;
    sourced = sourced-on w w' r.purpose r.outcome.lost (λ n h u. Sourced-keeps w w' n (from (λ i. times i (lost_nos r.outcome.lost)) only.0 n h) u) c.sourced;
    apart = apart-on w w' r.outcome.lost (λ n h u. Apart-keeps w w' n (from (λ i. times i (lost_nos r.outcome.lost)) only.0 n h) u) c.apart;
  }
    where
      new : Recovery
      new = record (follows_no_more r (Some q)) { stage = stage.Swap p q; core = core }

      first : Leads r (stage.Level p q) → Leads new (stage.Swap p q)
      first (inl e) = inl e
      first (inr x) = absurd (false≢true x.0)

      from : (x : ℕ → ℕ) → x q.0 ≡ 0 → (k : ℕ) → 0 < x k → KeepsSource w w' k
      from x none k h = Stays-keeps w w' k (but k (apart-by x k q.0 h none))

      only : (times q.0 (lost_nos r.outcome.lost) ≡ 0) × (times q.0 (stopped_nos r.drained) ≡ 0) × (times q.0 (of_queue r.failed r.queue) ≡ 0)
      only =
          let e = c.once q.0 in let most = c.replicas.distinct q.0 in let here = c.stage.2 in
          (omega (arith, e, most, here), omega (arith, e, most, here), omega (arith, e, most, here))

      out : times q.0 (follower_nos (filter (λ (x : Follower). not (x.no.0 == q.0)) r.outcome.followers)) ≡ 0
      out = times-out (λ (x : Follower). x.no) q.0 q.0 r.outcome.followers ∙ ap (λ b. cond b 0 (times q.0 (follower_nos r.outcome.followers))) (eq-eqb q.0 q.0 refl)

      go : (k : ℕ) (b : Bool) → (k == q.0) ≡ b
          → times k (follower_nos (filter (λ (x : Follower). not (x.no.0 == q.0)) r.outcome.followers)) ≡ cond b 0 (times k (follower_nos r.outcome.followers))
          → total k r (stage.Level p q) ≡ times k (owed r.purpose r.failed r.replicas) → total k new (stage.Swap p q) ≡ times k (owed r.purpose r.failed r.replicas)
      go k true e o h =
          let same : k ≡ q.0 = eqb-true k q.0 e in
          let here : one k q ≡ 1 = ap (λ b. cond b 1 0) (eq-eqb q.0 k (sym same)) in
          let some : 0 < times k (follower_nos r.outcome.followers) = subst (λ (i : ℕ). 0 < times i (follower_nos r.outcome.followers)) (sym same) c.stage.2 in
          let most = c.replicas.distinct k in
          omega (arith, here, some, most, o, h)
      go k false e o h =
          let none : one k q ≡ 0 = ap (λ b. cond b 1 0) (ne_eqb q.0 k (λ same. false≢true (sym e ∙ eq-eqb k q.0 (sym same)))) in
          omega (arith, none, o, h)
