-- Recoveries that begin, and others' exchanges.
use Rattle.std.proofs.Common.{◌≡◌, ℕ, ◌+◌, ◌<◌, Bool, true, false, cond, List, [], ◌∷◌, ◌++◌, map, refl, sym, ◌∙◌, ap, subst, Option, Some, None, ◌&&◌, inl, arith, ◌==◌}
use Rattle.recovery_covers.proofs.Prelude.{All, All-cons, All-head, All-nil, All-tail, AreReplicas, AreSourcesOf, Awaits, CoversSoFar, Exchange}
use Rattle.recovery_covers.proofs.Prelude.{Follower, FollowsBy, IsAny, IsApart, IsLeased, IsSourced, IsUnder, LeasedRecovery, Leases, LostReplica}
use Rattle.recovery_covers.proofs.Prelude.{Means, Purpose, Recovery, ServerNo, Stays-same, Stopped, Task, World, after, begun_recovery, but, chooses}
use Rattle.recovery_covers.proofs.Prelude.{decides, eqb-true, expels, false≢true, in_order, is_outside, of_queue, of_task, outside-stays, owed, run}
use Rattle.recovery_covers.proofs.Prelude.{same_Some, server_of, times, unleased-run}
use Rattle.recovery_covers.proofs.Prelude.purpose
use Rattle.recovery_covers.proofs.Prelude.task
use Rattle.recovery_covers.proofs.Times.{one, times-parted}
use Rattle.recovery_covers.proofs.Covering.{covers-stays}

-- ---- the tasks of a recovery that begins

-- replicas that are to be drained, before a decision
module _ (t : Task) where
  abbrev behind : List Task
  behind = t ∷ task.Sorting ∷ []

  draining-times : (f : ServerNo) → of_task f t ≡ [] → (n : ℕ) (ns : List ServerNo) → times n (of_queue f (map task.Draining ns ++ behind)) ≡ times n ns
  draining-times f none n [] = ap (λ xs. times n (xs ++ [])) none
  draining-times f none n (k ∷ ks) = let e = draining-times f none n ks in omega (arith, e)

  draining-choose : (ns : List ServerNo) → chooses (map task.Draining ns ++ behind) ≡ chooses behind
  draining-choose [] = refl
  draining-choose (k ∷ ks) = draining-choose ks

  draining-decide : (ns : List ServerNo) → decides (map task.Draining ns ++ behind) ≡ decides behind
  draining-decide [] = refl
  draining-decide (k ∷ ks) = draining-decide ks

  draining-order : decides behind ≡ true → in_order behind ≡ true → (ns : List ServerNo) → in_order (map task.Draining ns ++ behind) ≡ true
  draining-order d h [] = h
  draining-order d h (k ∷ ks) = ap (λ b. b && in_order (map task.Draining ks ++ behind)) (draining-decide ks ∙ d) ∙ draining-order d h ks

  draining-all : (P : Task → Type 0) (ns : List ServerNo) → ((n : ServerNo) → P (task.Draining n)) → P t → P task.Sorting → All P (map task.Draining ns ++ behind)
  draining-all P [] d c s = All-cons P t (task.Sorting ∷ []) c (All-cons P task.Sorting [] s (All-nil P))
  draining-all P (k ∷ ks) d c s = All-cons P (task.Draining k) _ (d k) (draining-all P ks d c s)

-- replicas that are to come to the position at which the designated one stops
trailing-times : (f : ServerNo) (n : ℕ) (ns : List ServerNo) → times n (of_queue f (map task.Trailing ns ++ task.Yielding ∷ [])) ≡ times n ns + one n f
trailing-times f n [] = omega arith
trailing-times f n (k ∷ ks) = let e = trailing-times f n ks in omega (arith, e)

trailing-choose : (ns : List ServerNo) → chooses (map task.Trailing ns ++ task.Yielding ∷ []) ≡ false
trailing-choose [] = refl
trailing-choose (k ∷ ks) = trailing-choose ks

trailing-order : (ns : List ServerNo) → in_order (map task.Trailing ns ++ task.Yielding ∷ []) ≡ true
trailing-order [] = refl
trailing-order (k ∷ ks) = trailing-order ks

trailing-all : (P : Task → Type 0) (ns : List ServerNo) → ((n : ServerNo) → P (task.Trailing n)) → P task.Yielding → All P (map task.Trailing ns ++ task.Yielding ∷ [])
trailing-all P [] t y = All-cons P task.Yielding [] y (All-nil P)
trailing-all P (k ∷ ks) t y = All-cons P (task.Trailing k) _ (t k) (trailing-all P ks t y)

same-list : (n : ℕ) (ns : List ServerNo) → times n (map (λ (k : ServerNo). k) ns) ≡ times n ns
same-list n [] = refl
same-list n (k ∷ ks) = ap (λ x. one n k + x) (same-list n ks)

-- the designated one and the others are the replicas
but-times : (n : ℕ) (d : ServerNo) (ns : List ServerNo) → times d.0 ns ≡ 1 → times n ns ≡ one n d + times n (but ns d)
but-times n d ns once =
    let p = times-parted (λ (k : ServerNo). k) n d ns (same-list d.0 ns ∙ once) in
    let a = same-list n ns in
    let b = same-list n (but ns d) in
    omega (arith, p, a, b)

-- ---- recoveries that begin

module _ (w : World) (by : Means) (id wait : ℕ) (f : ServerNo) (ns order : List ServerNo) where
  none-drained : All (λ (d : Stopped). IsSourced w d.no.0) []
  none-drained = All-nil (λ (d : Stopped). IsSourced w d.no.0)

  none-attached : All (λ (x : Follower). IsUnder w x.no.0 x.source.0) []
  none-attached = All-nil (λ (x : Follower). IsUnder w x.no.0 x.source.0)

  none-sourced : (u : Purpose) → All (λ (l : LostReplica). expels u (Some l.why) ≡ true → IsSourced w l.no.0) []
  none-sourced u = All-nil (λ (l : LostReplica). expels u (Some l.why) ≡ true → IsSourced w l.no.0)

  none-apart : All (λ (l : LostReplica). l.detached ≡ true → IsApart w l.no.0) []
  none-apart = All-nil (λ (l : LostReplica). l.detached ≡ true → IsApart w l.no.0)

  pub begun-covers : (u : Purpose) → AreReplicas u f ns → CoversSoFar w (begun_recovery u by id wait f ns order)
  begun-covers purpose.Regroup a = record {
    at = record {
      replicas = a;
      once = λ n. let e = draining-times task.Choosing f refl n ns in omega (arith, e);
      order = draining-order task.Choosing refl refl ns;
      unchosen = λ h. (refl, refl);
      undrained = λ h. refl;
      named = tt;
      lead = tt;
      leads = inl refl;
      drained = none-drained;
      queue = draining-all task.Choosing (Awaits w (begun_recovery purpose.Regroup by id wait f ns order)) ns (λ n. tt) tt tt;
      stage = tt;
      attached = none-attached;
      follow = All-nil (FollowsBy None None);
      sourced = none-sourced purpose.Regroup;
      apart = none-apart;
    };
    rests = λ h. refl;
    moves = λ n by h. cc;
  }
  begun-covers purpose.Master a = record {
    at = record {
      replicas = a;
      once = λ n. let e = draining-times task.Choosing f refl n ns in omega (arith, e);
      order = draining-order task.Choosing refl refl ns;
      unchosen = λ h. (refl, refl);
      undrained = λ h. refl;
      named = tt;
      lead = tt;
      leads = inl refl;
      drained = none-drained;
      queue = draining-all task.Choosing (Awaits w (begun_recovery purpose.Master by id wait f ns order)) ns (λ n. tt) tt tt;
      stage = tt;
      attached = none-attached;
      follow = All-nil (FollowsBy None None);
      sourced = none-sourced purpose.Master;
      apart = none-apart;
    };
    rests = λ h. cc;
    moves = λ n by h. cc;
  }
  begun-covers (purpose.Intermediate s) a = record {
    at = record {
      replicas = a;
      once = λ n. let e = draining-times task.Handing f refl n ns in omega (arith, e);
      order = draining-order task.Handing refl refl ns;
      unchosen = λ h. absurd (false≢true (sym (draining-choose task.Handing ns) ∙ h));
      undrained = λ h. refl;
      named = refl;
      lead = tt;
      leads = inl refl;
      drained = none-drained;
      queue =
          All-cons (Awaits w (begun_recovery (purpose.Intermediate s) by id wait f ns order)) (task.Reading s) _ tt
          (draining-all task.Handing (Awaits w (begun_recovery (purpose.Intermediate s) by id wait f ns order)) ns (λ n. tt) refl tt);
      stage = tt;
      attached = none-attached;
      follow = All-nil (FollowsBy (Some s) (Some s));
      sourced = none-sourced (purpose.Intermediate s);
      apart = none-apart;
    };
    rests = λ h. cc;
    moves = λ n by h. cc;
  }
  begun-covers (purpose.Takeover d) a = record {
    at = record {
      replicas = a;
      once = λ n. let e = trailing-times f n (but ns d) in let p = but-times n d ns a.placed in omega (arith, e, p);
      order = trailing-order (but ns d);
      unchosen = λ h. absurd (false≢true (sym (trailing-choose (but ns d)) ∙ h));
      undrained = λ h. refl;
      named = refl;
      lead = tt;
      leads = inl refl;
      drained = none-drained;
      queue = trailing-all (Awaits w (begun_recovery (purpose.Takeover d) by id wait f ns order)) (but ns d) (λ n. refl) refl;
      stage = record { takeover = refl; failed = refl; chosen = refl };
      attached = none-attached;
      follow = All-nil (FollowsBy (Some d) (Some d));
      sourced = none-sourced (purpose.Takeover d);
      apart = none-apart;
    };
    rests = λ h. cc;
    moves = λ n by h. cc;
  }

-- ---- others

pub outside-covers : (w : World) (e : Exchange) (r : Recovery) → is_outside e ≡ true → CoversSoFar w r → CoversSoFar (after w e) r
outside-covers w e r h c = covers-stays w (after w e) r (λ n some. outside-stays w e h n) c

-- a server that is in a list of leased ones is leased
leased-times : (l : Leases) (id : ℕ) (n : ℕ) (ns : List ServerNo) → All (λ k. IsLeased l id k.0) ns → 0 < times n ns → IsLeased l id n
leased-times l id n [] all h = let bad : 0 < 0 = h in absurd (omega (arith, bad))
leased-times l id n (k ∷ ks) all h = go (k.0 == n) refl h (leased-times l id n ks (All-tail (λ (m : ServerNo). IsLeased l id m.0) k ks all))
  where
    go : (b : Bool) → (k.0 == n) ≡ b → 0 < cond b 1 0 + times n ks → (0 < times n ks → IsLeased l id n) → IsLeased l id n
    go true e h rest = subst (λ (m : ℕ). IsLeased l id m) (eqb-true k.0 n e) (All-head (λ (m : ServerNo). IsLeased l id m.0) k ks all)
    go false e h rest = rest (omega (arith, h))

owed-leased : (l : Leases) (id : ℕ) (u : Purpose) (f : ServerNo) (ns : List ServerNo) (chosen : Option ServerNo) → All (λ k. IsLeased l id k.0) ns → AreSourcesOf (IsLeased l id) IsAny u f chosen
    → All (λ k. IsLeased l id k.0) (owed u f ns)
owed-leased l id (purpose.Takeover d) f ns chosen all h = All-cons (λ (k : ServerNo). IsLeased l id k.0) f ns h all
owed-leased l id _ f ns chosen all h = all

pub others-cover : (l : Leases) (id mine : ℕ) (w : World) (es : List Exchange) (r : Recovery) → All (λ e. IsLeased l id (server_of e)) es → (id ≡ mine → ⊥) → LeasedRecovery l mine r
    → CoversSoFar w r → CoversSoFar (run w es) r
others-cover l id mine w es r all apart leased c =
    covers-stays w (run w es) r
    (λ n some.
    let own = leased-times l mine n (owed r.purpose r.failed r.replicas) (owed-leased l mine r.purpose r.failed r.replicas r.chosen leased.replicas leased.sources) some in
    Stays-same w (run w es) n (unleased-run l id w es n all (λ h. apart (same_Some id mine (sym h ∙ own))))) c
