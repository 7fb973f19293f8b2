-- What is decided covers the replicas as far as before: the choice, and how the others go.
use Rattle.std.proofs.Common.{◌≡◌, ℕ, ◌+◌, ◌<◌, Bool, true, false, cond, not, List, [], ◌∷◌, ◌++◌, refl, sym, ◌∙◌, ap, subst, Option, Some, None, inl, inr, arith, ◌==◌, IfSome}
use Rattle.recovery_covers.proofs.Prelude.{All, All-append, All-chosen, All-cons, All-filter, All-head, All-nil, All-tail, All-weaker, Awaits}
use Rattle.recovery_covers.proofs.Prelude.{BookState, Bridge, CoversAt, Follower, FollowsBy, Group, IsApart, IsSourced, LostReplica, Lot, Means}
use Rattle.recovery_covers.proofs.Prelude.{Moment, Purpose, Recovery, ServerNo, Stopped, Task, World, and_parts, choose, chooses, chosen_of}
use Rattle.recovery_covers.proofs.Prelude.{decides, expels, false≢true, first_source, ground_of, group_of, in_order, is_intermediate, leader}
use Rattle.recovery_covers.proofs.Prelude.{listed, losses_in, lost_nos, lot_by, lot_by_group, move_of, moves_in, of_queue, of_task, owed}
use Rattle.recovery_covers.proofs.Prelude.{own_end_of, stay_of, stopped_nos, target, times, total, without_stopped}
use Rattle.recovery_covers.proofs.Prelude.deciding
use Rattle.recovery_covers.proofs.Prelude.group
use Rattle.recovery_covers.proofs.Prelude.means
use Rattle.recovery_covers.proofs.Prelude.purpose
use Rattle.recovery_covers.proofs.Prelude.stage
use Rattle.recovery_covers.proofs.Prelude.task
use Rattle.recovery_covers.proofs.Prelude.way
use Rattle.recovery_covers.proofs.Times.{one, times-append, times-join, times-parted, self-all}

-- ---- a new source that isn't named at the start

pub unnamed : (u : Purpose) (o : Option ServerNo) → o ≡ None → IfSome (first_source u) (λ n. o ≡ Some n) → first_source u ≡ None
unnamed purpose.Regroup o e h = refl
unnamed purpose.Master o e h = refl
unnamed (purpose.Intermediate s) o e h = let bad : None ≡ Some s = sym e ∙ h in cc
unnamed (purpose.Takeover d) o e h = let bad : None ≡ Some d = sym e ∙ h in cc

pub unnamed-leader : (u : Purpose) (o : Option ServerNo) → first_source u ≡ None → leader u o ≡ listed o
unnamed-leader purpose.Regroup o h = refl
unnamed-leader purpose.Master o h = refl
unnamed-leader (purpose.Intermediate s) o h = cc
unnamed-leader (purpose.Takeover d) o h = cc

pub unnamed-apart : (u : Purpose) → first_source u ≡ None → is_intermediate u ≡ false
unnamed-apart purpose.Regroup h = refl
unnamed-apart purpose.Master h = refl
unnamed-apart (purpose.Intermediate s) h = cc
unnamed-apart (purpose.Takeover d) h = cc

unled : (o : Option Bridge) (chosen : Option ServerNo) → chosen ≡ None → IfSome o (λ b. chosen ≡ Some b.no) → (P : Bridge → Type 0) → IfSome o P
unled None chosen e h P = tt
unled (Some b) chosen e h P = let bad : None ≡ Some b.no = sym e ∙ h in cc

-- ---- how a drained one goes

-- below the chosen one, or it is lost
abbrev pub IsLotOf : ServerNo → Lot → Type 0
IsLotOf p (deciding.Goes by) = target by ≡ p
IsLotOf p (deciding.Stays why) = Unit {0}

pub lot-is : (m : Means) (w : World) (b : BookState) (now : Moment) (f : ServerNo) (p s : Stopped) → IsLotOf p.no (lot_by m (ground_of w b now) f p s)
lot-is (means.Matches every) w b now f p s = refl
lot-is means.Bridges w b now f p s = go w.gtid
  where
    by-group : (g : Group) → IsLotOf p.no (lot_by_group p.no f s g)
    by-group (group.Follow at) = refl
    by-group group.Ahead = tt
    by-group group.Behind = tt

    go : (g : Bool) → IsLotOf p.no (cond g (deciding.Goes (way.Auto p.no s.exec)) (lot_by_group p.no f s (group_of b.rings p.no (own_end_of p) p.exec f s.exec)))
    go true = refl
    go false = by-group (group_of b.rings p.no (own_end_of p) p.exec f s.exec)

pub queue-append : (f : ServerNo) (n : ℕ) (ts us : List Task) → times n (of_queue f (ts ++ us)) ≡ times n (of_queue f ts) + times n (of_queue f us)
queue-append f n [] us = omega arith
queue-append f n (t ∷ ts) us =
    let e = queue-append f n ts us in
    let x = times-append n (of_task f t) (of_queue f (ts ++ us)) in
    let y = times-append n (of_task f t) (of_queue f ts) in
    omega (arith, e, x, y)

module _ (f : ServerNo) (lot : Stopped → Lot) where
  -- each goes or is lost
  lots-times : (n : ℕ) (ss : List Stopped) → times n (of_queue f (moves_in lot ss)) + times n (lost_nos (losses_in lot ss)) ≡ times n (stopped_nos ss)
  lots-times n [] = refl
  lots-times n (s ∷ ss) = go (lot s) (lots-times n ss)
    where
      go : (x : Lot) → times n (of_queue f (moves_in lot ss)) + times n (lost_nos (losses_in lot ss)) ≡ times n (stopped_nos ss)
          → times n (of_queue f (move_of s x ++ moves_in lot ss)) + times n (lost_nos (stay_of s x ++ losses_in lot ss)) ≡ one n s.no + times n (stopped_nos ss)
      go (deciding.Goes by) h = omega (arith, h)
      go (deciding.Stays why) h = omega (arith, h)

  moves-choose : (ts : List Task) (ss : List Stopped) → chooses (moves_in lot ss ++ ts) ≡ chooses ts
  moves-choose ts [] = refl
  moves-choose ts (s ∷ ss) = go (lot s) (moves-choose ts ss)
    where
      go : (x : Lot) → chooses (moves_in lot ss ++ ts) ≡ chooses ts → chooses ((move_of s x ++ moves_in lot ss) ++ ts) ≡ chooses ts
      go (deciding.Goes by) h = h
      go (deciding.Stays why) h = h

  moves-order : (ts : List Task) (ss : List Stopped) → in_order (moves_in lot ss ++ ts) ≡ in_order ts
  moves-order ts [] = refl
  moves-order ts (s ∷ ss) = go (lot s) (moves-order ts ss)
    where
      go : (x : Lot) → in_order (moves_in lot ss ++ ts) ≡ in_order ts → in_order ((move_of s x ++ moves_in lot ss) ++ ts) ≡ in_order ts
      go (deciding.Goes by) h = h
      go (deciding.Stays why) h = h

  module _ (w : World) (p : ServerNo) (each : (s : Stopped) → IsLotOf p (lot s)) where
    moves-await : (r : Recovery) → r.chosen ≡ Some p → is_intermediate r.purpose ≡ false → (ss : List Stopped) → All (λ s. IsSourced w s.no.0) ss → All (Awaits w r) (moves_in lot ss)
    moves-await r chosen far [] all = All-nil (Awaits w r)
    moves-await r chosen far (s ∷ ss) all =
        go (lot s) (each s) (All-head (λ (x : Stopped). IsSourced w x.no.0) s ss all) (moves-await r chosen far ss (All-tail (λ (x : Stopped). IsSourced w x.no.0) s ss all))
      where
        go : (x : Lot) → IsLotOf p x → IsSourced w s.no.0 → All (Awaits w r) (moves_in lot ss) → All (Awaits w r) (move_of s x ++ moves_in lot ss)
        go (deciding.Goes by) is sourced rest = All-cons (Awaits w r) (task.Moving s.no by) (moves_in lot ss) (chosen ∙ ap Some (sym is), sourced, far) rest
        go (deciding.Stays why) is sourced rest = rest

    losses-sourced : (u : Purpose) (ss : List Stopped) → All (λ s. IsSourced w s.no.0) ss → All (λ l. expels u (Some l.why) ≡ true → IsSourced w l.no.0) (losses_in lot ss)
    losses-sourced u [] all = All-nil (λ (l : LostReplica). expels u (Some l.why) ≡ true → IsSourced w l.no.0)
    losses-sourced u (s ∷ ss) all =
        go (lot s) (All-head (λ (x : Stopped). IsSourced w x.no.0) s ss all) (losses-sourced u ss (All-tail (λ (x : Stopped). IsSourced w x.no.0) s ss all))
      where
        go : (x : Lot) → IsSourced w s.no.0 → All (λ l. expels u (Some l.why) ≡ true → IsSourced w l.no.0) (losses_in lot ss)
            → All (λ l. expels u (Some l.why) ≡ true → IsSourced w l.no.0) (stay_of s x ++ losses_in lot ss)
        go (deciding.Goes by) sourced rest = rest
        go (deciding.Stays why) sourced rest =
            All-cons (λ (l : LostReplica). expels u (Some l.why) ≡ true → IsSourced w l.no.0) (record { no = s.no; why = why; detached = false }) (losses_in lot ss) (λ e. sourced) rest

    losses-apart : (ss : List Stopped) → All (λ l. l.detached ≡ true → IsApart w l.no.0) (losses_in lot ss)
    losses-apart [] = All-nil (λ (l : LostReplica). l.detached ≡ true → IsApart w l.no.0)
    losses-apart (s ∷ ss) = go (lot s) (losses-apart ss)
      where
        go : (x : Lot) → All (λ l. l.detached ≡ true → IsApart w l.no.0) (losses_in lot ss) → All (λ l. l.detached ≡ true → IsApart w l.no.0) (stay_of s x ++ losses_in lot ss)
        go (deciding.Goes by) rest = rest
        go (deciding.Stays why) rest =
            All-cons (λ (l : LostReplica). l.detached ≡ true → IsApart w l.no.0) (record { no = s.no; why = why; detached = false }) (losses_in lot ss) (λ e. absurd (false≢true e)) rest

-- ---- the choice

module _ (w : World) (b : BookState) (now : Moment) (r : Recovery) (ts : List Task) (c : CoversAt w (record r { queue = task.Choosing ∷ ts }) stage.Idle) (p : Stopped) (is : chosen_of (ground_of w b now) r.failed r.drained ≡ Some p) where
  abbrev lot : Stopped → Lot
  lot = lot_by r.means (ground_of w b now) r.failed p

  each : (s : Stopped) → IsLotOf p.no (lot_by r.means (ground_of w b now) r.failed p s)
  each s = lot-is r.means w b now r.failed p s

  abbrev rest : List Stopped
  rest = without_stopped r.drained p.no

  abbrev after : Recovery
  after = choose (ground_of w b now) (record r { queue = ts }) (Some p)

  none : (r.chosen ≡ None) × (r.outcome.promoted ≡ None)
  none = c.unchosen refl

  free : first_source r.purpose ≡ None
  free = unnamed r.purpose r.chosen none.0 c.named

  parts : (not (decides ts) ≡ true) × (in_order ts ≡ true)
  parts = and_parts (not (decides ts)) (in_order ts) c.order

  only : decides ts ≡ false
  only = not-true (decides ts) parts.0
    where
      not-true : (a : Bool) → not a ≡ true → a ≡ false
      not-true true h = absurd (false≢true h)
      not-true false h = refl

  unchoosing : chooses ts ≡ false
  unchoosing = go ts only
    where
      go : (us : List Task) → decides us ≡ false → chooses us ≡ false
      go [] h = refl
      go (task.Choosing ∷ us) h = absurd (false≢true (sym h))
      go (task.Handing ∷ us) h = absurd (false≢true (sym h))
      go (task.Reading n ∷ us) h = go us h
      go (task.Draining n ∷ us) h = go us h
      go (task.Moving n by ∷ us) h = go us h
      go (task.Sorting ∷ us) h = go us h
      go (task.Expelling n ∷ us) h = go us h
      go (task.Releasing n ∷ us) h = go us h
      go (task.Trailing n ∷ us) h = go us h
      go (task.Yielding ∷ us) h = go us h

  sourced-rest : All (λ d. IsSourced w d.no.0) rest
  sourced-rest = All-filter (λ (s : Stopped). not (s.no.0 == p.no.0)) (λ s. IsSourced w s.no.0) r.drained c.drained

  at-one : times p.no.0 (stopped_nos r.drained) ≡ 1
  at-one =
      let some : 0 < times p.no.0 (stopped_nos r.drained) =
      All-chosen w b now r.failed (λ (s : Stopped). 0 < times s.no.0 (stopped_nos r.drained)) r.drained p (self-all (λ (s : Stopped). s.no) r.drained) is in
      let e = c.once p.no.0 in
      let most = c.replicas.distinct p.no.0 in
      omega (arith, some, e, most)

  chosen-once : (n : ℕ) → total n after stage.Idle ≡ times n (owed r.purpose r.failed r.replicas)
  chosen-once n =
      let e = c.once n in
      let old : times n (leader r.purpose r.outcome.promoted) ≡ 0 = ap (times n) (unnamed-leader r.purpose r.outcome.promoted free) ∙ ap (λ o. times n (listed o)) none.1 in
      let new : times n (leader r.purpose (Some p.no)) ≡ one n p.no + 0 = ap (times n) (unnamed-leader r.purpose (Some p.no) free) in
      let a = queue-append r.failed n (moves_in lot rest) ts in
      let l = times-join (λ (x : LostReplica). x.no) n r.outcome.lost (losses_in lot rest) in
      let d = lots-times r.failed lot n rest in
      let o = times-parted (λ (s : Stopped). s.no) n p.no r.drained at-one in
      omega (arith, e, old, new, a, l, d, o)

  unfollowed : (x : Follower) → FollowsBy r.chosen r.outcome.promoted x → FollowsBy (Some p.no) (Some p.no) x
  unfollowed x (inl e) = let bad : None ≡ Some x.source = sym none.0 ∙ e in cc
  unfollowed x (inr e) = let bad : None ≡ Some x.no = sym none.0 ∙ e.0 in cc

  awaits-on : (t : Task) → Awaits w r t → Awaits w after t
  awaits-on (task.Moving n by) h = let bad : None ≡ Some (target by) = sym none.0 ∙ h.0 in cc
  awaits-on (task.Expelling n) h = (let l = times-join (λ (x : LostReplica). x.no) n.0 r.outcome.lost (losses_in lot rest) in let k = h.0 in omega (arith, l, k), h.1)
  awaits-on task.Handing h = h
  awaits-on (task.Trailing n) h = h
  awaits-on task.Yielding h = h
  awaits-on _ h = tt

  pub chosen-covers : CoversAt w after stage.Idle
  chosen-covers = record {
    replicas = c.replicas;
    once = chosen-once;
    order = moves-order r.failed lot ts rest ∙ parts.1;
    unchosen = λ h. absurd (false≢true (sym unchoosing ∙ sym (moves-choose r.failed lot ts rest) ∙ h));
    undrained = λ h. refl;
    named = subst (λ (o : Option ServerNo). IfSome o (λ n. Some p.no ≡ Some n)) (sym free) tt;
    lead = unled r.lead r.chosen none.0 c.lead (λ x. Some p.no ≡ Some x.no);
    leads = inl refl;
    drained = All-nil (λ (s : Stopped). IsSourced w s.no.0);
    queue =
        All-append (Awaits w after) (moves_in lot rest) ts (moves-await r.failed lot w p.no each after refl (unnamed-apart r.purpose free) rest sourced-rest)
        (All-weaker (Awaits w r) (Awaits w after) awaits-on ts (All-tail (Awaits w r) task.Choosing ts c.queue));
    stage = tt;
    attached = c.attached;
    follow = All-weaker (FollowsBy r.chosen r.outcome.promoted) (FollowsBy (Some p.no) (Some p.no)) unfollowed r.outcome.followers c.follow;
    sourced =
        All-append (λ (l : LostReplica). expels r.purpose (Some l.why) ≡ true → IsSourced w l.no.0) r.outcome.lost (losses_in lot rest) c.sourced
        (losses-sourced r.failed lot w p.no each r.purpose rest sourced-rest);
    apart =
        All-append (λ (l : LostReplica). l.detached ≡ true → IsApart w l.no.0) r.outcome.lost (losses_in lot rest) c.apart
        (losses-apart r.failed lot w p.no each rest);
  }
