-- What a recovery covers so far stays covered if its servers' states are as before.
use Rattle.std.proofs.Common.{◌≡◌, ℕ, ◌+◌, ◌<◌, Bool, true, false, List, [], ◌∷◌, refl, sym, ◌∙◌, ap, subst, Option, Some, inl, inr, arith}
use Rattle.recovery_covers.proofs.Prelude.{All, All-cons, All-head, All-nil, All-tail, Apart-keeps, Awaits, CoversAt, CoversSoFar, Follower}
use Rattle.recovery_covers.proofs.Prelude.{Free-keeps, HasSwapped, IsApart, IsCrowned, IsGiving, IsLast, IsPromoted, IsSourced, IsSourcedAsSeen}
use Rattle.recovery_covers.proofs.Prelude.{IsUnder, Job, KeepsSource, Leads, LostReplica, Purpose, Reads, Recovery, Ruling-stays, ServerNo, Sight}
use Rattle.recovery_covers.proofs.Prelude.{Sourced-keeps, Stage, Stands, Stays, Stays-keeps, Stopped, Task, Under-keeps, Way, World, crowns, expels}
use Rattle.recovery_covers.proofs.Prelude.{false≢true, follower_nos, is_intermediate, is_late, is_master, is_takeover, leader, listed, lost_nos}
use Rattle.recovery_covers.proofs.Prelude.{of_queue, of_stage, of_task, owed, stopped_nos, times}
use Rattle.recovery_covers.proofs.Prelude.purpose
use Rattle.recovery_covers.proofs.Prelude.stage
use Rattle.recovery_covers.proofs.Prelude.task
use Rattle.recovery_covers.proofs.Prelude.way
use Rattle.recovery_covers.proofs.Times.{times-append, All-counted, self-times}

-- ---- lists

module _ (w w' : World) where
  pub attached-on : (xs : List Follower) → ((n m : ℕ) → 0 < times n (follower_nos xs) → IsUnder w n m → IsUnder w' n m) → All (λ x. IsUnder w x.no.0 x.source.0) xs
      → All (λ x. IsUnder w' x.no.0 x.source.0) xs
  attached-on xs on all =
      All-counted (λ (x : Follower). x.no) (λ x. IsUnder w x.no.0 x.source.0) (λ x. IsUnder w' x.no.0 x.source.0) xs all (λ x h u. on x.no.0 x.source.0 h u)

  pub sourced-on : (u : Purpose) (xs : List LostReplica) → ((n : ℕ) → 0 < times n (lost_nos xs) → IsSourced w n → IsSourced w' n)
      → All (λ l. expels u (Some l.why) ≡ true → IsSourced w l.no.0) xs → All (λ l. expels u (Some l.why) ≡ true → IsSourced w' l.no.0) xs
  sourced-on u xs on all =
      All-counted (λ (l : LostReplica). l.no) (λ l. expels u (Some l.why) ≡ true → IsSourced w l.no.0) (λ l. expels u (Some l.why) ≡ true → IsSourced w' l.no.0) xs all
      (λ l h f e. on l.no.0 h (f e))

  pub apart-on : (xs : List LostReplica) → ((n : ℕ) → 0 < times n (lost_nos xs) → IsApart w n → IsApart w' n) → All (λ l. l.detached ≡ true → IsApart w l.no.0) xs
      → All (λ l. l.detached ≡ true → IsApart w' l.no.0) xs
  apart-on xs on all =
      All-counted (λ (l : LostReplica). l.no) (λ l. l.detached ≡ true → IsApart w l.no.0) (λ l. l.detached ≡ true → IsApart w' l.no.0) xs all (λ l h f e. on l.no.0 h (f e))

  pub drained-on : (xs : List Stopped) → ((n : ℕ) → 0 < times n (stopped_nos xs) → IsSourced w n → IsSourced w' n) → All (λ d. IsSourced w d.no.0) xs → All (λ d. IsSourced w' d.no.0) xs
  drained-on xs on all =
      All-counted (λ (d : Stopped). d.no) (λ d. IsSourced w d.no.0) (λ d. IsSourced w' d.no.0) xs all (λ d h u. on d.no.0 h u)

-- a recovery of the same purpose and new source, whose lost are lost in the other
pub record SameWay (r r' : Recovery) : Type 0 where
  pub purpose : r'.purpose ≡ r.purpose
  pub chosen : r'.chosen ≡ r.chosen
  pub lost : (n : ℕ) → 0 < times n (lost_nos r.outcome.lost) → 0 < times n (lost_nos r'.outcome.lost)

module _ (w w' : World) (r r' : Recovery) (same : SameWay r r') (f : ServerNo) (lost : (n : ℕ) → 0 < times n (lost_nos r.outcome.lost) → IsSourced w n → IsSourced w' n) where
  task-on : (t : Task) → ((n : ℕ) → 0 < times n (of_task f t) → IsSourced w n → IsSourced w' n) → Awaits w r t → Awaits w' r' t
  task-on (task.Moving n by) on h = (same.chosen ∙ h.0, on n.0 (self-times n []) h.1, ap is_intermediate same.purpose ∙ h.2)
  task-on (task.Expelling n) on h = (same.lost n.0 h.0, lost n.0 h.0 h.1)
  task-on task.Handing on h = ap is_intermediate same.purpose ∙ h
  task-on (task.Trailing n) on h = ap is_takeover same.purpose ∙ h
  task-on task.Yielding on h = ap is_takeover same.purpose ∙ h
  task-on _ on h = tt

  pub queue-on : (ts : List Task) → ((n : ℕ) → 0 < times n (of_queue f ts) → IsSourced w n → IsSourced w' n) → All (Awaits w r) ts → All (Awaits w' r') ts
  queue-on [] on all = All-nil (Awaits w' r')
  queue-on (t ∷ ts) on all =
      All-cons (Awaits w' r') t ts
      (task-on t (λ n h. on n (let e = times-append n (of_task f t) (of_queue f ts) in omega (arith, e, h))) (All-head (Awaits w r) t ts all))
      (queue-on ts (λ n h. on n (let e = times-append n (of_task f t) (of_queue f ts) in omega (arith, e, h))) (All-tail (Awaits w r) t ts all))

pub same-way : (r : Recovery) (s : Stage) (core : Job) → SameWay r (record r { stage = s; core = core })
same-way r s core = record { purpose = refl; chosen = refl; lost = λ n h. h }

-- in one world
pub queue-as : (w : World) (r r' : Recovery) → SameWay r r' → (ts : List Task) → All (Awaits w r) ts → All (Awaits w r') ts
queue-as w r r' same ts all = queue-on w w r r' same r.failed (λ n h u. u) ts (λ n h u. u) all

-- ---- purposes

pub master-crowns : (u : Purpose) → is_master u ≡ true → crowns u ≡ true
master-crowns purpose.Master h = refl
master-crowns _ h = absurd (false≢true h)

pub takeover-crowns : (u : Purpose) → is_takeover u ≡ true → crowns u ≡ true
takeover-crowns (purpose.Takeover d) h = refl
takeover-crowns _ h = absurd (false≢true h)

pub crowned-leader : (u : Purpose) (o : Option ServerNo) → crowns u ≡ true → leader u o ≡ listed o
crowned-leader (purpose.Intermediate s) o h = absurd (false≢true h)
crowned-leader _ o h = refl

-- ---- the same at another stage, or with another job

pub last-on : (r : Recovery) (s : Stage) (core : Job) (p : ServerNo) → IsLast r p → IsLast (record r { stage = s; core = core }) p
last-on r s core p l = record { chosen = l.chosen; promoted = l.promoted; queue = l.queue; drained = l.drained }

pub promoted-on : (r : Recovery) (s : Stage) (core : Job) (n : ServerNo) → IsPromoted r n → IsPromoted (record r { stage = s; core = core }) n
promoted-on r s core n l = record { promoted = l.promoted; queue = l.queue; drained = l.drained; old = l.old }

pub crowned-on : (r : Recovery) (s : Stage) (core : Job) (n : ServerNo) → IsCrowned r n → IsCrowned (record r { stage = s; core = core }) n
crowned-on r s core n l = record { promoted = promoted-on r s core n l.promoted; crowns = l.crowns }

pub giving-on : (r : Recovery) (s : Stage) (core : Job) (m d : ServerNo) → IsGiving r m d → IsGiving (record r { stage = s; core = core }) m d
giving-on r s core m d g = record { takeover = g.takeover; failed = g.failed; chosen = g.chosen }

pub swapped-on : (r : Recovery) (s : Stage) (core : Job) → HasSwapped r → HasSwapped (record r { stage = s; core = core })
swapped-on r s core x = record { was = x.was; is = x.is; chosen = x.chosen; promoted = x.promoted; master = x.master; follows = x.follows }

module _ (w w' : World) (r : Recovery) (s s' : Stage) (core : Job) (c : CoversAt w r s) where
  abbrev later : Recovery
  later = record r { stage = s'; core = core }

  leads-on : (is_late s ≡ true → is_late s' ≡ true) → Leads r s → Leads later s'
  leads-on late (inl e) = inl e
  leads-on late (inr x) = inr (late x.0, swapped-on r s' core x.1)

  -- if the states of the followers, of those that are to move and of the lost are as before
  pub carried : of_stage s' ≡ of_stage s → (is_late s ≡ true → is_late s' ≡ true)
      → ((n m : ℕ) → 0 < times n (follower_nos r.outcome.followers) → IsUnder w n m → IsUnder w' n m)
      → ((n : ℕ) → 0 < times n (of_queue r.failed r.queue) + (times n (stopped_nos r.drained) + times n (lost_nos r.outcome.lost)) → IsSourced w n → IsSourced w' n)
      → ((n : ℕ) → 0 < times n (lost_nos r.outcome.lost) → IsApart w n → IsApart w' n)
      → Stands w' later s' → CoversAt w' later s'
  carried same late under sourced apart stands = record {
    replicas = c.replicas;
    once = λ n. let e = c.once n in let b : times n (of_stage s') ≡ times n (of_stage s) = ap (times n) same in omega (arith, e, b);
    order = c.order;
    unchosen = c.unchosen;
    undrained = c.undrained;
    named = c.named;
    lead = c.lead;
    leads = leads-on late c.leads;
    drained = drained-on w w' r.drained (λ n h. sourced n (omega (arith, h))) c.drained;
    queue =
        queue-on w w' r later (same-way r s' core) r.failed (λ n h. sourced n (omega (arith, h))) r.queue (λ n h. sourced n (omega (arith, h))) c.queue;
    stage = stands;
    attached = attached-on w w' r.outcome.followers under c.attached;
    follow = c.follow;
    sourced = sourced-on w w' r.purpose r.outcome.lost (λ n h. sourced n (omega (arith, h))) c.sourced;
    apart = apart-on w w' r.outcome.lost apart c.apart;
  }

  -- each server keeps its source
  pub carried-keeping : of_stage s' ≡ of_stage s → (is_late s ≡ true → is_late s' ≡ true) → ((n : ℕ) → KeepsSource w w' n) → Stands w' later s' → CoversAt w' later s'
  carried-keeping same late keeps stands =
      carried same late (λ n m h u. Under-keeps w w' n m (keeps n) u) (λ n h u. Sourced-keeps w w' n (keeps n) u) (λ n h u. Apart-keeps w w' n (keeps n) u) stands

-- in one world
pub restaged : (w : World) (r : Recovery) (s s' : Stage) (core : Job) → CoversAt w r s → of_stage s' ≡ of_stage s → (is_late s ≡ true → is_late s' ≡ true)
    → Stands w (record r { stage = s'; core = core }) s' → CoversAt w (record r { stage = s'; core = core }) s'
restaged w r s s' core c same late stands = carried w w r s s' core c same late (λ n m h u. u) (λ n h u. u) (λ n h u. u) stands

-- ---- if the state of each server of the recovery is as before

-- the stages that rest on what was seen
abbrev pub is_seen : Stage → Bool
is_seen (stage.Judged n) = true
is_seen (stage.Looked n b) = true
is_seen (stage.Move n (way.Up b)) = true
is_seen s = false

module _ (w w' : World) (r : Recovery) (core : Job) (keeps : (n : ℕ) → 0 < times n (owed r.purpose r.failed r.replicas) → Stays w w' n) where
  placed-keeps : (s : Stage) → CoversAt w r s → (n : ServerNo) (ns : List ServerNo) → of_stage s ≡ n ∷ ns → Stays w w' n.0
  placed-keeps s c n ns is =
      keeps n.0 (let e = c.once n.0 in let here : 0 < times n.0 (of_stage s) = subst (λ (ks : List ServerNo). 0 < times n.0 ks) (sym is) (self-times n ns) in omega (arith, e, here))

  lost-keeps : (s : Stage) → CoversAt w r s → (n : ℕ) → 0 < times n (lost_nos r.outcome.lost) → Stays w w' n
  lost-keeps s c n h = keeps n (let e = c.once n in omega (arith, e, h))

  -- the promoted one is a replica, if it comes in a master's place
  leader-keeps : (s : Stage) → CoversAt w r s → crowns r.purpose ≡ true → (n : ServerNo) → r.outcome.promoted ≡ Some n → Stays w w' n.0
  leader-keeps s c crowned n is =
      keeps n.0 (
      let e = c.once n.0 in
      let same : leader r.purpose r.outcome.promoted ≡ n ∷ [] = crowned-leader r.purpose r.outcome.promoted crowned ∙ ap listed is in
      let here : 0 < times n.0 (leader r.purpose r.outcome.promoted) = subst (λ (ks : List ServerNo). 0 < times n.0 ks) (sym same) (self-times n []) in
      omega (arith, e, here))

  as-seen : (n : ServerNo) → core.seen ≡ r.core.seen → Stays w w' n.0 → IsSourcedAsSeen w r.core.seen n → IsSourcedAsSeen w' core.seen n
  as-seen n same st h =
      subst (λ (xs : List Sight). IsSourcedAsSeen w' xs n) (sym same) (λ x e b. Sourced-keeps w w' n.0 (Stays-keeps w w' n.0 st) (h x e b))

  reads-on : (n : ServerNo) (by : Way) → (is_seen (stage.Move n by) ≡ true → core.seen ≡ r.core.seen) → Reads r.core.seen by → Reads core.seen by
  reads-on n (way.Up b) seen h = subst (λ (xs : List Sight). Reads xs (way.Up b)) (sym (seen refl)) h
  reads-on n _ seen h = tt

  stands-on : (s0 s : Stage) → CoversAt w r s → (is_seen s ≡ true → core.seen ≡ r.core.seen) → Stands w r s → Stands w' (record r { stage = s0; core = core }) s
  stands-on s0 (stage.Drain n) c seen h = h
  stands-on s0 (stage.Judged n) c seen h = (h.0, as-seen n (seen refl) (placed-keeps (stage.Judged n) c n [] refl) h.1)
  stands-on s0 (stage.Move n by) c seen h = (
    h.0,
    Sourced-keeps w w' n.0 (Stays-keeps w w' n.0 (placed-keeps (stage.Move n by) c n [] refl)) h.1,
    reads-on n by seen h.2,
  )
  stands-on s0 (stage.Join n p) c seen h = (h.0, Under-keeps w w' n.0 p.0 (Stays-keeps w w' n.0 (placed-keeps (stage.Join n p) c n [] refl)) h.1)
  stands-on s0 (stage.Expel n) c seen h = (h.0, Sourced-keeps w w' n.0 (Stays-keeps w w' n.0 (lost-keeps (stage.Expel n) c n.0 h.0)) h.1)
  stands-on s0 (stage.Expelled n) c seen h = (h.0, Apart-keeps w w' n.0 (Stays-keeps w w' n.0 (lost-keeps (stage.Expelled n) c n.0 h.0)) h.1)
  stands-on s0 (stage.Level p q) c seen h = (h.0, last-on r s0 core p h.1, h.2)
  stands-on s0 (stage.Swap p q) c seen h = (h.0, last-on r s0 core p h.1, Free-keeps w w' q.0 (Stays-keeps w w' q.0 (placed-keeps (stage.Swap p q) c q [] refl)) h.2)
  stands-on s0 (stage.Swapped p q) c seen h = (
    h.0,
    last-on r s0 core p h.1,
    Free-keeps w w' q.0 (Stays-keeps w w' q.0 (placed-keeps (stage.Swapped p q) c q [] refl)) h.2,
    Under-keeps w w' p.0 q.0 (Stays-keeps w w' p.0 (leader-keeps (stage.Swapped p q) c (master-crowns r.purpose h.0) p h.1.promoted)) h.3,
  )
  stands-on s0 (stage.Return p q) c seen h = (h.0, last-on r s0 core p h.1)
  stands-on s0 (stage.Resume p q) c seen h =
      (h.0, last-on r s0 core p h.1, Under-keeps w w' q.0 p.0 (Stays-keeps w w' q.0 (placed-keeps (stage.Resume p q) c q [] refl)) h.2)
  stands-on s0 (stage.Crown n) c seen h = (h.0, last-on r s0 core n h.1)
  stands-on s0 (stage.Open n) c seen h =
      (crowned-on r s0 core n h.0, Free-keeps w w' n.0 (Stays-keeps w w' n.0 (leader-keeps (stage.Open n) c h.0.crowns n h.0.promoted.promoted)) h.1)
  stands-on s0 (stage.Opened n) c seen h = (crowned-on r s0 core n h.0, Ruling-stays w w' n.0 (leader-keeps (stage.Opened n) c h.0.crowns n h.0.promoted.promoted) h.1)
  stands-on s0 (stage.Close lines) c seen h = (
    record {
      no = h.0.no;
      promoted = promoted-on r s0 core h.0.no h.0.promoted;
      rules = λ crowned. Ruling-stays w w' h.0.no.0 (leader-keeps (stage.Close lines) c crowned h.0.no h.0.promoted.promoted) (h.0.rules crowned);
    },
    h.1,
  )
  stands-on s0 (stage.Meet m d) c seen h = giving-on r s0 core m d h
  stands-on s0 (stage.Shut m d) c seen h = giving-on r s0 core m d h
  stands-on s0 (stage.Gather m d) c seen h = giving-on r s0 core m d h
  stands-on s0 (stage.Look n b) c seen h = h
  stands-on s0 (stage.Looked n b) c seen h = (h.0, as-seen n (seen refl) (placed-keeps (stage.Looked n b) c n [] refl) h.1)
  stands-on s0 (stage.Trail n b) c seen h = (h.0, Sourced-keeps w w' n.0 (Stays-keeps w w' n.0 (placed-keeps (stage.Trail n b) c n [] refl)) h.1)
  stands-on s0 (stage.Halted n b) c seen h = (h.0, Sourced-keeps w w' n.0 (Stays-keeps w w' n.0 (placed-keeps (stage.Halted n b) c n [] refl)) h.1)
  stands-on s0 (stage.Yield m d) c seen h = (giving-on r s0 core m d h.0, last-on r s0 core d h.1)
  stands-on s0 (stage.Switch m d) c seen h = (
    giving-on r s0 core m d h.0,
    last-on r s0 core d h.1,
    Free-keeps w w' d.0 (Stays-keeps w w' d.0 (leader-keeps (stage.Switch m d) c (takeover-crowns r.purpose h.0.takeover) d h.1.promoted)) h.2,
  )
  stands-on s0 (stage.Switched m d) c seen h = (
    giving-on r s0 core m d h.0,
    last-on r s0 core d h.1,
    Free-keeps w w' d.0 (Stays-keeps w w' d.0 (leader-keeps (stage.Switched m d) c (takeover-crowns r.purpose h.0.takeover) d h.1.promoted)) h.2,
    Under-keeps w w' m.0 d.0 (Stays-keeps w w' m.0 (placed-keeps (stage.Switched m d) c m [] refl)) h.3,
  )
  stands-on s0 _ c seen h = tt

  -- a stage goes on, with the same job or another
  pub stage-on : (s : Stage) → CoversAt w r s → (is_seen s ≡ true → core.seen ≡ r.core.seen) → CoversAt w' (record r { stage = s; core = core }) s
  stage-on s c seen =
      carried w w' r s s core c refl (λ h. h)
      (λ n m h u. Under-keeps w w' n m (Stays-keeps w w' n (keeps n (let e = c.once n in omega (arith, e, h)))) u)
      (λ n h u. Sourced-keeps w w' n (Stays-keeps w w' n (keeps n (let e = c.once n in omega (arith, e, h)))) u)
      (λ n h u. Apart-keeps w w' n (Stays-keeps w w' n (keeps n (let e = c.once n in omega (arith, e, h)))) u)
      (stands-on s s c seen c.stage)

-- what others do if the state of each server of the recovery is as before
pub covers-stays : (w w' : World) (r : Recovery) → ((n : ℕ) → 0 < times n (owed r.purpose r.failed r.replicas) → Stays w w' n) → CoversSoFar w r → CoversSoFar w' r
covers-stays w w' r stays c = record { at = stage-on w w' r r.core stays r.stage c.at (λ h. refl); rests = c.rests; moves = c.moves }
