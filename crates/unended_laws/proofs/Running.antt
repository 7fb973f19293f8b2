-- An operation of a recovery keeps up its followers, and a closed master.
use Rattle.std.proofs.Common.{◌≡◌, ℕ, zero, suc, ◌+◌, ◌<◌, ◌≤◌, Bool, true, false, cond, not, List, [], ◌∷◌, get_or, refl, sym, ◌∙◌, ap, subst, Option, Some, None, ◌⊎◌, inl, inr, arith, ◌==◌, IfSome}
use Rattle.std.specs.List.{Contains}
use Rattle.unended_laws.proofs.Prelude.{All, All-cons, All-contains, All-filter, All-head, All-nil, All-tail, All-weaker, AltersOnly, AreReplicas, Attach, AttachAuto}
use Rattle.unended_laws.proofs.Prelude.{CoversAt, Deed, Exchange, Fact, Fits, Follower, GoesOn, IsApplying, IsAttachment, IsGiving, IsKeptUp, IsOpenYet, IsShut}
use Rattle.unended_laws.proofs.Prelude.{IsUnder, Job, Leads, Line, Makes, MayMake, Moment, Observation, Op, Purpose, ReadsLast, Recovery, Request, RunsOn}
use Rattle.unended_laws.proofs.Prelude.{ServerNo, SpeaksWith, Stage, Stopped, Task, UpSoFar, World, altered_by, by_deed, crowned-leader, crowns, deed_of, ends, entered}
use Rattle.unended_laws.proofs.Prelude.{eq-eqb, eqb-true, false≢true, filter_passes, first_source, fits-step, follower_nos, follows_no_more, gather, info}
use Rattle.unended_laws.proofs.Prelude.{is_late, is_master, is_takeover, joined, leader, leaver, listed, lost_nos, made-well, master-crowns, move, moved, of_queue, of_task}
use Rattle.unended_laws.proofs.Prelude.{moved-fits, moved-starts, observed, of_stage, op-does, run, same-head, same-no, same-tail, same_Some, self-all, stopped_nos}
use Rattle.unended_laws.proofs.Prelude.{self-times, stepped, tail_of, takeover-crowns, target, times, times-append, without_follower}
use Rattle.unended_laws.proofs.Prelude.asking
use Rattle.unended_laws.proofs.Prelude.attempt
use Rattle.unended_laws.proofs.Prelude.cross
use Rattle.unended_laws.proofs.Prelude.deed
use Rattle.unended_laws.proofs.Prelude.op
use Rattle.unended_laws.proofs.Prelude.purpose
use Rattle.unended_laws.proofs.Prelude.stage
use Rattle.unended_laws.proofs.Prelude.table
use Rattle.unended_laws.proofs.Prelude.task
use Rattle.unended_laws.proofs.LastReads.{reads-on}
use Rattle.unended_laws.proofs.Applying.{KeepsShut, Spares, closed-shut, request-made, run-goes, run-on, run-shut, started-applies, started-goes}

-- ---- whom a stage alters

-- the better one that comes to the end of the chosen one's log
abbrev IsLevelled : Stage → ℕ → Type 0
IsLevelled s n = (p : ServerNo) × (q : ServerNo) × (s ≡ stage.Level p q) × (n ≡ q.0)

abbrev pub Altered : Stage → Op → Type 0
Altered s o = AltersOnly (altered_by s) (deed_of o)

-- how often a server waits: a task is to give it its place, or it is drained
abbrev pub waiting : Recovery → ℕ → ℕ
waiting x n = times n (of_queue x.failed x.queue) + times n (stopped_nos x.drained)

-- a task gives a server its position at most as often as all tasks do
placed-at-most : (n : ℕ) (f : ServerNo) (ts : List Task) (k : ℕ) → times n (of_queue f ts) ≤ k → All (λ t. times n (of_task f t) ≤ k) ts
placed-at-most n f [] k h = All-nil (λ (t : Task). times n (of_task f t) ≤ k)
placed-at-most n f (t ∷ ts) k h =
    let e = times-append n (of_task f t) (of_queue f ts) in
    All-cons (λ (y : Task). times n (of_task f y) ≤ k) t ts (omega (arith, e, h)) (placed-at-most n f ts k (omega (arith, e, h)))

-- a master that is to give up its place waits for that
pub old-waits : (x : Recovery) → Contains x.queue task.Yielding → 0 < waiting x x.failed.0
old-waits x has =
    let least : times x.failed.0 (x.failed ∷ []) ≤ times x.failed.0 (of_queue x.failed x.queue) =
    All-contains (λ (t : Task). times x.failed.0 (of_task x.failed t) ≤ times x.failed.0 (of_queue x.failed x.queue)) x.queue task.Yielding (placed-at-most x.failed.0 x.failed x.queue (times x.failed.0 (of_queue x.failed x.queue)) (omega arith)) has in
    let one = self-times x.failed [] in
    omega (arith, least, one)

-- a dead master's recovery is no takeover
pub master-not : (u : Purpose) → is_master u ≡ true → is_takeover u ≡ true → ⊥
master-not (purpose.Takeover d) h t = false≢true h
master-not purpose.Regroup h t = false≢true t
master-not _ h t = false≢true t

module _ (w : World) (x : Recovery) where
  -- a server that is to go some way, that is drained, or that is a follower
  module _ (s : Stage) (c : CoversAt w x s) (n : ℕ) (f : 0 < waiting x n + times n (follower_nos x.outcome.followers)) where
    pub unplaced : times n (of_stage s) ≡ 0
    unplaced = let e = c.once n in let most = c.replicas.distinct n in omega (arith, e, most, f)

    pub unlost : times n (lost_nos x.outcome.lost) ≡ 0
    unlost = let e = c.once n in let most = c.replicas.distinct n in omega (arith, e, most, f)

    unled : (p : ServerNo) → crowns x.purpose ≡ true → x.outcome.promoted ≡ Some p → times n (p ∷ []) ≡ 0
    unled p crowned is =
        let same : leader x.purpose x.outcome.promoted ≡ p ∷ [] = crowned-leader x.purpose x.outcome.promoted crowned ∙ ap listed is in
        let l : times n (leader x.purpose x.outcome.promoted) ≡ times n (p ∷ []) = ap (times n) same in
        let e = c.once n in
        let most = c.replicas.distinct n in
        omega (arith, e, most, f, l)

    -- the designated one
    ungiven : (m d : ServerNo) → IsGiving x m d → is_late s ≡ false → times n (d ∷ []) ≡ 0
    ungiven m d g early = unled d (takeover-crowns x.purpose g.takeover) (go c.leads)
      where
        go : Leads x s → x.outcome.promoted ≡ Some d
        go (inl e) = e ∙ g.chosen
        go (inr l) = absurd (false≢true (sym early ∙ l.0))

    none : (k : ℕ) → k ≡ 0 → 0 < k → IsLevelled s n
    none k z h = absurd (omega (arith, z, h))

    two : (a b : ℕ) → a ≡ 0 → b ≡ 0 → 0 < a + b → IsLevelled s n
    two a b y z h = absurd (omega (arith, y, z, h))

  -- one of them that a stage alters is being levelled
  altered-levels : (s : Stage) → CoversAt w x s → (n : ℕ) → 0 < waiting x n + times n (follower_nos x.outcome.followers) → 0 < times n (altered_by s) → IsLevelled s n
  altered-levels (stage.Drain k) c n f h = none (stage.Drain k) c n f (times n (k ∷ [])) (unplaced (stage.Drain k) c n f) h
  altered-levels (stage.Move k by) c n f h = none (stage.Move k by) c n f (times n (k ∷ [])) (unplaced (stage.Move k by) c n f) h
  altered-levels (stage.Trail k b) c n f h = none (stage.Trail k b) c n f (times n (k ∷ [])) (unplaced (stage.Trail k b) c n f) h
  altered-levels (stage.Return p q) c n f h = none (stage.Return p q) c n f (times n (q ∷ [])) (unplaced (stage.Return p q) c n f) h
  altered-levels (stage.Switch m d) c n f h = none (stage.Switch m d) c n f (times n (m ∷ [])) (unplaced (stage.Switch m d) c n f) h
  altered-levels (stage.Expel k) c n f h = go (k.0 == n) refl
    where
      lost-none : times n (lost_nos x.outcome.lost) ≡ 0
      lost-none = unlost (stage.Expel k) c n f

      go : (b : Bool) → (k.0 == n) ≡ b → IsLevelled (stage.Expel k) n
      go true e =
          let some : 0 < times n (lost_nos x.outcome.lost) = subst (λ (i : ℕ). 0 < times i (lost_nos x.outcome.lost)) (eqb-true k.0 n e) c.stage.0 in
          absurd (omega (arith, some, lost-none))
      go false e = none (stage.Expel k) c n f (times n (k ∷ [])) (ap (λ b. cond b 1 0 + 0) e) h
  altered-levels (stage.Swap p q) c n f h =
      none (stage.Swap p q) c n f (times n (p ∷ [])) (unled (stage.Swap p q) c n f p (master-crowns x.purpose c.stage.0) c.stage.1.promoted) h
  altered-levels (stage.Crown k) c n f h =
      none (stage.Crown k) c n f (times n (k ∷ [])) (unled (stage.Crown k) c n f k (master-crowns x.purpose c.stage.0) c.stage.1.promoted) h
  altered-levels (stage.Shut m d) c n f h = none (stage.Shut m d) c n f (times n (d ∷ [])) (ungiven (stage.Shut m d) c n f m d c.stage refl) h
  altered-levels (stage.Gather m d) c n f h = none (stage.Gather m d) c n f (times n (d ∷ [])) (ungiven (stage.Gather m d) c n f m d c.stage refl) h
  altered-levels (stage.Yield m d) c n f h =
      two (stage.Yield m d) c n f (cond (m.0 == n) 1 0) (times n (d ∷ [])) (only (cond (m.0 == n) 1 0) (unplaced (stage.Yield m d) c n f)) (ungiven (stage.Yield m d) c n f m d c.stage.0 refl) h
    where
      only : (a : ℕ) → a + 0 ≡ 0 → a ≡ 0
      only a e = omega (arith, e)
  altered-levels (stage.Level p q) c n f h = go (q.0 == n) refl
    where
      off : times n (p ∷ []) ≡ 0
      off = unled (stage.Level p q) c n f p (master-crowns x.purpose c.stage.0) c.stage.1.promoted

      only : (a b : ℕ) → a + 0 ≡ 0 → b ≡ 0 → 0 < a + (b + 0) → IsLevelled (stage.Level p q) n
      only a b y z g = absurd (omega (arith, y, z, g))

      go : (b : Bool) → (q.0 == n) ≡ b → IsLevelled (stage.Level p q) n
      go true e = (p, q, refl, sym (eqb-true q.0 n e))
      go false e = only (cond (p.0 == n) 1 0) (cond (q.0 == n) 1 0) off (ap (λ b. cond b 1 0) e) h
  altered-levels s c n f h = let bad : 0 < 0 = h in absurd (omega (arith, bad))

  -- nobody waits while one is levelled
  pub unaltered : (s : Stage) → CoversAt w x s → (n : ℕ) → 0 < waiting x n → times n (altered_by s) ≡ 0
  unaltered s c n f = go (times n (altered_by s)) refl
    where
      empty : (p q : ServerNo) → s ≡ stage.Level p q → waiting x n ≡ 0
      empty p q at =
          let last = (subst (λ (k : Stage). CoversAt w x k) at c).stage.1 in
          let left = ap (λ (ts : List Task). times n (of_queue x.failed ts)) last.queue in
          let none = ap (λ (ds : List Stopped). times n (stopped_nos ds)) last.drained in
          omega (arith, left, none)

      go : (k : ℕ) → times n (altered_by s) ≡ k → times n (altered_by s) ≡ 0
      go zero e = e
      go (suc k) e =
          let l = altered-levels s c n (omega (arith, f)) (subst (λ (i : ℕ). 0 < i) (sym e) (omega arith)) in
          let z = empty l.0 l.1 l.2 in absurd (omega (arith, f, z))

  -- ---- what stages say

  -- who is to follow is below its new source
  made-under : (s : Stage) → CoversAt w x s → (n p : ServerNo) → (info s).made ≡ table.Follows n p → IsUnder w n.0 p.0
  made-under (stage.Join k q) c n p e =
      subst (λ (y : ServerNo × ServerNo). IsUnder w y.0.0 y.1.0) (ap (two-of k q) e) c.stage.1
    where
      two-of : ServerNo → ServerNo → table.Made → ServerNo × ServerNo
      two-of i y (table.Follows a b) = (a, b)
      two-of i y _ = (i, y)
  made-under (stage.Resume k q) c n p e =
      subst (λ (y : ServerNo × ServerNo). IsUnder w y.0.0 y.1.0) (ap (two-of q k) e) c.stage.2
    where
      two-of : ServerNo → ServerNo → table.Made → ServerNo × ServerNo
      two-of i y (table.Follows a b) = (a, b)
      two-of i y _ = (i, y)
  made-under s c n p e = cc

  -- a master below the designated one is the takeover's
  switches-old : (s : Stage) → CoversAt w x s → (m d : ServerNo) → moved s ≡ stage.Switched m d → (is_takeover x.purpose ≡ true) × (m ≡ x.failed)
  switches-old (stage.Switch k e) c m d h = (c.stage.0.takeover, sym (c.stage.0.failed ∙ ap (master-of k) h))
    where
      master-of : ServerNo → Stage → ServerNo
      master-of i (stage.Switched a b) = a
      master-of i _ = i
  switches-old (stage.Switched k e) c m d h = (c.stage.0.takeover, sym (c.stage.0.failed ∙ ap (master-of k) h))
    where
      master-of : ServerNo → Stage → ServerNo
      master-of i (stage.Switched a b) = a
      master-of i _ = i
  switches-old s c m d h = cc

  -- who is opened is promoted in a master's place
  opens-crowned : (s : Stage) → CoversAt w x s → (n : ServerNo) → moved s ≡ stage.Opened n → (crowns x.purpose ≡ true) × (x.outcome.promoted ≡ Some n)
  opens-crowned (stage.Open k) c n h = (c.stage.0.crowns, c.stage.0.promoted.promoted ∙ ap opened h)
    where
      opened : Stage → Option ServerNo
      opened (stage.Opened i) = Some i
      opened _ = None
  opens-crowned (stage.Opened k) c n h = (c.stage.0.crowns, c.stage.0.promoted.promoted ∙ ap opened h)
    where
      opened : Stage → Option ServerNo
      opened (stage.Opened i) = Some i
      opened _ = None
  opens-crowned s c n h = cc

  -- the old master isn't the designated one
  pub not-chosen : (s : Stage) → CoversAt w x s → is_takeover x.purpose ≡ true → (n : ServerNo) → x.chosen ≡ Some n → n.0 ≡ x.failed.0 → ⊥
  not-chosen s c t n is same = go x.purpose refl t
    where
      apart : (d : ServerNo) → times d.0 (x.failed ∷ x.replicas) ≤ 1 → times d.0 x.replicas ≡ 1 → d.0 ≡ x.failed.0 → ⊥
      apart d most once e =
          let here : cond (x.failed.0 == d.0) 1 0 ≡ 1 = ap (λ b. cond b 1 0) (eq-eqb x.failed.0 d.0 (sym e)) in
          over (cond (x.failed.0 == d.0) 1 0) (times d.0 x.replicas) most here once
        where
          over : (a b : ℕ) → a + b ≤ 1 → a ≡ 1 → b ≡ 1 → ⊥
          over a b m y z = omega (arith, m, y, z)

      go : (u : Purpose) → x.purpose ≡ u → is_takeover u ≡ true → ⊥
      go (purpose.Takeover d) at h =
          let named : x.chosen ≡ Some d = subst (λ (u : Purpose). IfSome (first_source u) (λ k. x.chosen ≡ Some k)) at c.named in
          let it : n ≡ d = same_Some n d (sym is ∙ named) in
          let rs = subst (λ (u : Purpose). AreReplicas u x.failed x.replicas) at c.replicas in
          apart d (rs.distinct d.0) rs.placed (sym (ap (λ (k : ServerNo). k.0) it) ∙ same)
      go purpose.Regroup at h = false≢true h
      go _ at h = false≢true h

  -- nor promoted
  pub not-promoted : (s : Stage) → CoversAt w x s → is_takeover x.purpose ≡ true → (n : ServerNo) → x.outcome.promoted ≡ Some n → n.0 ≡ x.failed.0 → ⊥
  not-promoted s c t n is same = go c.leads
    where
      go : Leads x s → ⊥
      go (inl e) = not-chosen s c t n (sym e ∙ is) same
      go (inr l) = master-not x.purpose l.1.master t

-- ---- what is left of a stage

-- each of a list of operations
module _ (s : Stage) where
  abbrev pub Each : List Op → Type 0
  Each [] = Unit {0}
  Each (o ∷ os) = Altered s o × Each os

  pub each : (os : List Op) → Each os → All (Altered s) os
  each [] h = All-nil (Altered s)
  each (o ∷ os) h = All-cons (Altered s) o os h.0 (each os h.1)

-- a replica that comes to the end of its master's log
pub gather-alters : (s : Stage) (m d : ServerNo) → 0 < times d.0 (altered_by s) → All (Altered s) (gather m d)
gather-alters s m d h = each s (gather m d) (tt, (tt, (h, (tt, (inr h, (tt, tt))))))

-- what is left once the operation is done that ends a stage
moved-alters : (s : Stage) (o : Op) (rest : List Op) → o ∷ rest ≡ tail_of s → All (Altered (moved s)) rest
moved-alters s o rest t = go s t
  where
    none : (k : Stage) → All (Altered k) []
    none k = All-nil (Altered k)

    -- what comes after the first
    left : (k : Stage) (y : Op) (ys : List Op) → o ∷ rest ≡ y ∷ ys → All (Altered k) ys → All (Altered k) rest
    left k y ys e h = subst (λ (zs : List Op). All (Altered k) zs) (sym (same-tail o y rest ys e)) h

    one : (k : Stage) (y : Op) → Altered k y → All (Altered k) (y ∷ [])
    one k y h = All-cons (Altered k) y [] h (none k)

    go : (k : Stage) → o ∷ rest ≡ tail_of k → All (Altered (moved k)) rest
    go (stage.Drain n) e = left (stage.Judged n) (op.Status n None) [] e (none (stage.Judged n))
    go (stage.Look n b) e = left (stage.Looked n b) (op.Status n None) [] e (none (stage.Looked n b))
    go (stage.Trail n b) e = left (stage.Halted n b) (op.Status n None) [] e (none (stage.Halted n b))
    go (stage.Move n by) e = left (stage.Join n (target by)) (move by n) (op.Start n ∷ []) e (one (stage.Join n (target by)) (op.Start n) (inl tt))
    go (stage.Expel n) e = left (stage.Expelled n) (op.Detach n) [] e (none (stage.Expelled n))
    go (stage.Level p q) e =
        left (stage.Swap p q) (op.Reset q) (op.Cross cross.About p q ∷ []) e (one (stage.Swap p q) (op.Cross cross.About p q) (self-times p []))
    go (stage.Swap p q) e = left (stage.Swapped p q) (op.Cross cross.About p q) [] e (none (stage.Swapped p q))
    go (stage.Return p q) e = left (stage.Resume p q) (op.Cross cross.Back q p) (op.Start q ∷ []) e (one (stage.Resume p q) (op.Start q) (inl tt))
    go (stage.Crown n) e = left (stage.Open n) (op.Reset n) (op.ReadOnly n false ∷ []) e (one (stage.Open n) (op.ReadOnly n false) (inl tt))
    go (stage.Open n) e = left (stage.Opened n) (op.ReadOnly n false) [] e (none (stage.Opened n))
    go (stage.Shut m d) e = left (stage.Gather m d) (op.ReadOnly m true) (gather m d) e (gather-alters (stage.Gather m d) m d (self-times d []))
    go (stage.Yield m d) e =
        left (stage.Switch m d) (op.Reset d) (op.Cross cross.About m d ∷ []) e (one (stage.Switch m d) (op.Cross cross.About m d) (self-times m []))
    go (stage.Switch m d) e = left (stage.Switched m d) (op.Cross cross.About m d) [] e (none (stage.Switched m d))
    go (stage.Close lines) e = left stage.Idle (op.Finish lines) [] e (none stage.Idle)
    go _ e = cc

moved-open : (s : Stage) (lines : List Line) → moved s ≡ stage.Close lines → ⊥
moved-open (stage.Move n by) lines h = cc
moved-open s lines h = cc

moved-unshut : (s : Stage) (m d : ServerNo) → moved s ≡ stage.Shut m d → ⊥
moved-unshut (stage.Move n by) m d h = cc
moved-unshut s m d h = cc

-- ---- between an operation and the end of the stage

-- Each follower is kept up, or is being levelled. Who follows now goes on. Who is below the designated one is the
-- takeover's master, and who is opened is promoted in a master's place.
pub record Steps (P : Fact → Bool) (v : World) (z : Recovery) : Type 0 where
  pub alters : All (Altered z.stage) z.core.ops
  pub followers : All (λ y. RunsOn P v z y.no ⊎ ((p : ServerNo) × (z.stage ≡ stage.Level p y.no))) z.outcome.followers
  pub joined : (n p : ServerNo) → (info z.stage).made ≡ table.Follows n p → z.core.ops ≡ [] → IsApplying v n.0
  pub old : (m d : ServerNo) → z.stage ≡ stage.Switched m d → (is_takeover z.purpose ≡ true) × (m ≡ z.failed)
  pub crowned : (n : ServerNo) → z.stage ≡ stage.Opened n → (crowns z.purpose ≡ true) × (z.outcome.promoted ≡ Some n)
  pub rejoins : (p : ServerNo) (lines : List Line) → z.purpose ≡ purpose.Regroup → z.stage ≡ stage.Close lines → z.chosen ≡ Some p
      → (z.core.ops ≡ op.Start p ∷ op.Finish lines ∷ []) ⊎ GoesOn v p.0
  pub first : (m d : ServerNo) → z.stage ≡ stage.Shut m d → (z.core.ops ≡ op.ReadOnly m true ∷ gather m d) ⊎ (z.core.ops ≡ [])
  pub shut : is_takeover z.purpose ≡ true → IsOpenYet z.stage ⊎ IsShut v z.failed.0
  pub reads : (n : ServerNo) (lines : List Line) → crowns z.purpose ≡ true → z.stage ≡ stage.Close lines → z.outcome.promoted ≡ Some n → ReadsLast z n lines

-- each attachment of another server
attach-spares : (n k : ℕ) → (k ≡ n → ⊥) → (e : Exchange) → IsAttachment k e → Spares n e
attach-spares n k apart (Attach i expect to at) same = λ here. apart (sym same ∙ here)
attach-spares n k apart (AttachAuto i observed to) same = λ here. apart (sym same ∙ here)
attach-spares n k apart e bad = absurd bad

-- an operation that alters others
module _ (ns : List ServerNo) (n : ℕ) (out : 0 < times n ns → ⊥) where
  not-here : (k : ServerNo) → 0 < times k.0 ns → k.0 ≡ n → ⊥
  not-here k h same = out (subst (λ (i : ℕ). 0 < times i ns) same h)

  makes-spares : (d : Deed) → AltersOnly ns d → Makes (Spares n) d
  makes-spares (deed.Request k a) (inl g) = inr g
  makes-spares (deed.Request k a) (inr h) = inl (not-here k h)
  makes-spares (deed.Until k to) h = λ c. inl (not-here k h)
  makes-spares (deed.Cross c a b) h = attach-spares n a.0 (not-here a h)
  makes-spares (deed.Same k) h = attach-spares n k.0 (not-here k h)
  makes-spares (deed.Auto k m) h = attach-spares n k.0 (not-here k h)
  makes-spares (deed.CrossMatch k m) h = attach-spares n k.0 (not-here k h)
  makes-spares _ h = tt

module _ (w : World) (read : ℕ) (now : Moment) (P : Fact → Bool) (x : Recovery) (o : Op) (rest : List Op) (is : x.core.ops ≡ o ∷ rest) (c : CoversAt w x x.stage) (fits : Fits x.stage (o ∷ rest))
    (speaks : SpeaksWith x) (up : UpSoFar P w x) (ob : Option Observation) (es : List Exchange) (j : Job) (goes : by_deed w read now x.core rest (deed_of o) ≡ attempt.Goes ob es j) where
  abbrev w' : World
  w' = run w es

  abbrev later : Recovery
  later = record x { core = j }

  now-alters : All (Altered x.stage) (o ∷ rest)
  now-alters = subst (λ (ops : List Op). All (Altered x.stage) ops) is up.alters

  pub spared : (n : ℕ) → (0 < times n (altered_by x.stage) → ⊥) → All (Spares n) es
  spared n out =
      made-well (Spares n) w x.core rest read now (deed_of o) (makes-spares (altered_by x.stage) n out (deed_of o) (All-head (Altered x.stage) o rest now-alters)) ob es j goes

  -- an operation that is this one
  so-does : (y : Op) → o ≡ y → by_deed w read now x.core rest (deed_of y) ≡ attempt.Goes ob es j
  so-does y same = subst (λ (z : Op). by_deed w read now x.core rest (deed_of z) ≡ attempt.Goes ob es j) same goes

  starts-on : (n : ServerNo) (k : ℕ) → IsUnder w n.0 k → o ≡ op.Start n → IsApplying w' n.0
  starts-on n k under same =
      let m = request-made w read now x.core rest n asking.Start ob es j (so-does (op.Start n) same) in
      subst (λ (xs : List Exchange). IsApplying (run w xs) n.0) (sym m.0) (started-applies w n.0 k under m.1)

  starts-goes : (n : ServerNo) → o ≡ op.Start n → GoesOn w' n.0
  starts-goes n same =
      let m = request-made w read now x.core rest n asking.Start ob es j (so-does (op.Start n) same) in
      subst (λ (xs : List Exchange). GoesOn (run w xs) n.0) (sym m.0) (started-goes w n.0 m.1)

  closes-shut : (n : ServerNo) → o ≡ op.ReadOnly n true → IsShut w' n.0
  closes-shut n same =
      let m = request-made w read now x.core rest n (asking.SetReadOnly true) ob es j (so-does (op.ReadOnly n true) same) in
      subst (λ (xs : List Exchange). IsShut (run w xs) n.0) (sym m.0) (closed-shut w n.0 m.1)

  -- ---- the old master

  keeps-shut : is_takeover x.purpose ≡ true → (e : Exchange) → MayMake w x e → KeepsShut x.failed.0 e
  keeps-shut t (Request n (asking.SetReadOnly true)) h = inr refl
  keeps-shut t (Request n (asking.SetReadOnly false)) h = inl (λ same. not-promoted w x x.stage c t (record { 0 = n }) h.1 same)
  keeps-shut t (Request n asking.Detach) h = inr tt
  keeps-shut t (Request n asking.Reset) h = inr tt
  keeps-shut t (Request n asking.Reattach) h = absurd h
  keeps-shut t (Request n asking.Start) h = inr tt
  keeps-shut t (Request n (asking.Stop which)) h = inr tt
  keeps-shut t (Request n (asking.StartUntil to)) h = inr tt
  keeps-shut t (Attach n expect to at) h = tt
  keeps-shut t (AttachAuto n observed to) h = tt
  keeps-shut t e h = absurd h

  shut-on : is_takeover x.purpose ≡ true → IsShut w x.failed.0 → IsShut w' x.failed.0
  shut-on t h =
      run-shut w es x.failed.0
      (All-weaker (MayMake w x) (KeepsShut x.failed.0) (keeps-shut t) es (made-well (MayMake w x) w x.core rest read now (deed_of o) (op-does w x o rest fits c) ob es j goes)) h

  -- ---- the followers

  abbrev IsNow : ServerNo → Type 0
  IsNow n = RunsOn P w' x n ⊎ ((p : ServerNo) × (x.stage ≡ stage.Level p n))

  now-up : (y : Follower) → 0 < times y.no.0 (follower_nos x.outcome.followers) → IsUnder w y.no.0 y.source.0 → IsKeptUp P w x y.no → IsNow y.no
  now-up y f under (inl (inl h)) = go (times y.no.0 (altered_by x.stage)) refl
    where
      off : (k : ℕ) → k ≡ 0 → 0 < k → ⊥
      off k z g = omega (arith, z, g)

      go : (k : ℕ) → times y.no.0 (altered_by x.stage) ≡ k → IsNow y.no
      go zero e = inl (inl (run-on w es y.no.0 (spared y.no.0 (off (times y.no.0 (altered_by x.stage)) e)) h))
      go (suc k) e =
          let l = altered-levels w x x.stage c y.no.0 (omega (arith, f)) (subst (λ (i : ℕ). 0 < i) (sym e) (omega arith)) in
          inr (l.0, l.2 ∙ ap (λ (i : ServerNo). stage.Level l.0 i) (same-no l.1 y.no (sym l.3)))
  now-up y f under (inl (inr h)) = inl (inr h)
  now-up y f under (inr (inl levels)) = inr levels
  now-up y f under (inr (inr (inl free))) = inl (inl (starts-on y.no y.source.0 under (same-head o (op.Start y.no) rest [] (sym is ∙ free.3))))
  now-up y f under (inr (inr (inr yet))) = inl (inl (starts-on y.no y.source.0 under (same-head o (op.Start y.no) rest (op.ReadOnly yet.0 false ∷ []) (sym is ∙ yet.2))))

  now-all : All (λ y. IsNow y.no) x.outcome.followers
  now-all = λ i d lt. now-up (get_or x.outcome.followers i d) (self-all (λ (y : Follower). y.no) x.outcome.followers i d lt) (c.attached i d lt) (up.followers i d lt)

  busy : x.core.ops ≡ [] → ⊥
  busy none = let bad : o ∷ rest ≡ [] = sym is ∙ none in cc

  -- ---- the stage goes on

  module _ (left : j.ops ≡ rest) where
    alters-left : (s : Stage) (k : Job) → k ≡ j → All (Altered s) rest → All (Altered s) k.ops
    alters-left s k same all = subst (λ (ops : List Op). All (Altered s) ops) (sym (ap (λ (y : Job). y.ops) same ∙ left)) all

    goes-rejoined : (p : ServerNo) (lines : List Line) → x.purpose ≡ purpose.Regroup → x.stage ≡ stage.Close lines → x.chosen ≡ Some p → GoesOn w' p.0
    goes-rejoined p lines regroup at chosen = go (up.rejoins p lines regroup at chosen)
      where
        off : 0 < times p.0 (altered_by x.stage) → ⊥
        off h = let bad : 0 < 0 = subst (λ (s : Stage). 0 < times p.0 (altered_by s)) at h in omega (arith, bad)

        go : (x.core.ops ≡ op.Start p ∷ op.Finish lines ∷ []) ⊎ GoesOn w p.0 → GoesOn w' p.0
        go (inl e) = starts-goes p (same-head o (op.Start p) rest (op.Finish lines ∷ []) (sym is ∙ e))
        go (inr g) = run-goes w es p.0 (spared p.0 off) g

    same-steps : ends x.stage (deed_of o) ≡ false → Steps P w' later
    same-steps still = record {
      alters = alters-left x.stage j refl (All-tail (Altered x.stage) o rest now-alters);
      followers = now-all;
      joined = λ n p made none. by-starts n p made (speaks.starts n p made);
      old = λ m d at. switches-old w x x.stage c m d (ap moved at);
      crowned = λ n at. opens-crowned w x x.stage c n (ap moved at);
      rejoins = λ p lines regroup at chosen. inr (goes-rejoined p lines regroup at chosen);
      first = λ m d at. unfirst m d (up.first m d at);
      shut = λ t. go t (up.shut t);
      reads = λ n lines crowned at promoted.
          (reads-on w read now x o rest is c ob es j goes n lines crowned at promoted (λ t. not-promoted w x x.stage c t n promoted) (up.reads n lines crowned at promoted)).0;
    }
      where
        by-starts : (n p : ServerNo) → (info x.stage).made ≡ table.Follows n p → (x.core.ops ≡ op.Start n ∷ []) ⊎ (x.core.ops ≡ []) → IsApplying w' n.0
        by-starts n p made (inl e) = starts-on n p.0 (made-under w x x.stage c n p made) (same-head o (op.Start n) rest [] (sym is ∙ e))
        by-starts n p made (inr e) = absurd (busy e)

        unfirst : (m d : ServerNo) → (x.core.ops ≡ op.ReadOnly m true ∷ gather m d) ⊎ (x.core.ops ≡ []) → (later.core.ops ≡ op.ReadOnly m true ∷ gather m d) ⊎ (later.core.ops ≡ [])
        unfirst m d (inl e) = absurd (false≢true (sym still ∙ ap (λ (y : Op). ends x.stage (deed_of y)) (same-head o (op.ReadOnly m true) rest (gather m d) (sym is ∙ e))))
        unfirst m d (inr e) = absurd (busy e)

        go : is_takeover x.purpose ≡ true → IsOpenYet x.stage ⊎ IsShut w x.failed.0 → IsOpenYet x.stage ⊎ IsShut w' x.failed.0
        go t (inl yet) = inl yet
        go t (inr h) = inr (shut-on t h)

    -- ---- the next stage begins

    module _ (t : o ∷ rest ≡ tail_of x.stage) where
      -- the master is closed
      closed-now : (m d : ServerNo) → x.stage ≡ stage.Shut m d → IsShut w' x.failed.0
      closed-now m d at =
          let giving = subst (λ (s : Stage). CoversAt w x s) at c in
          let tail : o ∷ rest ≡ op.ReadOnly m true ∷ gather m d = t ∙ ap tail_of at in
          subst (λ (i : ServerNo). IsShut w' i.0) (sym giving.stage.failed) (closes-shut m (same-head o (op.ReadOnly m true) rest (gather m d) tail))

      shut-then : is_takeover x.purpose ≡ true → IsOpenYet x.stage ⊎ IsShut w x.failed.0 → IsShut w' x.failed.0
      shut-then h (inl (m, d, inl at)) = let bad : o ∷ rest ≡ [] = t ∙ ap tail_of at in cc
      shut-then h (inl (m, d, inr at)) = closed-now m d at
      shut-then h (inr s) = shut-on h s

      leaves : (p n : ServerNo) → x.stage ≡ stage.Level p n → leaver (moved x.stage) ≡ Some n
      leaves p n at = ap (λ (s : Stage). leaver (moved s)) at

      abbrev next : Option ServerNo → Recovery
      next q = record (follows_no_more later q) { stage = moved x.stage }

      all-next : (q : Option ServerNo) → leaver (moved x.stage) ≡ q → All (λ y. RunsOn P w' x y.no) (next q).outcome.followers
      all-next None e = All-weaker (λ (y : Follower). IsNow y.no) (λ (y : Follower). RunsOn P w' x y.no) (λ y h. stay y h) x.outcome.followers now-all
        where
          stay : (y : Follower) → IsNow y.no → RunsOn P w' x y.no
          stay y (inl h) = h
          stay y (inr (p, at)) = let bad : None ≡ Some y.no = sym e ∙ leaves p y.no at in cc
      all-next (Some m) e =
          λ i d lt. stay (get_or kept i d) (filter_passes (λ (y : Follower). not (y.no.0 == m.0)) x.outcome.followers i d lt) (All-filter (λ (y : Follower). not (y.no.0 == m.0)) (λ (y : Follower). IsNow y.no) x.outcome.followers now-all i d lt)
        where
          kept : List Follower
          kept = without_follower x.outcome.followers m

          stay : (y : Follower) → not (y.no.0 == m.0) ≡ true → IsNow y.no → RunsOn P w' x y.no
          stay y passes (inl h) = h
          stay y passes (inr (p, at)) =
              let same : y.no ≡ m = same_Some y.no m (sym (leaves p y.no at) ∙ e) in
              absurd (false≢true (sym (ap not (eq-eqb y.no.0 m.0 (ap (λ (i : ServerNo). i.0) same))) ∙ passes))

      next-joined : (n p : ServerNo) → (info (moved x.stage)).made ≡ table.Follows n p → j.ops ≡ [] → ⊥
      next-joined n p made none = let bad : op.Start n ∷ [] ≡ [] = sym (left ∙ moved-starts x.stage o rest n p t made) ∙ none in cc

      next-steps : (q : Option ServerNo) → leaver (moved x.stage) ≡ q → Steps P w' (next q)
      next-steps None e = record {
        alters = alters-left (moved x.stage) j refl (moved-alters x.stage o rest t);
        followers = λ i d lt. inl (all-next None e i d lt);
        joined = λ n p made none. absurd (next-joined n p made none);
        old = λ m d at. switches-old w x x.stage c m d at;
        crowned = λ n at. opens-crowned w x x.stage c n at;
        rejoins = λ p lines regroup at chosen. absurd (moved-open x.stage lines at);
        first = λ m d at. absurd (moved-unshut x.stage m d at);
        shut = λ h. inr (shut-then h (up.shut h));
        reads = λ n lines crowned at promoted. absurd (moved-open x.stage lines at);
      }
      next-steps (Some k) e = record {
        alters = alters-left (moved x.stage) j refl (moved-alters x.stage o rest t);
        followers = λ i d lt. inl (all-next (Some k) e i d lt);
        joined = λ n p made none. absurd (next-joined n p made none);
        old = λ m d at. switches-old w x x.stage c m d at;
        crowned = λ n at. opens-crowned w x x.stage c n at;
        rejoins = λ p lines regroup at chosen. absurd (moved-open x.stage lines at);
        first = λ m d at. absurd (moved-unshut x.stage m d at);
        shut = λ h. inr (shut-then h (up.shut h));
        reads = λ n lines crowned at promoted. absurd (moved-open x.stage lines at);
      }

    pub stepped-up : Steps P w' (stepped later o)
    stepped-up = go (fits-step x.stage o rest fits)
      where
        go : ((ends x.stage (deed_of o) ≡ false) × Fits x.stage rest) ⊎ (o ∷ rest ≡ tail_of x.stage) → Steps P w' (stepped later o)
        go (inl p) = subst (λ (b : Bool). Steps P w' (cond b (entered later (moved x.stage)) later)) (sym p.0) (same-steps p.0)
        go (inr t) =
            subst (λ (b : Bool). Steps P w' (cond b (entered later (moved x.stage)) later)) (sym (moved-fits x.stage o rest t).0) (next-steps t (leaver (moved x.stage)) refl)
