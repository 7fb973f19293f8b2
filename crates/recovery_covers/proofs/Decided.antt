-- What is decided at the start of a turn covers the replicas as far as before, or nobody leads.
use Rattle.std.proofs.Common.{◌≡◌, ℕ, ◌+◌, ◌<◌, Bool, true, false, cond, List, [], ◌∷◌, ◌++◌, map, refl, sym, ◌∙◌, ap, subst, Option, Some, None, ◌⊎◌, inl, inr, arith, ◌==◌, IfSome, filter, find, option_map}
use Rattle.recovery_covers.proofs.Prelude.{All, All-append, All-better, All-cons, All-head, All-map, All-nil, All-tail, Awaits, BookState, Bridge}
use Rattle.recovery_covers.proofs.Prelude.{CoversAt, CoversSoFar, Decision, IsNext, IsSourced, Job, Leads, LostReplica, MayDecide, Moment, OldFollows}
use Rattle.recovery_covers.proofs.Prelude.{Op, Purpose, Recovery, ServerNo, Stage, Stands, Task, World, and_parts, better_of, choose, chooses}
use Rattle.recovery_covers.proofs.Prelude.{closing, crown, crowns, decided_by, decides, decides-idle, eqb-true, expels, false≢true, filter_passes}
use Rattle.recovery_covers.proofs.Prelude.{first_source, follower_nos, follows_lead, ground_of, in_order, is_intermediate, is_master, is_nil}
use Rattle.recovery_covers.proofs.Prelude.{is_takeover, level, lost_nos, of_queue, of_stage, of_task, rejoin, releases, result_lines, sort, times, why_of}
use Rattle.recovery_covers.proofs.Prelude.{working, yield}
use Rattle.recovery_covers.proofs.Prelude.by
use Rattle.recovery_covers.proofs.Prelude.op
use Rattle.recovery_covers.proofs.Prelude.purpose
use Rattle.recovery_covers.proofs.Prelude.stage
use Rattle.recovery_covers.proofs.Prelude.task
use Rattle.recovery_covers.proofs.Prelude.way
use Rattle.recovery_covers.proofs.Times.{one, times-append, self-all}
use Rattle.recovery_covers.proofs.Covering.{queue-as}
use Rattle.recovery_covers.proofs.Chosen.{unnamed, unnamed-apart, chosen-covers}
use Rattle.recovery_covers.proofs.Handed.{ops_in, some-op, way-reads, handed-over, hands-covers, leaves-covers}

-- without an operation, a task and a new source
pub record IsStuck (r : Recovery) : Type 0 where
  pub ops : r.core.ops ≡ []
  pub queue : r.queue ≡ []
  pub chosen : r.chosen ≡ None
  pub apart : is_intermediate r.purpose ≡ false

-- ---- purposes

takeover-apart : (u : Purpose) → is_takeover u ≡ true → is_intermediate u ≡ false
takeover-apart (purpose.Intermediate s) h = absurd (false≢true h)
takeover-apart _ h = refl

-- in the recovery of an intermediate master the successor leads from the start
intermediate-named : (u : Purpose) (o : Option ServerNo) → is_intermediate u ≡ true → IfSome (first_source u) (λ n. o ≡ Some n) → (n : ServerNo) × (o ≡ Some n)
intermediate-named (purpose.Intermediate s) o h k = (s, k)
intermediate-named _ o h k = absurd (false≢true h)

-- ---- what becomes of the lost

-- those that are to be expelled, or released, hold no place
marks-none : (f : ServerNo) (t : ServerNo → Task) (n : ℕ) (ns : List ServerNo) (ts : List Task) → ((m : ServerNo) → of_task f (t m) ≡ []) → times n (of_queue f (map t ns ++ ts)) ≡ times n (of_queue f ts)
marks-none f t n [] ts each = refl
marks-none f t n (m ∷ ns) ts each = ap (λ xs. times n (xs ++ of_queue f (map t ns ++ ts))) (each m) ∙ marks-none f t n ns ts each

expel-order : (ns : List ServerNo) (ts : List Task) → in_order (map task.Expelling ns ++ ts) ≡ in_order ts
expel-order [] ts = refl
expel-order (n ∷ ns) ts = expel-order ns ts

release-order : (ns : List ServerNo) (ts : List Task) → in_order (map task.Releasing ns ++ ts) ≡ in_order ts
release-order [] ts = refl
release-order (n ∷ ns) ts = release-order ns ts

expel-choose : (ns : List ServerNo) (ts : List Task) → chooses (map task.Expelling ns ++ ts) ≡ chooses ts
expel-choose [] ts = refl
expel-choose (n ∷ ns) ts = expel-choose ns ts

release-choose : (ns : List ServerNo) (ts : List Task) → chooses (map task.Releasing ns ++ ts) ≡ chooses ts
release-choose [] ts = refl
release-choose (n ∷ ns) ts = release-choose ns ts

expel-decide : (ns : List ServerNo) (ts : List Task) → decides (map task.Expelling ns ++ ts) ≡ decides ts
expel-decide [] ts = refl
expel-decide (n ∷ ns) ts = expel-decide ns ts

release-decide : (ns : List ServerNo) (ts : List Task) → decides (map task.Releasing ns ++ ts) ≡ decides ts
release-decide [] ts = refl
release-decide (n ∷ ns) ts = release-decide ns ts

expels-none : (u : Purpose) → expels u None ≡ false
expels-none purpose.Regroup = refl
expels-none _ = refl

module _ (w : World) where
  -- a lost one that is to be expelled is lost, and has a source
  why-lost : (u : Purpose) (n : ServerNo) (xs : List LostReplica) → expels u (why_of xs n) ≡ true → All (λ l. expels u (Some l.why) ≡ true → IsSourced w l.no.0) xs → (0 < times n.0 (lost_nos xs)) × IsSourced w n.0
  why-lost u n [] h all = absurd (false≢true (sym (expels-none u) ∙ h))
  why-lost u n (l ∷ ls) h all = go (l.no.0 == n.0) refl h (λ g. why-lost u n ls g (All-tail (λ (x : LostReplica). expels u (Some x.why) ≡ true → IsSourced w x.no.0) l ls all))
    where
      go : (b : Bool) → (l.no.0 == n.0) ≡ b → expels u (option_map (λ (x : LostReplica). x.why) (cond b (Some l) (find (λ (x : LostReplica). x.no.0 == n.0) ls))) ≡ true
          → (expels u (why_of ls n) ≡ true → (0 < times n.0 (lost_nos ls)) × IsSourced w n.0) → (0 < one n.0 l.no + times n.0 (lost_nos ls)) × IsSourced w n.0
      go true e h rest = (
        let one-more : one n.0 l.no ≡ 1 = ap (λ b. cond b 1 0) e in omega (arith, one-more),
        subst (λ (m : ℕ). IsSourced w m) (eqb-true l.no.0 n.0 e) (All-head (λ (x : LostReplica). expels u (Some x.why) ≡ true → IsSourced w x.no.0) l ls all h),
      )
      go false e h rest = let r = rest h in (let more = r.0 in omega (arith, more), r.1)

  expelling-await : (r r' : Recovery) (ns : List ServerNo) → r'.outcome ≡ r.outcome → All (λ n. expels r.purpose (why_of r.outcome.lost n) ≡ true) ns
      → All (λ l. expels r.purpose (Some l.why) ≡ true → IsSourced w l.no.0) r.outcome.lost → All (Awaits w r') (map task.Expelling ns)
  expelling-await r r' [] same all sourced = All-nil (Awaits w r')
  expelling-await r r' (n ∷ ns) same all sourced =
      let one = why-lost r.purpose n r.outcome.lost (All-head (λ (m : ServerNo). expels r.purpose (why_of r.outcome.lost m) ≡ true) n ns all) sourced in
      All-cons (Awaits w r') (task.Expelling n) (map task.Expelling ns) (subst (λ o. 0 < times n.0 (lost_nos o.lost)) (sym same) one.0, one.1)
      (expelling-await r r' ns same (All-tail (λ (m : ServerNo). expels r.purpose (why_of r.outcome.lost m) ≡ true) n ns all) sourced)

  releasing-await : (r : Recovery) (ns : List ServerNo) → All (Awaits w r) (map task.Releasing ns)
  releasing-await r [] = All-nil (Awaits w r)
  releasing-await r (n ∷ ns) = All-cons (Awaits w r) (task.Releasing n) (map task.Releasing ns) tt (releasing-await r ns)

  first-on : (r r' : Recovery) (s : Stage) → Leads r stage.Idle → r'.outcome.promoted ≡ r.outcome.promoted → r'.chosen ≡ r.chosen → Leads r' s
  first-on r r' s (inl e) p ch = inl (p ∙ e ∙ sym ch)
  first-on r r' s (inr x) p ch = absurd (false≢true x.0)

  sort-covers : (r : Recovery) (ts : List Task) → CoversAt w (record r { queue = task.Sorting ∷ ts }) stage.Idle → CoversAt w (sort (record r { queue = ts })) stage.Idle
  sort-covers r ts c = record {
    replicas = c.replicas;
    once = λ n.
        let e = c.once n in
        let f = marks-none r.failed task.Expelling n out (map task.Releasing go ++ ts) (λ m. refl) in
        let g = marks-none r.failed task.Releasing n go ts (λ m. refl) in
        omega (arith, e, f, g);
    order = expel-order out (map task.Releasing go ++ ts) ∙ release-order go ts ∙ c.order;
    unchosen = λ h. c.unchosen (sym (expel-choose out (map task.Releasing go ++ ts) ∙ release-choose go ts) ∙ h);
    undrained = λ h. c.undrained (sym (expel-decide out (map task.Releasing go ++ ts) ∙ release-decide go ts) ∙ h);
    named = c.named;
    lead = c.lead;
    leads = first-on (record r { queue = task.Sorting ∷ ts }) (sort (record r { queue = ts })) stage.Idle c.leads refl refl;
    drained = c.drained;
    queue =
        All-append (Awaits w (sort (record r { queue = ts }))) (map task.Expelling out) (map task.Releasing go ++ ts)
        (expelling-await r (sort (record r { queue = ts })) out refl (filter_passes (λ (n : ServerNo). expels r.purpose (why_of r.outcome.lost n)) r.replicas) c.sourced)
        (All-append (Awaits w (sort (record r { queue = ts }))) (map task.Releasing go) ts (releasing-await (sort (record r { queue = ts })) go)
        (queue-as w (record r { queue = task.Sorting ∷ ts }) (sort (record r { queue = ts })) (record { purpose = refl; chosen = refl; lost = λ n h. h }) ts
        (All-tail (Awaits w (record r { queue = task.Sorting ∷ ts })) task.Sorting ts c.queue)));
    stage = tt;
    attached = c.attached;
    follow = c.follow;
    sourced = c.sourced;
    apart = c.apart;
  }
    where
      out : List ServerNo
      out = filter (λ (n : ServerNo). expels r.purpose (why_of r.outcome.lost n)) r.replicas

      go : List ServerNo
      go = filter (λ (n : ServerNo). releases r.purpose (why_of r.outcome.lost n)) r.replicas

  -- ---- a task that begins

  abbrev Fine : Recovery → Type 0
  Fine r = CoversSoFar w r ⊎ IsStuck r

  begins : (r : Recovery) (t : Task) (ts : List Task) (s : Stage) (core : Job) → CoversAt w (record r { queue = t ∷ ts }) stage.Idle → of_task r.failed t ≡ of_stage s
      → (chooses (t ∷ ts) ≡ chooses ts) → (decides (t ∷ ts) ≡ decides ts) → (in_order (t ∷ ts) ≡ true → in_order ts ≡ true)
      → Stands w (record r { queue = ts; stage = s; core = core }) s → CoversAt w (record r { queue = ts; stage = s; core = core }) s
  begins r t ts s core c same choice decision order stands = record {
    replicas = c.replicas;
    once = λ n.
        let e = c.once n in
        let a = times-append n (of_task r.failed t) (of_queue r.failed ts) in
        let b : times n (of_task r.failed t) ≡ times n (of_stage s) = ap (times n) same in
        omega (arith, e, a, b);
    order = order c.order;
    unchosen = λ h. c.unchosen (choice ∙ h);
    undrained = λ h. c.undrained (decision ∙ h);
    named = c.named;
    lead = c.lead;
    leads = first-on (record r { queue = t ∷ ts }) (record r { queue = ts; stage = s; core = core }) s c.leads refl refl;
    drained = c.drained;
    queue =
        queue-as w (record r { queue = t ∷ ts }) (record r { queue = ts; stage = s; core = core }) (record { purpose = refl; chosen = refl; lost = λ n h. h }) ts
        (All-tail (Awaits w (record r { queue = t ∷ ts })) t ts c.queue);
    stage = stands;
    attached = c.attached;
    follow = c.follow;
    sourced = c.sourced;
    apart = c.apart;
  }

  -- a stage that is no move begins with operations
  pub so-far : (r : Recovery) (s : Stage) (x : Op) (xs : List Op) → r.stage ≡ s → r.core.ops ≡ x ∷ xs → ((n : ServerNo) (x : Bridge) → s ≡ stage.Move n (way.Up x) → ⊥) → CoversAt w r s → CoversSoFar w r
  so-far r s x xs at ops still c = record {
    at = subst (λ (y : Stage). CoversAt w r y) (sym at) c;
    rests = λ h. let bad : x ∷ xs ≡ [] = sym ops ∙ h in cc;
    moves = λ n by h. absurd (still n by (sym at ∙ h));
  }

  -- without a stage
  pub at-rest : (r : Recovery) → r.stage ≡ stage.Idle → CoversAt w r stage.Idle → CoversSoFar w r
  at-rest r idle c = record {
    at = subst (λ (s : Stage). CoversAt w r s) (sym idle) c;
    rests = λ h. idle;
    moves = λ n x h. let bad : stage.Idle ≡ stage.Move n (way.Up x) = sym idle ∙ h in cc;
  }

  module _ (b : BookState) (now : Moment) where
    -- ---- nothing is left to do

    last-covers : (r : Recovery) (s : Stage) (core : Job) (swaps : Bool) → CoversAt w r stage.Idle → of_stage s ≡ []
        → Stands w (record r { stage = s; core = core; swaps = swaps }) s → CoversAt w (record r { stage = s; core = core; swaps = swaps }) s
    last-covers r s core swaps c none stands = record {
      replicas = c.replicas;
      once = λ n. let e = c.once n in let x : times n (of_stage s) ≡ times n [] = ap (times n) none in omega (arith, e, x);
      order = c.order;
      unchosen = c.unchosen;
      undrained = c.undrained;
      named = c.named;
      lead = c.lead;
      leads = first-on r (record r { stage = s; core = core; swaps = swaps }) s c.leads refl refl;
      drained = c.drained;
      queue = queue-as w r (record r { stage = s; core = core; swaps = swaps }) (record { purpose = refl; chosen = refl; lost = λ n h. h }) r.queue c.queue;
      stage = stands;
      attached = c.attached;
      follow = c.follow;
      sourced = c.sourced;
      apart = c.apart;
    }

    module _ (r : Recovery) (none : r.core.ops ≡ []) (idle : r.stage ≡ stage.Idle) (empty : r.queue ≡ []) (c : CoversAt w r stage.Idle) where
      drained : r.drained ≡ []
      drained = c.undrained (ap decides empty)

      leads : r.outcome.promoted ≡ r.chosen
      leads = go c.leads
        where
          go : Leads r stage.Idle → r.outcome.promoted ≡ r.chosen
          go (inl e) = e
          go (inr x) = absurd (false≢true x.0)

      -- the lines are given, if nobody takes a master's place
      closes : (x : Op) (xs : List Op) → (n : ServerNo) → r.chosen ≡ Some n → crowns r.purpose ≡ false → OldFollows r.purpose r.failed r.outcome.followers
          → CoversSoFar w (working r (stage.Close (result_lines r)) (x ∷ xs))
      closes x xs n is crownless old =
          so-far (working r (stage.Close (result_lines r)) (x ∷ xs)) (stage.Close (result_lines r)) x xs refl refl (λ m by h. cc)
          (last-covers r (stage.Close (result_lines r)) (record r.core { ops = x ∷ xs; waited = 0 }) r.swaps c refl (
            record {
              no = n;
              promoted = record { promoted = leads ∙ is; queue = empty; drained = drained; old = old };
              rules = λ h. absurd (false≢true (sym crownless ∙ h));
            },
            refl,
          ))

      rejoins : (p : ServerNo) → r.purpose ≡ purpose.Regroup → r.chosen ≡ Some p → CoversSoFar w (rejoin r (Some p))
      rejoins p u e = closes (op.Start p) (op.Finish (result_lines r) ∷ []) p e (ap crowns u) (subst (λ (x : Purpose). OldFollows x r.failed r.outcome.followers) (sym u) tt)

      crowning : (p : ServerNo) → is_master r.purpose ≡ true → r.chosen ≡ Some p → CoversSoFar w (crown r (Some p))
      crowning p u e =
          so-far _ (stage.Crown p) _ _ refl refl (λ m by h. cc)
          (last-covers r (stage.Crown p) _ r.swaps c refl (u, record { chosen = e; promoted = leads ∙ e; queue = empty; drained = drained }))

      unswapped : CoversSoFar w (record r { swaps = false })
      unswapped = record {
        at = subst (λ (s : Stage). CoversAt w (record r { stage = s; swaps = false }) s) (sym idle) (last-covers r stage.Idle r.core false c refl tt);
        rests = λ h. idle;
        moves = λ n x h. let bad : stage.Idle ≡ stage.Move n (way.Up x) = sym idle ∙ h in cc;
      }

      swapping : (p q : ServerNo) → is_master r.purpose ≡ true → r.chosen ≡ Some p → better_of (ground_of w b now) r.failed p (map (λ x. x.no) r.outcome.followers) ≡ Some q
          → CoversSoFar w (working (record r { swaps = false }) (stage.Level p q) (level p q))
      swapping p q u is e =
          let listed = (All-better w b now r.failed (λ (x : ServerNo). 0 < times x.0 (follower_nos r.outcome.followers)) p (follower_nos r.outcome.followers) q (All-map (λ (x : ServerNo). 0 < times x.0 (follower_nos r.outcome.followers)) (λ x. x.no) r.outcome.followers (self-all (λ x. x.no) r.outcome.followers)) e).0 in
          so-far _ (stage.Level p q) _ _ refl refl (λ m by h. cc)
          (last-covers r (stage.Level p q) _ false c refl (u, record { chosen = is; promoted = leads ∙ is; queue = empty; drained = drained }, listed))

      finishing : (s : ServerNo) → r.purpose ≡ purpose.Intermediate s → CoversSoFar w (closing r [])
      finishing s e =
          let named = intermediate-named r.purpose r.chosen (ap is_intermediate e) c.named in
          closes (op.Finish (result_lines r)) [] named.0 named.1 (ap crowns e) (subst (λ (x : Purpose). OldFollows x r.failed r.outcome.followers) (sym e) tt)

    -- ---- what is decided

    next-covers : (r : Recovery) (t : Task) (ts : List Task) → IsNext r t ts → CoversAt w r stage.Idle → CoversAt w (record r { queue = t ∷ ts }) stage.Idle
    next-covers r t ts next c = subst (λ (us : List Task). CoversAt w (record r { queue = us }) stage.Idle) next.queue c

    awaited : (r : Recovery) (t : Task) (ts : List Task) → IsNext r t ts → CoversAt w r stage.Idle → Awaits w (record r { queue = t ∷ ts }) t
    awaited r t ts next c = All-head (Awaits w (record r { queue = t ∷ ts })) t ts (next-covers r t ts next c).queue

    -- if one is designated its lead is the chosen one's
    lead-chosen : (r : Recovery) (x : Bridge) → r.lead ≡ Some x → CoversAt w r stage.Idle → r.chosen ≡ Some x.no
    lead-chosen r x e c = subst (λ (o : Option Bridge). IfSome o (λ y. r.chosen ≡ Some y.no)) e c.lead

    lead-takeover : (r : Recovery) (t : Task) → follows_lead t ≡ true → Awaits w r t → is_takeover r.purpose ≡ true
    lead-takeover r (task.Trailing n) h a = a
    lead-takeover r task.Yielding h a = a
    lead-takeover r t h a = absurd (false≢true h)

    yield-covers : (r : Recovery) (x : Bridge) (ts : List Task) → CoversAt w (record r { queue = task.Yielding ∷ ts }) stage.Idle → r.chosen ≡ Some x.no → CoversSoFar w (yield (record r { queue = ts }) (Some x))
    yield-covers r x ts c chosen =
        let parts = and_parts (is_nil ts) (in_order ts) c.order in
        let empty : ts ≡ [] = nil-of ts parts.0 in
        so-far _ (stage.Yield r.failed x.no) _ _ refl refl (λ m by h. cc)
        (begins r task.Yielding ts (stage.Yield r.failed x.no) _ c refl refl refl (λ h. parts.1) (
          record { takeover = All-head (Awaits w (record r { queue = task.Yielding ∷ ts })) task.Yielding ts c.queue; failed = refl; chosen = chosen },
          record { chosen = chosen; promoted = leads c.leads ∙ chosen; queue = empty; drained = c.undrained (ap decides empty) },
        ))
      where
        nil-of : (us : List Task) → is_nil us ≡ true → us ≡ []
        nil-of [] h = refl
        nil-of (u ∷ us) h = absurd (false≢true h)

        leads : Leads (record r { queue = task.Yielding ∷ ts }) stage.Idle → r.outcome.promoted ≡ r.chosen
        leads (inl e) = e
        leads (inr y) = absurd (false≢true y.0)

    decides-at : (r : Recovery) (d : Decision) → MayDecide (ground_of w b now) r d → r.core.ops ≡ [] → r.stage ≡ stage.Idle → CoversAt w r stage.Idle → Fine (decided_by (ground_of w b now) r d)
    decides-at r (by.Reads n ts) next none idle c =
        inl (so-far _ (stage.Read n) _ _ refl refl (λ m way h. cc) (begins r (task.Reading n) ts (stage.Read n) _ (next-covers r (task.Reading n) ts next c) refl refl refl (λ h. h) tt))
    decides-at r (by.Drains n ts) next none idle c =
        let at = next-covers r (task.Draining n) ts next c in
        let parts = and_parts (decides ts) (in_order ts) at.order in
        inl (so-far _ (stage.Drain n) _ _ refl refl (λ m way h. cc) (begins r (task.Draining n) ts (stage.Drain n) _ at refl refl refl (λ h. parts.1) parts.0))
    decides-at r (by.Sends n goes ts) next none idle c =
        let awaits = awaited r (task.Moving n goes) ts next c in
        inl (record {
          at = begins r (task.Moving n goes) ts (stage.Move n goes) _ (next-covers r (task.Moving n goes) ts next c) refl refl refl (λ h. h) (awaits.0, awaits.1, way-reads r.core.seen goes);
          rests = λ h. absurd (some-op n goes h);
          moves = λ m x h. ap ops_in h;
        })
    decides-at r (by.Expels n ts) next none idle c =
        inl (so-far _ (stage.Expel n) _ _ refl refl (λ m way h. cc)
        (begins r (task.Expelling n) ts (stage.Expel n) _ (next-covers r (task.Expelling n) ts next c) refl refl refl (λ h. h) (awaited r (task.Expelling n) ts next c)))
    decides-at r (by.Releases n ts) next none idle c =
        inl (so-far _ (stage.Release n) _ _ refl refl (λ m way h. cc) (begins r (task.Releasing n) ts (stage.Release n) _ (next-covers r (task.Releasing n) ts next c) refl refl refl (λ h. h) tt))
    decides-at r (by.Looks n x ts) (next, e) none idle c =
        inl (so-far _ (stage.Look n x) _ _ refl refl (λ m way h. cc)
        (begins r (task.Trailing n) ts (stage.Look n x) _ (next-covers r (task.Trailing n) ts next c) refl refl refl (λ h. h) (awaited r (task.Trailing n) ts next c, lead-chosen r x e c)))
    decides-at r (by.Yields x ts) (next, e) none idle c = inl (yield-covers r x ts (next-covers r task.Yielding ts next c) (lead-chosen r x e c))
    decides-at r (by.Sticks t ts) g none idle c =
        inr (record { ops = none; queue = refl; chosen = refl; apart = takeover-apart r.purpose (lead-takeover (record r { queue = t ∷ ts }) t g.1 (awaited r t ts g.0 c)) })
    decides-at r (by.Chooses p ts) (next, e) none idle c =
        inl (at-rest (choose (ground_of w b now) (record r { queue = ts }) (Some p)) idle (chosen-covers w b now r ts (next-covers r task.Choosing ts next c) p e))
    decides-at r (by.ChoosesNobody ts) (next, e) none idle c =
        let at = next-covers r task.Choosing ts next c in
        inr (record { ops = none; queue = refl; chosen = refl; apart = unnamed-apart r.purpose (unnamed r.purpose r.chosen (at.unchosen refl).0 at.named) })
    decides-at r (by.Hands d ds way ts) g none idle c = inl (hands-covers w b now r d ds way ts g c)
    decides-at r (by.Leaves d ds ts) g none idle c = inl (at-rest _ idle (leaves-covers w b now r d ds None ts g c))
    decides-at r (by.HandedOver ts) g none idle c = inl (at-rest _ idle (handed-over w b r ts g.0.queue g.1 c))
    decides-at r (by.Passes ts) (next, e) none idle c =
        let named = intermediate-named r.purpose r.chosen (awaited r task.Handing ts next c) c.named in
        let bad : None ≡ Some named.0 = sym e ∙ named.1 in cc
    decides-at r (by.Sorts ts) next none idle c = inl (at-rest (sort (record r { queue = ts })) idle (sort-covers r ts (next-covers r task.Sorting ts next c)))
    decides-at r (by.Levels p q) g none idle c = inl (swapping r none idle g.0.queue c p q (ap is_master g.0.purpose) g.2 g.3)
    decides-at r by.Remains g none idle c = inl (unswapped r none idle g.0.queue c)
    decides-at r (by.Crowns p) g none idle c = inl (crowning r none idle g.0.queue c p (ap is_master g.0.purpose) g.2)
    decides-at r (by.Rejoins p) g none idle c = inl (rejoins r none idle g.0.queue c p g.0.purpose g.1)
    decides-at r by.Closes g none idle c = inl (finishing r none idle g.1.queue c g.0 g.1.purpose)

    -- if nobody leads and nothing is left to do, only that no better one is looked for
    no-next : (r : Recovery) (t : Task) (ts : List Task) → IsStuck r → IsNext r t ts → ⊥
    no-next r t ts x next = let bad : [] ≡ t ∷ ts = sym x.queue ∙ next.queue in cc

    decides-stuck : (r : Recovery) (d : Decision) → MayDecide (ground_of w b now) r d → IsStuck r → Fine (decided_by (ground_of w b now) r d)
    decides-stuck r by.Remains g x = inr (record { ops = x.ops; queue = x.queue; chosen = x.chosen; apart = x.apart })
    decides-stuck r (by.Levels p q) g x = let bad : None ≡ Some p = sym x.chosen ∙ g.2 in cc
    decides-stuck r (by.Crowns p) g x = let bad : None ≡ Some p = sym x.chosen ∙ g.2 in cc
    decides-stuck r (by.Rejoins p) g x = let bad : None ≡ Some p = sym x.chosen ∙ g.1 in cc
    decides-stuck r by.Closes g x = absurd (false≢true (sym x.apart ∙ ap is_intermediate g.1.purpose))
    decides-stuck r (by.Reads n ts) g x = absurd (no-next r _ _ x g)
    decides-stuck r (by.Drains n ts) g x = absurd (no-next r _ _ x g)
    decides-stuck r (by.Sends n way ts) g x = absurd (no-next r _ _ x g)
    decides-stuck r (by.Expels n ts) g x = absurd (no-next r _ _ x g)
    decides-stuck r (by.Releases n ts) g x = absurd (no-next r _ _ x g)
    decides-stuck r (by.Sorts ts) g x = absurd (no-next r _ _ x g)
    decides-stuck r (by.Hands d ds way ts) g x = absurd (no-next r _ _ x g.next)
    decides-stuck r (by.Leaves d ds ts) g x = absurd (no-next r _ _ x g.next)
    decides-stuck r d g x = absurd (no-next r _ _ x g.0)

    pub decides-covers : (r : Recovery) (d : Decision) → MayDecide (ground_of w b now) r d → Fine r → Fine (decided_by (ground_of w b now) r d)
    decides-covers r d may (inl c) =
        let none = decides-idle w b now r d may in
        let idle = c.rests none in
        decides-at r d may none idle (subst (λ (s : Stage). CoversAt w r s) idle c.at)
    decides-covers r d may (inr x) = decides-stuck r d may x
