-- A recovery that is done covers its replicas.
use Rattle.std.proofs.Common.{◌≡◌, ℕ, Bool, true, false, List, [], ◌∷◌, refl, sym, ◌∙◌, ap, subst, Option, Some, None, ◌&&◌, ◌||◌, ◌⊎◌, inl, inr, arith, IfSome}
use Rattle.recovery_covers.proofs.Prelude.{All-weaker, Attempt, Attempts, BookState, Contains, Covers, CoversAt, CoversSoFar, Deed, Fits, Follower}
use Rattle.recovery_covers.proofs.Prelude.{Follows, FollowsBy, HasSwapped, HeldRecovery, HeldRings, IsAsNamed, IsChain, IsTold, Job, JobStep, Leads}
use Rattle.recovery_covers.proofs.Prelude.{Line, Moment, OldFollows, Op, Outcome, Placed, Purpose, Recovery, ServerNo, Stage, Taken, Turning, World}
use Rattle.recovery_covers.proofs.Prelude.{attempts, by_deed, decisions-keep, deed_of, end, ended, ends, false≢true, first_source, fits, fits-step}
use Rattle.recovery_covers.proofs.Prelude.{is_master, of_queue, reads_last, run, same-head, same_Some, stopped_nos, tail_of, taken, taken-walks}
use Rattle.recovery_covers.proofs.Prelude.{times}
use Rattle.recovery_covers.proofs.Decided.{IsStuck}
use Rattle.recovery_covers.proofs.Turning.{covered, decides-before}
use Rattle.recovery_covers.proofs.Covering.{swapped-on}
use Rattle.recovery_covers.proofs.Prelude.attempt
use Rattle.recovery_covers.proofs.Prelude.cross
use Rattle.recovery_covers.proofs.Prelude.deed
use Rattle.recovery_laws.specs.RecoveryPlans.Moves as move
use Rattle.recovery_covers.proofs.Prelude.op
use Rattle.recovery_covers.proofs.Prelude.purpose
use Rattle.recovery_covers.proofs.Prelude.stage
use Rattle.recovery_covers.proofs.Prelude.step
use Rattle.recovery_covers.proofs.Prelude.way
use Rattle.recovery_covers.proofs.Prelude.doing

-- ---- only the last operation ends a job well

abbrev lines-of : Attempt → List Line
lines-of (attempt.Ends xs) = xs
lines-of _ = []

finish-by : (w : World) (read : ℕ) (now : Moment) (j : Job) (rest : List Op) (d : Deed) (a : Attempt) (lines : List Line) → Attempts w read now j rest d a → a ≡ attempt.Ends lines → d ≡ deed.Finish lines
finish-by w read now j rest d a lines (doing.Finishes ls) h = ap (λ (x : Attempt). deed.Finish (lines-of x)) h
finish-by w read now j rest d a lines _ h = cc

finish-of : (j : Job) (rest : List Op) (w : World) (read : ℕ) (now : Moment) (d : Deed) (lines : List Line) → by_deed w read now j rest d ≡ attempt.Ends lines → d ≡ deed.Finish lines
finish-of j rest w read now d lines h = finish-by w read now j rest d (by_deed w read now j rest d) lines (attempts w read now j rest d) h

-- ---- what is covered then

-- the new source that was named leads, because only a master's recovery swaps
named-by : (u : Purpose) (f : ServerNo) (o : Outcome) (chosen : Option ServerNo) → (o.promoted ≡ chosen) ⊎ (is_master u ≡ true) → IfSome (first_source u) (λ n. chosen ≡ Some n)
    → OldFollows u f o.followers → IsAsNamed u f o
named-by purpose.Regroup f o chosen leads named old = tt
named-by purpose.Master f o chosen leads named old = tt
named-by (purpose.Intermediate s) f o chosen (inl e) named old = e ∙ named
named-by (purpose.Intermediate s) f o chosen (inr e) named old = absurd (false≢true e)
named-by (purpose.Takeover d) f o chosen (inl e) named old = (e ∙ named, old)
named-by (purpose.Takeover d) f o chosen (inr e) named old = absurd (false≢true e)

module _ (w : World) (r : Recovery) (lines : List Line) (c : CoversAt w r (stage.Close lines)) where
  follows-on : (x : Follower) → FollowsBy r.chosen r.outcome.promoted x → Follows r.purpose r.outcome x
  follows-on x f = go c.leads f
    where
      go : Leads r (stage.Close lines) → FollowsBy r.chosen r.outcome.promoted x → Follows r.purpose r.outcome x
      go (inl e) (inl g) = inl (e ∙ g)
      go (inl e) (inr g) = inl g.1
      go (inr l) (inr g) = inl g.1
      go (inr l) (inl g) =
          let same : l.1.was ≡ x.source = same_Some l.1.was x.source (sym l.1.chosen ∙ g) in
          inr (l.1.is, l.1.promoted, l.1.master, subst (λ (m : ServerNo). Contains r.outcome.followers (record { no = m; source = l.1.is })) same l.1.follows)

  close-covers : Covers w r.purpose r.failed r.replicas r.outcome
  close-covers = record {
    promoted = c.stage.0.no;
    is_promoted = c.stage.0.promoted.promoted;
    rules = c.stage.0.rules;
    replicas = c.replicas;
    once = λ k.
        let e = c.once k in
        let q : times k (of_queue r.failed r.queue) ≡ 0 = ap (λ ts. times k (of_queue r.failed ts)) c.stage.0.promoted.queue in
        let d : times k (stopped_nos r.drained) ≡ 0 = ap (λ ds. times k (stopped_nos ds)) c.stage.0.promoted.drained in
        omega (arith, e, q, d);
    attached = c.attached;
    follow = All-weaker (FollowsBy r.chosen r.outcome.promoted) (Follows r.purpose r.outcome) follows-on r.outcome.followers c.follow;
    apart = c.apart;
    named = named-by r.purpose r.failed r.outcome r.chosen (leads c.leads) c.named c.stage.0.promoted.old;
  }
    where
      leads : Leads r (stage.Close lines) → (r.outcome.promoted ≡ r.chosen) ⊎ (is_master r.purpose ≡ true)
      leads (inl e) = inl e
      leads (inr x) = inr x.1.master

  -- whom the followers follow
  close-chain : IsChain r
  close-chain = go c.leads
    where
      direct : r.outcome.promoted ≡ r.chosen → (x : Follower) → FollowsBy r.chosen r.outcome.promoted x → r.outcome.promoted ≡ Some x.source
      direct e x (inl g) = e ∙ g
      direct e x (inr g) = g.1

      go : Leads r (stage.Close lines) → IsChain r
      go (inl e) = inl (All-weaker (FollowsBy r.chosen r.outcome.promoted) (λ x. r.outcome.promoted ≡ Some x.source) (direct e) r.outcome.followers c.follow)
      go (inr l) = inr (l.1, c.follow)

-- what it comes to
record IsClosing (w : World) (r : Recovery) (lines : List Line) : Type 0 where
  told : IsTold w r lines
  chain : IsChain r

module _ (w : World) (read : ℕ) (now : Moment) (r : Recovery) (o : Op) (rest : List Op) (placed : Placed w) (held : HeldRecovery w r) (c : CoversSoFar w r) (is : r.core.ops ≡ o ∷ rest) (lines : List Line) where
  abbrev ends-so : Op → Type 0
  ends-so x = deed_of x ≡ deed.Finish lines

  finishing : ends-so o → (s : Stage) → r.stage ≡ s → o ∷ rest ≡ tail_of s → CoversAt w r s → IsClosing w r lines
  finishing d s here e at = go s here e at
    where
      first : (x : Op) (xs : List Op) → o ∷ rest ≡ x ∷ xs → ends-so x
      first x xs h = sym (ap deed_of (same-head o x rest xs h)) ∙ d

      leader-of : (ls : List Line) → Leads r (stage.Close ls) → (r.outcome.promoted ≡ r.chosen) ⊎ HasSwapped r
      leader-of ls (inl l) = inl l
      leader-of ls (inr l) = inr l.1

      go : (x : Stage) → r.stage ≡ x → o ∷ rest ≡ tail_of x → CoversAt w r x → IsClosing w r lines
      go (stage.Close ls) here t a =
          let ends = first (op.Finish ls) [] t in
          let same : lines ≡ ls = cc in
          record {
            told = record { closed = here ∙ ap stage.Close (sym same); over = a.stage.0.promoted.queue; covers = close-covers w r ls a; told = same ∙ a.stage.1; leads = leader-of ls a.leads };
            chain = close-chain w r ls a;
          }
      go (stage.Drain n) here t a = let bad = first (op.Status n None) _ t in cc
      go (stage.Look n b) here t a = let bad = first (op.Status n None) _ t in cc
      go (stage.Trail n b) here t a = let bad = first (op.Status n None) _ t in cc
      go (stage.Move n (way.Down b)) here t a = let bad = first (op.Cross cross.Down n b.no) _ t in cc
      go (stage.Move n (way.Up b)) here t a = let bad = first (op.Cross cross.Up n b.no) _ t in cc
      go (stage.Move n (way.Auto to exec)) here t a = let bad = first (op.Auto n to) _ t in cc
      go (stage.Move n (way.Match to exec every)) here t a = let bad = first (op.CrossMatch n to) _ t in cc
      go (stage.Expel n) here t a = let bad = first (op.Detach n) _ t in cc
      go (stage.Level p q) here t a = let bad = first (op.Reset q) _ t in cc
      go (stage.Swap p q) here t a = let bad = first (op.Cross cross.About p q) _ t in cc
      go (stage.Return p q) here t a = let bad = first (op.Cross cross.Back q p) _ t in cc
      go (stage.Crown n) here t a = let bad = first (op.Reset n) _ t in cc
      go (stage.Open n) here t a = let bad = first (op.ReadOnly n false) _ t in cc
      go (stage.Shut m d) here t a = let bad = first (op.ReadOnly m true) _ t in cc
      go (stage.Yield m d) here t a = let bad = first (op.Reset d) _ t in cc
      go (stage.Switch m d) here t a = let bad = first (op.Cross cross.About m d) _ t in cc
      go _ here t a = cc

  at-finish : ends-so o → IsClosing w r lines
  at-finish d = go (fits-step r.stage o rest (fits w read now r o rest placed held is))
    where
      or-true : (b : Bool) → ((b && false) || true) ≡ true
      or-true true = refl
      or-true false = refl

      go : ((ends r.stage (deed_of o) ≡ false) × Fits r.stage rest) ⊎ (o ∷ rest ≡ tail_of r.stage) → IsClosing w r lines
      go (inl p) = absurd (false≢true (sym p.0 ∙ ap (ends r.stage) d ∙ or-true (reads_last r.stage)))
      go (inr e) = finishing d r.stage refl e c.at

  -- in the turn whose operation has the lines
  done-told : by_deed w read now r.core rest (deed_of o) ≡ attempt.Ends lines → IsClosing w (record r { core = ended r.core }) lines
  done-told e =
      let is = at-finish (finish-of r.core rest w read now (deed_of o) lines e) in
      record { told = record { closed = is.told.closed; over = is.told.over; covers = is.told.covers; told = is.told.told; leads = ended-leads is.told.leads }; chain = ended-chain is.chain }
    where
      ended-chain : IsChain r → IsChain (record r { core = ended r.core })
      ended-chain (inl direct) = inl direct
      ended-chain (inr l) = inr (swapped-on r r.stage (ended r.core) l.0, l.1)

      ended-leads : (r.outcome.promoted ≡ r.chosen) ⊎ HasSwapped r → (r.outcome.promoted ≡ r.chosen) ⊎ HasSwapped (record r { core = ended r.core })
      ended-leads (inl l) = inl l
      ended-leads (inr l) = inr (swapped-on r r.stage (ended r.core) l)

-- ---- a whole turn

turn-closes : (w : World) (b : BookState) (read : ℕ) (now : Moment) (r : Recovery) → Placed w → HeldRings w b.rings → HeldRecovery w r → CoversSoFar w r → (lines : List Line) → (taken w b read now r).step ≡ step.Done lines
    → IsClosing (run w (taken w b read now r).exchanges) (taken w b read now r).recovery lines
turn-closes w b read now r placed rings held c lines = go (taken w b read now r) (taken-walks w b read now r)
  where
    lines-in : JobStep → List Line
    lines-in step.Going = []
    lines-in (step.Done xs) = xs
    lines-in (step.Failed x ls) = []

    go : (t : Taken) → Turning w b read now r t → t.step ≡ step.Done lines → IsClosing (run w t.exchanges) t.recovery lines
    go t (move.Waits ds o rest ob es j did e) h = cc
    go t (move.Acts ds o rest ob es j did e end) h = cc
    go t (move.Bears ds o rest x ob e stops is may) h = cc
    go t (move.Fails ds x ob why) h = cc
    go t (move.Finishes {d} ds o rest ls is e) h =
        let before = decisions-keep w b now (λ x. HeldRecovery w x × (CoversSoFar w x ⊎ IsStuck x)) (decides-before w b read now placed rings) ds (held, inl c) in
        done-told w read now d o rest placed before.0 (covered w b read now placed rings d o rest is before.1) is lines (e ∙ ap attempt.Ends (ap lines-in h))

module _ (w : World) (b : BookState) (read : ℕ) (now : Moment) (r : Recovery) (placed : Placed w) (rings : HeldRings w b.rings) (held : HeldRecovery w r) (c : CoversSoFar w r) (lines : List Line)
    (done : (taken w b read now r).step ≡ step.Done lines) where
  pub turn-done : IsTold (run w (taken w b read now r).exchanges) (taken w b read now r).recovery lines
  turn-done = (turn-closes w b read now r placed rings held c lines done).told

  pub turn-chain : IsChain (taken w b read now r).recovery
  turn-chain = (turn-closes w b read now r placed rings held c lines done).chain
