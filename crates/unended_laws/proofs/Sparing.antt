-- A takeover asks nothing of its master but to refuse writes, until that goes below the designated one.
use Rattle.std.proofs.Common.{◌≡◌, ℕ, ◌<◌, true, false, List, [], ◌∷◌, refl, sym, ◌∙◌, ap, subst, Option, Some, None, ◌⊎◌, inl, inr, arith}
use Rattle.std.specs.List.{Contains}
use Rattle.unended_laws.proofs.Prelude.{All, All-contains, All-head, All-nil, AsksSoFar, Ask, Attach, AttachAuto, BookState, CoversAt, CoversSoFar, Decision, Decisions, Deed}
use Rattle.unended_laws.proofs.Prelude.{Does, DoesAt, Exchange, Fine, Fits, HeldRecovery, HeldRings, IsAttachment, IsLetGo, IsOnWay, IsStuck, Job, LostReplica}
use Rattle.unended_laws.proofs.Prelude.{Makes, MayDecide, Moment, Observation, Op, Placed, Recovery, Request, ServerNo, SparesItsMaster, SparesMaster, Speaks}
use Rattle.unended_laws.proofs.Prelude.{Stage, StartsAt, StopsAt, Taken, Turning, Way, World, asks-far, covered, decided_by, decides-before, decides-fine}
use Rattle.unended_laws.proofs.Prelude.{decisions-keep, deed_of, ends, false≢true, fits-of, fits-step, gather, ground_of, is_going, is_takeover}
use Rattle.unended_laws.proofs.Prelude.{lost_nos, made-well, move, moves, of_stage, over-releases, same-head, self-all, self-times, still-on, tail_of, taken}
use Rattle.unended_laws.proofs.Prelude.{Yields, taken-walks, times, why_of}
use Rattle.unended_laws.proofs.Prelude.asking
use Rattle.unended_laws.proofs.Prelude.by
use Rattle.unended_laws.proofs.Prelude.cross
use Rattle.unended_laws.proofs.Prelude.deed
use Rattle.unended_laws.proofs.Prelude.op
use Rattle.unended_laws.proofs.Prelude.purpose
use Rattle.unended_laws.proofs.Prelude.stage
use Rattle.unended_laws.proofs.Prelude.task
use Rattle.unended_laws.proofs.Prelude.way
use Rattle.unended_laws.proofs.Alone.{is_late, yields-late}
use Rattle.unended_laws.proofs.RestTurns.{not-moves}
use Rattle.unended_laws.proofs.Running.{master-not, not-chosen, not-promoted, old-waits, unlost, unplaced, waiting}

-- ---- the master

module _ (w : World) (x : Recovery) (c : CoversAt w x x.stage) (way' : IsOnWay x) (asks : AsksSoFar x) where
  abbrev IsOld : ServerNo → Type 0
  IsOld n = (is_takeover x.purpose ≡ true) × (n.0 ≡ x.failed.0)

  -- while it is to give up its place it waits for that
  waits-still : is_takeover x.purpose ≡ true → is_late x.stage ≡ false → 0 < waiting x x.failed.0
  waits-still takes early = go (way'.course.tasks.yields takes)
    where
      go : Contains x.queue task.Yielding ⊎ Yields x.stage → 0 < waiting x x.failed.0
      go (inl has) = old-waits x has
      go (inr y) = absurd (false≢true (sym early ∙ yields-late x.stage y))

  -- no such stage is placing it
  in-place : (s : Stage) → x.stage ≡ s → (k : ServerNo) → of_stage s ≡ k ∷ [] → is_late s ≡ false → IsOld k → ⊥
  in-place s at k places early old =
      let some = waits-still old.0 (ap is_late at ∙ early) in
      let none = unplaced w x x.stage c x.failed.0 (omega (arith, some)) in
      let here : 0 < times x.failed.0 (of_stage x.stage) = subst (λ (i : ℕ). 0 < times i (of_stage x.stage)) old.1 (subst (λ (ks : List ServerNo). 0 < times k.0 ks) (sym (ap of_stage at ∙ places)) (self-times k [])) in
      omega (arith, none, here)

  -- it isn't lost
  not-lost : is_late x.stage ≡ false → (n : ServerNo) → 0 < times n.0 (lost_nos x.outcome.lost) → IsOld n → ⊥
  not-lost early n lost old =
      let some = waits-still old.0 early in
      let none = unlost w x x.stage c x.failed.0 (omega (arith, some)) in
      let here : 0 < times x.failed.0 (lost_nos x.outcome.lost) = subst (λ (i : ℕ). 0 < times i (lost_nos x.outcome.lost)) old.1 lost in
      omega (arith, none, here)

  among-lost : (l : LostReplica) → Contains x.outcome.lost l → 0 < times l.no.0 (lost_nos x.outcome.lost)
  among-lost l has = All-contains (λ (k : LostReplica). 0 < times k.no.0 (lost_nos x.outcome.lost)) x.outcome.lost l (self-all (λ (k : LostReplica). k.no) x.outcome.lost) has

  -- it isn't let go
  not-free : (k : ServerNo) → x.stage ≡ stage.Release k → (n : ServerNo) → IsLetGo x n → IsOld n → ⊥
  not-free k at n (inl h) old = over-releases x.purpose (why_of x.outcome.lost n) old.0 h
  not-free k at n (inr (inl h)) old = not-lost (ap is_late at) n (among-lost _ h.1.1) old
  not-free k at n (inr (inr h)) old = false≢true (sym (ap is_takeover h.0) ∙ old.0)

  -- it isn't started
  not-started : (s : Stage) → x.stage ≡ s → (n : ServerNo) → StartsAt x s n → IsOld n → ⊥
  not-started (stage.Move k go) at n h old = in-place (stage.Move k go) at k refl refl (subst IsOld h old)
  not-started (stage.Join k p) at n h old = in-place (stage.Join k p) at k refl refl (subst IsOld h old)
  not-started (stage.Release k) at n h old = not-free k at n h.1 old
  not-started (stage.Return p q) at n h old = master-not x.purpose (subst (λ (s : Stage). CoversAt w x s) at c).stage.0 old.0
  not-started (stage.Resume p q) at n h old = master-not x.purpose (subst (λ (s : Stage). CoversAt w x s) at c).stage.0 old.0
  not-started (stage.Open q) at n h old = not-chosen w x x.stage c old.0 n h.0 old.1
  not-started (stage.Close lines) at n h old = false≢true (sym (ap is_takeover h.0) ∙ old.0)
  not-started s at n h old = absurd h

  -- nor stopped
  not-stopped : (s : Stage) → x.stage ≡ s → (n : ServerNo) → StopsAt s n → IsOld n → ⊥
  not-stopped (stage.Drain k) at n h old = in-place (stage.Drain k) at k refl refl (subst IsOld h old)
  not-stopped (stage.Trail k y) at n h old = in-place (stage.Trail k y) at k refl refl (subst IsOld h old)
  not-stopped (stage.Level p q) at n h old = master-not x.purpose (subst (λ (s : Stage). CoversAt w x s) at c).stage.0 old.0
  not-stopped (stage.Shut m d) at n h old = not-chosen w x x.stage c old.0 n ((subst (λ (s : Stage). CoversAt w x s) at c).stage.chosen ∙ ap Some (sym h)) old.1
  not-stopped (stage.Gather m d) at n h old = not-chosen w x x.stage c old.0 n ((subst (λ (s : Stage). CoversAt w x s) at c).stage.chosen ∙ ap Some (sym h)) old.1
  not-stopped s at n h old = absurd h

  -- ---- an operation

  -- each attachment of a server that isn't it
  attach-spares : (n : ServerNo) → (IsOld n → ⊥) → (e : Exchange) → IsAttachment n.0 e → SparesMaster x e
  attach-spares n off (Attach k expect to at) same = λ takes old. absurd (off (takes, sym same ∙ old))
  attach-spares n off (AttachAuto k observed to) same = λ takes old. absurd (off (takes, sym same ∙ old))
  attach-spares n off e same = absurd same

  -- of itself, when the designated one takes its place
  yield-spares : (m d : ServerNo) → x.stage ≡ stage.Switch x.failed d → (e : Exchange) → IsAttachment m.0 e → SparesMaster x e
  yield-spares m d at (Attach k expect to place) same = λ takes old. (d, at)
  yield-spares m d at (AttachAuto k observed to) same = λ takes old. (d, at)
  yield-spares m d at e same = absurd same

  way-spares : (n : ServerNo) (go : Way) → (IsOld n → ⊥) → Makes (SparesMaster x) (deed_of (move go n))
  way-spares n (way.Down y) off = attach-spares n off
  way-spares n (way.Up y) off = attach-spares n off
  way-spares n (way.Auto to exec) off = attach-spares n off
  way-spares n (way.Match to exec every) off = attach-spares n off

  still-asks : (n : ServerNo) (a : Ask) → DoesAt x x.stage (deed.Request n a) → moves (deed.Request n a) ≡ false → SparesMaster x (Request n.0 a)
  still-asks n asking.Start h off = λ takes old. absurd (not-started x.stage refl n h (takes, old))
  still-asks n (asking.Stop which) h off = λ takes old. absurd (not-stopped x.stage refl n h (takes, old))
  still-asks n (asking.StartUntil to) h off = λ takes old. absurd (not-stopped x.stage refl n h (takes, old))
  still-asks n a h off = absurd (false≢true (sym off))

  still-spares : (d : Deed) → DoesAt x x.stage d → moves d ≡ false → Makes (SparesMaster x) d
  still-spares (deed.Request n a) h off = still-asks n a h off
  still-spares (deed.Until n to) h off = λ place takes old. absurd (not-stopped x.stage refl n h (takes, old))
  still-spares (deed.Cross k a b) h off = absurd (false≢true (sym off))
  still-spares (deed.Same n) h off = absurd (false≢true (sym off))
  still-spares (deed.Auto n m) h off = absurd (false≢true (sym off))
  still-spares (deed.CrossMatch n m) h off = absurd (false≢true (sym off))
  still-spares _ h off = tt

  -- what ends a stage
  tail-spares : (o : Op) (rest : List Op) → o ∷ rest ≡ tail_of x.stage → Makes (SparesMaster x) (deed_of o)
  tail-spares o rest t = go x.stage refl t c
    where
      like : (y : Op) (ys : List Op) → o ∷ rest ≡ y ∷ ys → Makes (SparesMaster x) (deed_of y) → Makes (SparesMaster x) (deed_of o)
      like y ys e h = subst (λ (z : Op). Makes (SparesMaster x) (deed_of z)) (sym (same-head o y rest ys e)) h

      go : (k : Stage) → x.stage ≡ k → o ∷ rest ≡ tail_of k → CoversAt w x k → Makes (SparesMaster x) (deed_of o)
      go (stage.Drain n) here e at = like (op.Status n None) [] e tt
      go (stage.Look n b) here e at = like (op.Status n None) [] e tt
      go (stage.Trail n b) here e at = like (op.Status n None) [] e tt
      go (stage.Move n y) here e at = like (move y n) (op.Start n ∷ []) e (way-spares n y (λ old. in-place (stage.Move n y) here n refl refl old))
      go (stage.Expel n) here e at = like (op.Detach n) [] e (λ takes old. absurd (not-lost (ap is_late here) n at.stage.0 (takes, old)))
      go (stage.Level p q) here e at = like (op.Reset q) (op.Cross cross.About p q ∷ []) e (λ takes old. absurd (master-not x.purpose at.stage.0 takes))
      go (stage.Swap p q) here e at = like (op.Cross cross.About p q) [] e (attach-spares p (λ old. master-not x.purpose at.stage.0 old.0))
      go (stage.Return p q) here e at = like (op.Cross cross.Back q p) (op.Start q ∷ []) e (attach-spares q (λ old. master-not x.purpose at.stage.0 old.0))
      go (stage.Crown n) here e at = like (op.Reset n) (op.ReadOnly n false ∷ []) e (λ takes old. absurd (master-not x.purpose at.stage.0 takes))
      go (stage.Open n) here e at = like (op.ReadOnly n false) [] e (λ takes old. absurd (not-promoted w x x.stage c takes n at.stage.0.promoted.promoted old))
      go (stage.Shut m d) here e at = like (op.ReadOnly m true) (gather m d) e (λ takes old. refl)
      go (stage.Yield m d) here e at = like (op.Reset d) (op.Cross cross.About m d ∷ []) e (λ takes old. absurd (not-chosen w x x.stage c takes d at.stage.0.chosen old))
      go (stage.Switch m d) here e at = like (op.Cross cross.About m d) [] e (yield-spares m d (here ∙ ap (λ (i : ServerNo). stage.Switch i d) (sym at.stage.0.failed)))
      go (stage.Close lines) here e at = like (op.Finish lines) [] e tt
      go k here e at = cc

  op-spares : (o : Op) (rest : List Op) → Fits x.stage (o ∷ rest) → DoesAt x x.stage (deed_of o) → Makes (SparesMaster x) (deed_of o)
  op-spares o rest f does = go (fits-step x.stage o rest f)
    where
      go : ((ends x.stage (deed_of o) ≡ false) × Fits x.stage rest) ⊎ (o ∷ rest ≡ tail_of x.stage) → Makes (SparesMaster x) (deed_of o)
      go (inl p) = still-spares (deed_of o) does (not-moves (deed_of o) x.stage p.0)
      go (inr t) = tail-spares o rest t

-- ---- a turn

module _ (w : World) (b : BookState) (read : ℕ) (now : Moment) (r : Recovery) (placed : Placed w) (rings : HeldRings w b.rings) (held : HeldRecovery w r) (c : CoversSoFar w r) (speaks : Speaks r) where
  abbrev Before : Recovery → Type 0
  Before x = (HeldRecovery w x × (CoversSoFar w x ⊎ IsStuck x)) × Fine x

  decides-on : (x : Recovery) (d : Decision) → MayDecide (ground_of w b now) x d → Before x → Before (decided_by (ground_of w b now) x d)
  decides-on x d may h = (decides-before w b read now placed rings x d may h.0, decides-fine w b now x d may h.1)

  spares-so : (d : Recovery) → Decisions (ground_of w b now) r d → (o : Op) (rest : List Op) (ob : Option Observation) (es : List Exchange) (j : Job) → Does w read now d o rest ob es j → SparesItsMaster (ground_of w b now) r es
  spares-so d so o rest ob es j did =
      let h = decisions-keep w b now Before decides-on so ((held, inl c), inl speaks.way) in
      let far = asks-far w b read now r rings held speaks so in
      let due = subst (λ (os : List Op). All (λ y. DoesAt d d.stage (deed_of y)) os) did.ops far.ops in record {
        decided = d;
        so = so;
        each =
            made-well (SparesMaster d) w d.core rest read now (deed_of o)
            (op-spares w d (covered w b read now placed rings d o rest did.ops h.0.1).at (still-on d o rest did.ops h.1) far o rest (fits-of w d o rest did.ops h.0.0) (All-head (λ (y : Op). DoesAt d d.stage (deed_of y)) o rest due)) ob es j did.goes;
      }

  pub spares-master : is_going (taken w b read now r).step ≡ true → SparesItsMaster (ground_of w b now) r (taken w b read now r).exchanges
  spares-master = go (taken w b read now r) (taken-walks w b read now r)
    where
      go : (t : Taken) → Turning w b read now r t → is_going t.step ≡ true → SparesItsMaster (ground_of w b now) r t.exchanges
      go t (by.Waits {d} so o rest ob es j did e) h = spares-so d so o rest ob es j did
      go t (by.Acts {d} so o rest ob es j did e end) h = spares-so d so o rest ob es j did
      go t (by.Bears {d} so o rest x ob e stops is may) h = record { decided = d; so = so; each = All-nil (SparesMaster d) }
      go t (by.Fails so x ob y) h = absurd (false≢true h)
      go t (by.Finishes so o rest ls is e) h = absurd (false≢true h)
