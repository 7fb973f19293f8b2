-- What a turn changes, and whom it chooses among or hands over.
use Rattle.std.proofs.Common.{◌≡◌, ℕ, Bool, true, false, not, ◌&&◌, ◌||◌, List, [], ◌∷◌, refl, sym, ◌∙◌, ap, subst, Option, Some, None, ◌⊎◌, inl, inr, arith}
use Rattle.recovery_covers.proofs.Prelude.{All, All-head, All-nil, All-tail, Ask, Awaits, BookState, ChoosesAmongAll, CoversAt, CoversSoFar}
use Rattle.recovery_covers.proofs.Prelude.{DecidesOverAll, Decisions, Deed, Does, Exchange, Fits, Follower, FollowsBy, HandsOverAll, HeldRecovery}
use Rattle.recovery_covers.proofs.Prelude.{HeldRings, IsNext, Job, MakesWell, MayAsk, MayMake, Moment, Observation, Op, Placed, Purpose, Recovery}
use Rattle.recovery_covers.proofs.Prelude.{ServerNo, Stage, Taken, Task, Turning, Way, World, and_parts, chooses, decides, decisions-keep, deed_of}
use Rattle.recovery_covers.proofs.Prelude.{end, ends, false≢true, first_source, fits-step, follower_nos, ground_of, in_order, is_finish, is_going}
use Rattle.recovery_covers.proofs.Prelude.{is_intermediate, is_look, is_takeover, leader, moves, moves_by, next, not-true, observed, of_queue}
use Rattle.recovery_covers.proofs.Prelude.{of_stage, owed, reads_last, same-head, tail_of, taken, taken-walks, target, times}
use Rattle.recovery_covers.proofs.Prelude.asking
use Rattle.recovery_covers.proofs.Prelude.cross
use Rattle.recovery_covers.proofs.Prelude.deed
use Rattle.recovery_covers.proofs.Prelude.model
use Rattle.recovery_covers.proofs.Prelude.op
use Rattle.recovery_covers.proofs.Prelude.purpose
use Rattle.recovery_covers.proofs.Prelude.stage
use Rattle.recovery_covers.proofs.Prelude.table
use Rattle.recovery_covers.proofs.Prelude.task
use Rattle.recovery_covers.proofs.Prelude.way
use Rattle.recovery_covers.proofs.Decided.{IsStuck}
use Rattle.recovery_covers.proofs.Turning.{covered, decides-before}
use Rattle.recovery_covers.proofs.Chosen.{unnamed}
use Rattle.recovery_laws.specs.RecoveryPlans.Moves as move
use Rattle.recovery_covers.proofs.Making.{Attaches, Makes, made-well}

-- ---- the choice

none-follow : (xs : List Follower) → All (FollowsBy None None) xs → (n : ℕ) → times n (follower_nos xs) ≡ 0
none-follow [] all n = refl
none-follow (x ∷ xs) all n = absurd (go (All-head (FollowsBy None None) x xs all))
  where
    go : FollowsBy None None x → ⊥
    go (inl e) = let bad : None ≡ Some x.source = e in cc
    go (inr e) = let bad : None ≡ Some x.no = e.0 in cc

no-leader : (u : Purpose) → leader u None ≡ []
no-leader purpose.Regroup = refl
no-leader _ = refl

chooser-owes : (u : Purpose) (f : ServerNo) (ns : List ServerNo) → first_source u ≡ None → owed u f ns ≡ ns
chooser-owes (purpose.Takeover d) f ns h = let bad : Some d ≡ None = h in cc
chooser-owes _ f ns h = refl

chooser-apart : (u : Purpose) → first_source u ≡ None → is_takeover u ≡ true → ⊥
chooser-apart (purpose.Takeover d) h over = let bad : Some d ≡ None = h in cc
chooser-apart purpose.Regroup h over = false≢true over
chooser-apart _ h over = false≢true over

-- a recovery that hands over owes its replicas a place, and its successor none
record HandsOn (u : Purpose) (f : ServerNo) (o : Option ServerNo) (ns : List ServerNo) : Type 0 where
  leads : leader u o ≡ []
  owes : owed u f ns ≡ ns
  apart : is_takeover u ≡ true → ⊥

hands-on : (u : Purpose) (f : ServerNo) (o : Option ServerNo) (ns : List ServerNo) → is_intermediate u ≡ true → HandsOn u f o ns
hands-on (purpose.Intermediate s) f o ns h = record { leads = refl; owes = refl; apart = λ over. false≢true over }
hands-on _ f o ns h = absurd (false≢true h)

module _ (w : World) (r : Recovery) (unmoved : (k : ServerNo) (by : Way) → Awaits w r (task.Moving k by) → ⊥) (apart : is_takeover r.purpose ≡ true → ⊥) where
  -- nothing is left after the decision that has a place to give
  none-placed : (f : ServerNo) (ts : List Task) → decides ts ≡ false → in_order ts ≡ true → All (Awaits w r) ts → (n : ℕ) → times n (of_queue f ts) ≡ 0
  none-placed f [] off order all n = refl
  none-placed f (task.Draining k ∷ ts) off order all n = absurd (false≢true (sym off ∙ (and_parts (decides ts) (in_order ts) order).0))
  none-placed f (task.Choosing ∷ ts) off order all n = absurd (false≢true (sym off))
  none-placed f (task.Handing ∷ ts) off order all n = absurd (false≢true (sym off))
  none-placed f (task.Moving k by ∷ ts) off order all n =
      absurd (unmoved k by (All-head (Awaits w r) (task.Moving k by) ts all))
  none-placed f (task.Trailing k ∷ ts) off order all n = absurd (apart (All-head (Awaits w r) (task.Trailing k) ts all))
  none-placed f (task.Yielding ∷ ts) off order all n = absurd (apart (All-head (Awaits w r) task.Yielding ts all))
  none-placed f (task.Reading k ∷ ts) off order all n = none-placed f ts off order (All-tail (Awaits w r) (task.Reading k) ts all) n
  none-placed f (task.Sorting ∷ ts) off order all n = none-placed f ts off order (All-tail (Awaits w r) task.Sorting ts all) n
  none-placed f (task.Expelling k ∷ ts) off order all n = none-placed f ts off order (All-tail (Awaits w r) (task.Expelling k) ts all) n
  none-placed f (task.Releasing k ∷ ts) off order all n = none-placed f ts off order (All-tail (Awaits w r) (task.Releasing k) ts all) n

chooses-all : (w : World) (r : Recovery) → CoversSoFar w r → ChoosesAmongAll r
chooses-all w r c ts next n there =
    let queue = c.at.queue in
    let choosing : chooses r.queue ≡ true = ap chooses next.queue in
    let none = c.at.unchosen choosing in
    let first = unnamed r.purpose r.chosen none.0 c.at.named in
    let idle = c.rests next.rests in
    let order = and_parts (not (decides ts)) (in_order ts) (sym (ap in_order next.queue) ∙ c.at.order) in
    let rest = none-placed w r (λ k by a. let bad : None ≡ Some (target by) = sym none.0 ∙ a.0 in cc) (chooser-apart r.purpose first) r.failed ts (not-true (decides ts) order.0) order.1
    (All-tail (Awaits w r) task.Choosing ts (subst (λ (xs : List Task). All (Awaits w r) xs) next.queue queue)) n in
    let once = c.at.once n in
    let placing : times n (of_stage r.stage) ≡ 0 = ap (λ (s : Stage). times n (of_stage s)) idle in
    let waiting : times n (of_queue r.failed r.queue) ≡ 0 = ap (λ (xs : List Task). times n (of_queue r.failed xs)) next.queue ∙ rest in
    let leading : times n (leader r.purpose r.outcome.promoted) ≡ 0 = ap (λ (o : Option ServerNo). times n (leader r.purpose o)) none.1 ∙ ap (times n) (no-leader r.purpose) in
    let following : times n (follower_nos r.outcome.followers) ≡ 0 =
    none-follow r.outcome.followers (subst (λ (o : Option ServerNo). All (FollowsBy o None) r.outcome.followers) none.0 (subst (λ (o : Option ServerNo). All (FollowsBy r.chosen o) r.outcome.followers) none.1 c.at.follow)) n in
    let owing : times n (owed r.purpose r.failed r.replicas) ≡ times n r.replicas = ap (times n) (chooser-owes r.purpose r.failed r.replicas first) in
    omega (arith, there, once, placing, waiting, leading, following, owing)

hands-all : (w : World) (r : Recovery) → CoversSoFar w r → HandsOverAll r
hands-all w r c ts next n there =
    let queue = subst (λ (xs : List Task). All (Awaits w r) xs) next.queue c.at.queue in
    let handing = All-head (Awaits w r) task.Handing ts queue in
    let on = hands-on r.purpose r.failed r.outcome.promoted r.replicas handing in
    let idle = c.rests next.rests in
    let order = and_parts (not (decides ts)) (in_order ts) (sym (ap in_order next.queue) ∙ c.at.order) in
    let rest = none-placed w r (λ k by a. false≢true (sym a.2 ∙ handing)) on.apart r.failed ts (not-true (decides ts) order.0) order.1 (All-tail (Awaits w r) task.Handing ts queue) n in
    let once = c.at.once n in
    let placing : times n (of_stage r.stage) ≡ 0 = ap (λ (s : Stage). times n (of_stage s)) idle in
    let waiting : times n (of_queue r.failed r.queue) ≡ 0 = ap (λ (xs : List Task). times n (of_queue r.failed xs)) next.queue ∙ rest in
    let leading : times n (leader r.purpose r.outcome.promoted) ≡ 0 = ap (times n) on.leads in
    let owing : times n (owed r.purpose r.failed r.replicas) ≡ times n r.replicas = ap (times n) on.owes in
    omega (arith, there, once, placing, waiting, leading, owing)

decides-all : (w : World) (r : Recovery) → CoversSoFar w r → DecidesOverAll r
decides-all w r c = (chooses-all w r c, hands-all w r c)

-- ---- the operation

attaches : (w : World) (r : Recovery) (n : ServerNo) → Attaches (MayMake w r) n.0
attaches w r n (model.Attach k expect to at) h = tt
attaches w r n (model.AttachAuto k observed to) h = tt
attaches w r n e h = absurd h

module _ (w : World) (r : Recovery) where
  still-asks : (n : ServerNo) (a : Ask) → moves_by a ≡ false → MayAsk w r n a
  still-asks n (asking.Stop which) h = tt
  still-asks n asking.Start h = tt
  still-asks n (asking.StartUntil to) h = tt
  still-asks n _ h = absurd (false≢true (sym h))

  still-does : (d : Deed) → moves d ≡ false → Makes (MayMake w r) d
  still-does (deed.Request n a) h = still-asks n a h
  still-does (deed.Until n to) h = λ c. tt
  still-does (deed.Cross c a b) h = attaches w r a
  still-does (deed.Same n) h = attaches w r n
  still-does (deed.Auto n m) h = attaches w r n
  still-does (deed.CrossMatch n m) h = attaches w r n
  still-does d h = tt

  way-does : (n : ServerNo) (by : Way) → Makes (MayMake w r) (deed_of (table.move by n))
  way-does n (way.Down b) = attaches w r n
  way-does n _ = attaches w r n

  -- what ends a stage
  tail-does : (o : Op) (rest : List Op) → o ∷ rest ≡ tail_of r.stage → CoversAt w r r.stage → Makes (MayMake w r) (deed_of o)
  tail-does o rest t c = go r.stage refl t c
    where
      like : (x : Op) (xs : List Op) → o ∷ rest ≡ x ∷ xs → Makes (MayMake w r) (deed_of x) → Makes (MayMake w r) (deed_of o)
      like x xs e h = subst (λ (y : Op). Makes (MayMake w r) (deed_of y)) (sym (same-head o x rest xs e)) h

      go : (k : Stage) → r.stage ≡ k → o ∷ rest ≡ tail_of k → CoversAt w r k → Makes (MayMake w r) (deed_of o)
      go (stage.Drain n) here e at = like (op.Status n None) [] e tt
      go (stage.Look n b) here e at = like (op.Status n None) [] e tt
      go (stage.Trail n b) here e at = like (op.Status n None) [] e tt
      go (stage.Move n by) here e at = like (table.move by n) (op.Start n ∷ []) e (way-does n by)
      go (stage.Expel n) here e at = like (op.Detach n) [] e at.stage.0
      go (stage.Level p q) here e at = like (op.Reset q) (op.Cross cross.About p q ∷ []) e (inl (at.stage.0, inr (record { from = p; stage = here; chosen = at.stage.1.chosen; promoted = at.stage.1.promoted; follows = at.stage.2 })))
      go (stage.Swap p q) here e at = like (op.Cross cross.About p q) [] e (attaches w r p)
      go (stage.Return p q) here e at = like (op.Cross cross.Back q p) (op.Start q ∷ []) e (attaches w r q)
      go (stage.Crown n) here e at = like (op.Reset n) (op.ReadOnly n false ∷ []) e (inl (at.stage.0, inl (at.stage.1.promoted, here)))
      go (stage.Open n) here e at = like (op.ReadOnly n false) [] e (at.stage.0.crowns, at.stage.0.promoted.promoted, at.stage.1)
      go (stage.Shut m d) here e at = like (op.ReadOnly m true) (table.gather m d) e (at.stage.takeover, sym at.stage.failed)
      go (stage.Yield m d) here e at = like (op.Reset d) (op.Cross cross.About m d ∷ []) e (inr (at.stage.0.takeover, at.stage.0.chosen, here ∙ ap (λ (i : ServerNo). stage.Yield i d) (sym at.stage.0.failed)))
      go (stage.Switch m d) here e at = like (op.Cross cross.About m d) [] e (attaches w r m)
      go (stage.Close lines) here e at = like (op.Finish lines) [] e tt
      go k here e at = cc

  moving : (d : Deed) (reads : Bool) → (moves d || ((reads && is_look d) || is_finish d)) ≡ false → moves d ≡ false
  moving d reads h = first (moves d) h
    where
      first : (a : Bool) → (a || ((reads && is_look d) || is_finish d)) ≡ false → a ≡ false
      first true e = absurd (false≢true (sym e))
      first false e = refl

  -- each exchange of an operation of a stage may be made
  pub op-does : (o : Op) (rest : List Op) → Fits r.stage (o ∷ rest) → CoversAt w r r.stage → Makes (MayMake w r) (deed_of o)
  op-does o rest f c = go (fits-step r.stage o rest f)
    where
      go : ((ends r.stage (deed_of o) ≡ false) × Fits r.stage rest) ⊎ (o ∷ rest ≡ tail_of r.stage) → Makes (MayMake w r) (deed_of o)
      go (inl p) = still-does (deed_of o) (moving (deed_of o) (reads_last r.stage) p.0)
      go (inr t) = tail-does o rest t c

-- ---- a turn

module _ (w : World) (b : BookState) (read : ℕ) (now : Moment) (r : Recovery) (placed : Placed w) (rings : HeldRings w b.rings) (held : HeldRecovery w r) (c : CoversSoFar w r) where
  before : {d : Recovery} → Decisions (ground_of w b now) r d → HeldRecovery w d × (CoversSoFar w d ⊎ IsStuck d)
  before so = decisions-keep w b now (λ x. HeldRecovery w x × (CoversSoFar w x ⊎ IsStuck x)) (decides-before w b read now placed rings) so (held, inl c)

  pub decided-chooses : (d : Recovery) → Decisions (ground_of w b now) r d → DecidesOverAll d
  decided-chooses d so = go (before so).1
    where
      no-next : (t : Task) (ts : List Task) → IsStuck d → IsNext d t ts → ⊥
      no-next t ts stuck next = let bad : [] ≡ t ∷ ts = sym stuck.queue ∙ next.queue in cc

      go : CoversSoFar w d ⊎ IsStuck d → DecidesOverAll d
      go (inl covers) = decides-all w d covers
      go (inr stuck) = (λ ts next. absurd (no-next task.Choosing ts stuck next), λ ts next. absurd (no-next task.Handing ts stuck next))

  made : (d : Recovery) → Decisions (ground_of w b now) r d → (o : Op) (rest : List Op) (ob : Option Observation) (es : List Exchange) (j : Job) → Does w read now d o rest ob es j → MakesWell w (ground_of w b now) r es
  made d so o rest ob es j did =
      let state = before so in
      let covers = covered w b read now placed rings d o rest did.ops state.1 in record {
        decided = d;
        so = so;
        each =
            made-well (MayMake w d) w d.core rest read now (deed_of o) (op-does w d o rest (subst (λ (xs : List Op). Fits d.stage xs) did.ops state.0.fits) covers.at) ob es j did.goes;
      }

  pub turn-makes : is_going (taken w b read now r).step ≡ true → MakesWell w (ground_of w b now) r (taken w b read now r).exchanges
  turn-makes = go (taken w b read now r) (taken-walks w b read now r)
    where
      go : (t : Taken) → Turning w b read now r t → is_going t.step ≡ true → MakesWell w (ground_of w b now) r t.exchanges
      go t (move.Waits {d} so o rest ob es j did e) h = made d so o rest ob es j did
      go t (move.Acts {d} so o rest ob es j did e end) h = made d so o rest ob es j did
      go t (move.Bears {d} so o rest x ob e stops is may) h = record { decided = d; so = so; each = All-nil (MayMake w d) }
      go t (move.Fails so x ob y) h = absurd (false≢true h)
      go t (move.Finishes so o rest ls is e) h = absurd (false≢true h)
