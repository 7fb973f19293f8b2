-- Each follower was started below its new source, except for a master that went below the designated one.
use Rattle.std.proofs.Common.{◌≡◌, ℕ, Bool, true, false, cond, not, List, [], ◌∷◌, refl, sym, ◌∙◌, ap, subst, Option, Some, None, ◌⊎◌, inl, inr, Ok, Err, Result, ◌==◌}
use Rattle.recovery_reasons.proofs.Prelude.{All, All-filter, All-push, All-weaker, Bearing, BookState, Cause, Decision, Decisions, Ending, Exchange}
use Rattle.recovery_reasons.proofs.Prelude.{ExplainsTruly, Fact, Fits, Follower, HasNotFailed, HeldRecovery, HeldRings, IsFit, IsNext, IsStarted}
use Rattle.recovery_reasons.proofs.Prelude.{IsSwitched, IsToStart, IsUp, Job, Keeps, MayDecide, MayEnd, Moment, Observation, Op, Recovery, ServerNo}
use Rattle.recovery_reasons.proofs.Prelude.{Speaks, SpeaksWith, Stage, Starts, Switches, Task, Unreachable, World, after_ask, borne, by_deed, closes}
use Rattle.recovery_reasons.proofs.Prelude.{decided_by, decides-held, decides-idle, deed_of, desk_answer, ended, ended_by, ends, entered, fate}
use Rattle.recovery_reasons.proofs.Prelude.{fate_of, fits-step, follows_no_more, ground_of, info, joined, kept-whole, leaver, moved, moved-fits}
use Rattle.recovery_reasons.proofs.Prelude.{same-head, server_at, stepped, stepped-fits, tail_of, taken, went-of, without_follower}
use Rattle.recovery_reasons.proofs.Prelude.asking
use Rattle.recovery_reasons.proofs.Prelude.attempt
use Rattle.recovery_reasons.proofs.Prelude.by
use Rattle.recovery_reasons.proofs.Prelude.cross
use Rattle.recovery_reasons.proofs.Prelude.op
use Rattle.recovery_reasons.proofs.Prelude.stage
use Rattle.recovery_reasons.proofs.Prelude.table
use Rattle.recovery_reasons.proofs.OnWay.{Fine, IsStuck, decides-fine, fails-not, no-tail}
use Rattle.recovery_reasons.proofs.Readings.{fits-of}
use Rattle.recovery_reasons.proofs.Speaking.{decides-speaks, moved-starts}

-- ---- an operation

-- if it starts a server that one is reached
pub start-reached : (w : World) (read : ℕ) (now : Moment) (j : Job) (rest : List Op) (n : ServerNo) (ob : Option Observation) (es : List Exchange) (k : Job) → by_deed w read now j rest (deed_of (op.Start n)) ≡ attempt.Goes ob es k
    → desk_answer (server_at w n.0) ≡ Ok tt
start-reached w read now j rest n ob es k h = go (desk_answer (server_at w n.0)) refl h
  where
    go : (r : Result (Unit {0}) Unreachable) → desk_answer (server_at w n.0) ≡ r → after_ask j rest n asking.Start r ≡ attempt.Goes ob es k → desk_answer (server_at w n.0) ≡ Ok tt
    go (Ok t) e g = e
    go (Err x) e g = cc

-- what leads to a master below the designated one
moved-switches : (s : Stage) (o : Op) (rest : List Op) (m d : ServerNo) → o ∷ rest ≡ tail_of s → moved s ≡ stage.Switched m d → (s ≡ stage.Switch m d) × (o ≡ op.Cross cross.About m d)
moved-switches (stage.Switch k x) o rest m d t h =
    let one : k ≡ m = ap master_in h in
    let other : x ≡ d = ap heir_in h in (
      ap (λ (i : ServerNo). stage.Switch i x) one ∙ ap (λ (i : ServerNo). stage.Switch m i) other,
      same-head o (op.Cross cross.About k x) rest [] t ∙ (ap (λ (i : ServerNo). op.Cross cross.About i x) one ∙ ap (λ (i : ServerNo). op.Cross cross.About m i) other),
    )
  where
    master_in : Stage → ServerNo
    master_in (stage.Switched i y) = i
    master_in _ = k

    heir_in : Stage → ServerNo
    heir_in (stage.Switched i y) = y
    heir_in _ = x
moved-switches (stage.Switched k x) o rest m d t h = cc
moved-switches s o rest m d t h = cc

module _ (w : World) (b : BookState) (now : Moment) (r : Recovery) (P : Fact → Bool) (why : ExplainsTruly w b now r P) where
  abbrev Ups : Recovery → Type 0
  Ups x = All (λ y. IsUp P x y.no) x.outcome.followers

  record Upped (x : Recovery) : Type 0 where
    started : HasNotFailed x → Ups x
    below : (m d : ServerNo) → x.stage ≡ stage.Switched m d → P (IsSwitched m) ≡ true

  -- with no operation left nobody is yet to start
  on-idle : (x y : Recovery) → x.core.ops ≡ [] → (xs : List Follower) → All (λ z. IsUp P x z.no) xs → All (λ z. IsUp P y z.no) xs
  on-idle x y none xs all = All-weaker (λ (z : Follower). IsUp P x z.no) (λ (z : Follower). IsUp P y z.no) (λ z h. go z h) xs all
    where
      go : (z : Follower) → IsUp P x z.no → IsUp P y z.no
      go z (inl h) = inl h
      go z (inr (inl h)) = inr (inl h)
      go z (inr (inr at)) = let bad : op.Start z.no ∷ op.ReadOnly at.0 false ∷ [] ≡ [] = sym at.2 ∙ none in cc

  -- ---- what is decided

  module _ (x : Recovery) (none : x.core.ops ≡ []) (way : x.stage ≡ stage.Idle) (h : Upped x) where
    not-failed : HasNotFailed x
    not-failed q at e = let bad : stage.Idle ≡ stage.Open q = sym way ∙ at in cc

    now-up : (y : Recovery) → y.outcome.followers ≡ x.outcome.followers → ((m d : ServerNo) → y.stage ≡ stage.Switched m d → ⊥) → Upped y
    now-up y same off = record {
      started = λ sound. subst (λ (xs : List Follower). All (λ z. IsUp P y z.no) xs) (sym same) (on-idle x y none x.outcome.followers (h.started not-failed));
      below = λ m d at. absurd (off m d at);
    }

    stays-up : (y : Recovery) → y.outcome.followers ≡ x.outcome.followers → y.stage ≡ x.stage → Upped y
    stays-up y same at = now-up y same (λ m d e. let bad : stage.Idle ≡ stage.Switched m d = sym way ∙ (sym at ∙ e) in cc)

    decided-up : (d : Decision) → MayDecide (ground_of w b now) x d → Upped (decided_by (ground_of w b now) x d)
    decided-up (by.Chooses p ts) may = stays-up _ refl refl
    decided-up (by.ChoosesNobody ts) may = stays-up _ refl refl
    decided-up (by.Sticks t ts) may = stays-up _ refl refl
    decided-up (by.Leaves d ds ts) may = stays-up _ refl refl
    decided-up (by.HandedOver ts) may = stays-up _ refl refl
    decided-up (by.Passes ts) may = stays-up _ refl refl
    decided-up (by.Sorts ts) may = stays-up _ refl refl
    decided-up by.Remains may = stays-up _ refl refl
    decided-up d may = now-up _ refl (λ m k e. cc)

  no-task : (x : Recovery) (t : Task) (ts : List Task) → IsStuck x → IsNext x t ts → ⊥
  no-task x t ts s next = let bad : [] ≡ t ∷ ts = sym s.queue ∙ next.queue in cc

  -- one that is stuck looks for no better one
  stuck-up : (x : Recovery) (d : Decision) → MayDecide (ground_of w b now) x d → IsStuck x → Upped x → Upped (decided_by (ground_of w b now) x d)
  stuck-up x by.Remains may s h = record { started = λ sound. on-idle x (decided_by (ground_of w b now) x by.Remains) s.ops x.outcome.followers (h.started sound); below = h.below }
  stuck-up x (by.Levels p q) may s h = let bad : None ≡ Some p = sym s.chosen ∙ may.2 in cc
  stuck-up x (by.Crowns p) may s h = let bad : None ≡ Some p = sym s.chosen ∙ may.2 in cc
  stuck-up x (by.Rejoins p) may s h = let bad : None ≡ Some p = sym s.chosen ∙ may.1 in cc
  stuck-up x by.Closes may s h = absurd (s.apart may.0 may.1.purpose)
  stuck-up x (by.Reads n ts) may s h = absurd (no-task x _ _ s may)
  stuck-up x (by.Drains n ts) may s h = absurd (no-task x _ _ s may)
  stuck-up x (by.Sends n go ts) may s h = absurd (no-task x _ _ s may)
  stuck-up x (by.Expels n ts) may s h = absurd (no-task x _ _ s may)
  stuck-up x (by.Releases n ts) may s h = absurd (no-task x _ _ s may)
  stuck-up x (by.Sorts ts) may s h = absurd (no-task x _ _ s may)
  stuck-up x (by.Hands d ds go ts) may s h = absurd (no-task x _ _ s may.next)
  stuck-up x (by.Leaves d ds ts) may s h = absurd (no-task x _ _ s may.next)
  stuck-up x d may s h = absurd (no-task x _ _ s may.0)

  decides-up : (x : Recovery) (d : Decision) → MayDecide (ground_of w b now) x d → Fine x → Upped x → Upped (decided_by (ground_of w b now) x d)
  decides-up x d may (inl way) h = let none = decides-idle w b now x d may in decided-up x none (way.rests none) h d may
  decides-up x d may (inr s) h = stuck-up x d may s h

  -- ---- the operation

  -- who follows now was started in this turn
  abbrev Joined : Recovery → Type 0
  Joined z = (n p : ServerNo) → (info z.stage).made ≡ table.Follows n p → z.core.ops ≡ [] → P (IsStarted n) ≡ true

  module _ (read : ℕ) (x : Recovery) (so : Decisions (ground_of w b now) r x) (o : Op) (rest : List Op) (is : x.core.ops ≡ o ∷ rest) (speaks : SpeaksWith x) (fits : Fits x.stage (o ∷ rest))
      (ob : Option Observation) (es : List Exchange) (j : Job) (goes : by_deed w read now x.core rest (deed_of o) ≡ attempt.Goes ob es j) (h : Upped x) where
    abbrev later : Recovery
    later = record x { core = j }

    started-so : (n : ServerNo) → IsToStart x.stage n → o ≡ op.Start n → P (IsStarted n) ≡ true
    started-so n due at =
        why x (IsStarted n) so
        (Starts rest due (is ∙ ap (λ (y : Op). y ∷ rest) at) (start-reached w read now x.core rest n ob es j (subst (λ (y : Op). by_deed w read now x.core rest (deed_of y) ≡ attempt.Goes ob es j) at goes)))

    busy : HasNotFailed x
    busy q at none = let bad : o ∷ rest ≡ [] = sym is ∙ none in cc

    -- who was yet to start is started
    up-now : (y : Recovery) (xs : List Follower) → All (λ z. IsUp P x z.no) xs → All (λ z. IsUp P y z.no) xs
    up-now y xs all = All-weaker (λ (z : Follower). IsUp P x z.no) (λ (z : Follower). IsUp P y z.no) (λ z u. go z u) xs all
      where
        go : (z : Follower) → IsUp P x z.no → IsUp P y z.no
        go z (inl u) = inl u
        go z (inr (inl u)) = inr (inl u)
        go z (inr (inr at)) = inl (started-so z.no (inr (ap closes at.1)) (same-head o (op.Start z.no) rest (op.ReadOnly at.0 false ∷ []) (sym is ∙ at.2)))

    left : o ∷ rest ≡ tail_of x.stage → (q : Option ServerNo) → Upped (record (follows_no_more later q) { stage = moved x.stage })
    left t q = record { started = λ sound. ups q; below = λ m d at. under q m d at }
      where
        ups : (k : Option ServerNo) → Ups (record (follows_no_more later k) { stage = moved x.stage })
        ups None = up-now (record (follows_no_more later None) { stage = moved x.stage }) x.outcome.followers (h.started busy)
        ups (Some m) = up-now (record (follows_no_more later (Some m)) { stage = moved x.stage }) (without_follower x.outcome.followers m) (All-filter (λ z. not (z.no.0 == m.0)) (λ (z : Follower). IsUp P x z.no) x.outcome.followers (h.started busy))

        so-under : (m d : ServerNo) → moved x.stage ≡ stage.Switched m d → P (IsSwitched m) ≡ true
        so-under m d at =
            let two = moved-switches x.stage o rest m d t at in
            why x (IsSwitched m) so (Switches d rest two.0 (is ∙ ap (λ (y : Op). y ∷ rest) two.1))

        under : (k : Option ServerNo) (m d : ServerNo) → (record (follows_no_more later k) { stage = moved x.stage }).stage ≡ stage.Switched m d → P (IsSwitched m) ≡ true
        under None m d at = so-under m d at
        under (Some i) m d at = so-under m d at

    stepped-up : j.ops ≡ rest → Upped (stepped later o) × Joined (stepped later o)
    stepped-up done = go (fits-step x.stage o rest fits)
      where
        same : Upped later
        same = record { started = λ sound. up-now later x.outcome.followers (h.started busy); below = h.below }

        joined-here : Joined later
        joined-here n p made none = by-starts (speaks.starts n p made)
          where
            by-starts : (x.core.ops ≡ op.Start n ∷ []) ⊎ (x.core.ops ≡ []) → P (IsStarted n) ≡ true
            by-starts (inl e) = started-so n (inl (p, made)) (same-head o (op.Start n) rest [] (sym is ∙ e))
            by-starts (inr e) = let bad : o ∷ rest ≡ [] = sym is ∙ e in cc

        joined-next : o ∷ rest ≡ tail_of x.stage → (q : Option ServerNo) → Joined (record (follows_no_more later q) { stage = moved x.stage })
        joined-next t None n p made none = let bad : op.Start n ∷ [] ≡ [] = sym (done ∙ moved-starts x.stage o rest n p t made) ∙ none in cc
        joined-next t (Some m) n p made none = let bad : op.Start n ∷ [] ≡ [] = sym (done ∙ moved-starts x.stage o rest n p t made) ∙ none in cc

        go : ((ends x.stage (deed_of o) ≡ false) × Fits x.stage rest) ⊎ (o ∷ rest ≡ tail_of x.stage) → Upped (stepped later o) × Joined (stepped later o)
        go (inl p) = subst (λ (a : Bool). Upped (cond a (entered later (moved x.stage)) later) × Joined (cond a (entered later (moved x.stage)) later)) (sym p.0) (same, joined-here)
        go (inr t) =
            subst (λ (a : Bool). Upped (cond a (entered later (moved x.stage)) later) × Joined (cond a (entered later (moved x.stage)) later)) (sym (moved-fits x.stage o rest t).0)
            (left t (leaver (moved x.stage)), joined-next t (leaver (moved x.stage)))

  -- ---- the end of a stage

  completes-up : (z : Recovery) (e : Ending) → z.core.ops ≡ [] → MayEnd z e → HasNotFailed z → Upped z → Joined z → Upped (ended_by z e)
  completes-up z (by.Follows n p) none may sound h joined = record {
    started = λ s.
        All-push (λ (y : Follower). IsUp P (ended_by z (by.Follows n p)) y.no) z.outcome.followers (record { no = n; source = p })
        (on-idle z (ended_by z (by.Follows n p)) none z.outcome.followers (h.started sound)) (inl (joined n p (made may) none));
    below = λ m d at. cc;
  }
    where
      made : (z.stage ≡ stage.Join n p) ⊎ (z.stage ≡ stage.Resume p n) → (info z.stage).made ≡ table.Follows n p
      made (inl at) = ap (λ (s : Stage). (info s).made) at
      made (inr at) = ap (λ (s : Stage). (info s).made) at
  completes-up z (by.Swaps p q) none may sound h joined = record {
    started = λ s.
        All-push (λ (y : Follower). IsUp P (ended_by z (by.Swaps p q)) y.no) z.outcome.followers (record { no = p; source = q })
        (on-idle z (ended_by z (by.Swaps p q)) none z.outcome.followers (h.started sound)) (inr (inr (q, refl, refl)));
    below = λ m d at. cc;
  }
  completes-up z (by.Switches m d) none may sound h joined = record {
    started = λ s.
        All-push (λ (y : Follower). IsUp P (ended_by z (by.Switches m d)) y.no) z.outcome.followers (record { no = m; source = d })
        (on-idle z (ended_by z (by.Switches m d)) none z.outcome.followers (h.started sound)) (inr (inl (h.below m d may)));
    below = λ k i at. cc;
  }
  completes-up z by.Rests none may sound h joined = record { started = λ s. on-idle z (ended_by z by.Rests) none z.outcome.followers (h.started sound); below = λ m d at. cc }
  completes-up z e none may sound h joined = record { started = λ s. on-idle z (ended_by z e) none z.outcome.followers (h.started sound); below = λ m d at. cc }

  -- ---- a failing operation

  borne-up : (x : Recovery) (c : Cause) (o : Op) (rest : List Op) → x.core.ops ≡ o ∷ rest → (e : Bearing) → fate w x.purpose x.stage c ≡ fate_of e → Upped x → Upped (borne x (fate_of e))
  borne-up x c o rest is e fated h = go e fated
    where
      busy-now : HasNotFailed x
      busy-now q at none = let bad : o ∷ rest ≡ [] = sym is ∙ none in cc

      ups : (y : Recovery) (f : Bearing) → fate w x.purpose x.stage c ≡ fate_of f → All (λ z. IsUp P y z.no) x.outcome.followers
      ups y f same = All-weaker (λ (z : Follower). IsUp P x z.no) (λ (z : Follower). IsUp P y z.no) (λ z u. keep z u) x.outcome.followers (h.started busy-now)
        where
          keep : (z : Follower) → IsUp P x z.no → IsUp P y z.no
          keep z (inl u) = inl u
          keep z (inr (inl u)) = inr (inl u)
          keep z (inr (inr at)) = absurd (fails-not f (sym (ap (λ (s : Stage). fate w x.purpose s c) at.1) ∙ same))

      go : (f : Bearing) → fate w x.purpose x.stage c ≡ fate_of f → Upped (borne x (fate_of f))
      go by.Drops same = record { started = λ s. ups (borne x (fate_of by.Drops)) by.Drops same; below = λ m d at. cc }
      go y same = record { started = λ s. ups (borne x (fate_of y)) y same; below = λ m d at. cc }

  -- ---- a turn

  abbrev Before : Recovery → Type 0
  Before x = HeldRecovery w x × (Fine x × (SpeaksWith x × (Decisions (ground_of w b now) r x × Upped x)))

  over-up : (x : Recovery) → Upped x → Upped (record x { core = ended x.core })
  over-up x h = record { started = λ sound. ups sound; below = h.below }
    where
      ups : HasNotFailed (record x { core = ended x.core }) → Ups (record x { core = ended x.core })
      ups sound =
          All-weaker (λ (z : Follower). IsUp P x z.no) (λ (z : Follower). IsUp P (record x { core = ended x.core }) z.no) (λ z u. keep z u) x.outcome.followers
          (h.started (λ q at none. sound q at refl))
        where
          keep : (z : Follower) → IsUp P x z.no → IsUp P (record x { core = ended x.core }) z.no
          keep z (inl u) = inl u
          keep z (inr (inl u)) = inr (inl u)
          keep z (inr (inr at)) = absurd (sound at.0 at.1 refl)

  waited-up : (x : Recovery) (j : Job) → j.ops ≡ x.core.ops → Upped x → Upped (record x { core = j })
  waited-up x j same h = record { started = λ sound. ups sound; below = h.below }
    where
      ups : HasNotFailed (record x { core = j }) → Ups (record x { core = j })
      ups sound =
          All-weaker (λ (z : Follower). IsUp P x z.no) (λ (z : Follower). IsUp P (record x { core = j }) z.no) (λ z u. keep z u) x.outcome.followers
          (h.started (λ q at none. sound q at (same ∙ none)))
        where
          keep : (z : Follower) → IsUp P x z.no → IsUp P (record x { core = j }) z.no
          keep z (inl u) = inl u
          keep z (inr (inl u)) = inr (inl u)
          keep z (inr (inr at)) = inr (inr (at.0, at.1, same ∙ at.2))

  unopened : (z : Recovery) → IsFit z → HasNotFailed z
  unopened z fits q at none = let f = subst (λ (s : Stage). Fits s []) at (subst (λ (xs : List Op). Fits z.stage xs) none fits) in no-tail f.front _ _ f.is

  keeps-up : (read : ℕ) → HeldRings w b.rings → Keeps w b read now Before (λ v x. IsFit x × (Upped x × Joined x)) (λ v x. Upped x)
  keeps-up read rings = record {
    decides = λ x d may h. (
      decides-held w b now rings x d may h.0,
      (decides-fine w b now x d may h.1.0, (decides-speaks w b now x d may h.1.1.0, (joined w b now h.1.1.1.0 (by.Then d may by.Still), decides-up x d may h.1.0 h.1.1.1.1))),
    );
    waits = λ x o rest ob es j did e h. waited-up x j ((went-of w read now x o rest ob es j did).waits e).0 h.1.1.1.1;
    acts = λ x o rest ob es j did e h.
        let fits = fits-of w x o rest did.ops h.0 in
        let left = (went-of w read now x o rest ob es j did).done e in
        (stepped-fits x o rest j fits left, stepped-up read x h.1.1.1.0 o rest did.ops h.1.1.0 fits ob es j did.goes h.1.1.1.1 left);
    continues = λ v x y ys is h. h.1.0;
    completes = λ v x e none may h. completes-up x e none may (unopened x h.0) h.1.0 h.1.1;
    bears = λ x o rest c ob e stops is may h. borne-up x c o rest stops.ops e is h.1.1.1.1;
  }

  pub taken-up : (read : ℕ) → HeldRings w b.rings → HeldRecovery w r → Speaks r → (HasNotFailed r → Ups r) → ((m d : ServerNo) → r.stage ≡ stage.Switched m d → P (IsSwitched m) ≡ true)
      → (HasNotFailed (taken w b read now r).recovery → Ups (taken w b read now r).recovery)
      × ((m d : ServerNo) → (taken w b read now r).recovery.stage ≡ stage.Switched m d → P (IsSwitched m) ≡ true)
  taken-up read rings held speaks started below =
      let after = kept-whole w b read now Before (λ v x. IsFit x × (Upped x × Joined x)) (λ v x. Upped x) (keeps-up read rings)
      (record { fails = λ x c ob f h. over-up x h.1.1.1.1; finishes = λ x o rest lines is e h. over-up x h.1.1.1.1 }) r
      (held, (inl speaks.way, (speaks.says, (by.Still, record { started = started; below = below })))) in
      (after.started, after.below)
