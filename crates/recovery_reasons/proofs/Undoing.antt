-- What a job leaves stopped, and what a turn makes good in which the recovery fails.
use Rattle.std.proofs.Common.{◌≡◌, ℕ, ◌+◌, zero, suc, Bool, true, false, cond, not, List, [], ◌∷◌, ◌++◌, filter, refl, sym, ◌∙◌, ap, subst, Option, Some, None, ◌⊎◌, inl, inr, Ok, arith, ◌==◌}
use Rattle.recovery_reasons.proofs.Prelude.{All, All-append, All-cons, All-nil, Ask, Attach, Attempt, Attempts, BookState, Cause, Contains}
use Rattle.recovery_reasons.proofs.Prelude.{Contains-append_cases, Contains-append_left, Contains-append_right, Contains-push, Coord, Decision}
use Rattle.recovery_reasons.proofs.Prelude.{Decisions, Deed, Ending, Exchange, Fate, GoesBack, IsOpen, Job, KeepsHands, Line, MakesGood, MayDecide}
use Rattle.recovery_reasons.proofs.Prelude.{Moment, Observation, Op, OpensAgain, Position, Purpose, Recovery, Request, ServerNo, Sight, SourceState}
use Rattle.recovery_reasons.proofs.Prelude.{Stage, StartsHands, Taken, Threads, Turning, World, acted, after_ask, attempted, attempts, barred_by}
use Rattle.recovery_reasons.proofs.Prelude.{borne, bridge_at, bridge_by, by_deed, can_attach, closed_at, crossed, crossing_of, decided, decided_by}
use Rattle.recovery_reasons.proofs.Prelude.{decisions-keep, deed_of, ended_by, ends, entered, eqb-true, false≢true, fate, fate_of, follows_no_more}
use Rattle.recovery_reasons.proofs.Prelude.{ground_of, is_going, is_takeover, last_exchanges, leaver, met, moved, on_going, restarts, run, same-no}
use Rattle.recovery_reasons.proofs.Prelude.{same_Some, seen_of, settled_turn, stepped, taken, taken-walks, that_can, undone, with_hand, without}
use Rattle.recovery_reasons.proofs.Prelude.asking
use Rattle.recovery_reasons.proofs.Prelude.attempt
use Rattle.recovery_reasons.proofs.Prelude.by
use Rattle.recovery_reasons.proofs.Prelude.cross
use Rattle.recovery_reasons.proofs.Prelude.good
use Rattle.recovery_reasons.proofs.Prelude.purpose
use Rattle.recovery_reasons.proofs.Prelude.source
use Rattle.recovery_reasons.proofs.Prelude.spot
use Rattle.recovery_reasons.proofs.Prelude.stage
use Rattle.recovery_reasons.proofs.Prelude.step
use Rattle.recovery_reasons.proofs.Prelude.taking
use Rattle.recovery_reasons.proofs.Dealing.{no-none, picked}
use Rattle.recovery_reasons.proofs.Opening.{opens-last}
use Rattle.recovery_reasons.proofs.Prelude.doing

-- ---- lists

only-one : {X : Type 0} (x y : X) → Contains (x ∷ []) y → x ≡ y
only-one x y (zero, l, e) = e
only-one x y (suc k, l, e) = absurd (omega (arith, l))

here : {X : Type 0} (x : X) (xs : List X) → Contains (x ∷ xs) x
here x xs = (0, omega arith, refl)

restarted : (hands : List ServerNo) (n : ServerNo) → Contains hands n → Contains (restarts hands) (Request n.0 asking.Start)
restarted [] n h = absurd (no-none n h)
restarted (k ∷ ks) n (zero, l, e) = (0, omega arith, ap (λ (i : ServerNo). Request i.0 asking.Start) e)
restarted (k ∷ ks) n (suc i, l, e) = Contains-append_right (Request k.0 asking.Start ∷ []) (restarts ks) (Request n.0 asking.Start) (restarted ks n (i, omega (arith, l), e))

unfiltered : (p : ServerNo → Bool) (ns : List ServerNo) (n : ServerNo) → Contains (filter p ns) n → Contains ns n
unfiltered p [] n h = h
unfiltered p (k ∷ ks) n h = go (p k) h (λ g. unfiltered p ks n g)
  where
    more : Contains (k ∷ []) n ⊎ Contains (filter p ks) n → (Contains (filter p ks) n → Contains ks n) → Contains (k ∷ ks) n
    more (inl y) rest = Contains-append_left (k ∷ []) ks n y
    more (inr y) rest = Contains-append_right (k ∷ []) ks n (rest y)

    go : (a : Bool) → Contains (cond a (k ∷ filter p ks) (filter p ks)) n → (Contains (filter p ks) n → Contains ks n) → Contains (k ∷ ks) n
    go true g rest = more (Contains-append_cases (k ∷ []) (filter p ks) n g) rest
    go false g rest = Contains-append_right (k ∷ []) ks n (rest g)

-- ---- an operation

-- whom an attempt stops is in the hands, and whoever was there stays or is started; nobody else is there
record Hands (hands : List ServerNo) (es : List Exchange) (k : Job) : Type 0 where
  takes : (n : ServerNo) (which : Threads) → Contains es (Request n.0 (asking.Stop which)) → Contains k.hands n
  keeps : (n : ServerNo) → Contains hands n → Contains k.hands n ⊎ Contains es (Request n.0 asking.Start)
  only : (n : ServerNo) → Contains k.hands n → Contains hands n ⊎ ((which : Threads) × Contains es (Request n.0 (asking.Stop which)))

abbrev HandsOf : Job → Attempt → Type 0
HandsOf j (attempt.Goes o es k) = Hands j.hands es k
HandsOf j (attempt.Stops c o) = Unit {0}
HandsOf j (attempt.Ends lines) = Unit {0}

module _ (w : World) (j : Job) (rest : List Op) where
  still-hands : (k : Job) → k.hands ≡ j.hands → Hands j.hands [] k
  still-hands k same = record {
    takes = λ n which h. absurd (no-none (Request n.0 (asking.Stop which)) h);
    keeps = λ n h. inl (subst (λ (xs : List ServerNo). Contains xs n) (sym same) h);
    only = λ n h. inl (subst (λ (xs : List ServerNo). Contains xs n) same h);
  }

  -- a request that neither stops nor starts
  asks-hands : (n : ServerNo) (a : Ask) (k : Job) → k.hands ≡ j.hands → ((which : Threads) → a ≡ asking.Stop which → ⊥) → Hands j.hands (Request n.0 a ∷ []) k
  asks-hands n a k same off = record {
    takes = λ m which h. let e = only-one (Request n.0 a) (Request m.0 (asking.Stop which)) h in absurd (off which (asked-so e));
    keeps = λ m h. inl (subst (λ (xs : List ServerNo). Contains xs m) (sym same) h);
    only = λ m h. inl (subst (λ (xs : List ServerNo). Contains xs m) same h);
  }
    where
      asked_in : Exchange → Ask
      asked_in (Request i b) = b
      asked_in _ = a

      asked-so : {m : ℕ} {which : Threads} → Request n.0 a ≡ Request m (asking.Stop which) → a ≡ asking.Stop which
      asked-so e = ap asked_in e

  stop-hands : (n : ServerNo) (which : Threads) (k : Job) → k.hands ≡ with_hand j.hands n → Hands j.hands (Request n.0 (asking.Stop which) ∷ []) k
  stop-hands n which k same = record {
    takes = λ m other h.
        let e = only-one (Request n.0 (asking.Stop which)) (Request m.0 (asking.Stop other)) h in
        subst (λ (xs : List ServerNo). Contains xs m) (sym same)
        (subst (λ (i : ServerNo). Contains (with_hand j.hands n) i) (same-no n m (ap number_in e)) (Contains-push (without j.hands n) n));
    keeps = λ m h. inl (subst (λ (xs : List ServerNo). Contains xs m) (sym same) (stays m h (m.0 == n.0) refl));
    only = λ m h. added m (Contains-append_cases (without j.hands n) (n ∷ []) m (subst (λ (xs : List ServerNo). Contains xs m) same h));
  }
    where
      added : (m : ServerNo) → Contains (without j.hands n) m ⊎ Contains (n ∷ []) m → Contains j.hands m ⊎ ((other : Threads) × Contains (Request n.0 (asking.Stop which) ∷ []) (Request m.0 (asking.Stop other)))
      added m (inl h) = inl (unfiltered (λ (i : ServerNo). not (i.0 == n.0)) j.hands m h)
      added m (inr h) =
          inr (which, subst (λ (i : ServerNo). Contains (Request n.0 (asking.Stop which) ∷ []) (Request i.0 (asking.Stop which))) (only-one n m h) (here (Request n.0 (asking.Stop which)) []))

      number_in : Exchange → ℕ
      number_in (Request i b) = i
      number_in _ = n.0

      stays : (m : ServerNo) → Contains j.hands m → (a : Bool) → (m.0 == n.0) ≡ a → Contains (with_hand j.hands n) m
      stays m h true e = subst (λ (i : ServerNo). Contains (with_hand j.hands n) i) (same-no n m (sym (eqb-true m.0 n.0 e))) (Contains-push (without j.hands n) n)
      stays m h false e = Contains-append_left (without j.hands n) (n ∷ []) m (picked (λ (i : ServerNo). not (i.0 == n.0)) j.hands m h (ap not e))

  start-hands : (n : ServerNo) (k : Job) → k.hands ≡ without j.hands n → Hands j.hands (Request n.0 asking.Start ∷ []) k
  start-hands n k same = record {
    takes = λ m which h. let e = only-one (Request n.0 asking.Start) (Request m.0 (asking.Stop which)) h in cc;
    keeps = λ m h. leaves m h (m.0 == n.0) refl;
    only = λ m h. inl (unfiltered (λ (i : ServerNo). not (i.0 == n.0)) j.hands m (subst (λ (xs : List ServerNo). Contains xs m) same h));
  }
    where
      leaves : (m : ServerNo) → Contains j.hands m → (a : Bool) → (m.0 == n.0) ≡ a → Contains k.hands m ⊎ Contains (Request n.0 asking.Start ∷ []) (Request m.0 asking.Start)
      leaves m h true e = inr (subst (λ (i : ℕ). Contains (Request n.0 asking.Start ∷ []) (Request i asking.Start)) (sym (eqb-true m.0 n.0 e)) (here (Request n.0 asking.Start) []))
      leaves m h false e =
          inl (subst (λ (xs : List ServerNo). Contains xs m) (sym same) (picked (λ (i : ServerNo). not (i.0 == n.0)) j.hands m h (ap not e)))

  asked-hands : (n : ServerNo) (a : Ask) → HandsOf j (after_ask j rest n a (Ok tt))
  asked-hands n (asking.Stop which) = stop-hands n which _ refl
  asked-hands n asking.Start = start-hands n _ refl
  asked-hands n x = asks-hands n x _ refl (λ which e. cc)

  -- an attachment is no request
  no-request : (e : Exchange) (n : ℕ) (a : Ask) → can_attach w e ≡ true → e ≡ Request n a → ⊥
  no-request e n a can is = false≢true (sym (ap (can_attach w) is) ∙ can)

  hands-by : (read : ℕ) (now : Moment) (d : Deed) (a : Attempt) → Attempts w read now j rest d a → HandsOf j a
  hands-by read now d a (doing.Misses n from c why) = tt
  hands-by read now d a (doing.Fails x c why) = tt
  hands-by read now d a (doing.Asks n b) = asked-hands n b
  hands-by read now d a (doing.Begins n to c until) = asked-hands n (asking.StartUntil c)
  hands-by read now d a (doing.Attaches n x e is made of can done) = record {
    takes = λ m which h. absurd (no-request e m.0 (asking.Stop which) can (only-one e (Request m.0 (asking.Stop which)) h));
    keeps = λ m h. inl h;
    only = λ m h. inl h;
  }
  hands-by read now d a (doing.Finishes lines) = tt
  hands-by read now d a _ = still-hands _ refl

  deed-hands : (read : ℕ) (now : Moment) (d : Deed) → HandsOf j (by_deed w read now j rest d)
  deed-hands read now d = hands-by read now d (by_deed w read now j rest d) (attempts w read now j rest d)

-- ---- a turn

module _ (w : World) (b : BookState) (read : ℕ) (now : Moment) (r : Recovery) where
  abbrev Same : Recovery → Type 0
  Same x = x.core.hands ≡ r.core.hands

  decides-same : (x : Recovery) (d : Decision) → MayDecide (ground_of w b now) x d → Same x → Same (decided_by (ground_of w b now) x d)
  decides-same x (by.Reads n ts) may h = h
  decides-same x d may h = h

  same-of : {d : Recovery} → Decisions (ground_of w b now) r d → Same d
  same-of so = decisions-keep w b now Same decides-same so refl

  stepped-hands : (x : Recovery) (o : Op) → (stepped x o).core.hands ≡ x.core.hands
  stepped-hands x o = go (ends x.stage (deed_of o))
    where
      next' : (q : Option ServerNo) → (follows_no_more x q).core.hands ≡ x.core.hands
      next' None = refl
      next' (Some n) = refl

      go : (a : Bool) → (cond a (entered x (moved x.stage)) x).core.hands ≡ x.core.hands
      go true = next' (leaver (moved x.stage))
      go false = refl

  ended-hands : {z y : Recovery} → by.AtEnd z y → y.core.hands ≡ z.core.hands
  ended-hands (by.Continues a rest is) = refl
  ended-hands (by.Completes {r = z} e none may) = go e
    where
      go : (v : Ending) → (ended_by z v).core.hands ≡ z.core.hands
      go by.Rests = refl
      go v = refl

  borne-hands : (x : Recovery) (e : by.Bearing) → (borne x (fate_of e)).core.hands ≡ x.core.hands
  borne-hands x by.Drops = refl
  borne-hands x e = refl

  made-hands : (d z : Recovery) (o : Op) (rest : List Op) (ob : Option Observation) (es : List Exchange) (k : Job) → Same d → by.Does w read now d o rest ob es k → z.core.hands ≡ k.hands → KeepsHands r (taking.goes_on ob es z)
  made-hands d z o rest ob es k same did at =
      let h : Hands d.core.hands es k = subst (λ (a : Attempt). HandsOf d.core a) did.goes (deed-hands w d.core rest read now (deed_of o)) in
      record {
        takes = λ n which c. subst (λ (xs : List ServerNo). Contains xs n) (sym at) (h.takes n which c);
        keeps = λ n c. go n (h.keeps n (subst (λ (xs : List ServerNo). Contains xs n) (sym same) c));
        only = λ n c. back n (h.only n (subst (λ (xs : List ServerNo). Contains xs n) at c));
      }
    where
      back : (n : ServerNo) → Contains d.core.hands n ⊎ ((which : Threads) × Contains es (Request n.0 (asking.Stop which)))
          → Contains r.core.hands n ⊎ ((which : Threads) × Contains es (Request n.0 (asking.Stop which)))
      back n (inl c) = inl (subst (λ (xs : List ServerNo). Contains xs n) same c)
      back n (inr c) = inr c

      go : (n : ServerNo) → Contains k.hands n ⊎ Contains es (Request n.0 asking.Start) → Contains z.core.hands n ⊎ Contains es (Request n.0 asking.Start)
      go n (inl c) = inl (subst (λ (xs : List ServerNo). Contains xs n) (sym at) c)
      go n (inr c) = inr c

  pub turn-hands : is_going (taken w b read now r).step ≡ true → KeepsHands r (taken w b read now r)
  turn-hands = go (taken w b read now r) (taken-walks w b read now r)
    where
      go : (t : Taken) → Turning w b read now r t → is_going t.step ≡ true → KeepsHands r t
      go t (by.Waits {d} so o rest ob es j did e) h = made-hands d (record d { core = j }) o rest ob es j (same-of so) did refl
      go t (by.Acts {d} {s = z} so o rest ob es j did e end) h = made-hands d z o rest ob es j (same-of so) did (ended-hands end ∙ stepped-hands (record d { core = j }) o)
      go t (by.Bears {d} so o rest x ob e stops is may) h = record {
        takes = λ n which c. absurd (no-none (Request n.0 (asking.Stop which)) c);
        keeps = λ n c. inl (subst (λ (xs : List ServerNo). Contains xs n) (sym (borne-hands d e ∙ same-of so)) c);
        only = λ n c. inl (subst (λ (xs : List ServerNo). Contains xs n) (borne-hands d e ∙ same-of so) c);
      }
      go t (by.Fails so x ob y) h = absurd (false≢true h)
      go t (by.Finishes so o rest ls is e) h = absurd (false≢true h)

  pub fails-starting : (c : Cause) (lines : List Line) → (taken w b read now r).step ≡ step.Failed c lines → StartsHands r (taken w b read now r)
  fails-starting c lines = go (taken w b read now r) (taken-walks w b read now r)
    where
      go : (t : Taken) → Turning w b read now r t → t.step ≡ step.Failed c lines → StartsHands r t
      go t (by.Fails {d} so x ob y) h = record {
        starts = λ n i.
            Contains-append_right (undone w d.purpose d.core.seen d.failed d.stage) (restarts d.core.hands) (Request n.0 asking.Start)
            (restarted d.core.hands n (subst (λ (xs : List ServerNo). Contains xs n) (sym (same-of so)) i));
      }
      go t (by.Waits so o rest ob es j did e) h = cc
      go t (by.Acts so o rest ob es j did e end) h = cc
      go t (by.Bears so o rest x ob e stops is may) h = cc
      go t (by.Finishes so o rest ls is e) h = cc

-- ---- a turn in which it fails

module _ (w : World) (read : ℕ) (now : Moment) (x : Recovery) (c : Cause) (lines : List Line) where
  abbrev Failed : Taken → Type 0
  Failed t = t.step ≡ step.Failed c lines

  abbrev Last : Taken → Type 0
  Last t = Failed t → t.exchanges ≡ last_exchanges w x

  last-met : (k : Cause) (ob : Option Observation) (f : Fate) → Last (met w x k ob f)
  last-met k ob taking.Fails h = refl
  last-met k ob taking.Drops h = cc
  last-met k ob f h = cc

  last-turn : Last (settled_turn w read now x)
  last-turn = go x.core.ops
    where
      by-bar : (o : Op) (ob : Option Observation) (es : List Exchange) (k : Job) (q : Option Cause) → Last (on_going w x o ob es k q)
      by-bar o ob es k None h = cc
      by-bar o ob es k (Some f) h = refl

      by-attempt : (o : Op) (a : Attempt) → Last (attempted w x o a)
      by-attempt o (attempt.Goes ob es k) h = by-bar o ob es k (barred_by x.stage x.failed k.seen) h
      by-attempt o (attempt.Stops f ob) h = last-met f ob (fate w x.purpose x.stage f) h
      by-attempt o (attempt.Ends ls) h = cc

      go : (ops : List Op) → Last (acted w read now x ops)
      go [] h = refl
      go (o ∷ rest) h = by-attempt o (by_deed w read now x.core rest (deed_of o)) h

-- what is made good
module _ (w : World) (seen : List Sight) (f : ServerNo) where
  opens-so : (u : Purpose) (s : Stage) (m : ServerNo) → is_takeover u ≡ true → closed_at f s ≡ Some m → Contains (undone w u seen f s) (Request m.0 (asking.SetReadOnly false))
  opens-so (purpose.Takeover d) s m t at = go s at
    where
      this : (n : ServerNo) → Some n ≡ Some m → Contains (Request n.0 (asking.SetReadOnly false) ∷ []) (Request m.0 (asking.SetReadOnly false))
      this n e = subst (λ (i : ServerNo). Contains (Request n.0 (asking.SetReadOnly false) ∷ []) (Request i.0 (asking.SetReadOnly false))) (same_Some n m e) (here (Request n.0 (asking.SetReadOnly false)) [])

      go : (k : Stage) → closed_at f k ≡ Some m → Contains (undone w (purpose.Takeover d) seen f k) (Request m.0 (asking.SetReadOnly false))
      go (stage.Switch i k) e =
          Contains-append_right (that_can w (crossing_of seen cross.Back k i)) (Request k.0 asking.Start ∷ Request i.0 (asking.SetReadOnly false) ∷ []) (Request m.0 (asking.SetReadOnly false))
          (Contains-append_right (Request k.0 asking.Start ∷ []) (Request i.0 (asking.SetReadOnly false) ∷ []) (Request m.0 (asking.SetReadOnly false)) (this i e))
      go (stage.Meet i k) e = cc
      go (stage.Shut i k) e = cc
      go (stage.Switched i k) e = cc
      go (stage.Open i) e = cc
      go (stage.Opened i) e = cc
      go (stage.Close ls) e = cc
      go stage.Idle e = this f e
      go k e = this f e
  opens-so _ s m t at = absurd (false≢true t)

  back-so : (k : ServerNo) (i : ServerNo) (last : Position) (own : Coord) (below : ServerNo) → seen_of seen k.0 ≡ Some last → last.own_end ≡ Some own → (last.source ≡ source.Attached below) ⊎ (last.source ≡ source.Detached below)
      → crossing_of seen cross.Back k i ≡ Some (Attach k.0 (spot.OwnEnd own) below last.exec)
  back-so k i last own below is end at =
      ap (λ (o : Option Position). crossed cross.Back k (bridge_at k o)) is
      ∙ (ap (λ (o : Option Coord). crossed cross.Back k (bridge_by k o last.source last.exec)) end ∙ by-source at)
    where
      by-source : (last.source ≡ source.Attached below) ⊎ (last.source ≡ source.Detached below) → crossed cross.Back k (bridge_by k (Some own) last.source last.exec) ≡ Some (Attach k.0 (spot.OwnEnd own) below last.exec)
      by-source (inl e) = ap (λ (s : SourceState). crossed cross.Back k (bridge_by k (Some own) s last.exec)) e
      by-source (inr e) = ap (λ (s : SourceState). crossed cross.Back k (bridge_by k (Some own) s last.exec)) e

  switched-so : (u : Purpose) (s : Stage) (i k : ServerNo) → is_takeover u ≡ true → s ≡ stage.Switch i k
      → undone w u seen f s ≡ that_can w (crossing_of seen cross.Back k i) ++ (Request k.0 asking.Start ∷ Request i.0 (asking.SetReadOnly false) ∷ [])
  switched-so (purpose.Takeover d) s i k t at = ap (undone w (purpose.Takeover d) seen f) at
  switched-so _ s i k t at = absurd (false≢true t)

-- each exchange of such a turn
module _ (w : World) (d : Recovery) where
  abbrev Good : Exchange → Type 0
  Good e = MakesGood w d e

  restarts-good : (hands : List ServerNo) → ((n : ServerNo) → Contains hands n → Contains d.core.hands n) → All Good (restarts hands)
  restarts-good [] there = All-nil Good
  restarts-good (k ∷ ks) there =
      All-cons Good (Request k.0 asking.Start) (restarts ks) (good.Restarts k (there k (here k ks)))
      (restarts-good ks (λ n h. there n (Contains-append_right (k ∷ []) ks n h)))

  can-good : (o : Option Exchange) → ((e : Exchange) → o ≡ Some e → can_attach w e ≡ true → Good e) → All Good (that_can w o)
  can-good None h = All-nil Good
  can-good (Some e) h = go (can_attach w e) refl
    where
      go : (b : Bool) → can_attach w e ≡ b → All Good (cond b (e ∷ []) [])
      go true can = All-cons Good e [] (h e refl can) (All-nil Good)
      go false can = All-nil Good

  goes-back : (k : ServerNo) (e : Exchange) → crossed cross.Back k (bridge_at k (seen_of d.core.seen k.0)) ≡ Some e → can_attach w e ≡ true → GoesBack w d k e
  goes-back k e h can = go (seen_of d.core.seen k.0) refl h
    where
      nothing : None ≡ Some e → GoesBack w d k e
      nothing g = cc

      by-end : (s : Position) → seen_of d.core.seen k.0 ≡ Some s → (o : Option Coord) → s.own_end ≡ o → (x : SourceState) → s.source ≡ x → crossed cross.Back k (bridge_by k o x s.exec) ≡ Some e → GoesBack w d k e
      by-end s is None end x below g = nothing g
      by-end s is (Some own) end source.Without below g = nothing g
      by-end s is (Some own) end (source.Attached m) below g =
          record { last = s; seen = is; own = own; end = end; source = m; below = inl below; is = sym (same_Some (Attach k.0 (spot.OwnEnd own) m s.exec) e g); can = can }
      by-end s is (Some own) end (source.Detached m) below g =
          record { last = s; seen = is; own = own; end = end; source = m; below = inr below; is = sym (same_Some (Attach k.0 (spot.OwnEnd own) m s.exec) e g); can = can }

      go : (o : Option Position) → seen_of d.core.seen k.0 ≡ o → crossed cross.Back k (bridge_at k o) ≡ Some e → GoesBack w d k e
      go None is g = nothing g
      go (Some s) is g = by-end s is s.own_end refl s.source refl g

  undone-good : (u : Purpose) → d.purpose ≡ u → (s : Stage) → d.stage ≡ s → All Good (undone w u d.core.seen d.failed s)
  undone-good (purpose.Takeover x) aim s at = go s at
    where
      sure : is_takeover d.purpose ≡ true
      sure = ap is_takeover aim

      writes : (m : ServerNo) → closed_at d.failed d.stage ≡ Some m → All Good (Request m.0 (asking.SetReadOnly false) ∷ [])
      writes m closed = All-cons Good (Request m.0 (asking.SetReadOnly false)) [] (good.Opens m sure closed) (All-nil Good)

      go : (k : Stage) → d.stage ≡ k → All Good (undone w (purpose.Takeover x) d.core.seen d.failed k)
      go (stage.Switch m k) is =
          All-append Good (that_can w (crossing_of d.core.seen cross.Back k m)) (Request k.0 asking.Start ∷ Request m.0 (asking.SetReadOnly false) ∷ [])
          (can-good (crossing_of d.core.seen cross.Back k m) (λ e h can. good.Returns m k sure is (goes-back k e h can)))
          (All-cons Good (Request k.0 asking.Start) (Request m.0 (asking.SetReadOnly false) ∷ []) (good.Starts m k sure is) (writes m (ap (closed_at d.failed) is)))
      go (stage.Meet m k) is = All-nil Good
      go (stage.Shut m k) is = All-nil Good
      go (stage.Switched m k) is = All-nil Good
      go (stage.Open m) is = All-nil Good
      go (stage.Opened m) is = All-nil Good
      go (stage.Close ls) is = All-nil Good
      go stage.Idle is = writes d.failed (ap (closed_at d.failed) is)
      go k is = writes d.failed (ap (closed_at d.failed) is)
  undone-good _ aim s at = All-nil Good

pub fails-opening : (w : World) (b : BookState) (read : ℕ) (now : Moment) (r : Recovery) (c : Cause) (lines : List Line) → (taken w b read now r).step ≡ step.Failed c lines
    → OpensAgain w (decided (ground_of w b now) r) (taken w b read now r)
fails-opening w b read now r c lines failed = record {
  opens = λ m t at.
      in-turn (Request m.0 (asking.SetReadOnly false))
      (Contains-append_left (undone w d.purpose d.core.seen d.failed d.stage) (restarts d.core.hands) (Request m.0 (asking.SetReadOnly false)) (opens-so w d.core.seen d.failed d.purpose d.stage m t at));
  writes = λ m t at reached.
      subst (λ (es : List Exchange). IsOpen (run w es) m) (sym same)
      (opens-last w d m
      (Contains-append_left (undone w d.purpose d.core.seen d.failed d.stage) (restarts d.core.hands) (Request m.0 (asking.SetReadOnly false)) (opens-so w d.core.seen d.failed d.purpose d.stage m t at))
      reached);
  back = λ m k e t at g.
      in-turn e
      (Contains-append_left (undone w d.purpose d.core.seen d.failed d.stage) (restarts d.core.hands) e
      (subst (λ (es : List Exchange). Contains es e) (sym (switched-so w d.core.seen d.failed d.purpose d.stage m k t at))
      (Contains-append_left (that_can w (crossing_of d.core.seen cross.Back k m)) (Request k.0 asking.Start ∷ Request m.0 (asking.SetReadOnly false) ∷ []) e (made-back m k e g))));
  starts = λ m k t at.
      in-turn (Request k.0 asking.Start)
      (Contains-append_left (undone w d.purpose d.core.seen d.failed d.stage) (restarts d.core.hands) (Request k.0 asking.Start)
      (subst (λ (es : List Exchange). Contains es (Request k.0 asking.Start)) (sym (switched-so w d.core.seen d.failed d.purpose d.stage m k t at))
      (Contains-append_right (that_can w (crossing_of d.core.seen cross.Back k m)) (Request k.0 asking.Start ∷ Request m.0 (asking.SetReadOnly false) ∷ []) (Request k.0 asking.Start)
      (here (Request k.0 asking.Start) (Request m.0 (asking.SetReadOnly false) ∷ [])))));
  only =
      subst (λ (es : List Exchange). All (MakesGood w d) es) (sym same)
      (All-append (MakesGood w d) (undone w d.purpose d.core.seen d.failed d.stage) (restarts d.core.hands) (undone-good w d d.purpose refl d.stage refl) (restarts-good w d d.core.hands (λ n h. h)));
}
  where
    d : Recovery
    d = decided (ground_of w b now) r

    same : (taken w b read now r).exchanges ≡ last_exchanges w d
    same = last-turn w read now d c lines failed

    in-turn : (e : Exchange) → Contains (last_exchanges w d) e → Contains (taken w b read now r).exchanges e
    in-turn e h = subst (λ (es : List Exchange). Contains es e) (sym same) h

    made-back : (m k : ServerNo) (e : Exchange) → GoesBack w d k e → Contains (that_can w (crossing_of d.core.seen cross.Back k m)) e
    made-back m k e g =
        subst (λ (o : Option Exchange). Contains (that_can w o) e) (sym (back-so w d.core.seen d.failed k m g.last g.own g.source g.seen g.end g.below ∙ ap (λ (y : Exchange). Some y) (sym g.is)))
        (subst (λ (a : Bool). Contains (cond a (e ∷ []) []) e) (sym g.can) (here e []))
