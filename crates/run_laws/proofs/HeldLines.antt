-- A turn of a plan's job keeps the servers of its lines on their way there, and its last one finds them there.
use Rattle.std.proofs.Common.{◌≡◌, ◌∙◌, ℕ, ◌+◌, Bool, true, false, cond, List, [], ◌∷◌, ◌++◌, refl, sym, ap, subst, Option, Some, None, Ok, Err, Result, ◌⊎◌, inl, inr, arith, ◌==◌, All, Contains, if◌then◌else◌}
use Rattle.run_laws.proofs.Prelude.{After, All-contains, All-head, All-tail, All-weaker, AllShow, ArePlaced, Attach, AttachAuto, Attached, Attaches}
use Rattle.run_laws.proofs.Prelude.{AttachFault, Attempts, Below, Coord, Deed, Detached, Exchange, HeldJob, HoldOf, IsApplying, IsLeased, IsMove}
use Rattle.run_laws.proofs.Prelude.{IsMoved, IsTaken, IsUnder, IsWaitFor, IsWritable, Job, JobStep, KeepsSource, Leases, Line, Makes, Misses, Moment}
use Rattle.run_laws.proofs.Prelude.{Observation, Op, Position, Server, ServerNo, Sight, SourceState, Spares, Spot, Status, Stays, Stays-keeps}
use Rattle.run_laws.proofs.Prelude.{StaysSo, Turned, Under-keeps, Unended, Without, World, about-moves, after, after_answer, and_parts, are_held}
use Rattle.run_laws.proofs.Prelude.{are_listed, are_matched, at_with_same, attach_answer, attach_answer_of, attached_anew, attached_no, attached_to}
use Rattle.run_laws.proofs.Prelude.{attached_world, attempts, back-moves, below_after, by_deed, by_ops, change_of, deed-still, deed-taken, deed_of}
use Rattle.run_laws.proofs.Prelude.{eq-eqb, eqb-true, false≢true, file_start, finds, finds_match, finished, footing, going, is_attached, is_finish}
use Rattle.run_laws.proofs.Prelude.{is_going, is_in, is_moved, job_with, learn, leased_to, led_by, led_by_all, list_any, made-well, matched_by}
use Rattle.run_laws.proofs.Prelude.{matched_in, moves, not-moved, number_of, open-moves, or_parts, other-after, position_of, read_below, request-made}
use Rattle.run_laws.proofs.Prelude.{run, run-goes, same-stays-so, same-tried, same_again, same_Some, seen-at, seen_of, server_at, server_of}
use Rattle.run_laws.proofs.Prelude.{shut-moves, source_no, source_shown, started-goes, turn-taken, turned, way-moves, with_seen, with_server}
use Rattle.run_laws.proofs.Prelude.Turns
use Rattle.run_laws.proofs.Prelude.asking
use Rattle.run_laws.proofs.Prelude.cross
use Rattle.run_laws.proofs.Prelude.deed
use Rattle.run_laws.proofs.Prelude.events
use Rattle.run_laws.proofs.Prelude.jobstep
use Rattle.run_laws.proofs.Prelude.line
use Rattle.run_laws.proofs.Prelude.op
use Rattle.run_laws.proofs.Prelude.spot
use Rattle.run_laws.proofs.Prelude.unended
use Rattle.run_laws.proofs.Prelude.way
use Rattle.run_laws.proofs.Prelude.Upkeep.{GoesOn}
use Rattle.run_laws.proofs.Leading.{IsLedSo, IsTold, runs, runs_by}
use Rattle.run_laws.proofs.Prelude.doing

-- ---- what was seen

-- a source below which a server was read was the last that was seen of it
abbrev Sees : List Sight → Below → Type 0
Sees seen below = (k : ℕ) (x : ServerNo) → below k ≡ Some x → source_shown (seen_of seen k) ≡ Some x.0

module _ (w : World) (j : Job) (rest : List Op) (below : Below) (sees : Sees j.seen below) where
  -- if the job goes on, so it is then
  abbrev SeesThen : Below → Turns.Attempt → Type 0
  SeesThen b (Turns.Goes o es k) = Sees k.seen b
  SeesThen b _ = Unit {0}

  one-more : (n : ServerNo) (s : Status) (from : Option ServerNo) → ((x : ServerNo) → from ≡ Some x → source_no s.source ≡ Some x.0) → Sees (with_seen j.seen n (position_of s)) (read_below below n from)
  one-more n s from shows k x h = ap source_shown (seen-at j.seen n (position_of s) k) ∙ go (n.0 == k) h
    where
      go : (b : Bool) → cond b from (below k) ≡ Some x → source_shown (cond b (Some (position_of s)) (seen_of j.seen k)) ≡ Some x.0
      go true e = shows x e
      go false e = sees k x e

  wait-below : (n : ServerNo) (d : Deed) → IsWaitFor n d → below_after below d ≡ read_below below n None
  wait-below n d (doing.Awaits to) = refl
  wait-below n d _ = refl

  move-below : (n : ServerNo) (d : Deed) → IsMove n d → below_after below d ≡ below
  move-below n d (doing.Crosses c b) = refl
  move-below n d _ = refl

  read-sees : (n : ServerNo) (d : Deed) (s : Status) → IsWaitFor n d → Sees (with_seen j.seen n (position_of s)) (below_after below d)
  read-sees n d s is = subst (λ (b : Below). Sees (with_seen j.seen n (position_of s)) b) (sym (wait-below n d is)) (one-more n s None (λ x h. cc))

  same-sees : (n : ServerNo) (d : Deed) → IsMove n d → Sees j.seen (below_after below d)
  same-sees n d is = subst (λ (b : Below). Sees j.seen b) (sym (move-below n d is)) sees

  sees-by : (read : ℕ) (now : Moment) (d : Deed) (a : Turns.Attempt) → Attempts w read now j rest d a → SeesThen (below_after below d) a
  sees-by read now d a (doing.Misses n from c why) = tt
  sees-by read now d a (doing.Fails x c why) = tt
  sees-by read now d a (doing.Reads n from s seen is) = one-more n s from (λ x h. not-moved x s.source (subst (λ (f : Option ServerNo). is_moved f s.source ≡ false) h is))
  sees-by read now d a (doing.Waits n x s is seen short more) = read-sees n x s is
  sees-by read now d a (doing.Reaches n x s is seen over) = read-sees n x s is
  sees-by read now d a (doing.Attaches n x e is made of can done) = same-sees n x is
  sees-by read now d a (doing.Passes n x is not-can) = same-sees n x is
  sees-by read now d a (doing.Finishes lines) = tt
  sees-by read now d a _ = sees

  deed-sees : (read : ℕ) (now : Moment) (d : Deed) → SeesThen (below_after below d) (by_deed w read now j rest d)
  deed-sees read now d = sees-by read now d (by_deed w read now j rest d) (attempts w read now j rest d)

-- ---- a server that isn't the operation's

module _ (n : ℕ) where
  abbrev Off : Exchange → Type 0
  Off e = server_of e ≡ n → ⊥

  attached-off : (k : ServerNo) → (k.0 ≡ n → ⊥) → Attaches Off k.0
  attached-off k apart (Attach i expect to at) same = λ here. apart (sym same ∙ here)
  attached-off k apart (AttachAuto i seen to) same = λ here. apart (sym same ∙ here)
  attached-off k apart e bad = absurd bad

  off-by : (d : Deed) → ((k : ServerNo) → change_of d ≡ Some k → k.0 ≡ n → ⊥) → Makes Off d
  off-by (deed.Request k a) apart = apart k refl
  off-by (deed.Until k to) apart = λ c. apart k refl
  off-by (deed.Cross c a b) apart = attached-off a (apart a refl)
  off-by (deed.Same k) apart = attached-off k (apart k refl)
  off-by (deed.Auto k m) apart = attached-off k (apart k refl)
  off-by (deed.CrossMatch k m) apart = attached-off k (apart k refl)
  off-by (deed.Look k from) apart = tt
  off-by _ apart = tt

  off-run : (w : World) (es : List Exchange) → All Off es → server_at (run w es) n ≡ server_at w n
  off-run w [] all = refl
  off-run w (e ∷ es) all = off-run (after w e) es (All-tail Off e es all) ∙ other-after w e n (λ same. All-head Off e es all (sym same))

-- what holds of a server that is as before
pub same-under : (w w' : World) (n m : ℕ) → server_at w' n ≡ server_at w n → IsUnder w n m → IsUnder w' n m
same-under w w' n m same u = record { server = u.server; there = same ∙ u.there; under = u.under }

-- and if these two last
pub stays-on : (w w' : World) (n : ℕ) → StaysSo w w' n → GoesOn w n → GoesOn w' n
stays-on w w' n st (inl h) = inl (st.applies h)
stays-on w w' n st (inr h) = inr (st.loose h)

-- ---- an operation that is done

module _ (w : World) (read : ℕ) (now : Moment) (j : Job) (rest : List Op) (d : Deed) (ob : Option Observation) (es : List Exchange) (k : Job) (goes : by_deed w read now j rest d ≡ Turns.Goes ob es k) (n : ℕ) where
  abbrev behind : World
  behind = run w es

  -- what it comes to
  comes : (Q : World → Type 0) → After w (by_deed w read now j rest d) Q → Q behind
  comes Q h = subst (λ (a : Turns.Attempt). After w a Q) goes h

  elsewhere : ((i : ServerNo) → change_of d ≡ Some i → i.0 ≡ n → ⊥) → server_at behind n ≡ server_at w n
  elsewhere apart = off-run n w es (made-well (Off n) w j rest read now d (off-by n d apart) ob es k goes)

  one-else : (i : ServerNo) → change_of d ≡ Some i → (i.0 == n) ≡ false → server_at behind n ≡ server_at w n
  one-else i is e = elsewhere (λ m h same. false≢true (sym e ∙ (ap (λ (x : ServerNo). x.0 == n) (same_Some i m (sym is ∙ h)) ∙ eq-eqb m.0 n same)))

  nothing-changed : change_of d ≡ None → server_at behind n ≡ server_at w n
  nothing-changed none = elsewhere (λ m h. let bad : None ≡ Some m = sym none ∙ h in cc)

  -- ---- its source

  abbrev IsAt : World → Option ServerNo → Type 0
  IsAt v at = (x : ServerNo) → at ≡ Some x → IsUnder v n x.0

  still-at : (at : Option ServerNo) → server_at behind n ≡ server_at w n → IsAt w at → IsAt behind at
  still-at at same h x e = same-under w behind n x.0 same (h x e)

  keeps-at : (at : Option ServerNo) → KeepsSource w behind n → IsAt w at → IsAt behind at
  keeps-at at keeps h x e = Under-keeps w behind n x.0 keeps (h x e)

  -- one that goes there, by whether it is this server
  led-at : (i : ServerNo) (to at : Option ServerNo) → change_of d ≡ Some i → ((x : ServerNo) → to ≡ Some x → IsUnder behind i.0 x.0) → IsAt w at → IsAt behind (cond (i.0 == n) to at)
  led-at i to at is own h = go (i.0 == n) refl
    where
      go : (b : Bool) → (i.0 == n) ≡ b → IsAt behind (cond b to at)
      go true e = λ x g. subst (λ (m : ℕ). IsUnder behind m x.0) (eqb-true i.0 n e) (own x g)
      go false e = still-at at (one-else i is e) h

  -- ---- its threads

  -- one that is stopped or moved, or is another
  off-on : (i : ServerNo) (on : Bool) → change_of d ≡ Some i → (on ≡ true → GoesOn w n) → cond (i.0 == n) false on ≡ true → GoesOn behind n
  off-on i on is h = go (i.0 == n) refl
    where
      go : (b : Bool) → (i.0 == n) ≡ b → cond b false on ≡ true → GoesOn behind n
      go true e g = absurd (false≢true g)
      go false e g = stays-on w behind n (same-stays-so w behind n (one-else i is e)) (h g)

  still-on : (on : Bool) → change_of d ≡ None → (on ≡ true → GoesOn w n) → on ≡ true → GoesOn behind n
  still-on on none h g = stays-on w behind n (same-stays-so w behind n (nothing-changed none)) (h g)

-- a server that is attached anew
module _ (w : World) (j : Job) (rest : List Op) where
  attached-under : (k : ServerNo) (expect : Spot) (to : ServerNo) (c : Coord)
      → After w (after_answer j rest k (Attach k.0 expect to c) (attach_answer_of w (Attach k.0 expect to c))) (λ v. IsUnder v k.0 to.0)
  attached-under k expect to c = go (attach_answer w k.0 expect to.0 c (server_at w k.0)) refl
    where
      go : (r : Result (Unit {0}) AttachFault) → attach_answer w k.0 expect to.0 c (server_at w k.0) ≡ r → After w (after_answer j rest k (Attach k.0 expect to c) r) (λ v. IsUnder v k.0 to.0)
      go (Err f) e = tt
      go (Ok t) e = at (server_at w k.0) refl
        where
          at : (o : Option Server) → server_at w k.0 ≡ o → IsUnder (after w (Attach k.0 expect to c)) k.0 to.0
          at None there = let bad : attach_answer w k.0 expect to.0 c None ≡ Ok t = sym (ap (attach_answer w k.0 expect to.0 c) there) ∙ e in cc
          at (Some s) there =
              let is : after w (Attach k.0 expect to c) ≡ with_server w k.0 (attached_to to c s) =
              ap (attached_world w k.0 to c (server_at w k.0)) e ∙ ap (λ x. attached_world w k.0 to c x (Ok t)) there in
              record { server = attached_to to c s; there = ap (λ v. server_at v k.0) is ∙ at_with_same w k.0 s (attached_to to c s) there; under = refl }

  same-moves : (read : ℕ) (now : Moment) (k x : ServerNo) → AllShow w j.seen → finds (footing w j.seen) (deed.Same k) ≡ true → source_shown (seen_of j.seen k.0) ≡ Some x.0
      → After w (by_deed w read now j rest (deed.Same k)) (λ v. IsUnder v k.0 x.0)
  same-moves read now k x shown found shows =
      let t = same-tried w j rest read now k shown found in
      subst (λ (a : Turns.Attempt). After w a (λ v. IsUnder v k.0 x.0)) (sym t.attempt) (go (seen_of j.seen k.0) shows t.exchange t.found)
    where
      its : (e : Exchange) (exec : Coord) (m : ServerNo) → m.0 ≡ x.0 → Some (Attach k.0 (spot.At m exec) m exec) ≡ Some e → After w (after_answer j rest k e (attach_answer_of w e)) (λ v. IsUnder v k.0 x.0)
      its e exec m same h =
          subst (λ (y : Exchange). After w (after_answer j rest k y (attach_answer_of w y)) (λ v. IsUnder v k.0 x.0)) (same_Some (Attach k.0 (spot.At m exec) m exec) e h)
          (subst (λ (i : ℕ). After w (after_answer j rest k (Attach k.0 (spot.At m exec) m exec) (attach_answer_of w (Attach k.0 (spot.At m exec) m exec))) (λ v. IsUnder v k.0 i)) same
          (attached-under k (spot.At m exec) m exec))

      by : (s : SourceState) (exec : Coord) → source_no s ≡ Some x.0 → (e : Exchange) → attached_anew k exec s ≡ Some e → After w (after_answer j rest k e (attach_answer_of w e)) (λ v. IsUnder v k.0 x.0)
      by Without exec h e g = cc
      by (Attached m) exec h e g = its e exec m (same_Some m.0 x.0 h) g
      by (Detached m) exec h e g = its e exec m (same_Some m.0 x.0 h) g

      go : (o : Option Position) → source_shown o ≡ Some x.0 → (e : Exchange) → same_again k o ≡ Some e → After w (after_answer j rest k e (attach_answer_of w e)) (λ v. IsUnder v k.0 x.0)
      go None h e g = cc
      go (Some s) h e g = by s.source s.exec h e g

module _ (w : World) (read : ℕ) (now : Moment) (j : Job) (rest : List Op) (below : Below) (sees : Sees j.seen below) (shown : AllShow w j.seen) (placed : ArePlaced w j.matches)
    (ob : Option Observation) (es : List Exchange) (k : Job) (n : ℕ) where
  abbrev Goes : Deed → Type 0
  Goes d = by_deed w read now j rest d ≡ Turns.Goes ob es k

  abbrev Is : World → Option ServerNo → Type 0
  Is v at = (x : ServerNo) → at ≡ Some x → IsUnder v n x.0

  any : Coord
  any = file_start 1

  -- one that changes no source
  source-kept : (d : Deed) → moves d ≡ false → Goes d → (at : Option ServerNo) → Is w at → Is (run w es) at
  source-kept d still goes at h =
      keeps-at w read now j rest d ob es k goes n at (Stays-keeps w (run w es) n (comes w read now j rest d ob es k goes n (λ v. Stays w v n) (deed-still w j rest n read now d still))) h

  -- an operation leads a server where it is to
  at-by : (d : Deed) → Goes d → finds (footing w j.seen) d ≡ true → finds_match (matched_in j.matches) d ≡ true → (at : Option ServerNo) → Is w at → Is (run w es) (led_by n below at d)
  at-by (deed.Cross cross.Up a b) goes found match at h =
      led-at w read now j rest (deed.Cross cross.Up a b) ob es k goes n a (below b.0) at refl
      (λ x e. (comes w read now j rest (deed.Cross cross.Up a b) ob es k goes n (λ v. IsMoved w v a.0 x.0)
      (way-moves w read now j rest shown (way.Up (record { no = b; source = x; own = any; exec = any })) a (sees b.0 x e) found placed match)).under) h
  at-by (deed.Cross cross.Down a b) goes found match at h =
      led-at w read now j rest (deed.Cross cross.Down a b) ob es k goes n a (Some b) at refl
      (λ x e. subst (λ (y : ServerNo). IsUnder (run w es) a.0 y.0) (same_Some b x e)
      (comes w read now j rest (deed.Cross cross.Down a b) ob es k goes n (λ v. IsMoved w v a.0 b.0)
      (way-moves w read now j rest shown (way.Down (record { no = b; source = b; own = any; exec = any })) a tt found placed match)).under) h
  at-by (deed.Cross cross.About a b) goes found match at h =
      led-at w read now j rest (deed.Cross cross.About a b) ob es k goes n a (Some b) at refl
      (λ x e. subst (λ (y : ServerNo). IsUnder (run w es) a.0 y.0) (same_Some b x e)
      (comes w read now j rest (deed.Cross cross.About a b) ob es k goes n (λ v. IsMoved w v a.0 b.0) (about-moves w read now j rest shown a b found)).under) h
  at-by (deed.Cross cross.Back a b) goes found match at h =
      led-at w read now j rest (deed.Cross cross.Back a b) ob es k goes n a (Some b) at refl
      (λ x e. subst (λ (y : ServerNo). IsUnder (run w es) a.0 y.0) (same_Some b x e)
      (comes w read now j rest (deed.Cross cross.Back a b) ob es k goes n (λ v. IsMoved w v a.0 b.0) (back-moves w read now j rest shown a b found)).under) h
  at-by (deed.Same i) goes found match at h =
      led-at w read now j rest (deed.Same i) ob es k goes n i (below i.0) at refl
      (λ x e. comes w read now j rest (deed.Same i) ob es k goes n (λ v. IsUnder v i.0 x.0) (same-moves w j rest read now i x shown found (sees i.0 x e))) h
  at-by (deed.Auto i m) goes found match at h =
      led-at w read now j rest (deed.Auto i m) ob es k goes n i (Some m) at refl
      (λ x e. subst (λ (y : ServerNo). IsUnder (run w es) i.0 y.0) (same_Some m x e)
      (comes w read now j rest (deed.Auto i m) ob es k goes n (λ v. IsMoved w v i.0 m.0) (way-moves w read now j rest shown (way.Auto m any) i tt found placed match)).under) h
  at-by (deed.CrossMatch i m) goes found match at h =
      led-at w read now j rest (deed.CrossMatch i m) ob es k goes n i (Some m) at refl
      (λ x e. subst (λ (y : ServerNo). IsUnder (run w es) i.0 y.0) (same_Some m x e)
      (comes w read now j rest (deed.CrossMatch i m) ob es k goes n (λ v. IsMoved w v i.0 m.0) (way-moves w read now j rest shown (way.Match m any 0) i tt found placed match)).under) h
  at-by (deed.Request i asking.Reset) goes found match at h = led-at w read now j rest (deed.Request i asking.Reset) ob es k goes n i None at refl (λ x e. cc) h
  at-by (deed.Request i asking.Detach) goes found match at h = led-at w read now j rest (deed.Request i asking.Detach) ob es k goes n i None at refl (λ x e. cc) h
  at-by (deed.Request i asking.Reattach) goes found match at h = led-at w read now j rest (deed.Request i asking.Reattach) ob es k goes n i None at refl (λ x e. cc) h
  at-by (deed.Request i (asking.SetReadOnly true)) goes found match at h =
      keeps-at w read now j rest (deed.Request i (asking.SetReadOnly true)) ob es k goes n at
      (comes w read now j rest (deed.Request i (asking.SetReadOnly true)) ob es k goes n (λ v. (m : ℕ) → KeepsSource w v m) (shut-moves w read now j rest shown i) n) h
  at-by (deed.Request i (asking.SetReadOnly false)) goes found match at h =
      keeps-at w read now j rest (deed.Request i (asking.SetReadOnly false)) ob es k goes n at
      ((comes w read now j rest (deed.Request i (asking.SetReadOnly false)) ob es k goes n (λ v. IsWritable v i.0 × ((m : ℕ) → KeepsSource w v m)) (open-moves w read now j rest shown i)).1 n) h
  at-by d goes found match at h = source-kept d refl goes at h

  -- and starts it
  on-by : (d : Deed) → Goes d → (on : Bool) → (on ≡ true → GoesOn w n) → runs_by n on d ≡ true → GoesOn (run w es) n
  on-by (deed.Request i asking.Start) goes on h = go (i.0 == n) refl
    where
      go : (b : Bool) → (i.0 == n) ≡ b → cond b true on ≡ true → GoesOn (run w es) n
      go true e g =
          let m = request-made w read now j rest i asking.Start ob es k goes in
          subst (λ (c : ℕ). GoesOn (run w es) c) (eqb-true i.0 n e) (subst (λ (xs : List Exchange). GoesOn (run w xs) i.0) (sym m.0) (started-goes w i.0 m.1))
      go false e g = stays-on w (run w es) n (same-stays-so w (run w es) n (one-else w read now j rest (deed.Request i asking.Start) ob es k goes n i refl e)) (h g)
  on-by (deed.Request i (asking.SetReadOnly b)) goes on h =
      λ g. run-goes w es n (made-well (Spares n) w j rest read now (deed.Request i (asking.SetReadOnly b)) (inr tt) ob es k goes) (h g)
  on-by (deed.Request i asking.Detach) goes on h = off-on w read now j rest (deed.Request i asking.Detach) ob es k goes n i on refl h
  on-by (deed.Request i a) goes on h = off-on w read now j rest (deed.Request i a) ob es k goes n i on refl h
  on-by (deed.Until i to) goes on h = off-on w read now j rest (deed.Until i to) ob es k goes n i on refl h
  on-by (deed.Cross c a b) goes on h = off-on w read now j rest (deed.Cross c a b) ob es k goes n a on refl h
  on-by (deed.Same i) goes on h = off-on w read now j rest (deed.Same i) ob es k goes n i on refl h
  on-by (deed.Auto i m) goes on h = off-on w read now j rest (deed.Auto i m) ob es k goes n i on refl h
  on-by (deed.CrossMatch i m) goes on h = off-on w read now j rest (deed.CrossMatch i m) ob es k goes n i on refl h
  on-by d goes on h = still-on w read now j rest d ob es k goes n on refl h

-- ---- the lines of a job

-- what is left leads a server to where its line has it, and starts it, from where it is now
pub record LeadsOn (w : World) (j : Job) (r s : ServerNo) (ops : List Op) : Type 0 where
  below : Below
  at : Option ServerNo
  on : Bool
  sees : Sees j.seen below
  under : (x : ServerNo) → at ≡ Some x → IsUnder w r.0 x.0
  goes : on ≡ true → GoesOn w r.0
  leads : led_by_all r.0 below at ops ≡ Some s
  starts : runs r.0 on ops ≡ true

-- and the server is leased to the job
abbrev pub IsLineOf : World → Leases → Job → List Op → Line → Type 0
IsLineOf w l j ops (line.Follows r s) = IsLeased l j.id r.0 × LeadsOn w j r s ops
IsLineOf w l j ops _ = Unit {0}

pub record HasLines (w : World) (l : Leases) (j : Job) : Type 0 where
  pub before : List Op
  pub lines : List Line
  pub is : j.ops ≡ finished before lines
  pub none : list_any (λ o. is_finish (deed_of o)) before ≡ false
  pub all : All (IsLineOf w l j before) lines

-- a plan's job has none, or these
abbrev pub IsOnItsWay : World → Leases → Unended → Type 0
IsOnItsWay w l (unended.Plan j) = (j.ops ≡ []) ⊎ HasLines w l j
IsOnItsWay w l (unended.Recovery r docket) = Unit {0}

-- of each line
line-weaker : (w w' : World) (l l' : Leases) (j k : Job) (before left : List Op) → ((r s : ServerNo) → IsLeased l j.id r.0 × LeadsOn w j r s before → IsLeased l' k.id r.0 × LeadsOn w' k r s left)
    → (x : Line) → IsLineOf w l j before x → IsLineOf w' l' k left x
line-weaker w w' l l' j k before left more (line.Follows r s) h = more r s h
line-weaker w w' l l' j k before left more x h = tt

-- what others do leaves it so, if they leave its leases
pub others-leave : (w w' : World) (l l' : Leases) (u : Unended) → ((n : ℕ) → IsLeased l (number_of u) n → IsLeased l' (number_of u) n)
    → ((n m : ℕ) → IsLeased l (number_of u) n → IsUnder w n m → IsUnder w' n m) → ((n : ℕ) → IsLeased l (number_of u) n → GoesOn w n → GoesOn w' n) → IsOnItsWay w l u → IsOnItsWay w' l' u
others-leave w w' l l' (unended.Recovery r docket) leases under goes h = tt
others-leave w w' l l' (unended.Plan j) leases under goes (inl none) = inl none
others-leave w w' l l' (unended.Plan j) leases under goes (inr h) = inr (record {
  before = h.before;
  lines = h.lines;
  is = h.is;
  none = h.none;
  all = All-weaker (IsLineOf w l j h.before) (IsLineOf w' l' j h.before) (line-weaker w w' l l' j j h.before h.before (λ r s p. (
    leases r.0 p.0,
    record {
      below = p.1.below;
      at = p.1.at;
      on = p.1.on;
      sees = p.1.sees;
      under = λ x e. under r.0 x.0 p.0 (p.1.under x e);
      goes = λ e. goes r.0 p.0 (p.1.goes e);
      leads = p.1.leads;
      starts = p.1.starts;
    },
  ))) h.lines h.all;
})

-- ---- a turn after which the job goes on

-- a wait forgets once
forgets-once : (below : Below) (n : ServerNo) → read_below (read_below below n None) n None ≡ read_below below n None
forgets-once below n = λ i k. twice (n.0 == k) (below k) i
  where
    twice : (b : Bool) (o : Option ServerNo) → cond b None (cond b None o) ≡ cond b None o
    twice true o = refl
    twice false o = refl

module _ (w : World) (l : Leases) (read : ℕ) (now : Moment) (j : Job) (held : HeldJob w j) where
  abbrev t : Turned
  t = turned w read now j

  module _ (o : Op) (before : List Op) (lines : List Line) (is : j.ops ≡ finished (o ∷ before) lines) (ob : Option Observation) (es : List Exchange) (k : Job)
      (goes : by_deed w read now j (finished before lines) (deed_of o) ≡ Turns.Goes ob es k) (number : k.id ≡ j.id) where
    abbrev rest : List Op
    rest = finished before lines

    found : finds (footing w j.seen) (deed_of o) ≡ true
    found = (and_parts (finds (footing w j.seen) (deed_of o)) (are_held (learn (footing w j.seen) (deed_of o)) rest) (subst (λ (ops : List Op). are_held (footing w j.seen) ops ≡ true) is held.left)).0

    match : finds_match (matched_in j.matches) (deed_of o) ≡ true
    match =
        (and_parts (finds_match (matched_in j.matches) (deed_of o)) (are_matched (matched_by (matched_in j.matches) (deed_of o)) rest)
        (subst (λ (ops : List Op). are_matched (matched_in j.matches) ops ≡ true) is held.matched)).0

    sees-then : (below : Below) → Sees j.seen below → Sees k.seen (below_after below (deed_of o))
    sees-then below sees = subst (λ (a : Turns.Attempt). SeesThen w j rest below sees (below_after below (deed_of o)) a) goes (deed-sees w j rest below sees read now (deed_of o))

    done-line : (r s : ServerNo) → IsLeased l j.id r.0 × LeadsOn w j r s (o ∷ before) → IsLeased l k.id r.0 × LeadsOn (run w es) k r s before
    done-line r s p = (
      subst (λ (n : ℕ). IsLeased l n r.0) (sym number) p.0,
      record {
        below = below_after p.1.below (deed_of o);
        at = led_by r.0 p.1.below p.1.at (deed_of o);
        on = runs_by r.0 p.1.on (deed_of o);
        sees = sees-then p.1.below p.1.sees;
        under = at-by w read now j rest p.1.below p.1.sees held.shown held.ends ob es k r.0 (deed_of o) goes found match p.1.at p.1.under;
        goes = on-by w read now j rest p.1.below p.1.sees held.shown held.ends ob es k r.0 (deed_of o) goes p.1.on p.1.goes;
        leads = p.1.leads;
        starts = p.1.starts;
      },
    )

    -- a wait leaves the servers
    abbrev Waits : Deed → Type 0
    Waits d = (s : Status) → Misses j d s → (r : ServerNo) (below : Below) (at : Option ServerNo) (on : Bool)
        → (led_by_all r.0 (below_after (below_after below d) d) (led_by r.0 (below_after below d) at d) before ≡ led_by_all r.0 (below_after below d) (led_by r.0 below at d) before)
        × ((led_by r.0 below at d ≡ at) × (runs_by r.0 on d ≡ on))

    waits : (d : Deed) → Waits d
    waits (deed.Await n to) s h r below at on = (ap (λ (b : Below). led_by_all r.0 b at before) (forgets-once below n), (refl, refl))
    waits (deed.AwaitSet n m) s h r below at on = (ap (λ (b : Below). led_by_all r.0 b at before) (forgets-once below n), (refl, refl))
    waits (deed.Settle n) s h r below at on = (ap (λ (b : Below). led_by_all r.0 b at before) (forgets-once below n), (refl, refl))
    waits d s h r below at on = absurd h

    waited-line : (s : Status) → Misses j (deed_of o) s → (r m : ServerNo) → IsLeased l j.id r.0 × LeadsOn w j r m (o ∷ before) → IsLeased l k.id r.0 × LeadsOn (run w es) k r m (o ∷ before)
    waited-line s h r m p =
        let same = waits (deed_of o) s h r p.1.below p.1.at p.1.on in (
          subst (λ (n : ℕ). IsLeased l n r.0) (sym number) p.0,
          record {
            below = below_after p.1.below (deed_of o);
            at = p.1.at;
            on = p.1.on;
            sees = sees-then p.1.below p.1.sees;
            under = λ x e.
                at-by w read now j rest p.1.below p.1.sees held.shown held.ends ob es k r.0 (deed_of o) goes found match p.1.at p.1.under x (same.1.0 ∙ e);
            goes = λ e.
                on-by w read now j rest p.1.below p.1.sees held.shown held.ends ob es k r.0 (deed_of o) goes p.1.on p.1.goes (same.1.1 ∙ e);
            leads = same.0 ∙ p.1.leads;
            starts = p.1.starts;
          },
        )

    taken : IsTaken w j rest (deed_of o) (going ob es k)
    taken = subst (λ (a : Turns.Attempt). IsTaken w j rest (deed_of o) (Turns.settled j a)) goes (deed-taken w read now j rest (deed_of o))

    one-on : list_any (λ x. is_finish (deed_of x)) (o ∷ before) ≡ false → All (IsLineOf w l j (o ∷ before)) lines → HasLines (run w es) l k
    one-on none all = go taken
      where
        go : IsTaken w j rest (deed_of o) (going ob es k) → HasLines (run w es) l k
        go (events.Done h) = record {
          before = before;
          lines = lines;
          is = h.left;
          none = (or_parts (is_finish (deed_of o)) (list_any (λ x. is_finish (deed_of x)) before) none).1;
          all = All-weaker (IsLineOf w l j (o ∷ before)) (IsLineOf (run w es) l k before) (line-weaker w (run w es) l l j k (o ∷ before) before done-line) lines all;
        }
        go (events.Waited h) = record {
          before = o ∷ before;
          lines = lines;
          is = h.left ∙ is;
          none = none;
          all = All-weaker (IsLineOf w l j (o ∷ before)) (IsLineOf (run w es) l k (o ∷ before)) (line-weaker w (run w es) l l j k (o ∷ before) (o ∷ before) (waited-line h.short.seen h.short.misses)) lines all;
        }
        go (events.Ended h) = let bad = h.done in cc
        go (events.Stopped h) = let bad = h.failed in cc

  -- what it comes to
  attempted : (a : Turns.Attempt) → is_going (Turns.settled j a).step ≡ true → (ob : Option Observation) × (es : List Exchange) × (k : Job) × (a ≡ Turns.Goes ob es k)
  attempted (Turns.Goes ob es k) g = (ob, es, k, refl)
  attempted (Turns.Stops c o) g = absurd (false≢true g)
  attempted (Turns.Ends lines) g = absurd (false≢true g)

  by-ops : (ops : List Op) → j.ops ≡ ops → t ≡ Turns.settled j (by_ops w read now j ops)
  by-ops ops is = ap (λ (os : List Op). Turns.settled j (by_ops w read now j os)) is

  pub goes-on-its-way : is_going t.step ≡ true → t.job.id ≡ j.id → IsOnItsWay w l (unended.Plan j) → IsOnItsWay (run w t.exchanges) l (unended.Plan t.job)
  goes-on-its-way going number (inl none) = absurd (false≢true (sym (ap (λ (x : Turned). is_going x.step) (by-ops [] none)) ∙ going))
  goes-on-its-way going number (inr h) = go h.before h.is h.none h.all
    where
      go : (before : List Op) → j.ops ≡ finished before h.lines → list_any (λ o. is_finish (deed_of o)) before ≡ false → All (IsLineOf w l j before) h.lines → IsOnItsWay (run w t.exchanges) l (unended.Plan t.job)
      go [] is none all = absurd (false≢true (sym (ap (λ (x : Turned). is_going x.step) (by-ops (op.Finish h.lines ∷ []) is)) ∙ going))
      go (o ∷ before) is none all =
          let same = by-ops (o ∷ finished before h.lines) is in
          let a = attempted (by_deed w read now j (finished before h.lines) (deed_of o)) (sym (ap (λ (x : Turned). is_going x.step) same) ∙ going) in
          let it : t ≡ Turns.going a.0 a.1 a.2 = same ∙ ap (Turns.settled j) a.3 in
          subst (λ (x : Turned). IsOnItsWay (run w x.exchanges) l (unended.Plan x.job)) (sym it)
          (inr (one-on o before h.lines is a.0 a.1 a.2 a.3 (sym (ap (λ (x : Turned). x.job.id) it) ∙ number) none all))

  -- ---- the last turn

  abbrev lines-in : JobStep → List Line
  lines-in (jobstep.Done ls) = ls
  lines-in _ = []

  -- a server that is attached and goes on applies
  attached-applies : (n m : ℕ) → IsUnder w n m → GoesOn w n → IsApplying w n
  attached-applies n m u (inl h) = h
  attached-applies n m u (inr h) = absurd (false≢true (sym h.is ∙ ap (λ (x : Server). is_attached x.source) (same_Some h.server u.server (sym h.there ∙ u.there)) ∙ attached u.server.source u.under))
    where
      attached : (x : SourceState) → attached_no x ≡ Some m → is_attached x ≡ true
      attached Without e = cc
      attached (Attached i) e = refl
      attached (Detached i) e = cc

  none-in : (x : Line) → Contains [] x → ⊥
  none-in x c = let lt = c.1 in omega (arith, lt)

  pub done-holds : (lines : List Line) → t.step ≡ jobstep.Done lines → IsOnItsWay w l (unended.Plan j) → HoldOf w lines
  done-holds lines done (inl none) =
      let empty : lines ≡ [] = ap lines-in (sym done ∙ ap (λ (x : Turned). x.step) (by-ops [] none)) in
      λ r s has. absurd (none-in (line.Follows r s) (subst (λ (ls : List Line). Contains ls (line.Follows r s)) empty has))
  done-holds lines done (inr h) = go h.before h.is h.none h.all
    where
      go : (before : List Op) → j.ops ≡ finished before h.lines → list_any (λ o. is_finish (deed_of o)) before ≡ false → All (IsLineOf w l j before) h.lines → HoldOf w lines
      go [] is none all = λ r s has.
          let same : lines ≡ h.lines = ap lines-in (sym done ∙ ap (λ (x : Turned). x.step) (by-ops (op.Finish h.lines ∷ []) is)) in
          let p = All-contains (IsLineOf w l j []) h.lines (line.Follows r s) all (subst (λ (ls : List Line). Contains ls (line.Follows r s)) same has) in
          let under = p.1.under s p.1.leads in
          (under, attached-applies r.0 s.0 under (p.1.goes p.1.starts))
      go (o ∷ before) is none all = absurd (by (turn-taken w read now j o (finished before h.lines) is))
        where
          by : IsTaken w j (finished before h.lines) (deed_of o) t → ⊥
          by (events.Done x) = let bad : jobstep.Done lines ≡ jobstep.Going = sym done ∙ x.going in cc
          by (events.Waited x) = let bad : jobstep.Done lines ≡ jobstep.Going = sym done ∙ x.going in cc
          by (events.Stopped x) = let bad : jobstep.Done lines ≡ jobstep.Failed x.cause [] = sym done ∙ x.failed in cc
          by (events.Ended x) = false≢true (sym (or_parts (is_finish (deed_of o)) (list_any (λ y. is_finish (deed_of y)) before) none).0 ∙ ap is_finish x.finish)

-- ---- as it begins

-- an operation that leads a server somewhere changes it
led-changes : (n : ℕ) (below : Below) (d : Deed) → (led_by n below None d ≡ None) ⊎ ((k : ServerNo) × (change_of d ≡ Some k) × (k.0 ≡ n))
led-changes n below d = go d
  where
    one : (e : Deed) (k : ServerNo) (to : Option ServerNo) → change_of e ≡ Some k → (b : Bool) → (k.0 == n) ≡ b → (cond b to None ≡ None) ⊎ ((i : ServerNo) × (change_of e ≡ Some i) × (i.0 ≡ n))
    one e k to is true same = inr (k, is, eqb-true k.0 n same)
    one e k to is false apart = inl refl

    go : (e : Deed) → (led_by n below None e ≡ None) ⊎ ((k : ServerNo) × (change_of e ≡ Some k) × (k.0 ≡ n))
    go (deed.Cross cross.Up a b) = one (deed.Cross cross.Up a b) a (below b.0) refl (a.0 == n) refl
    go (deed.Cross cross.Down a b) = one (deed.Cross cross.Down a b) a (Some b) refl (a.0 == n) refl
    go (deed.Cross cross.About a b) = one (deed.Cross cross.About a b) a (Some b) refl (a.0 == n) refl
    go (deed.Cross cross.Back a b) = one (deed.Cross cross.Back a b) a (Some b) refl (a.0 == n) refl
    go (deed.Same k) = one (deed.Same k) k (below k.0) refl (k.0 == n) refl
    go (deed.Auto k m) = one (deed.Auto k m) k (Some m) refl (k.0 == n) refl
    go (deed.CrossMatch k m) = one (deed.CrossMatch k m) k (Some m) refl (k.0 == n) refl
    go (deed.Request k asking.Reset) = one (deed.Request k asking.Reset) k None refl (k.0 == n) refl
    go (deed.Request k asking.Detach) = one (deed.Request k asking.Detach) k None refl (k.0 == n) refl
    go (deed.Request k asking.Reattach) = one (deed.Request k asking.Reattach) k None refl (k.0 == n) refl
    go e = inl refl

-- so it is of the job's list
led-listed : (list : List ServerNo) (n : ℕ) (below : Below) (ops later : List Op) (s : ServerNo) → are_listed list (ops ++ later) ≡ true → led_by_all n below None ops ≡ Some s → list_any (λ k. k.0 == n) list ≡ true
led-listed list n below [] later s listed h = cc
led-listed list n below (x ∷ xs) later s listed h =
    let parts = and_parts (is_in list (change_of (deed_of x))) (are_listed list (xs ++ later)) listed in
    go parts.0 (λ none. led-listed list n (below_after below (deed_of x)) xs later s parts.1 (subst (λ (o : Option ServerNo). led_by_all n (below_after below (deed_of x)) o xs ≡ Some s) none h))
    (led-changes n below (deed_of x))
  where
    go : is_in list (change_of (deed_of x)) ≡ true → (led_by n below None (deed_of x) ≡ None → list_any (λ k. k.0 == n) list ≡ true)
        → (led_by n below None (deed_of x) ≡ None) ⊎ ((k : ServerNo) × (change_of (deed_of x) ≡ Some k) × (k.0 ≡ n)) → list_any (λ k. k.0 == n) list ≡ true
    go here more (inl none) = more none
    go here more (inr (k, is, same)) = subst (λ (m : ℕ). list_any (λ y. y.0 == m) list ≡ true) same (subst (λ (o : Option ServerNo). is_in list o ≡ true) is here)

pub begins-on-its-way : (w : World) (l : Leases) (list : List ServerNo) (id wait : ℕ) (ops : List Op) → are_listed list ops ≡ true → IsTold ops → IsOnItsWay w (leased_to l list id) (unended.Plan (job_with id wait ops))
begins-on-its-way w l list id wait ops listed (inl none) = inl none
begins-on-its-way w l list id wait ops listed (inr t) = inr (record { before = t.before; lines = t.lines; is = t.is; none = t.none; all = All-weaker (IsLedSo t.before) (IsLineOf w (leased_to l list id) (job_with id wait ops) t.before) each t.lines t.led })
  where
    each : (x : Line) → IsLedSo t.before x → IsLineOf w (leased_to l list id) (job_with id wait ops) t.before x
    each (line.Follows r s) h = (
      ap (λ (b : Bool). if b then Some id else l r.0) (led-listed list r.0 (λ n. None) t.before (op.Finish t.lines ∷ []) s (subst (λ (os : List Op). are_listed list os ≡ true) t.is listed) h.0),
      record {
        below = λ n. None;
        at = None;
        on = false;
        sees = λ k x e. cc;
        under = λ x e. cc;
        goes = λ e. absurd (false≢true e);
        leads = h.0;
        starts = h.1;
      },
    )
    each x h = tt
