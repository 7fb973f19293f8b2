-- What leaves a server's applier on, and a server closed to writes.
use Rattle.recovery_covers.proofs.RecoveryLaws.Deciding.{or-true}
use Rattle.std.proofs.Common.{◌≡◌, ℕ, Bool, true, false, cond, List, [], ◌∷◌, refl, sym, ◌∙◌, ap, subst, Option, Some, None, Ok, Err, Result, ◌||◌, ◌⊎◌, inl, inr, ◌==◌, not}
use Rattle.unended_laws.proofs.Prelude.{All, All-head, All-tail, Applies, Apply, ApplyStep, Ask, Attach, AttachAuto, AttachFault, Attached, Attempt, Befall}
use Rattle.unended_laws.proofs.Prelude.{Coord, Detached, Event, Exchange, Fetch, FetchStep, GoesOn, IsApplying, IsGentle, IsLoose, IsShut, IsThere, IsUnder}
use Rattle.unended_laws.proofs.Prelude.{Job, Moment, Next, Observation, Op, Purge, PurgeAnswer, Refuses, Request, Rotate, RotateAnswer, Server, ServerNo}
use Rattle.unended_laws.proofs.Prelude.{SourceState, Stands, Txn, Unreachable, Without, World, Write, WriteAnswer, after, after_apply, after_ask}
use Rattle.unended_laws.proofs.Prelude.{after_attach_auto, after_change, after_desk, after_fetch, after_purge, after_rotate, after_write, applied, apply_from}
use Rattle.unended_laws.proofs.Prelude.{apply_step, apply_txn, asked, at_with_other, at_with_same, attach_answer, attach_auto_answer, attached_at}
use Rattle.unended_laws.proofs.Prelude.{attached_auto, attached_no, attached_source, attached_to, auto_coord, befallen, by_deed, desk_answer, detached_source}
use Rattle.unended_laws.proofs.Prelude.{eq-eqb, eqb-true, false≢true, fetch_step, healed, is_applying, is_attached, is_detached, is_outside, next_after}
use Rattle.unended_laws.proofs.Prelude.{other-after, own_txn, purge_answer, rotate_answer, rotated, run, same_Some, same_coord, server_at, started, took, uuids}
use Rattle.unended_laws.proofs.Prelude.{with_server, write_answer}
use Rattle.unended_laws.proofs.Prelude.Exchanges
use Rattle.unended_laws.proofs.Prelude.applying
use Rattle.unended_laws.proofs.Prelude.asking
use Rattle.unended_laws.proofs.Prelude.attempt
use Rattle.unended_laws.proofs.Prelude.deed
use Rattle.unended_laws.proofs.Prelude.event
use Rattle.unended_laws.proofs.Prelude.link
use Rattle.unended_laws.proofs.Prelude.model
use Rattle.unended_laws.proofs.Prelude.next
use Rattle.unended_laws.proofs.Prelude.purging
use Rattle.unended_laws.proofs.Prelude.receiving
use Rattle.unended_laws.proofs.Prelude.rotating
use Rattle.unended_laws.proofs.Prelude.threads
use Rattle.unended_laws.proofs.Prelude.wrote

-- ---- a server that changes

-- what holds of a server
module _ (S : Server → Type 0) where
  -- one that is as before
  pub there-same : (w w' : World) (m : ℕ) → server_at w' m ≡ server_at w m → IsThere S w m → IsThere S w' m
  there-same w w' m same h = record { server = h.server; there = same ∙ h.there; is = h.is }

  there-with : (w : World) (n : ℕ) (s t : Server) → server_at w n ≡ Some s → (S s → S t) → (m : ℕ) → IsThere S w m → IsThere S (with_server w n t) m
  there-with w n s t at keep m h = go (m == n) refl
    where
      go : (b : Bool) → (m == n) ≡ b → IsThere S (with_server w n t) m
      go true e =
          let same : m ≡ n = eqb-true m n e in
          let here : h.server ≡ s = same_Some h.server s (sym h.there ∙ ap (server_at w) same ∙ at) in
          record { server = t; there = ap (server_at (with_server w n t)) same ∙ at_with_same w n s t at; is = keep (subst S here h.is) }
      go false e = there-same w (with_server w n t) m (at_with_other w n s t at m (λ same. false≢true (sym e ∙ eq-eqb m n same))) h

-- ---- what isn't orchestrator's

-- an applier that isn't to stop at a coordinate doesn't stop
module _ (gtid : Bool) (r : Server) where
  goes-txn : (to : Coord) (o : Option Txn) → apply_txn gtid r to o ≡ applying.ForgetUntil → ⊥
  goes-txn to None e = cc
  goes-txn to (Some t) e = go _ _ e
    where
      go : (a b : Bool) → cond a (applying.Skip to) (cond b applying.NoRoom (applying.Execute t to)) ≡ applying.ForgetUntil → ⊥
      go true b f = cc
      go false true f = cc
      go false false f = cc

  goes-step : (s : Server) (x : Next) → applied gtid r s x ≡ applying.ForgetUntil → ⊥
  goes-step s (next.Entry index to) e = goes-txn to _ e
  goes-step s (next.Rotate to) e = cc
  goes-step s next.End e = cc

  goes-from : (o : Option Server) → apply_from gtid r o ≡ applying.ForgetUntil → ⊥
  goes-from None e = cc
  goes-from (Some s) e = go (same_coord r.exec r.read) e
    where
      go : (a : Bool) → cond a applying.Idle (applied gtid r s (next_after s.log.log r.exec)) ≡ applying.ForgetUntil → ⊥
      go true f = cc
      go false f = goes-step s (next_after s.log.log r.exec) f

pub no-end : (w : World) (r : Server) → r.until ≡ None → apply_step w (Some r) ≡ applying.ForgetUntil → ⊥
no-end w r none e = go (is_applying r) (Exchanges.is_reached r.until r.exec) (ap (λ (u : Option Coord). Exchanges.is_reached u r.exec) none) e
  where
    go : (a b : Bool) → b ≡ false → cond (not a) applying.Halt (cond b applying.ForgetUntil (apply_from w.gtid r (attached_at w r.source))) ≡ applying.ForgetUntil → ⊥
    go false b f g = cc
    go true true f g = false≢true (sym f)
    go true false f g = goes-from w.gtid r (attached_at w r.source) g

-- what happens to a server leaves it so
pub record Lasts (S : Server → Type 0) : Type 0 where
  pub takes : (s : Server) (t : Txn) → S s → S (took s t)
  pub executes : (w : World) (s : Server) (t : Txn) (c : Coord) → apply_step w (Some s) ≡ applying.Execute t c → S s → S (record (took s t) { exec = c })
  pub refuses : (s : Server) → S s → S (record s { receiver = false })
  pub fetches : (s : Server) (c : Coord) → S s → S (record s { read = c })
  pub passes : (w : World) (s : Server) (c : Coord) → (apply_step w (Some s) ≡ applying.Pass c) ⊎ (apply_step w (Some s) ≡ applying.Skip c) → S s → S (record s { exec = c })
  pub stops : (w : World) (s : Server) → apply_step w (Some s) ≡ applying.ForgetUntil → S s → S (record s { applier = false; until = None })
  pub fails : (s : Server) → S s → S (record s { up = false })
  pub heals : (s : Server) → S s → S (healed s)
  pub desks : (s : Server) (on : Bool) → S s → S (record s { desk = on })
  pub feeds : (s : Server) (on : Bool) → S s → S (record s { feed = on })
  pub rotates : (s : Server) → S s → S (rotated s)
  pub purges : (s : Server) (first : ℕ) → S s → S (record s { first = first })

module _ (S : Server → Type 0) (lasts : Lasts S) (w : World) (n m : ℕ) (h : IsThere S w m) where
  abbrev So : World → Type 0
  So w' = IsThere S w' m

  with-so : (s t : Server) → server_at w n ≡ Some s → (S s → S t) → So (with_server w n t)
  with-so s t at keep = there-with S w n s t at keep m h

  write-so : (size : ℕ) (o : Option Server) → server_at w n ≡ o → (a : WriteAnswer) → So (after_write w n size o a)
  write-so size (Some s) at (wrote.Done seq) =
      let k = with-so s (took s (own_txn n seq size)) at (lasts.takes s (own_txn n seq size)) in record { server = k.server; there = k.there; is = k.is }
  write-so size _ at _ = h

  fetch-so : (o : Option Server) → server_at w n ≡ o → (a : FetchStep) → So (after_fetch w n o a)
  fetch-so (Some r) at (receiving.Refuse first) = with-so r (record r { receiver = false }) at (lasts.refuses r)
  fetch-so (Some r) at (receiving.Take (next.Entry index to)) = with-so r (record r { read = to }) at (lasts.fetches r to)
  fetch-so (Some r) at (receiving.Take (next.Rotate to)) = with-so r (record r { read = to }) at (lasts.fetches r to)
  fetch-so _ at _ = h

  apply-so : (o : Option Server) → server_at w n ≡ o → (a : ApplyStep) → apply_step w o ≡ a → So (after_apply w n o a)
  apply-so (Some r) at applying.ForgetUntil is = with-so r (record r { applier = false; until = None }) at (lasts.stops w r is)
  apply-so (Some r) at (applying.Pass to) is = with-so r (record r { exec = to }) at (lasts.passes w r to (inl is))
  apply-so (Some r) at (applying.Skip to) is = with-so r (record r { exec = to }) at (lasts.passes w r to (inr is))
  apply-so (Some r) at (applying.Execute t to) is = with-so r (record (took r t) { exec = to }) at (lasts.executes w r t to is)
  apply-so _ at _ is = h

  befall-so : (e : Event) (o : Option Server) → server_at w n ≡ o → So (after_change w n (befallen e) o)
  befall-so e None at = h
  befall-so event.Fail (Some s) at = with-so s (record s { up = false }) at (lasts.fails s)
  befall-so event.Heal (Some s) at = with-so s (healed s) at (lasts.heals s)
  befall-so (event.Cut link.Desk) (Some s) at = with-so s (record s { desk = false }) at (lasts.desks s false)
  befall-so (event.Cut link.Feed) (Some s) at = with-so s (record s { feed = false }) at (lasts.feeds s false)
  befall-so (event.Join link.Desk) (Some s) at = with-so s (record s { desk = true }) at (lasts.desks s true)
  befall-so (event.Join link.Feed) (Some s) at = with-so s (record s { feed = true }) at (lasts.feeds s true)

  rotate-so : (o : Option Server) → server_at w n ≡ o → (a : RotateAnswer) → So (after_rotate w n o a)
  rotate-so (Some s) at (rotating.Done to) = with-so s (rotated s) at (lasts.rotates s)
  rotate-so _ at _ = h

  purge-so : (o : Option Server) → server_at w n ≡ o → (a : PurgeAnswer) → So (after_purge w n o a)
  purge-so (Some s) at (purging.Done first) = with-so s (record s { first = first }) at (lasts.purges s first)
  purge-so _ at _ = h

pub outside-so : (S : Server → Type 0) → Lasts S → (w : World) (e : Exchange) → is_outside e ≡ true → (m : ℕ) → IsThere S w m → IsThere S (after w e) m
outside-so S lasts w (Write n size) out m h = write-so S lasts w n m h size (server_at w n) refl (write_answer n (server_at w n))
outside-so S lasts w (Fetch n) out m h = fetch-so S lasts w n m h (server_at w n) refl (fetch_step w (server_at w n))
outside-so S lasts w (Apply n) out m h = apply-so S lasts w n m h (server_at w n) refl (apply_step w (server_at w n)) refl
outside-so S lasts w (Befall n e) out m h = befall-so S lasts w n m h e (server_at w n) refl
outside-so S lasts w (Rotate n) out m h = rotate-so S lasts w n m h (server_at w n) refl (rotate_answer (server_at w n))
outside-so S lasts w (Purge n file) out m h = purge-so S lasts w n m h (server_at w n) refl (purge_answer w n file (server_at w n))
outside-so S lasts w _ out m h = absurd (false≢true out)

pub healed-applies : (s : Server) → Applies s → Applies (healed s)
healed-applies s on = go s.up
  where
    go : (b : Bool) → Applies (cond b s (record s { up = true; until = None; receiver = is_attached s.source || s.receiver; applier = is_attached s.source || s.applier }))
    go true = on
    go false = (ap (λ a. is_attached s.source || a) on.0 ∙ or-true (is_attached s.source), refl)

-- a server that is healed or isn't has the source, and refuses writes, as before
pub healed-keeps : (S : Server → Type 0) (s : Server) → S s → S (record s { up = true; until = None; receiver = is_attached s.source || s.receiver; applier = is_attached s.source || s.applier })
    → S (healed s)
healed-keeps S s h k = go s.up
  where
    go : (b : Bool) → S (cond b s (record s { up = true; until = None; receiver = is_attached s.source || s.receiver; applier = is_attached s.source || s.applier }))
    go true = h
    go false = k

pub applies-lasts : Lasts Applies
applies-lasts = record {
  takes = λ s t h. h;
  executes = λ w s t c is h. h;
  refuses = λ s h. h;
  fetches = λ s c h. h;
  passes = λ w s c is h. h;
  stops = λ w s is h. absurd (no-end w s h.1 is);
  fails = λ s h. h;
  heals = healed-applies;
  desks = λ s on h. h;
  feeds = λ s on h. h;
  rotates = λ s h. h;
  purges = λ s first h. h;
}

refuses-lasts : Lasts Refuses
refuses-lasts = record {
  takes = λ s t h. h;
  executes = λ w s t c is h. h;
  refuses = λ s h. h;
  fetches = λ s c h. h;
  passes = λ w s c is h. h;
  stops = λ w s is h. h;
  fails = λ s h. h;
  heals = λ s h. healed-keeps Refuses s h h;
  desks = λ s on h. h;
  feeds = λ s on h. h;
  rotates = λ s h. h;
  purges = λ s first h. h;
}

stands-lasts : Lasts Stands
stands-lasts = record {
  takes = λ s t h. h;
  executes = λ w s t c is h. h;
  refuses = λ s h. h;
  fetches = λ s c h. h;
  passes = λ w s c is h. h;
  stops = λ w s is h. h;
  fails = λ s h. h;
  heals = λ s h. healed-keeps Stands s h h;
  desks = λ s on h. h;
  feeds = λ s on h. h;
  rotates = λ s h. h;
  purges = λ s first h. h;
}

-- what a recovery counts on stays so of a server
pub record StaysSo (w w' : World) (n : ℕ) : Type 0 where
  pub applies : IsApplying w n → IsApplying w' n
  pub shut : IsShut w n → IsShut w' n
  pub loose : IsLoose w n → IsLoose w' n

pub outside-stays-so : (w : World) (e : Exchange) → is_outside e ≡ true → (n : ℕ) → StaysSo w (after w e) n
outside-stays-so w e out n = record {
  applies = outside-so Applies applies-lasts w e out n;
  shut = outside-so Refuses refuses-lasts w e out n;
  loose = outside-so Stands stands-lasts w e out n;
}

pub same-stays-so : (w w' : World) (n : ℕ) → server_at w' n ≡ server_at w n → StaysSo w w' n
same-stays-so w w' n same = record { applies = there-same Applies w w' n same; shut = there-same Refuses w w' n same; loose = there-same Stands w w' n same }

-- ---- orchestrator's

-- starts, and what clients may do, leave it so
pub record LastsGently (S : Server → Type 0) : Type 0 where
  pub starts : (s : Server) → S s → S (started None s)
  pub opens : (s : Server) (on : Bool) → S s → S (record s { read_only = on })

module _ (S : Server → Type 0) (gently : LastsGently S) (w : World) (n m : ℕ) (h : IsThere S w m) where
  gentle-so : (a : Ask) → IsGentle a → (o : Option Server) → server_at w n ≡ o → IsThere S (after_change w n (asked a) o) m
  gentle-so a g None at = h
  gentle-so asking.Start g (Some s) at = there-with S w n s (started None s) at (gently.starts s) m h
  gentle-so (asking.SetReadOnly on) g (Some s) at = there-with S w n s (record s { read_only = on }) at (gently.opens s on) m h
  gentle-so a g (Some s) at = absurd g

  desk-so : (a : Ask) → IsGentle a → (r : Result (Unit {0}) Unreachable) → IsThere S (after_desk w n a r) m
  desk-so a g (Ok t) = gentle-so a g (server_at w n) refl
  desk-so a g (Err e) = h

pub applies-gently : LastsGently Applies
applies-gently = record { starts = started-on; opens = λ s on h. h }
  where
    started-on : (s : Server) → Applies s → Applies (started None s)
    started-on s on = go (is_attached s.source)
      where
        go : (b : Bool) → Applies (cond b (record s { receiver = true; applier = true; until = None }) s)
        go true = (refl, refl)
        go false = on

stands-gently : LastsGently Stands
stands-gently = record { starts = started-off; opens = λ s on h. h }
  where
    started-off : (s : Server) → Stands s → Stands (started None s)
    started-off s off = go (is_attached s.source)
      where
        go : (b : Bool) → Stands (cond b (record s { receiver = true; applier = true; until = None }) s)
        go true = off
        go false = off

-- an exchange leaves a server's applier on, or closed to writes
abbrev pub Spares : ℕ → Exchange → Type 0
Spares m (Request n a) = (n ≡ m → ⊥) ⊎ IsGentle a
Spares m (Attach n expect to at) = n ≡ m → ⊥
Spares m (AttachAuto n observed to) = n ≡ m → ⊥
Spares m (Write n size) = ⊥
Spares m (Fetch n) = ⊥
Spares m (Apply n) = ⊥
Spares m (Befall n e) = ⊥
Spares m (Rotate n) = ⊥
Spares m (Purge n file) = ⊥

module _ (S : Server → Type 0) (gently : LastsGently S) where
  spared-so : (w : World) (e : Exchange) (m : ℕ) → Spares m e → IsThere S w m → IsThere S (after w e) m
  spared-so w (Request n a) m (inl apart) h = there-same S w (after w (Request n a)) m (other-after w (Request n a) m (λ same. apart (sym same))) h
  spared-so w (Request n a) m (inr g) h = desk-so S gently w n m h a g (desk_answer (server_at w n))
  spared-so w (Attach n expect to at) m apart h = there-same S w (after w (Attach n expect to at)) m (other-after w (Attach n expect to at) m (λ same. apart (sym same))) h
  spared-so w (AttachAuto n observed to) m apart h = there-same S w (after w (AttachAuto n observed to)) m (other-after w (AttachAuto n observed to) m (λ same. apart (sym same))) h
  spared-so w e m s h = absurd s

  pub run-so : (w : World) (es : List Exchange) (m : ℕ) → All (Spares m) es → IsThere S w m → IsThere S (run w es) m
  run-so w [] m all h = h
  run-so w (e ∷ es) m all h = run-so (after w e) es m (All-tail (Spares m) e es all) (spared-so w e m (All-head (Spares m) e es all) h)

pub run-on : (w : World) (es : List Exchange) (m : ℕ) → All (Spares m) es → IsApplying w m → IsApplying (run w es) m
run-on = run-so Applies applies-gently

pub run-goes : (w : World) (es : List Exchange) (m : ℕ) → All (Spares m) es → GoesOn w m → GoesOn (run w es) m
run-goes w es m all (inl h) = inl (run-so Applies applies-gently w es m all h)
run-goes w es m all (inr h) = inr (run-so Stands stands-gently w es m all h)

abbrev pub LeavesShut : Ask → Type 0
LeavesShut (asking.SetReadOnly on) = on ≡ true
LeavesShut asking.Start = Unit {0}
LeavesShut (asking.Stop which) = Unit {0}
LeavesShut (asking.StartUntil to) = Unit {0}
LeavesShut asking.Detach = Unit {0}
LeavesShut asking.Reattach = Unit {0}
LeavesShut asking.Reset = Unit {0}

abbrev pub KeepsShut : ℕ → Exchange → Type 0
KeepsShut m (Request n a) = (n ≡ m → ⊥) ⊎ LeavesShut a
KeepsShut m (Attach n expect to at) = Unit {0}
KeepsShut m (AttachAuto n observed to) = Unit {0}
KeepsShut m (Write n size) = ⊥
KeepsShut m (Fetch n) = ⊥
KeepsShut m (Apply n) = ⊥
KeepsShut m (Befall n e) = ⊥
KeepsShut m (Rotate n) = ⊥
KeepsShut m (Purge n file) = ⊥

module _ (w : World) (n m : ℕ) (h : IsShut w m) where
  abbrev Shut : World → Type 0
  Shut w' = IsShut w' m

  with-shut : (s t : Server) → server_at w n ≡ Some s → (s.read_only ≡ true → t.read_only ≡ true) → Shut (with_server w n t)
  with-shut s t at keep = there-with Refuses w n s t at keep m h

  -- a change that is made or isn't
  either-shut : (b : Bool) (s t : Server) → (s.read_only ≡ true → t.read_only ≡ true) → s.read_only ≡ true → (cond b t s).read_only ≡ true
  either-shut true s t keep e = keep e
  either-shut false s t keep e = e

  asked-shut : (a : Ask) → LeavesShut a → (o : Option Server) → server_at w n ≡ o → Shut (after_change w n (asked a) o)
  asked-shut a l None at = h
  asked-shut (asking.Stop threads.Both) l (Some s) at = with-shut s _ at (λ e. e)
  asked-shut (asking.Stop threads.Receiver) l (Some s) at = with-shut s _ at (λ e. e)
  asked-shut (asking.Stop threads.Applier) l (Some s) at = with-shut s _ at (λ e. e)
  asked-shut asking.Start l (Some s) at = with-shut s _ at (either-shut (is_attached s.source) s (record s { receiver = true; applier = true; until = None }) (λ e. e))
  asked-shut (asking.StartUntil to) l (Some s) at = with-shut s _ at (either-shut (is_attached s.source) s (record s { receiver = true; applier = true; until = Some to }) (λ e. e))
  asked-shut asking.Detach l (Some s) at =
      with-shut s _ at (either-shut (is_attached s.source) s (record s { source = detached_source s.source; receiver = false; applier = false; read = s.exec; until = None }) (λ e. e))
  asked-shut asking.Reattach l (Some s) at =
      with-shut s _ at (either-shut (is_detached s.source) s (record s { source = attached_source s.source; receiver = false; applier = false }) (λ e. e))
  asked-shut asking.Reset l (Some s) at = with-shut s _ at (λ e. e)
  asked-shut (asking.SetReadOnly on) l (Some s) at = with-shut s _ at (λ e. l)

  desk-shut : (a : Ask) → LeavesShut a → (r : Result (Unit {0}) Unreachable) → Shut (after_desk w n a r)
  desk-shut a l (Ok t) = asked-shut a l (server_at w n) refl
  desk-shut a l (Err e) = h

  attach-shut : (to : ServerNo) (c : Coord) (o : Option Server) → server_at w n ≡ o → (r : Result (Unit {0}) AttachFault) → Shut (model.after_attach w n to c o r)
  attach-shut to c (Some s) at (Ok t) = with-shut s (attached_to to c s) at (λ e. e)
  attach-shut to c None at r = h
  attach-shut to c (Some s) at (Err e) = h

  auto-shut : (to : ServerNo) (o : Option Server) → server_at w n ≡ o → (r : Result (Unit {0}) AttachFault) → Shut (after_attach_auto w n to o r)
  auto-shut to (Some s) at (Ok t) = with-shut s (attached_auto to (auto_coord (uuids w) s (server_at w to.0)) s) at (λ e. e)
  auto-shut to None at r = h
  auto-shut to (Some s) at (Err e) = h

kept-shut : (w : World) (e : Exchange) (m : ℕ) → KeepsShut m e → IsShut w m → IsShut (after w e) m
kept-shut w (Request n a) m (inl apart) h = there-same Refuses w (after w (Request n a)) m (other-after w (Request n a) m (λ same. apart (sym same))) h
kept-shut w (Request n a) m (inr l) h = desk-shut w n m h a l (desk_answer (server_at w n))
kept-shut w (Attach n expect to at) m k h = attach-shut w n m h to at (server_at w n) refl (attach_answer w n expect to.0 at (server_at w n))
kept-shut w (AttachAuto n observed to) m k h = auto-shut w n m h to (server_at w n) refl (attach_auto_answer w n observed to.0 (server_at w n))
kept-shut w e m k h = absurd k

pub run-shut : (w : World) (es : List Exchange) (m : ℕ) → All (KeepsShut m) es → IsShut w m → IsShut (run w es) m
run-shut w [] m all h = h
run-shut w (e ∷ es) m all h = run-shut (after w e) es m (All-tail (KeepsShut m) e es all) (kept-shut w e m (All-head (KeepsShut m) e es all) h)

-- ---- what is asked and done

-- an exchange that an operation asks for is made
pub request-made : (w : World) (read : ℕ) (now : Moment) (j : Job) (rest : List Op) (n : ServerNo) (a : Ask) (ob : Option Observation) (es : List Exchange) (k : Job)
    → by_deed w read now j rest (deed.Request n a) ≡ attempt.Goes ob es k → (es ≡ Request n.0 a ∷ []) × (desk_answer (server_at w n.0) ≡ Ok tt)
request-made w read now j rest n a ob es k goes = go (desk_answer (server_at w n.0)) refl goes
  where
    made : Attempt → List Exchange
    made (attempt.Goes o xs y) = xs
    made (attempt.Stops c o) = []
    made (attempt.Ends lines) = []

    go : (r : Result (Unit {0}) Unreachable) → desk_answer (server_at w n.0) ≡ r → after_ask j rest n a r ≡ attempt.Goes ob es k → (es ≡ Request n.0 a ∷ []) × (desk_answer (server_at w n.0) ≡ Ok tt)
    go (Ok t) e g = (sym (ap made g), e)
    go (Err x) e g = cc

pub asked-so : (w : World) (n : ℕ) (a : Ask) (s : Server) → server_at w n ≡ Some s → desk_answer (server_at w n) ≡ Ok tt → after w (Request n a) ≡ with_server w n (asked a s)
asked-so w n a s at reached = ap (after_desk w n a) reached ∙ ap (after_change w n (asked a)) at

pub reached-there : (o : Option Server) → desk_answer o ≡ Ok tt → (s : Server) × (o ≡ Some s)
reached-there None e = cc
reached-there (Some s) e = (s, refl)

-- one that is started goes on
pub started-goes : (w : World) (n : ℕ) → desk_answer (server_at w n) ≡ Ok tt → GoesOn (after w (Request n asking.Start)) n
started-goes w n reached =
    let x = reached-there (server_at w n) reached in go x.0 x.1 (is_attached x.0.source) refl
  where
    go : (s : Server) → server_at w n ≡ Some s → (b : Bool) → is_attached s.source ≡ b → GoesOn (after w (Request n asking.Start)) n
    go s at b e = by b e (ap (λ v. server_at v n) (asked-so w n asking.Start s at reached) ∙ at_with_same w n s (started None s) at)
      where
        by : (a : Bool) → is_attached s.source ≡ a → server_at (after w (Request n asking.Start)) n ≡ Some (started None s) → GoesOn (after w (Request n asking.Start)) n
        by true f there =
            let is : started None s ≡ record s { receiver = true; applier = true; until = None } = ap (λ a. cond a (record s { receiver = true; applier = true; until = None }) s) f in
            inl (record { server = record s { receiver = true; applier = true; until = None }; there = there ∙ ap (λ (t : Server). Some t) is; is = (refl, refl) })
        by false f there =
            let is : started None s ≡ s = ap (λ a. cond a (record s { receiver = true; applier = true; until = None }) s) f in
            inr (record { server = s; there = there ∙ ap (λ (t : Server). Some t) is; is = f })

-- if it is attached, its applier is on
pub started-applies : (w : World) (n k : ℕ) → IsUnder w n k → desk_answer (server_at w n) ≡ Ok tt → IsApplying (after w (Request n asking.Start)) n
started-applies w n k under reached =
    let s = under.server in
    let is : started None s ≡ record s { receiver = true; applier = true; until = None } =
    ap (λ a. cond a (record s { receiver = true; applier = true; until = None }) s) (attached s.source under.under) in
    record {
      server = record s { receiver = true; applier = true; until = None };
      there =
          ap (λ v. server_at v n) (asked-so w n asking.Start s under.there reached)
          ∙ at_with_same w n s (started None s) under.there ∙ ap (λ (t : Server). Some t) is;
      is = (refl, refl);
    }
  where
    attached : (x : SourceState) → attached_no x ≡ Some k → is_attached x ≡ true
    attached Without e = cc
    attached (Attached m) e = refl
    attached (Detached m) e = cc

-- one that is closed refuses writes
pub closed-shut : (w : World) (n : ℕ) → desk_answer (server_at w n) ≡ Ok tt → IsShut (after w (Request n (asking.SetReadOnly true))) n
closed-shut w n reached =
    let x = reached-there (server_at w n) reached in
    let t = record x.0 { read_only = true } in
    record { server = t; there = ap (λ v. server_at v n) (asked-so w n (asking.SetReadOnly true) x.0 x.1 reached) ∙ at_with_same w n x.0 t x.1; is = refl }
