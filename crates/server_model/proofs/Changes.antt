-- What an exchange does: it leaves the world as it is, or changes its one server.
use Rattle.std.proofs.Common.{◌≡◌, ℕ, List, refl, ◌⊎◌, inl, inr, Option, Some, None, false, Bool, true, cond, ◌||◌, Result, Ok, Err, if◌then◌else◌, ◌+◌}
use Rattle.server_model.proofs.Prelude.{Apply, ApplyStep, Ask, Attach, AttachAuto, AttachFault, Attached, Befall, Coord, Detached, Event, Exchange}
use Rattle.server_model.proofs.Prelude.{Fetch, FetchStep, Interval, Next, Purge, PurgeAnswer, Request, Rotate, RotateAnswer, Server, ServerNo}
use Rattle.server_model.proofs.Prelude.{SourceState, Spot, Txn, Unreachable, World, Write, WriteAnswer, after, after_apply, after_attach}
use Rattle.server_model.proofs.Prelude.{after_attach_auto, after_change, after_desk, after_fetch, after_purge, after_rotate, after_write, apply_step}
use Rattle.server_model.proofs.Prelude.{asked, attach_answer, attach_auto_answer, attached_auto, attached_source, attached_to, auto_coord, befallen}
use Rattle.server_model.proofs.Prelude.{desk_answer, detached_source, fetch_step, has_source, is_attached, is_detached, own_txn, purge_answer}
use Rattle.server_model.proofs.Prelude.{rotate_answer, rotated, server_at, took, uuids, with_server, without_source, write_answer}
use Rattle.server_model.proofs.Prelude.applying
use Rattle.server_model.proofs.Prelude.next
use Rattle.server_model.proofs.Prelude.purging
use Rattle.server_model.proofs.Prelude.receiving
use Rattle.server_model.proofs.Prelude.rotating
use Rattle.server_model.proofs.Prelude.wrote
use Rattle.server_model.proofs.Prelude.asking
use Rattle.server_model.proofs.Prelude.event
use Rattle.server_model.proofs.Prelude.link
use Rattle.server_model.proofs.Prelude.threads

-- what an ask makes of a server
pub data Asked (s : Server) : Ask → Server → Type 0 where
  Unasked : {a : Ask} → Asked s a s
  StopsBoth : Asked s (asking.Stop threads.Both) (record s { receiver = false; applier = false; until = None })
  StopsReceiver : Asked s (asking.Stop threads.Receiver) (record s { receiver = false })
  StopsApplier : Asked s (asking.Stop threads.Applier) (record s { applier = false; until = None })
  Starts : is_attached s.source ≡ true → Asked s asking.Start (record s { receiver = true; applier = true; until = None })
  StartsUntil : (to : Coord) → is_attached s.source ≡ true → Asked s (asking.StartUntil to) (record s { receiver = true; applier = true; until = Some to })
  Detaches : (m : ServerNo) → s.source ≡ Attached m → Asked s asking.Detach (record s { source = Detached m; receiver = false; applier = false; read = s.exec; until = None })
  Reattaches : (m : ServerNo) → s.source ≡ Detached m → Asked s asking.Reattach (record s { source = Attached m; receiver = false; applier = false })
  Resets : Asked s asking.Reset (without_source s)
  Opens : (on : Bool) → Asked s (asking.SetReadOnly on) (record s { read_only = on })

-- and what happens to it
pub data Befallen (s : Server) : Event → Server → Type 0 where
  Unharmed : {e : Event} → Befallen s e s
  Fails : Befallen s event.Fail (record s { up = false })
  Heals : s.up ≡ false → Befallen s event.Heal (record s { up = true; until = None; receiver = is_attached s.source || s.receiver; applier = is_attached s.source || s.applier })
  Links : {e : Event} (desk feed : Bool) → Befallen s e (record s { desk = desk; feed = feed })

module _ (s : Server) where
  pub does-ask : (a : Ask) → Asked s a (asked a s)
  does-ask (asking.Stop threads.Both) = StopsBoth
  does-ask (asking.Stop threads.Receiver) = StopsReceiver
  does-ask (asking.Stop threads.Applier) = StopsApplier
  does-ask asking.Start = go (is_attached s.source) refl
    where
      go : (b : Bool) → is_attached s.source ≡ b → Asked s asking.Start (cond b (record s { receiver = true; applier = true; until = None }) s)
      go true is = Starts is
      go false is = Unasked
  does-ask (asking.StartUntil to) = go (is_attached s.source) refl
    where
      go : (b : Bool) → is_attached s.source ≡ b → Asked s (asking.StartUntil to) (cond b (record s { receiver = true; applier = true; until = Some to }) s)
      go true is = StartsUntil to is
      go false is = Unasked
  does-ask asking.Detach = go s.source refl
    where
      go : (from : SourceState) → s.source ≡ from → Asked s asking.Detach (cond (is_attached from) (record s { source = detached_source from; receiver = false; applier = false; read = s.exec; until = None }) s)
      go (Attached m) is = Detaches m is
      go _ is = Unasked
  does-ask asking.Reattach = go s.source refl
    where
      go : (from : SourceState) → s.source ≡ from → Asked s asking.Reattach (cond (is_detached from) (record s { source = attached_source from; receiver = false; applier = false }) s)
      go (Detached m) is = Reattaches m is
      go _ is = Unasked
  does-ask asking.Reset = Resets
  does-ask (asking.SetReadOnly on) = Opens on

  pub does-befall : (e : Event) → Befallen s e (befallen e s)
  does-befall event.Fail = Fails
  does-befall event.Heal = go s.up refl
    where
      go : (b : Bool) → s.up ≡ b → Befallen s event.Heal (cond b s (record s { up = true; until = None; receiver = is_attached s.source || s.receiver; applier = is_attached s.source || s.applier }))
      go true is = Unharmed
      go false is = Heals is
  does-befall (event.Cut link.Desk) = Links false s.feed
  does-befall (event.Cut link.Feed) = Links s.desk false
  does-befall (event.Join link.Desk) = Links true s.feed
  does-befall (event.Join link.Feed) = Links s.desk true

-- what becomes of the server of an exchange that isn't a write
pub data Becomes (w : World) (n : ℕ) (s : Server) : Exchange → Server → Type 0 where
  Refuses : (first : ℕ) → fetch_step w (Some s) ≡ receiving.Refuse first → Becomes w n s (Fetch n) (record s { receiver = false })
  Reads : (x : Next) (to : Coord) → fetch_step w (Some s) ≡ receiving.Take x → Becomes w n s (Fetch n) (record s { read = to })
  Forgets : apply_step w (Some s) ≡ applying.ForgetUntil → Becomes w n s (Apply n) (record s { applier = false; until = None })
  Moves : (to : Coord) → (apply_step w (Some s) ≡ applying.Pass to) ⊎ (apply_step w (Some s) ≡ applying.Skip to) → Becomes w n s (Apply n) (record s { exec = to })
  Executes : (t : Txn) (to : Coord) → apply_step w (Some s) ≡ applying.Execute t to → Becomes w n s (Apply n) (record (took s t) { exec = to })
  Asks : (a : Ask) (t : Server) → Asked s a t → Becomes w n s (Request n a) t
  Befalls : (e : Event) (t : Server) → Befallen s e t → Becomes w n s (Befall n e) t
  Rotates : (end : Coord) → rotate_answer (Some s) ≡ rotating.Done end → Becomes w n s (Rotate n) (rotated s)
  Purges : (file first : ℕ) → purge_answer w n file (Some s) ≡ purging.Done first → Becomes w n s (Purge n file) (record s { first = first })
  Attaches : (expect : Spot) (to : ServerNo) (at : Coord) → attach_answer w n expect to.0 at (Some s) ≡ Ok tt → Becomes w n s (Attach n expect to at) (attached_to to at s)
  AttachesAuto : (observed : List Interval) (to : ServerNo) → attach_auto_answer w n observed to.0 (Some s) ≡ Ok tt
      → Becomes w n s (AttachAuto n observed to) (attached_auto to (auto_coord (uuids w) s (server_at w to.0)) s)

pub data Leaves (w : World) : Exchange → World → Type 0 where
  Still : {e : Exchange} → Leaves w e w
  Writes : (n size : ℕ) (s : Server) (seq : ℕ) → server_at w n ≡ Some s → write_answer n (Some s) ≡ wrote.Done seq
      → Leaves w (Write n size) (record (with_server w n (took s (own_txn n seq size))) { errant = if has_source s.source then w.errant + 1 else w.errant })
  Puts : {e : Exchange} (n : ℕ) (s t : Server) → server_at w n ≡ Some s → Becomes w n s e t → Leaves w e (with_server w n t)

module _ (w : World) (n : ℕ) where
  by-write : (size : ℕ) (o : Option Server) → server_at w n ≡ o → (a : WriteAnswer) → write_answer n o ≡ a → Leaves w (Write n size) (after_write w n size o a)
  by-write size (Some s) at (wrote.Done seq) is = Writes n size s seq at is
  by-write size _ at _ is = Still

  by-fetch : (o : Option Server) → server_at w n ≡ o → (x : FetchStep) → fetch_step w o ≡ x → Leaves w (Fetch n) (after_fetch w n o x)
  by-fetch (Some s) at (receiving.Refuse first) is = Puts n s (record s { receiver = false }) at (Refuses first is)
  by-fetch (Some s) at (receiving.Take (next.Entry index to)) is = Puts n s (record s { read = to }) at (Reads (next.Entry index to) to is)
  by-fetch (Some s) at (receiving.Take (next.Rotate to)) is = Puts n s (record s { read = to }) at (Reads (next.Rotate to) to is)
  by-fetch _ at _ is = Still

  by-apply : (o : Option Server) → server_at w n ≡ o → (x : ApplyStep) → apply_step w o ≡ x → Leaves w (Apply n) (after_apply w n o x)
  by-apply (Some s) at applying.ForgetUntil is = Puts n s (record s { applier = false; until = None }) at (Forgets is)
  by-apply (Some s) at (applying.Pass to) is = Puts n s (record s { exec = to }) at (Moves to (inl is))
  by-apply (Some s) at (applying.Skip to) is = Puts n s (record s { exec = to }) at (Moves to (inr is))
  by-apply (Some s) at (applying.Execute t to) is = Puts n s (record (took s t) { exec = to }) at (Executes t to is)
  by-apply _ at _ is = Still

  by-change : (e : Exchange) (f : Server → Server) → ((s : Server) → Becomes w n s e (f s)) → (o : Option Server) → server_at w n ≡ o → Leaves w e (after_change w n f o)
  by-change e f each None at = Still
  by-change e f each (Some s) at = Puts n s (f s) at (each s)

  by-desk : (a : Ask) (r : Result (Unit {0}) Unreachable) → Leaves w (Request n a) (after_desk w n a r)
  by-desk a (Ok t) = by-change (Request n a) (asked a) (λ s. Asks a (asked a s) (does-ask s a)) (server_at w n) refl
  by-desk a (Err e) = Still

  by-rotate : (o : Option Server) → server_at w n ≡ o → (a : RotateAnswer) → rotate_answer o ≡ a → Leaves w (Rotate n) (after_rotate w n o a)
  by-rotate (Some s) at (rotating.Done end) is = Puts n s (rotated s) at (Rotates end is)
  by-rotate _ at _ is = Still

  by-purge : (file : ℕ) (o : Option Server) → server_at w n ≡ o → (a : PurgeAnswer) → purge_answer w n file o ≡ a → Leaves w (Purge n file) (after_purge w n o a)
  by-purge file (Some s) at (purging.Done first) is = Puts n s (record s { first = first }) at (Purges file first is)
  by-purge file _ at _ is = Still

  by-attach : (expect : Spot) (to : ServerNo) (c : Coord) (o : Option Server) → server_at w n ≡ o → (r : Result (Unit {0}) AttachFault) → attach_answer w n expect to.0 c o ≡ r
      → Leaves w (Attach n expect to c) (after_attach w n to c o r)
  by-attach expect to c (Some s) at (Ok t) is = Puts n s (attached_to to c s) at (Attaches expect to c is)
  by-attach expect to c _ at _ is = Still

  by-auto : (observed : List Interval) (to : ServerNo) (o : Option Server) → server_at w n ≡ o → (r : Result (Unit {0}) AttachFault) → attach_auto_answer w n observed to.0 o ≡ r
      → Leaves w (AttachAuto n observed to) (after_attach_auto w n to o r)
  by-auto observed to (Some s) at (Ok t) is = Puts n s (attached_auto to (auto_coord (uuids w) s (server_at w to.0)) s) at (AttachesAuto observed to is)
  by-auto observed to _ at _ is = Still

pub leaves : (w : World) (e : Exchange) → Leaves w e (after w e)
leaves w (Write n size) = by-write w n size (server_at w n) refl (write_answer n (server_at w n)) refl
leaves w (Fetch n) = by-fetch w n (server_at w n) refl (fetch_step w (server_at w n)) refl
leaves w (Apply n) = by-apply w n (server_at w n) refl (apply_step w (server_at w n)) refl
leaves w (Request n a) = by-desk w n a (desk_answer (server_at w n))
leaves w (Befall n e) = by-change w n (Befall n e) (befallen e) (λ s. Befalls e (befallen e s) (does-befall s e)) (server_at w n) refl
leaves w (Rotate n) = by-rotate w n (server_at w n) refl (rotate_answer (server_at w n)) refl
leaves w (Purge n file) = by-purge w n file (server_at w n) refl (purge_answer w n file (server_at w n)) refl
leaves w (Attach n expect to at) = by-attach w n expect to at (server_at w n) refl (attach_answer w n expect to.0 at (server_at w n)) refl
leaves w (AttachAuto n observed to) = by-auto w n observed to (server_at w n) refl (attach_auto_answer w n observed to.0 (server_at w n)) refl
