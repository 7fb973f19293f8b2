-- What a fetch reads, and that it keeps what is kept.
use Rattle.std.proofs.Common.{◌≡◌, ℕ, Bool, true, false, cond, List, refl, sym, ◌∙◌, ap, subst, Option, Some, None, arith, ◌&&◌, slice_get, slice_set, nat_lt}
use Rattle.server_model.proofs.Prelude.{Attached, Coord, Detached, FetchStep, IsKept, Next, Server, SourceState, Without, World, after_fetch}
use Rattle.server_model.proofs.Prelude.{attached_at, fetch_from, fetch_kept, fetch_step, is_attached, is_receiving, next_after, receiver_did}
use Rattle.server_model.proofs.Prelude.{same_Some, server_at, source_no}
use Rattle.server_model.proofs.Prelude.asking
use Rattle.server_model.proofs.Prelude.next
use Rattle.server_model.proofs.Prelude.receiving
use Rattle.server_model.proofs.Prelude.threads
use Rattle.server_model.proofs.Changed.{IsUntouched, moved-asked, IsKept-moved}
use Rattle.server_model.proofs.Keeps.{IsKept-with, end_of_step, has_place-step}
use Rattle.server_model.proofs.Lists.{set_self}

-- the source that a receiver reads, and what it reads there
pub record IsTake (servers : List Server) (r : Server) (x : Next) : Type 0 where
  pub number : ℕ
  pub source : Server
  pub from : source_no r.source ≡ Some number
  pub at : slice_get servers number ≡ Some source
  pub is : next_after source.log.log r.read ≡ x

pub take_from : (w : World) (r : Server) (x : Next) → fetch_step w (Some r) ≡ receiving.Take x → IsTake w.servers r x
take_from w r x h = go (r.up && (is_attached r.source && r.receiver)) h
  where
    kept : (m : ℕ) (s : Server) → source_no r.source ≡ Some m → server_at w m ≡ Some s → (b : Bool) → cond b (receiving.Refuse s.first) (receiving.Take (next_after s.log.log r.read)) ≡ receiving.Take x
        → IsTake w.servers r x
    kept m s from at true e = cc
    kept m s from at false e = record { number = m; source = s; from = from; at = at; is = cc }

    linked : (m : ℕ) (s : Server) → source_no r.source ≡ Some m → server_at w m ≡ Some s → (b : Bool) → cond b (fetch_kept r s) receiving.Unlinked ≡ receiving.Take x → IsTake w.servers r x
    linked m s from at true e = kept m s from at (nat_lt r.read.file s.first) e
    linked m s from at false e = cc

    under : (m : ℕ) → source_no r.source ≡ Some m → (o : Option Server) → server_at w m ≡ o → fetch_from r o ≡ receiving.Take x → IsTake w.servers r x
    under m from None at e = cc
    under m from (Some s) at e = linked m s from at (s.up && r.feed) e

    by_source : (source : SourceState) → r.source ≡ source → fetch_from r (attached_at w source) ≡ receiving.Take x → IsTake w.servers r x
    by_source Without is e = cc
    by_source (Attached m) is e = under m.0 (ap source_no is) (server_at w m.0) refl e
    by_source (Detached m) is e = cc

    go : (b : Bool) → cond b (fetch_from r (attached_at w r.source)) receiving.Halt ≡ receiving.Take x → IsTake w.servers r x
    go true e = by_source r.source refl e
    go false e = cc

-- the read coordinate moves on to the end of what is read
pub IsKept-read : (servers : List Server) (errant n : ℕ) (r : Server) (to : Coord) (x : Next) → IsKept servers errant → slice_get servers n ≡ Some r
    → IsTake servers r x → end_of_step x ≡ Some to → IsKept (slice_set servers n (record r { read = to })) errant
IsKept-read servers errant n r to x kept here took ends =
    let fit = kept.fit n r here in
    IsKept-with servers errant errant n r (record r { read = to }) kept here
    (record {
      source = λ m h. h;
      stable = λ c k h. h;
      fit = record { high = fit.high; room = fit.room; within = fit.within; entries = fit.entries; sizes = fit.sizes; grown = fit.grown; files = fit.files; kept = fit.kept };
      places = λ m t from at old.
          let number : took.number ≡ m = same_Some took.number m (sym took.from ∙ from) in
          let same : took.source ≡ t = same_Some took.source t (sym took.at ∙ ap (slice_get servers) number ∙ at) in
          let is : next_after t.log.log r.read ≡ x = subst (λ (y : Server). next_after y.log.log r.read ≡ x) same took.is in
          record { exec = old.exec; read = has_place-step t.log.log (kept.fit m t at).grown r.read to x old.read is ends };
      errant = omega arith;
    })

-- what a receiver does leaves the settings, the history and the log
pub receiver-untouched : (step : FetchStep) (r : Server) → IsUntouched r (receiver_did step r)
receiver-untouched receiving.Halt r = record { settings = refl; history = refl; log = refl; first = refl }
receiver-untouched receiving.Unlinked r = record { settings = refl; history = refl; log = refl; first = refl }
receiver-untouched (receiving.Refuse first) r = record { settings = refl; history = refl; log = refl; first = refl }
receiver-untouched (receiving.Take (next.Entry index to)) r = record { settings = refl; history = refl; log = refl; first = refl }
receiver-untouched (receiving.Take (next.Rotate to)) r = record { settings = refl; history = refl; log = refl; first = refl }
receiver-untouched (receiving.Take next.End) r = record { settings = refl; history = refl; log = refl; first = refl }

module _ (servers : List Server) (gtid : Bool) (errant n : ℕ) (r : Server) (here : slice_get servers n ≡ Some r) where
  abbrev the_world : World
  the_world = record { servers = servers; gtid = gtid; errant = errant }

  unchanged : IsKept servers errant → IsKept (slice_set servers n r) errant
  unchanged kept = rw (set_self servers n r here) kept

  -- it keeps what is kept
  fetched-kept : (step : FetchStep) → IsKept servers errant → fetch_step the_world (Some r) ≡ step → IsKept (slice_set servers n (receiver_did step r)) errant
  fetched-kept (receiving.Refuse first) kept is = IsKept-moved servers errant n r kept here (record r { receiver = false }) (moved-asked r (asking.Stop threads.Receiver))
  fetched-kept (receiving.Take (next.Entry index to)) kept is = IsKept-read servers errant n r to (next.Entry index to) kept here (take_from the_world r (next.Entry index to) is) refl
  fetched-kept (receiving.Take (next.Rotate to)) kept is = IsKept-read servers errant n r to (next.Rotate to) kept here (take_from the_world r (next.Rotate to) is) refl
  fetched-kept _ kept is = unchanged kept

  same_world : record { servers = slice_set servers n r; gtid = gtid; errant = errant } ≡ the_world
  same_world = ap (λ (ss : List Server). record { servers = ss; gtid = gtid; errant = errant }) (set_self servers n r here)

  -- what is left of the world
  left-of : (step : FetchStep) → record { servers = slice_set servers n (receiver_did step r); gtid = gtid; errant = errant } ≡ after_fetch the_world n (Some r) step
  left-of (receiving.Refuse first) = refl
  left-of (receiving.Take (next.Entry index to)) = refl
  left-of (receiving.Take (next.Rotate to)) = refl
  left-of _ = same_world

  pub IsKept-fetched : (w : World) (step : FetchStep) → the_world ≡ w → step ≡ fetch_step w (server_at w n) → IsKept servers errant → IsKept (slice_set servers n (receiver_did step r)) errant
  IsKept-fetched w step view is kept =
      fetched-kept step kept (ap (fetch_step the_world) (sym here) ∙ ap (λ (v : World). fetch_step v (server_at v n)) view ∙ sym is)

  pub fetched-left : (w : World) (step : FetchStep) → the_world ≡ w → step ≡ fetch_step w (server_at w n)
      → record { servers = slice_set servers n (receiver_did step r); gtid = gtid; errant = errant } ≡ after_fetch w n (server_at w n) (fetch_step w (server_at w n))
  fetched-left w step view is =
      left-of step ∙ ap (λ o. after_fetch the_world n o step) (sym here) ∙ ap (λ (v : World). after_fetch v n (server_at v n) step) view
      ∙ ap (after_fetch w n (server_at w n)) is

-- the source that a replica is attached to
pub record IsAttached (w : World) (source : SourceState) (s : Server) : Type 0 where
  pub number : ℕ
  pub from : source_no source ≡ Some number
  pub at : server_at w number ≡ Some s

pub attached_from : (w : World) (source : SourceState) (s : Server) → attached_at w source ≡ Some s → IsAttached w source s
attached_from w Without s h = cc
attached_from w (Attached m) s h = record { number = m.0; from = refl; at = h }
attached_from w (Detached m) s h = cc

pub fetch_step-on : (w : World) (n : ℕ) (r : Server) (o : Option Server) → server_at w n ≡ Some r → is_receiving r ≡ true → attached_at w r.source ≡ o → fetch_step w (server_at w n) ≡ fetch_from r o
fetch_step-on w n r o at on from = ap (fetch_step w) at ∙ ap (λ b. cond b (fetch_from r (attached_at w r.source)) receiving.Halt) on ∙ ap (fetch_from r) from
