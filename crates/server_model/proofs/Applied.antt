-- What an apply executes, and that it keeps what is kept.
use Rattle.std.proofs.Common.{◌≡◌, ℕ, ◌<◌, ◌≤◌, Bool, true, false, not, cond, List, length, refl, sym, ◌∙◌, ap, subst, Option, Some, None, arith, ◌&&◌, slice_get, slice_set, nat_le}
use Rattle.server_model.proofs.Prelude.{ApplyStep, AreGtids, Attached, Coord, Detached, HasPlaces, IsKept, IsNumbered, IsReady, Next, Reserved}
use Rattle.server_model.proofs.Prelude.{Server, SourceState, Txn, Without, World, after_apply, applied, applier_did, apply_from, apply_step}
use Rattle.server_model.proofs.Prelude.{apply_txn, attached_at, is_applying, is_reached, next_after, same_coord, same_Some, server_at, source_no}
use Rattle.server_model.proofs.Prelude.{took}
use Rattle.server_model.proofs.Prelude.Histories.{holds}
use Rattle.server_model.proofs.Prelude.applying
use Rattle.server_model.proofs.Prelude.asking
use Rattle.server_model.proofs.Prelude.next
use Rattle.server_model.proofs.Prelude.threads
use Rattle.server_model.proofs.ExecutedSets.{numbered-at}
use Rattle.server_model.proofs.Lists.{set_self}
use Rattle.server_model.proofs.Changed.{IsUntouched, moved-asked, IsKept-moved}
use Rattle.server_model.proofs.Keeps.{IsKept-with, end_of_step, has_place-step}
use Rattle.server_model.proofs.Takes.{IsChange-took}

pub apply_step-on : (w : World) (n : ℕ) (r : Server) (o : Option Server) → server_at w n ≡ Some r → is_applying r ≡ true → is_reached r.until r.exec ≡ false → attached_at w r.source ≡ o
    → apply_step w (server_at w n) ≡ apply_from w.gtid r o
apply_step-on w n r o at on far from =
    ap (apply_step w) at
    ∙ ap (λ b. cond (not b) applying.Halt (cond (is_reached r.until r.exec) applying.ForgetUntil (apply_from w.gtid r (attached_at w r.source)))) on
    ∙ ap (λ b. cond b applying.ForgetUntil (apply_from w.gtid r (attached_at w r.source))) far
    ∙ ap (apply_from w.gtid r) from

-- the executed coordinate to which a step moves, if it does
abbrev pub moves_to : ApplyStep → Option Coord
moves_to (applying.Pass to) = Some to
moves_to (applying.Skip to) = Some to
moves_to (applying.Execute t to) = Some to
moves_to _ = None

-- the source of an applier that goes on, and what it makes of what follows there
pub record IsStep (servers : List Server) (gtid : Bool) (r : Server) (step : ApplyStep) : Type 0 where
  pub number : ℕ
  pub source : Server
  pub from : source_no r.source ≡ Some number
  pub at : slice_get servers number ≡ Some source
  pub is : applied gtid r source (next_after source.log.log r.exec) ≡ step

module _ (w : World) (r : Server) (step : ApplyStep) (to : Coord) (moves : moves_to step ≡ Some to) where
  not_idle : applying.Idle ≡ step → ⊥
  not_idle h = let none : None ≡ Some to = ap moves_to h ∙ moves in cc

  not_halted : (b : Bool) → cond b applying.Halt applying.ForgetUntil ≡ step → ⊥
  not_halted true h = let none : None ≡ Some to = ap moves_to h ∙ moves in cc
  not_halted false h = let none : None ≡ Some to = ap moves_to h ∙ moves in cc

  going : (m : ℕ) (s : Server) → source_no r.source ≡ Some m → server_at w m ≡ Some s → (b : Bool)
      → cond b applying.Idle (applied w.gtid r s (next_after s.log.log r.exec)) ≡ step → IsStep w.servers w.gtid r step
  going m s from at true h = absurd (not_idle h)
  going m s from at false h = record { number = m; source = s; from = from; at = at; is = h }

  under : (m : ℕ) → source_no r.source ≡ Some m → (o : Option Server) → server_at w m ≡ o → apply_from w.gtid r o ≡ step → IsStep w.servers w.gtid r step
  under m from None at h = absurd (not_idle h)
  under m from (Some s) at h = going m s from at (same_coord r.exec r.read) h

  by_source : (source : SourceState) → r.source ≡ source → apply_from w.gtid r (attached_at w source) ≡ step → IsStep w.servers w.gtid r step
  by_source Without is h = absurd (not_idle h)
  by_source (Attached m) is h = under m.0 (ap source_no is) (server_at w m.0) refl h
  by_source (Detached m) is h = absurd (not_idle h)

  pub step_from : apply_step w (Some r) ≡ step → IsStep w.servers w.gtid r step
  step_from h = go (is_applying r) (is_reached r.until r.exec) h
    where
      go : (a b : Bool) → cond (not a) applying.Halt (cond b applying.ForgetUntil (apply_from w.gtid r (attached_at w r.source))) ≡ step → IsStep w.servers w.gtid r step
      go false b h = absurd (not_halted true h)
      go true true h = absurd (not_halted false h)
      go true false h = by_source r.source refl h

pub step_in : (w : World) (servers : List Server) (gtid : Bool) (errant n : ℕ) (r : Server) (step : ApplyStep) (to : Coord) → moves_to step ≡ Some to → record { servers = servers; gtid = gtid; errant = errant } ≡ w
    → slice_get servers n ≡ Some r → apply_step w (server_at w n) ≡ step → IsStep servers gtid r step
step_in w servers gtid errant n r step to moves view here is =
    let v : World = record { servers = servers; gtid = gtid; errant = errant } in
    step_from v r step to moves (ap (λ o. apply_step v o) (sym here) ∙ subst (λ (u : World). apply_step u (server_at u n) ≡ step) (sym view) is)

-- the executed coordinate moves to the end of what follows it
ends-applied : (gtid : Bool) (r s : Server) (x : Next) (to : Coord) → moves_to (applied gtid r s x) ≡ Some to → end_of_step x ≡ Some to
ends-applied gtid r s (next.Entry i e) to h = by (slice_get s.history.txns i) h
  where
    by : (o : Option Txn) → moves_to (apply_txn gtid r e o) ≡ Some to → Some e ≡ Some to
    by None h = cc
    by (Some t) h = go (gtid && holds t r.history.txns) (nat_le r.history.room (length r.history.txns)) h
      where
        go : (a b : Bool) → moves_to (cond a (applying.Skip e) (cond b applying.NoRoom (applying.Execute t e))) ≡ Some to → Some e ≡ Some to
        go true b h = h
        go false true h = cc
        go false false h = h
ends-applied gtid r s (next.Rotate e) to h = h
ends-applied gtid r s next.End to h = h

module _ (servers : List Server) (gtid : Bool) (errant n : ℕ) (r : Server) (step : ApplyStep) (to : Coord) (moves : moves_to step ≡ Some to)
    (kept : IsKept servers errant) (here : slice_get servers n ≡ Some r) (on : IsStep servers gtid r step) where
  -- the executed coordinate has a place there too
  moved : (m : ℕ) (t : Server) → source_no r.source ≡ Some m → slice_get servers m ≡ Some t → HasPlaces r t → HasPlaces (record r { exec = to }) t
  moved m t from at old =
      let number : on.number ≡ m = same_Some on.number m (sym on.from ∙ from) in
      let same : on.source ≡ t = same_Some on.source t (sym on.at ∙ ap (slice_get servers) number ∙ at) in
      let is : applied gtid r t (next_after t.log.log r.exec) ≡ step =
      subst (λ (y : Server). applied gtid r y (next_after y.log.log r.exec) ≡ step) same on.is in
      let x = next_after t.log.log r.exec in
      record {
        exec = has_place-step t.log.log (kept.fit m t at).grown r.exec to x old.exec refl (ends-applied gtid r t x to (ap moves_to is ∙ moves));
        read = old.read;
      }

  pub IsKept-exec : IsKept (slice_set servers n (record r { exec = to })) errant
  IsKept-exec =
      let fit = kept.fit n r here in
      IsKept-with servers errant errant n r (record r { exec = to }) kept here
      (record {
        source = λ m h. h;
        stable = λ c k h. h;
        fit = record { high = fit.high; room = fit.room; within = fit.within; entries = fit.entries; sizes = fit.sizes; grown = fit.grown; files = fit.files; kept = fit.kept };
        places = moved;
        errant = omega arith;
      })

  pub IsKept-execute : (t : Txn) → length r.history.txns < r.history.room → 0 < t.size → t.size ≤ 1000000
      → IsKept (slice_set servers n (record (took r t) { exec = to })) errant
  IsKept-execute t room some size =
      IsKept-with servers errant errant n r (record (took r t) { exec = to }) kept here
      (IsChange-took r t to (kept.fit n r here) some size room servers n errant errant (omega arith) moved)

pub ready_in : (w : World) (servers : List Server) (gtid : Bool) (errant n : ℕ) (r : Server) (step : ApplyStep) → record { servers = servers; gtid = gtid; errant = errant } ≡ w
    → slice_get servers n ≡ Some r → IsReady (server_at w n) step → IsReady (Some r) step
ready_in w servers gtid errant n r step view here ready =
    let P : Option Server → Type 0 = λ o. IsReady o step in
    subst P here (subst (λ (u : World). IsReady (server_at u n) step) (sym view) ready)

-- what any other step than an execution does leaves the settings, the history and the log
pub applier-untouched : (step : ApplyStep) (r : Server) → ((t : Txn) (to : Coord) → step ≡ applying.Execute t to → ⊥) → IsUntouched r (applier_did step r)
applier-untouched (applying.Execute t to) r other = absurd (other t to refl)
applier-untouched _ r other = record { settings = refl; history = refl; log = refl; first = refl }

module _ (servers : List Server) (gtid : Bool) (errant n : ℕ) (r : Server) (here : slice_get servers n ≡ Some r) where
  abbrev the_world : World
  the_world = record { servers = servers; gtid = gtid; errant = errant }

  unchanged : IsKept servers errant → IsKept (slice_set servers n r) errant
  unchanged kept = rw (set_self servers n r here) kept

  on_step : (step : ApplyStep) (to : Coord) → moves_to step ≡ Some to → apply_step the_world (Some r) ≡ step → IsStep servers gtid r step
  on_step step to moves is = step_from the_world r step to moves is

  -- what an applier does keeps what is kept
  applied-kept : (step : ApplyStep) → IsKept servers errant → apply_step the_world (Some r) ≡ step → IsReady (Some r) step → IsKept (slice_set servers n (applier_did step r)) errant
  applied-kept applying.ForgetUntil kept is ready =
      IsKept-moved servers errant n r kept here (record r { applier = false; until = None }) (moved-asked r (asking.Stop threads.Applier))
  applied-kept (applying.Pass to) kept is ready =
      IsKept-exec servers gtid errant n r (applying.Pass to) to refl kept here (on_step (applying.Pass to) to refl is)
  applied-kept (applying.Skip to) kept is ready =
      IsKept-exec servers gtid errant n r (applying.Skip to) to refl kept here (on_step (applying.Skip to) to refl is)
  applied-kept (applying.Execute t to) kept is ready =
      IsKept-execute servers gtid errant n r (applying.Execute t to) to refl kept here (on_step (applying.Execute t to) to refl is) t ready.0 ready.1 ready.2
  applied-kept _ kept is ready = unchanged kept

  same_world : record { servers = slice_set servers n r; gtid = gtid; errant = errant } ≡ the_world
  same_world = ap (λ (ss : List Server). record { servers = ss; gtid = gtid; errant = errant }) (set_self servers n r here)

  -- what is left of the world
  left-of : (step : ApplyStep) → record { servers = slice_set servers n (applier_did step r); gtid = gtid; errant = errant } ≡ after_apply the_world n (Some r) step
  left-of applying.Halt = same_world
  left-of applying.Idle = same_world
  left-of applying.NoRoom = same_world
  left-of _ = refl

  pub IsKept-applied : (w : World) (step : ApplyStep) → the_world ≡ w → step ≡ apply_step w (server_at w n) → IsReady (server_at w n) step → IsKept servers errant
      → IsKept (slice_set servers n (applier_did step r)) errant
  IsKept-applied w step view is ready kept =
      applied-kept step kept (ap (apply_step the_world) (sym here) ∙ ap (λ (v : World). apply_step v (server_at v n)) view ∙ sym is)
      (ready_in w servers gtid errant n r step view here ready)

  pub applied-left : (w : World) (step : ApplyStep) → the_world ≡ w → step ≡ apply_step w (server_at w n)
      → record { servers = slice_set servers n (applier_did step r); gtid = gtid; errant = errant } ≡ after_apply w n (server_at w n) (apply_step w (server_at w n))
  applied-left w step view is =
      left-of step ∙ ap (λ o. after_apply the_world n o step) (sym here) ∙ ap (λ (v : World). after_apply v n (server_at v n) step) view
      ∙ ap (after_apply w n (server_at w n)) is

pub ready_at : (w : World) (n : ℕ) (r : Server) (step : ApplyStep) → server_at w n ≡ Some r → IsReady (Some r) step → IsReady (server_at w n) step
ready_at w n r step at ready = let P : Option Server → Type 0 = λ o. IsReady o step in subst P (sym at) ready

-- a transaction that is to be executed is of the source's history
executed-at : (gtid : Bool) (r s : Server) (t : Txn) (to : Coord) (x : Next) → applied gtid r s x ≡ applying.Execute t to → (k : ℕ) × (slice_get s.history.txns k ≡ Some t)
executed-at gtid r s t to (next.Entry i e) h = (i, by (slice_get s.history.txns i) refl h)
  where
    by : (o : Option Txn) → slice_get s.history.txns i ≡ o → apply_txn gtid r e o ≡ applying.Execute t to → slice_get s.history.txns i ≡ Some t
    by None at h = cc
    by (Some x) at h = go (gtid && holds x r.history.txns) (nat_le r.history.room (length r.history.txns)) h
      where
        go : (a b : Bool) → cond a (applying.Skip e) (cond b applying.NoRoom (applying.Execute x e)) ≡ applying.Execute t to → slice_get s.history.txns i ≡ Some t
        go true b h = cc
        go false true h = cc
        go false false h = let same : x ≡ t = cc in at ∙ ap Some same
executed-at gtid r s t to (next.Rotate e) h = cc
executed-at gtid r s t to next.End h = cc

pub step-numbered : (servers : List Server) (executed purged : List Reserved) (gtid : Bool) (r : Server) (t : Txn) (to : Coord) → AreGtids servers executed purged gtid → IsStep servers gtid r (applying.Execute t to)
    → IsNumbered (length servers) t
step-numbered servers executed purged gtid r t to are on =
    let at = executed-at gtid r on.source t to (next_after on.source.log.log r.exec) on.is in
    numbered-at (length servers) on.source.history.txns at.0 t (are.numbered on.number on.source on.at) at.1

-- if a transaction is executed, it is one of the source's that has a GTID, and there is room for it
pub record Executes (servers : List Server) (r : Server) (t : Txn) : Type 0 where
  pub numbered : IsNumbered (length servers) t
  pub room : length r.history.txns < r.history.room
  pub some : 0 < t.size

pub executes-in : (w : World) (servers : List Server) (executed purged : List Reserved) (gtid : Bool) (errant n : ℕ) (r : Server) (t : Txn) (to : Coord) (step : ApplyStep)
    → record { servers = servers; gtid = gtid; errant = errant } ≡ w → slice_get servers n ≡ Some r → AreGtids servers executed purged gtid
    → step ≡ apply_step w (server_at w n) → IsReady (server_at w n) step → step ≡ applying.Execute t to → Executes servers r t
executes-in w servers executed purged gtid errant n r t to step view here are is ready execute =
    let fits = subst (λ (x : ApplyStep). IsReady (Some r) x) execute (ready_in w servers gtid errant n r step view here ready) in
    record {
      numbered =
          step-numbered servers executed purged gtid r t to are
          (step_in w servers gtid errant n r (applying.Execute t to) to refl view here (sym is ∙ execute));
      room = fits.0;
      some = fits.1;
    }
