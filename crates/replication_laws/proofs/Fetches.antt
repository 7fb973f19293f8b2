-- Fetches: the read coordinate of a replica goes on by one step of its source's log.
use Rattle.std.proofs.Common.{◌≡◌, ℕ, ◌+◌, Bool, true, false, cond, refl, sym, ◌∙◌, ap, subst, inl, Option, Some, None, ◌&&◌, nat_lt}
use Rattle.replication_laws.proofs.Prelude.{Attached, Coord, Detached, Laid, Laid-Grown, LaysOut, Next, Server, SourceState, StepFrom, Without, World}
use Rattle.replication_laws.proofs.Prelude.{after_fetch, attached_at, fetch_from, fetch_kept, fetch_step, is_attached, is_before, next_after}
use Rattle.replication_laws.proofs.Prelude.{next_after-step, place, same_Some, server_at, source_no, with_server}
use Rattle.replication_laws.proofs.Prelude.next
use Rattle.replication_laws.proofs.Prelude.receiving
use Rattle.replication_laws.proofs.Keeping.{Same, Still, Standing, Linked, Linked-same, Linked-still}
use Rattle.replication_laws.proofs.Logs.{LaysOut-Grown}

-- a source's log lays out its history, and so it grew from nothing
pub LaysOut-source : (R : Server → Server → Type 0) (w : World) → Linked R w → (n m : ℕ) (r s : Server) → server_at w n ≡ Some r → source_no r.source ≡ Some m
    → server_at w m ≡ Some s → LaysOut s.history.txns s.log.log
LaysOut-source R w linked n m r s at_n from at_m =
    let source = linked.logging n m r at_n from in
    let is : source.0 ≡ s = same_Some source.0 s (sym source.1 ∙ at_m) in
    linked.laid m s at_m (ap (λ (x : Server). x.settings.logs) (sym is) ∙ source.2)

pub Laid-source : (R : Server → Server → Type 0) (w : World) → Linked R w → (n m : ℕ) (r s : Server) → server_at w n ≡ Some r → source_no r.source ≡ Some m
    → server_at w m ≡ Some s → Laid s.log.log
Laid-source R w linked n m r s at_n from at_m =
    Laid-Grown s.log.log (LaysOut-Grown s.history.txns s.log.log (LaysOut-source R w linked n m r s at_n from at_m))

-- the same source
pub same_source : (w : World) (r s : Server) (m b : ℕ) (t : Server) → source_no r.source ≡ Some m → server_at w m ≡ Some s → source_no r.source ≡ Some b → server_at w b ≡ Some t → s ≡ t
same_source w r s m b t is at_m from at_b =
    let e : m ≡ b = same_Some m b (sym is ∙ from) in
    same_Some s t (sym at_m ∙ ap (server_at w) e ∙ at_b)

pub Same-read : (r : Server) (to : Coord) → Same r (record r { read = to })
Same-read r to = record { history = refl; log = refl; first = refl; settings = refl }

pub Still-refused : (r : Server) → Still r (record r { receiver = false })
Still-refused r = record { same = record { history = refl; log = refl; first = refl; settings = refl }; source = refl; exec = refl; read = inl refl }

-- a fetch keeps each replica's position

module _ (R : Server → Server → Type 0) (standing : Standing R) (w : World) (linked : Linked R w) (n m : ℕ) (r s : Server) (at : server_at w n ≡ Some r)
    (is : source_no r.source ≡ Some m) (at_m : server_at w m ≡ Some s) where
  moved : (to : Coord) → ((k : ℕ) × (place s.log.log to ≡ Some k)) → is_before r.read to ≡ true → Linked R (with_server w n (record r { read = to }))
  moved to there further =
      Linked-same R standing w n r (record r { read = to }) linked at (Same-read r to) refl
      (λ b t from at_b stood.
      let e : s ≡ t = same_source w r s m b t is at_m from at_b in
      subst (R (record r { read = to })) e (standing.reads r s to (subst (R r) (sym e) stood) there further))

  taken : (x : Next) → next_after s.log.log r.read ≡ x → (k : ℕ) × StepFrom s.log.log r.read k x
  taken x e =
      let read = standing.read r s (linked.stands n m r s at is at_m) in
      (read.0, subst (λ (y : Next). StepFrom s.log.log r.read read.0 y) e (next_after-step s.log.log (Laid-source R w linked n m r s at is at_m) r.read read.0 read.1))

  Linked-step : (x : Next) → next_after s.log.log r.read ≡ x → Linked R (after_fetch w n (Some r) (receiving.Take x))
  Linked-step (next.Entry i to) e = let f = taken (next.Entry i to) e in moved to (f.0 + 1, f.1.1) f.1.2
  Linked-step (next.Rotate to) e = let f = taken (next.Rotate to) e in moved to (f.0, f.1.0) f.1.1
  Linked-step next.End e = linked

pub Linked-fetch : (R : Server → Server → Type 0) → Standing R → (w : World) (n : ℕ) (o : Option Server) → server_at w n ≡ o → Linked R w → Linked R (after_fetch w n o (fetch_step w o))
Linked-fetch R standing w n None at linked = linked
Linked-fetch R standing w n (Some r) at linked = go (r.up && (is_attached r.source && r.receiver))
  where
    kept : (m : ℕ) (s : Server) → source_no r.source ≡ Some m → server_at w m ≡ Some s → (b : Bool)
        → Linked R (after_fetch w n (Some r) (cond b (receiving.Refuse s.first) (receiving.Take (next_after s.log.log r.read))))
    kept m s is at_m true = Linked-still R standing w n r (record r { receiver = false }) linked at (Still-refused r)
    kept m s is at_m false = Linked-step R standing w linked n m r s at is at_m (next_after s.log.log r.read) refl

    source_linked : (m : ℕ) (s : Server) → source_no r.source ≡ Some m → server_at w m ≡ Some s → (b : Bool)
        → Linked R (after_fetch w n (Some r) (cond b (fetch_kept r s) receiving.Unlinked))
    source_linked m s is at_m true = kept m s is at_m (nat_lt r.read.file s.first)
    source_linked m s is at_m false = linked

    under : (m : ℕ) → source_no r.source ≡ Some m → (p : Option Server) → server_at w m ≡ p → Linked R (after_fetch w n (Some r) (fetch_from r p))
    under m is None at_m = linked
    under m is (Some s) at_m = source_linked m s is at_m (s.up && r.feed)

    from_source : (source : SourceState) → r.source ≡ source → Linked R (after_fetch w n (Some r) (fetch_from r (attached_at w source)))
    from_source Without is = linked
    from_source (Attached m) is = under m.0 (ap source_no is) (server_at w m.0) refl
    from_source (Detached m) is = linked

    go : (b : Bool) → Linked R (after_fetch w n (Some r) (cond b (fetch_from r (attached_at w r.source)) receiving.Halt))
    go true = from_source r.source refl
    go false = linked
