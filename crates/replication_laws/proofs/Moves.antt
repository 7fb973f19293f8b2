-- What orchestrator asks of a server, what happens to it, a new file of its log, and an attachment: what each keeps.
use Rattle.std.proofs.Common.{◌≡◌, ℕ, Bool, true, false, cond, not, List, [], ◌∷◌, take, length, refl, sym, ◌∙◌, ap, subst, inl, inr, ◌⊎◌, Option, Some, None, ◌||◌, ◌&&◌, count_by, ◌≤◌, arith, Result, Ok, Err, nat_lt, nat_le, ◌==◌}
use Rattle.replication_laws.proofs.Prelude.{Ask, Asked, AttachedWell, Befallen, Coord, Event, Flushed, GoesOn, Interval, IsAutoTarget, IsJunction}
use Rattle.replication_laws.proofs.Prelude.{IsSource, IsTarget, KeepFiles, KeepsFrom, Laid-Grown, LaysOut, RotateAnswer, Server, ServerNo, Spot}
use Rattle.replication_laws.proofs.Prelude.{StandsIn, Unreachable, World, after_attach, after_attach_auto, after_change, after_desk, after_rotate}
use Rattle.replication_laws.proofs.Prelude.{answer_by_sets, asked, attach_answer, attach_auto_answer, attached_to, auto_coord, auto_purged, befallen}
use Rattle.replication_laws.proofs.Prelude.{chain_meets, coord_after, does-ask, does-befall, ends_by, errant_set, file_start, first_kept, held-within}
use Rattle.replication_laws.proofs.Prelude.{held_len, held_of, is_at_or_before, live_spot, nat_tests, place, place-coord_after, place-from}
use Rattle.replication_laws.proofs.Prelude.{place-monotone, purged-place, purged_answer, purged_len, rotated, same_Some, same_spot, server_at, set_of}
use Rattle.replication_laws.proofs.Prelude.{source_no, source_of, sources, spot_below, stable_flush, take-length, uuids, with_server, without_source}
use Rattle.replication_laws.proofs.Prelude.attaching
use Rattle.replication_laws.proofs.Prelude.rotating
use Rattle.server_model.proofs.Changes as changes
use Rattle.replication_laws.proofs.Chains.{Grounded-cut, Grounded-apart, Grounded-joined}
use Rattle.replication_laws.proofs.Keeping.{at_or_before-refl, Same, Still, Still-refl, Standing, Linked, Linked-still, Linked-keeps, Linked-moves}
use Rattle.replication_laws.proofs.Logs.{LaysOut-Grown, LaysOut-length}
use Rattle.replication_laws.proofs.Worlds.{at_with_same, at_with_other}

-- changes that leave the source

-- of what orchestrator asks only RESET REPLICA ALL changes the source
Still-asked : (a : Ask) (s t : Server) → Asked s a t → Still s t ⊎ (t ≡ without_source s)
Still-asked a s t (changes.Detaches m is) = inl (record { same = record { history = refl; log = refl; first = refl; settings = refl }; source = sym (ap source_no is); exec = refl; read = inr refl })
Still-asked a s t (changes.Reattaches m is) = inl (record { same = record { history = refl; log = refl; first = refl; settings = refl }; source = sym (ap source_no is); exec = refl; read = inl refl })
Still-asked a s t changes.Resets = inr refl
Still-asked a s t _ = inl (record { same = record { history = refl; log = refl; first = refl; settings = refl }; source = refl; exec = refl; read = inl refl })

Still-befallen : (e : Event) (s t : Server) → Befallen s e t → Still s t
Still-befallen e s t changes.Unharmed = Still-refl s
Still-befallen e s t _ = record { same = record { history = refl; log = refl; first = refl; settings = refl }; source = refl; exec = refl; read = inl refl }

-- none of these writes, and none touches the log

pub Same-asked : (a : Ask) (s t : Server) → Asked s a t → Same s t
Same-asked a s t changes.Resets = record { history = refl; log = refl; first = refl; settings = refl }
Same-asked a s t _ = record { history = refl; log = refl; first = refl; settings = refl }

pub Same-befallen : (e : Event) (s t : Server) → Befallen s e t → Same s t
Same-befallen e s t does = (Still-befallen e s t does).same

pub Same-attached : (to : ServerNo) (at : Coord) (s : Server) → Same s (attached_to to at s)
Same-attached to at s = record { history = refl; log = refl; first = refl; settings = refl }

-- a server attached there, by its coordinate or by its set
abbrev pub joined : Bool → ServerNo → Coord → Server → Server
joined auto to at s = record (attached_to to at s) { auto = auto }

pub Same-joined : (auto : Bool) (to : ServerNo) (at : Coord) (s : Server) → Same s (joined auto to at s)
Same-joined auto to at s = record { history = refl; log = refl; first = refl; settings = refl }

pub GoesOn-rotated : (s : Server) → GoesOn s (rotated s)
GoesOn-rotated s = record { settings = refl; prefix = take-length s.history.txns; places = λ c k h. stable_flush s.log.log c k h; first = omega arith }

-- and each keeps the replicas' positions

module _ (R : Server → Server → Type 0) (standing : Standing R) (w : World) (n : ℕ) (linked : Linked R w) where
  Linked-reset : (s : Server) → server_at w n ≡ Some s → Linked R (with_server w n (without_source s))
  Linked-reset s here =
      Linked-moves R standing w n s (without_source s) linked here (record {
        same = record { history = refl; log = refl; first = refl; settings = refl };
        stands = λ m t from at_m. absurd (none m from);
        logging = λ m from. absurd (none m from);
        grounded = λ m.
            Grounded-cut (sources w) (sources (with_server w n (without_source s))) n (ap source_of (at_with_same w n s (without_source s) here))
            (λ x apart. ap source_of (at_with_other w n s (without_source s) here x apart)) m (linked.grounded m);
      })
    where
      none : (m : ℕ) → source_no (without_source s).source ≡ Some m → ⊥
      none m from = cc

  Linked-asked : (a : Ask) (s : Server) → server_at w n ≡ Some s → Linked R (with_server w n (asked a s))
  Linked-asked a s here =
      elim (Still-asked a s (asked a s) (does-ask s a)) [
        | inl still ↦ Linked-still R standing w n s (asked a s) linked here still
        | inr reset ↦ subst (λ (x : Server). Linked R (with_server w n x)) (sym reset) (Linked-reset s here)
      ]

  Linked-change : (f : Server → Server) → ((s : Server) → server_at w n ≡ Some s → Linked R (with_server w n (f s)))
      → (o : Option Server) → server_at w n ≡ o → Linked R (after_change w n f o)
  Linked-change f changed None at = linked
  Linked-change f changed (Some s) at = changed s at

  pub Linked-ask : (a : Ask) (answer : Result (Unit {0}) Unreachable) → Linked R (after_desk w n a answer)
  Linked-ask a (Ok t) = Linked-change (asked a) (Linked-asked a) (server_at w n) refl
  Linked-ask a (Err e) = linked

  pub Linked-befall : (e : Event) → Linked R (after_change w n (befallen e) (server_at w n))
  Linked-befall e = Linked-change (befallen e) (λ s here. Linked-still R standing w n s (befallen e s) linked here (Still-befallen e s (befallen e s) (does-befall s e))) (server_at w n) refl

  pub Linked-rotate : (o : Option Server) → server_at w n ≡ o → ((r s : Server) → R r s → R (rotated r) s) → (answer : RotateAnswer) → Linked R (after_rotate w n o answer)
  Linked-rotate (Some s) at on (rotating.Done c) =
      Linked-keeps R standing w n s (rotated s) linked at (record {
        goes_on = GoesOn-rotated s;
        source = refl;
        laid = λ logs. Flushed s.history.txns s.log.log (linked.laid n s at logs);
        kept = (let kept = linked.kept n s at in let high = kept.high in record { low = kept.low; high = omega arith; unlogged = kept.unlogged });
        stands = λ m t from at_m stood. on s t stood;
      })
  Linked-rotate _ at on _ = linked

  -- an attachment to a server that isn't below the one that is attached
  Linked-joined : (auto : Bool) (to : ServerNo) (c : Coord) (s t : Server) → server_at w n ≡ Some s → server_at w to.0 ≡ Some t → t.settings.logs ≡ true → R (joined auto to c s) t
      → chain_meets (sources w) (length w.servers) to.0 n ≡ false → Linked R (with_server w n (joined auto to c s))
  Linked-joined auto to c s t here there logs stands apart =
      Linked-moves R standing w n s (joined auto to c s) linked here (record {
        same = Same-joined auto to c s;
        stands = λ m x from at_m. subst (R (joined auto to c s)) (same m x from at_m) stands;
        logging = λ m from. subst (IsSource w) (same_Some to.0 m from) (t, there, logs);
        grounded = λ m.
            Grounded-joined (sources w) (sources (with_server w n (joined auto to c s))) n to.0
            (ap source_of (at_with_same w n s (joined auto to c s) here)) others
            (Grounded-apart (sources w) (sources (with_server w n (joined auto to c s))) n others (length w.servers) to.0 apart)
            m (linked.grounded m);
      })
    where
      others : (x : ℕ) → (x ≡ n → ⊥) → sources (with_server w n (joined auto to c s)) x ≡ sources w x
      others x away = ap source_of (at_with_other w n s (joined auto to c s) here x away)

      same : (m : ℕ) (x : Server) → source_no (joined auto to c s).source ≡ Some m → server_at w m ≡ Some x → t ≡ x
      same m x from at_m = let e : to.0 ≡ m = same_Some to.0 m from in same_Some t x (sym there ∙ ap (server_at w) e ∙ at_m)

  pub Linked-attach : (expect : Spot) (to : ServerNo) (c : Coord) → IsTarget w to.0 c
      → ((r s : Server) → server_at w n ≡ Some r → server_at w to.0 ≡ Some s → same_spot expect (live_spot r expect) ≡ true → R (attached_to to c r) s)
      → (o : Option Server) → server_at w n ≡ o → Linked R (after_attach w n to c o (attach_answer w n expect to.0 c o))
  Linked-attach expect to c target stands None here = linked
  Linked-attach expect to c target stands (Some s) here =
      go (s.up && s.desk) (s.receiver || s.applier) (same_spot expect (live_spot s expect)) (chain_meets (sources w) (length w.servers) to.0 n) refl refl
    where
      go : (reached on expected loops : Bool) → same_spot expect (live_spot s expect) ≡ expected → chain_meets (sources w) (length w.servers) to.0 n ≡ loops
          → Linked R (after_attach w n to c (Some s)
          (cond (not reached) (Err attaching.Unreachable)
          (cond on (Err (attaching.Running (spot_below s s.source)))
          (cond (not expected) (Err (attaching.Interfered expect (live_spot s expect))) (cond loops (Err attaching.Loop) (purged_answer (nat_lt c.file (first_kept (server_at w to.0))) (first_kept (server_at w to.0))))))))
      go true false true false is e = kept (nat_lt c.file (first_kept (server_at w to.0))) (first_kept (server_at w to.0))
        where
          kept : (purged : Bool) (k : ℕ) → Linked R (after_attach w n to c (Some s) (purged_answer purged k))
          kept true k = linked
          kept false k = Linked-joined false to c s target.target here target.there target.logs (stands s target.target here target.there is) e
      go _ _ _ _ is e = linked

  pub Linked-attach_auto : (observed : List Interval) (to : ServerNo) → IsAutoTarget w to.0
      → ((r s : Server) → server_at w n ≡ Some r → server_at w to.0 ≡ Some s → errant_set (uuids w) observed r.history.txns ≡ [] → nat_lt (held_of (uuids w) r s) (purged_len s) ≡ false
      → R (joined true to (auto_coord (uuids w) r (Some s)) r) s)
      → (o : Option Server) → server_at w n ≡ o → Linked R (after_attach_auto w n to o (attach_auto_answer w n observed to.0 o))
  Linked-attach_auto observed to target stands None here = linked
  Linked-attach_auto observed to target stands (Some s) here =
      go (s.up && s.desk) (s.receiver || s.applier) (chain_meets (sources w) (length w.servers) to.0 n) (errant_set (uuids w) observed s.history.txns) refl refl
    where
      go : (reached on loops : Bool) (errant : List Interval) → chain_meets (sources w) (length w.servers) to.0 n ≡ loops → errant_set (uuids w) observed s.history.txns ≡ errant
          → Linked R (after_attach_auto w n to (Some s)
          (answer_by_sets
          (cond (not reached) (Err attaching.Unreachable) (cond on (Err (attaching.Running (spot_below s s.source))) (cond loops (Err attaching.Loop) (Ok tt))))
          errant (auto_purged (uuids w) s (server_at w to.0))))
      go false on loops errant e none = linked
      go true true loops errant e none = linked
      go true false true errant e none = linked
      go true false false (x ∷ xs) e none = linked
      go true false false [] e none =
          subst (λ (p : Option Server). Linked R (after_attach_auto w n to (Some s) (auto_purged (uuids w) s p))) (sym target.there)
          (kept (nat_lt (held_of (uuids w) s target.target) (purged_len target.target)) refl)
        where
          kept : (purged : Bool) → nat_lt (held_of (uuids w) s target.target) (purged_len target.target) ≡ purged
              → Linked R (after_attach_auto w n to (Some s) (purged_answer purged target.target.first))
          kept true is = linked
          kept false is =
              let at : auto_coord (uuids w) s (Some target.target) ≡ auto_coord (uuids w) s (server_at w to.0) = ap (auto_coord (uuids w) s) (sym target.there) in
              subst (λ (c : Coord). Linked R (with_server w n (joined true to c s))) at
              (Linked-joined true to (auto_coord (uuids w) s (Some target.target)) s target.target here target.there target.logs (stands s target.target here target.there none is) e)

-- the position of an attached replica

pub StandsIn-rotated : (r s : Server) → StandsIn r s → StandsIn (rotated r) s
StandsIn-rotated r s stands = record { exec_place = stands.exec_place; read_place = stands.read_place; order = stands.order }

pub AttachedWell-rotated : (r s : Server) → AttachedWell r s → AttachedWell (rotated r) s
AttachedWell-rotated r s well = record { prefix = well.prefix; exec_place = well.exec_place; read_place = well.read_place; order = well.order }

target-place : (w : World) (to : ServerNo) (c : Coord) (s : Server) → IsTarget w to.0 c → server_at w to.0 ≡ Some s → (k : ℕ) × (place s.log.log c ≡ Some k)
target-place w to c s target there =
    let is : target.target ≡ s = same_Some target.target s (sym target.there ∙ there) in
    subst (λ (x : Server). (k : ℕ) × (place x.log.log c ≡ Some k)) is
    (count_by (ends_by c) target.target.log.log.entries, place-from target.target.log.log c (count_by (ends_by c) target.target.log.log.entries) target.place refl)

pub StandsIn-attached : (w : World) (to : ServerNo) (c : Coord) (r s : Server) → IsTarget w to.0 c → server_at w to.0 ≡ Some s → StandsIn (attached_to to c r) s
StandsIn-attached w to c r s target there =
    let at = target-place w to c s target there in
    record { exec_place = at; read_place = at; order = at_or_before-refl c }

pub AttachedWell-attached : (to : ServerNo) (c : Coord) (r s : Server) → IsJunction r s c → AttachedWell (attached_to to c r) s
AttachedWell-attached to c r s junction =
    record { prefix = junction.prefix; exec_place = junction.place; read_place = (length r.history.txns, junction.place); order = at_or_before-refl c }

-- the coordinate at which a server goes on by its set has a place in the source's log
pub auto-place : (uuid : ℕ → ℕ) (r s : Server) → LaysOut s.history.txns s.log.log → KeepsFrom s.settings.logs s.log.log s.first → nat_lt (held_of uuid r s) (purged_len s) ≡ false
    → place s.log.log (auto_coord uuid r (Some s)) ≡ Some (held_of uuid r s)
auto-place uuid r s laid kept enough = go (nat_lt (coord_after s.log.log (held_of uuid r s)).file s.first) refl
  where
    ends : place s.log.log (coord_after s.log.log (held_of uuid r s)) ≡ Some (held_of uuid r s)
    ends =
        place-coord_after s.log.log (Laid-Grown s.log.log (LaysOut-Grown s.history.txns s.log.log laid)) (held_of uuid r s)
        (held-within uuid (set_of uuid r.history.txns) s (LaysOut-length s.history.txns s.log.log laid))

    go : (b : Bool) → nat_lt (coord_after s.log.log (held_of uuid r s)).file s.first ≡ b
        → place s.log.log (cond b (file_start s.first) (coord_after s.log.log (held_of uuid r s))) ≡ Some (held_of uuid r s)
    go false is = ends
    go true is =
        let end = coord_after s.log.log (held_of uuid r s) in
        let starts = purged-place s kept.low kept.high in
        let before : is_at_or_before end (file_start s.first) ≡ true = ap (λ b. b || (end.file == s.first && nat_le end.pos 4)) is in
        let few = place-monotone s.log.log end (file_start s.first) (held_of uuid r s) (purged_len s) before ends starts in
        let least : purged_len s ≤ held_of uuid r s = grind (arith, nat_tests) in
        let same : purged_len s ≡ held_of uuid r s = omega (arith, few, least) in
        starts ∙ ap Some same

-- the source of an attachment by a set has a log
pub auto-laid : (w : World) (to : ServerNo) (s : Server) → ((n : ℕ) (x : Server) → server_at w n ≡ Some x → x.settings.logs ≡ true → LaysOut x.history.txns x.log.log) → IsAutoTarget w to.0
    → server_at w to.0 ≡ Some s → LaysOut s.history.txns s.log.log
auto-laid w to s laid target there =
    let is : target.target ≡ s = same_Some target.target s (sym target.there ∙ there) in
    laid to.0 s there (ap (λ (x : Server). x.settings.logs) (sym is) ∙ target.logs)

pub StandsIn-auto : (w : World) (to : ServerNo) (r s : Server) → ((n : ℕ) (x : Server) → server_at w n ≡ Some x → x.settings.logs ≡ true → LaysOut x.history.txns x.log.log) → KeepFiles w
    → IsAutoTarget w to.0 → server_at w to.0 ≡ Some s → nat_lt (held_of (uuids w) r s) (purged_len s) ≡ false → StandsIn (joined true to (auto_coord (uuids w) r (Some s)) r) s
StandsIn-auto w to r s laid kept target there enough =
    let c = auto_coord (uuids w) r (Some s) in
    let at : (k : ℕ) × (place s.log.log c ≡ Some k) = (held_of (uuids w) r s, auto-place (uuids w) r s (auto-laid w to s laid target there) (kept to.0 s there) enough) in
    record { exec_place = at; read_place = at; order = at_or_before-refl c }

-- and if it has executed a prefix of the source's history it goes on at that prefix's end
pub AttachedWell-auto : (w : World) (to : ServerNo) (r s : Server) → ((n : ℕ) (x : Server) → server_at w n ≡ Some x → x.settings.logs ≡ true → LaysOut x.history.txns x.log.log) → KeepFiles w
    → IsAutoTarget w to.0 → server_at w to.0 ≡ Some s → nat_lt (held_of (uuids w) r s) (purged_len s) ≡ false → take (length r.history.txns) s.history.txns ≡ r.history.txns
    → held_len (uuids w) (set_of (uuids w) r.history.txns) s.history.txns ≡ length r.history.txns → AttachedWell (joined true to (auto_coord (uuids w) r (Some s)) r) s
AttachedWell-auto w to r s laid kept target there enough prefix held =
    let c = auto_coord (uuids w) r (Some s) in
    let at : place s.log.log c ≡ Some (length r.history.txns) = auto-place (uuids w) r s (auto-laid w to s laid target there) (kept to.0 s there) enough ∙ ap Some held in
    record { prefix = prefix; exec_place = at; read_place = (length r.history.txns, at); order = at_or_before-refl c }
