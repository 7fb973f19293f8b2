-- When an attachment answers Loop.
use Rattle.std.proofs.Common.{◌≡◌, ℕ, Bool, true, false, cond, not, List, [], length, refl, ◌∙◌, ap, Option, Some, None, ◌&&◌, ◌||◌, arith, ◌<◌, Result, Ok, Err, nat_lt}
use Rattle.replication_laws.proofs.Prelude.{AttachFault, Coord, Interval, IsReadyAt, IsReadyAuto, Placed, Reaches, Server, Spot, World}
use Rattle.replication_laws.proofs.Prelude.{answer_by_sets, attach_answer, attach_auto_answer, auto_purged, chain_meets, errant_set, first_kept}
use Rattle.replication_laws.proofs.Prelude.{held_of, live_spot, purged_answer, purged_len, same_spot, server_at, slice_get_within, sources}
use Rattle.replication_laws.proofs.Prelude.{spot_below, uuids}
use Rattle.replication_laws.proofs.Prelude.attaching
use Rattle.replication_laws.proofs.Chains.{walk-finds_all, walk-met}

-- the answer by the four tests
abbrev decided : Server → Spot → Result (Unit {0}) AttachFault → Bool → Bool → Bool → Bool → Result (Unit {0}) AttachFault
decided s expect later reached on expected loops =
    cond (not reached) (Err attaching.Unreachable)
    (cond on (Err (attaching.Running (spot_below s s.source)))
    (cond (not expected) (Err (attaching.Interfered expect (live_spot s expect))) (cond loops (Err attaching.Loop) later)))

-- what is answered if no loop is closed
abbrev past_loop : World → ℕ → Coord → Result (Unit {0}) AttachFault
past_loop w to at = purged_answer (nat_lt at.file (first_kept (server_at w to))) (first_kept (server_at w to))

purged-no_loop : (purged : Bool) (first : ℕ) → purged_answer purged first ≡ Err attaching.Loop → ⊥
purged-no_loop true first h = cc
purged-no_loop false first h = cc

pub loop-answered : (w : World) (n : ℕ) (expect : Spot) (to : ℕ) (at : Coord) → IsReadyAt w n expect → Reaches (sources w) n to → attach_answer w n expect to at (server_at w n) ≡ Err attaching.Loop
loop-answered w n expect to at ready r =
    let later = past_loop w to at in
    ap (attach_answer w n expect to at) ready.there
    ∙ ap (λ b. decided ready.server expect later b (ready.server.receiver || ready.server.applier) (same_spot expect (live_spot ready.server expect)) (chain_meets (sources w) (length w.servers) to n)) ready.reached
    ∙ ap (λ b. decided ready.server expect later true b (same_spot expect (live_spot ready.server expect)) (chain_meets (sources w) (length w.servers) to n)) ready.still
    ∙ ap (λ b. decided ready.server expect later true false b (chain_meets (sources w) (length w.servers) to n)) ready.expected
    ∙ ap (decided ready.server expect later true false true) (walk-met (sources w) to n (length w.servers) r)

pub loop-only : (w : World) (n : ℕ) (expect : Spot) (to : ℕ) (at : Coord) → Placed w → attach_answer w n expect to at (server_at w n) ≡ Err attaching.Loop → IsReadyAt w n expect × Reaches (sources w) n to
loop-only w n expect to at placed h = at_server (server_at w n) refl h
  where
    at_server : (o : Option Server) → server_at w n ≡ o → attach_answer w n expect to at o ≡ Err attaching.Loop → IsReadyAt w n expect × Reaches (sources w) n to
    at_server None here e = cc
    at_server (Some s) here e = go (s.up && s.desk) (s.receiver || s.applier) (same_spot expect (live_spot s expect)) (chain_meets (sources w) (length w.servers) to n) refl refl refl refl e
      where
        go : (reached on expected loops : Bool) → (s.up && s.desk) ≡ reached → (s.receiver || s.applier) ≡ on → same_spot expect (live_spot s expect) ≡ expected
            → chain_meets (sources w) (length w.servers) to n ≡ loops → decided s expect (past_loop w to at) reached on expected loops ≡ Err attaching.Loop → IsReadyAt w n expect × Reaches (sources w) n to
        go true false true false a b c d f = absurd (purged-no_loop (nat_lt at.file (first_kept (server_at w to))) (first_kept (server_at w to)) f)
        go true false true true a b c d f =
            let within : n < length w.servers = slice_get_within w.servers n s here in
            (record { server = s; there = here; reached = a; still = b; expected = c }, walk-finds_all w placed (omega arith) n to d)
        go _ _ _ loops a b c d f = cc

-- an attachment by a set asks the same except for the server's position

abbrev decided_auto : Server → Result (Unit {0}) AttachFault → Bool → Bool → Bool → List Interval → Result (Unit {0}) AttachFault
decided_auto s later reached on loops errant =
    answer_by_sets (cond (not reached) (Err attaching.Unreachable) (cond on (Err (attaching.Running (spot_below s s.source))) (cond loops (Err attaching.Loop) (Ok tt)))) errant later

auto_purged-no_loop : (uuid : ℕ → ℕ) (r : Server) (o : Option Server) → auto_purged uuid r o ≡ Err attaching.Loop → ⊥
auto_purged-no_loop uuid r None h = cc
auto_purged-no_loop uuid r (Some s) h = purged-no_loop (nat_lt (held_of uuid r s) (purged_len s)) s.first h

pub loop_auto-answered : (w : World) (n : ℕ) (observed : List Interval) (to : ℕ) → IsReadyAuto w n → Reaches (sources w) n to → attach_auto_answer w n observed to (server_at w n) ≡ Err attaching.Loop
loop_auto-answered w n observed to ready r =
    let errant = errant_set (uuids w) observed ready.server.history.txns in
    let later = auto_purged (uuids w) ready.server (server_at w to) in
    ap (attach_auto_answer w n observed to) ready.there
    ∙ ap (λ b. decided_auto ready.server later b (ready.server.receiver || ready.server.applier) (chain_meets (sources w) (length w.servers) to n) errant) ready.reached
    ∙ ap (λ b. decided_auto ready.server later true b (chain_meets (sources w) (length w.servers) to n) errant) ready.still
    ∙ ap (λ b. decided_auto ready.server later true false b errant) (walk-met (sources w) to n (length w.servers) r)

pub loop_auto-only : (w : World) (n : ℕ) (observed : List Interval) (to : ℕ) → Placed w → attach_auto_answer w n observed to (server_at w n) ≡ Err attaching.Loop
    → IsReadyAuto w n × Reaches (sources w) n to
loop_auto-only w n observed to placed h = at_server (server_at w n) refl h
  where
    at_server : (o : Option Server) → server_at w n ≡ o → attach_auto_answer w n observed to o ≡ Err attaching.Loop → IsReadyAuto w n × Reaches (sources w) n to
    at_server None here e = cc
    at_server (Some s) here e =
        go (s.up && s.desk) (s.receiver || s.applier) (chain_meets (sources w) (length w.servers) to n) (errant_set (uuids w) observed s.history.txns) refl refl refl e
      where
        go : (reached on loops : Bool) (errant : List Interval) → (s.up && s.desk) ≡ reached → (s.receiver || s.applier) ≡ on
            → chain_meets (sources w) (length w.servers) to n ≡ loops → decided_auto s (auto_purged (uuids w) s (server_at w to)) reached on loops errant ≡ Err attaching.Loop → IsReadyAuto w n × Reaches (sources w) n to
        go true false false [] a b d f = absurd (auto_purged-no_loop (uuids w) s (server_at w to) f)
        go true false true errant a b d f =
            let within : n < length w.servers = slice_get_within w.servers n s here in
            (record { server = s; there = here; reached = a; still = b }, walk-finds_all w placed (omega arith) n to d)
        go _ _ _ _ a b d f = cc
