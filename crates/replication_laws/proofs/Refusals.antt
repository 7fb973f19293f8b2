-- What is read and refused of purged files.
use Rattle.std.proofs.Common.{◌≡◌, ℕ, ◌<◌, ◌≤◌, Bool, true, false, not, cond, List, [], ◌∷◌, length, refl, sym, ◌∙◌, ap, subst, Option, Some, None, arith, ◌&&◌, ◌||◌, Result, Ok, Err, nat_lt}
use Rattle.replication_laws.proofs.Prelude.{Attached, AttachFault, Coord, Detached, FetchStep, Interval, IsActive, IsAutoTarget, IsReadyAt}
use Rattle.replication_laws.proofs.Prelude.{IsReadyAuto, IsRefused, Next, Placed, Reaches, Server, ServerNo, SourceState, Spot, Without, World}
use Rattle.replication_laws.proofs.Prelude.{after_attach, after_attach_auto, after_fetch, answer_by_sets, attach_answer, attach_auto_answer}
use Rattle.replication_laws.proofs.Prelude.{attached_at, attached_auto, auto_coord, auto_purged, chain_meets, coord_after, errant_set, fetch_answer}
use Rattle.replication_laws.proofs.Prelude.{fetch_from, fetch_kept, fetch_step, fetch_step-on, file_start, first_kept, held_of, is_attached}
use Rattle.replication_laws.proofs.Prelude.{is_receiving, kept_coord, live_spot, nat_tests, next_after, place, purged_answer, purged_len}
use Rattle.replication_laws.proofs.Prelude.{purged_len-is, same_Some, same_spot, server_at, slice_get_within, sources, spot_below, uuids, with_server}
use Rattle.replication_laws.proofs.Prelude.attaching
use Rattle.replication_laws.proofs.Prelude.fetching
use Rattle.replication_laws.proofs.Prelude.next
use Rattle.replication_laws.proofs.Prelude.receiving
use Rattle.replication_laws.proofs.Chains.{walk-finds_all}
use Rattle.replication_laws.proofs.Moves.{auto-laid, auto-place}
use Rattle.replication_laws.proofs.Worlds.{at_with_same}

-- a fetch that comes to its source's log

record Fetches (w : World) (r : Server) (x : FetchStep) : Type 0 where
  server : ServerNo
  source : Server
  attached : r.source ≡ Attached server
  at : server_at w server.0 ≡ Some source
  is : fetch_kept r source ≡ x

fetches : (w : World) (r : Server) (x : FetchStep) → (receiving.Halt ≡ x → ⊥) → (receiving.Unlinked ≡ x → ⊥) → fetch_step w (Some r) ≡ x → Fetches w r x
fetches w r x on linked h = go (r.up && (is_attached r.source && r.receiver)) h
  where
    reached : (server : ServerNo) (s : Server) → r.source ≡ Attached server → server_at w server.0 ≡ Some s → (b : Bool) → cond b (fetch_kept r s) receiving.Unlinked ≡ x → Fetches w r x
    reached server s from at true e = record { server = server; source = s; attached = from; at = at; is = e }
    reached server s from at false e = absurd (linked e)

    under : (server : ServerNo) → r.source ≡ Attached server → (p : Option Server) → server_at w server.0 ≡ p → fetch_from r p ≡ x → Fetches w r x
    under server from None at e = absurd (linked e)
    under server from (Some s) at e = reached server s from at (s.up && r.feed) e

    by_source : (source : SourceState) → r.source ≡ source → fetch_from r (attached_at w source) ≡ x → Fetches w r x
    by_source Without is e = absurd (linked e)
    by_source (Attached server) is e = under server is (server_at w server.0) refl e
    by_source (Detached server) is e = absurd (linked e)

    go : (b : Bool) → cond b (fetch_from r (attached_at w r.source)) receiving.Halt ≡ x → Fetches w r x
    go true e = by_source r.source refl e
    go false e = absurd (on e)

refused-kept : (r s : Server) (first : ℕ) → fetch_kept r s ≡ receiving.Refuse first → (s.first ≡ first) × (r.read.file < s.first)
refused-kept r s first h = go (nat_lt r.read.file s.first) refl h
  where
    go : (b : Bool) → nat_lt r.read.file s.first ≡ b → cond b (receiving.Refuse s.first) (receiving.Take (next_after s.log.log r.read)) ≡ receiving.Refuse first → (s.first ≡ first) × (r.read.file < s.first)
    go true is e = (cc, grind (arith, nat_tests))
    go false is e = cc

taken-kept : (r s : Server) (x : Next) → fetch_kept r s ≡ receiving.Take x → s.first ≤ r.read.file
taken-kept r s x h = go (nat_lt r.read.file s.first) refl h
  where
    go : (b : Bool) → nat_lt r.read.file s.first ≡ b → cond b (receiving.Refuse s.first) (receiving.Take (next_after s.log.log r.read)) ≡ receiving.Take x → s.first ≤ r.read.file
    go true is e = cc
    go false is e = grind (arith, nat_tests)

-- a receiver that is refused goes off, and nothing else changes
pub fetch-refused : (w : World) (n first : ℕ) → fetch_answer (fetch_step w (server_at w n)) ≡ fetching.Purged first
    → IsRefused w n first (after_fetch w n (server_at w n) (fetch_step w (server_at w n)))
fetch-refused w n first h = at_server (server_at w n) refl h
  where
    refuses : (x : FetchStep) → fetch_answer x ≡ fetching.Purged first → x ≡ receiving.Refuse first
    refuses (receiving.Refuse k) e = let same : k ≡ first = cc in ap (λ (j : ℕ). receiving.Refuse j) same
    refuses (receiving.Take (next.Entry index to)) e = cc
    refuses _ e = cc

    not_halted : receiving.Halt ≡ receiving.Refuse first → ⊥
    not_halted e = cc

    not_unlinked : receiving.Unlinked ≡ receiving.Refuse first → ⊥
    not_unlinked e = cc

    at_server : (o : Option Server) → server_at w n ≡ o → fetch_answer (fetch_step w o) ≡ fetching.Purged first → IsRefused w n first (after_fetch w n o (fetch_step w o))
    at_server None at e = cc
    at_server (Some r) at e =
        let step = refuses (fetch_step w (Some r)) e in
        let f = fetches w r (receiving.Refuse first) not_halted not_unlinked step in
        let kept = refused-kept r f.source first f.is in
        record {
          replica = r;
          no = f.server;
          source = f.source;
          there = at;
          attached = f.attached;
          source_there = f.at;
          kept = kept.0;
          purged = (let less = kept.1 in let same = kept.0 in omega (arith, less, same));
          left = ap (after_fetch w n (Some r)) step;
        }

-- what is read is in a kept file
fetch-kept : (w : World) (n : ℕ) (r s : Server) (server : ServerNo) (x : Next) → server_at w n ≡ Some r → r.source ≡ Attached server → server_at w server.0 ≡ Some s
    → fetch_step w (server_at w n) ≡ receiving.Take x → s.first ≤ r.read.file
fetch-kept w n r s server x at from at_s h =
    let f = fetches w r (receiving.Take x) not_halted not_unlinked (sym (ap (fetch_step w) at) ∙ h) in
    let number : f.server ≡ server = same_attached f.server server (sym f.attached ∙ from) in
    let same : f.source ≡ s = same_Some f.source s (sym f.at ∙ ap (λ (m : ServerNo). server_at w m.0) number ∙ at_s) in
    subst (λ (y : Server). y.first ≤ r.read.file) same (taken-kept r f.source x f.is)
  where
    not_halted : receiving.Halt ≡ receiving.Take x → ⊥
    not_halted e = cc

    not_unlinked : receiving.Unlinked ≡ receiving.Take x → ⊥
    not_unlinked e = cc

    same_attached : (a b : ServerNo) → Attached a ≡ Attached b → a ≡ b
    same_attached a b e = cc

pub fetch-got : (w : World) (n : ℕ) (r s : Server) (server : ServerNo) (to : Coord) → server_at w n ≡ Some r → r.source ≡ Attached server → server_at w server.0 ≡ Some s
    → fetch_answer (fetch_step w (server_at w n)) ≡ fetching.Got to → s.first ≤ r.read.file
fetch-got w n r s server to at from at_s h = go (fetch_step w (server_at w n)) refl h
  where
    go : (x : FetchStep) → fetch_step w (server_at w n) ≡ x → fetch_answer x ≡ fetching.Got to → s.first ≤ r.read.file
    go receiving.Halt is e = cc
    go (receiving.Take (next.Entry index c)) is e = fetch-kept w n r s server (next.Entry index c) at from at_s is
    go _ is e = cc

pub fetch-rotated : (w : World) (n : ℕ) (r s : Server) (server : ServerNo) (to : Coord) → server_at w n ≡ Some r → r.source ≡ Attached server → server_at w server.0 ≡ Some s
    → fetch_answer (fetch_step w (server_at w n)) ≡ fetching.Rotated to → s.first ≤ r.read.file
fetch-rotated w n r s server to at from at_s h = go (fetch_step w (server_at w n)) refl h
  where
    go : (x : FetchStep) → fetch_step w (server_at w n) ≡ x → fetch_answer x ≡ fetching.Rotated to → s.first ≤ r.read.file
    go receiving.Halt is e = cc
    go (receiving.Take (next.Rotate c)) is e = fetch-kept w n r s server (next.Rotate c) at from at_s is
    go _ is e = cc

-- an active replica that is to read a purged file of a server that is up is refused
pub fetch-purged : (w : World) (n : ℕ) (r s : Server) (server : ServerNo) → server_at w n ≡ Some r → server_at w server.0 ≡ Some s → s.up ≡ true → IsActive server r → r.read.file < s.first
    → fetch_answer (fetch_step w (server_at w n)) ≡ fetching.Purged s.first
fetch-purged w n r s server at at_s up on less =
    ap fetch_answer (fetch_step-on w n r (Some s) at receiving_on (ap (attached_at w) on.attached ∙ at_s))
    ∙ ap (λ b. fetch_answer (cond (b && r.feed) (fetch_kept r s) receiving.Unlinked)) up
    ∙ ap (λ b. fetch_answer (cond b (fetch_kept r s) receiving.Unlinked)) on.feed
    ∙ ap (λ b. fetch_answer (cond b (receiving.Refuse s.first) (receiving.Take (next_after s.log.log r.read)))) before
  where
    before : nat_lt r.read.file s.first ≡ true
    before = grind (arith, nat_tests)

    receiving_on : is_receiving r ≡ true
    receiving_on =
        ap (λ b. b && (is_attached r.source && r.receiver)) on.up
        ∙ ap (λ source. is_attached source && r.receiver) on.attached ∙ on.receiver

-- attachments

-- a server that isn't below another isn't met on the way up from it
not-met : (w : World) (n to : ℕ) (s : Server) → Placed w → server_at w n ≡ Some s → (Reaches (sources w) n to → ⊥) → chain_meets (sources w) (length w.servers) to n ≡ false
not-met w n to s placed at apart = go (chain_meets (sources w) (length w.servers) to n) refl
  where
    go : (b : Bool) → chain_meets (sources w) (length w.servers) to n ≡ b → b ≡ false
    go true met =
        let within : n < length w.servers = slice_get_within w.servers n s at in
        absurd (apart (walk-finds_all w placed (omega arith) n to met))
    go false met = refl

-- an answer that comes last
data IsLate : Result (Unit {0}) AttachFault → Type 0 where
  Joins : IsLate (Ok tt)
  Refuses : (first : ℕ) → IsLate (Err (attaching.Purged first))

abbrev decided : Server → Spot → Result (Unit {0}) AttachFault → Bool → Bool → Bool → Bool → Result (Unit {0}) AttachFault
decided s expect later reached on expected loops =
    cond (not reached) (Err attaching.Unreachable)
    (cond on (Err (attaching.Running (spot_below s s.source)))
    (cond (not expected) (Err (attaching.Interfered expect (live_spot s expect))) (cond loops (Err attaching.Loop) later)))

-- a fault that comes earlier is none of these
late-unreached : (x : Result (Unit {0}) AttachFault) → IsLate x → Err attaching.Unreachable ≡ x → ⊥
late-unreached x Joins e = cc
late-unreached x (Refuses first) e = cc

late-running : (at : Spot) (x : Result (Unit {0}) AttachFault) → IsLate x → Err (attaching.Running at) ≡ x → ⊥
late-running at x Joins e = cc
late-running at x (Refuses first) e = cc

late-interfered : (expect found : Spot) (x : Result (Unit {0}) AttachFault) → IsLate x → Err (attaching.Interfered expect found) ≡ x → ⊥
late-interfered expect found x Joins e = cc
late-interfered expect found x (Refuses first) e = cc

late-loop : (x : Result (Unit {0}) AttachFault) → IsLate x → Err attaching.Loop ≡ x → ⊥
late-loop x Joins e = cc
late-loop x (Refuses first) e = cc

late-errant : (set : List Interval) (x : Result (Unit {0}) AttachFault) → IsLate x → Err (attaching.Errant set) ≡ x → ⊥
late-errant set x Joins e = cc
late-errant set x (Refuses first) e = cc

attach-late : (w : World) (n : ℕ) (expect : Spot) (to : ℕ) (at : Coord) (s : Server) (x : Result (Unit {0}) AttachFault) → server_at w to ≡ Some s → IsLate x
    → attach_answer w n expect to at (server_at w n) ≡ x → purged_answer (nat_lt at.file s.first) s.first ≡ x
attach-late w n expect to at s x there late h = at_server (server_at w n) h
  where
    later : Result (Unit {0}) AttachFault
    later = purged_answer (nat_lt at.file (first_kept (server_at w to))) (first_kept (server_at w to))

    by_tests : (r : Server) (a b c d : Bool) → decided r expect (purged_answer (nat_lt at.file (first_kept (server_at w to))) (first_kept (server_at w to))) a b c d ≡ x
        → purged_answer (nat_lt at.file s.first) s.first ≡ x
    by_tests r false b c d e = absurd (late-unreached x late e)
    by_tests r true true c d e = absurd (late-running (spot_below r r.source) x late e)
    by_tests r true false false d e = absurd (late-interfered expect (live_spot r expect) x late e)
    by_tests r true false true true e = absurd (late-loop x late e)
    by_tests r true false true false e = sym (ap (λ o. purged_answer (nat_lt at.file (first_kept o)) (first_kept o)) there) ∙ e

    at_server : (o : Option Server) → attach_answer w n expect to at o ≡ x → purged_answer (nat_lt at.file s.first) s.first ≡ x
    at_server None e = absurd (late-unreached x late e)
    at_server (Some r) e = by_tests r (r.up && r.desk) (r.receiver || r.applier) (same_spot expect (live_spot r expect)) (chain_meets (sources w) (length w.servers) to n) e

auto-late : (w : World) (n : ℕ) (observed : List Interval) (to : ℕ) (r s : Server) (x : Result (Unit {0}) AttachFault) → server_at w n ≡ Some r → server_at w to ≡ Some s → IsLate x
    → attach_auto_answer w n observed to (server_at w n) ≡ x → purged_answer (nat_lt (held_of (uuids w) r s) (purged_len s)) s.first ≡ x
auto-late w n observed to r s x at there late h =
    go (r.up && r.desk) (r.receiver || r.applier) (chain_meets (sources w) (length w.servers) to n) (errant_set (uuids w) observed r.history.txns)
    (sym (ap (attach_auto_answer w n observed to) at) ∙ h)
  where
    go : (a b d : Bool) (errant : List Interval)
        → answer_by_sets (cond (not a) (Err attaching.Unreachable) (cond b (Err (attaching.Running (spot_below r r.source))) (cond d (Err attaching.Loop) (Ok tt)))) errant (auto_purged (uuids w) r (server_at w to)) ≡ x
        → purged_answer (nat_lt (held_of (uuids w) r s) (purged_len s)) s.first ≡ x
    go false b d errant e = absurd (late-unreached x late e)
    go true true d errant e = absurd (late-running (spot_below r r.source) x late e)
    go true false true errant e = absurd (late-loop x late e)
    go true false false (i ∷ is) e = absurd (late-errant (i ∷ is) x late e)
    go true false false [] e = sym (ap (auto_purged (uuids w) r) there) ∙ e

not_purged : (purged : Bool) (first : ℕ) → purged_answer purged first ≡ Ok tt → purged ≡ false
not_purged true first h = cc
not_purged false first h = refl

is_purged : (purged : Bool) (first k : ℕ) → purged_answer purged first ≡ Err (attaching.Purged k) → (purged ≡ true) × (first ≡ k)
is_purged true first k h = (refl, cc)
is_purged false first k h = cc

pub attach-kept : (w : World) (n : ℕ) (expect : Spot) (to : ℕ) (at : Coord) (s : Server) → server_at w to ≡ Some s → attach_answer w n expect to at (server_at w n) ≡ Ok tt → s.first ≤ at.file
attach-kept w n expect to at s there h =
    let kept = not_purged (nat_lt at.file s.first) s.first (attach-late w n expect to at s (Ok tt) there Joins h) in
    grind (arith, nat_tests)

pub attach-purged : (w : World) (n : ℕ) (expect : Spot) (to : ℕ) (at : Coord) (s : Server) (first : ℕ) → server_at w to ≡ Some s
    → attach_answer w n expect to at (server_at w n) ≡ Err (attaching.Purged first) → (s.first ≡ first) × (at.file < s.first)
attach-purged w n expect to at s first there h =
    let parts = is_purged (nat_lt at.file s.first) s.first first (attach-late w n expect to at s (Err (attaching.Purged first)) there (Refuses first) h) in
    let before = parts.0 in
    (parts.1, grind (arith, nat_tests))

-- if no earlier fault comes it is answered

pub attach-answers : (w : World) (n : ℕ) (expect : Spot) (to : ℕ) (at : Coord) (s : Server) → Placed w → IsReadyAt w n expect → (Reaches (sources w) n to → ⊥) → server_at w to ≡ Some s
    → at.file < s.first → attach_answer w n expect to at (server_at w n) ≡ Err (attaching.Purged s.first)
attach-answers w n expect to at s placed ready apart there less =
    ap (attach_answer w n expect to at) ready.there
    ∙ ap (λ b. decided ready.server expect later b (ready.server.receiver || ready.server.applier) (same_spot expect (live_spot ready.server expect)) (chain_meets (sources w) (length w.servers) to n)) ready.reached
    ∙ ap (λ b. decided ready.server expect later true b (same_spot expect (live_spot ready.server expect)) (chain_meets (sources w) (length w.servers) to n)) ready.still
    ∙ ap (λ b. decided ready.server expect later true false b (chain_meets (sources w) (length w.servers) to n)) ready.expected
    ∙ ap (decided ready.server expect later true false true) (not-met w n to ready.server placed ready.there apart)
    ∙ ap (λ o. purged_answer (nat_lt at.file (first_kept o)) (first_kept o)) there
    ∙ ap (λ b. purged_answer b s.first) before
  where
    later : Result (Unit {0}) AttachFault
    later = purged_answer (nat_lt at.file (first_kept (server_at w to))) (first_kept (server_at w to))

    before : nat_lt at.file s.first ≡ true
    before = grind (arith, nat_tests)

pub auto-answers : (w : World) (n : ℕ) (observed : List Interval) (to : ℕ) (r s : Server) (k : ℕ) → Placed w → IsReadyAuto w n → (Reaches (sources w) n to → ⊥) → server_at w n ≡ Some r
    → server_at w to ≡ Some s → errant_set (uuids w) observed r.history.txns ≡ [] → place s.log.log (file_start s.first) ≡ Some k → held_of (uuids w) r s < k
    → attach_auto_answer w n observed to (server_at w n) ≡ Err (attaching.Purged s.first)
auto-answers w n observed to r s k placed ready apart at there none starts less =
    ap (attach_auto_answer w n observed to) at
    ∙ ap (λ b. by_tests b (r.receiver || r.applier) (chain_meets (sources w) (length w.servers) to n) (errant_set (uuids w) observed r.history.txns)) (ap (λ (x : Server). x.up && x.desk) (sym same) ∙ ready.reached)
    ∙ ap (λ b. by_tests true b (chain_meets (sources w) (length w.servers) to n) (errant_set (uuids w) observed r.history.txns)) (ap (λ (x : Server). x.receiver || x.applier) (sym same) ∙ ready.still)
    ∙ ap (λ b. by_tests true false b (errant_set (uuids w) observed r.history.txns)) (not-met w n to r placed at apart)
    ∙ ap (by_tests true false false) none
    ∙ ap (auto_purged (uuids w) r) there
    ∙ ap (λ b. purged_answer b s.first) before
  where
    same : ready.server ≡ r
    same = same_Some ready.server r (sym ready.there ∙ at)

    by_tests : Bool → Bool → Bool → List Interval → Result (Unit {0}) AttachFault
    by_tests a b d errant =
        answer_by_sets (cond (not a) (Err attaching.Unreachable) (cond b (Err (attaching.Running (spot_below r r.source))) (cond d (Err attaching.Loop) (Ok tt)))) errant (auto_purged (uuids w) r (server_at w to))

    before : nat_lt (held_of (uuids w) r s) (purged_len s) ≡ true
    before = let count = purged_len-is s k starts in grind (arith, nat_tests)

-- and nothing changes

after-fault : (w : World) (n : ℕ) (to : ServerNo) (at : Coord) (o : Option Server) (f : AttachFault) → after_attach w n to at o (Err f) ≡ w
after-fault w n to at None f = refl
after-fault w n to at (Some r) f = refl

after_auto-fault : (w : World) (n : ℕ) (to : ServerNo) (o : Option Server) (f : AttachFault) → after_attach_auto w n to o (Err f) ≡ w
after_auto-fault w n to None f = refl
after_auto-fault w n to (Some r) f = refl

pub attach-unchanged : (w : World) (n : ℕ) (expect : Spot) (to : ServerNo) (at : Coord) (s : Server) → server_at w to.0 ≡ Some s → at.file < s.first
    → after_attach w n to at (server_at w n) (attach_answer w n expect to.0 at (server_at w n)) ≡ w
attach-unchanged w n expect to at s there less = go (attach_answer w n expect to.0 at (server_at w n)) refl
  where
    go : (x : Result (Unit {0}) AttachFault) → attach_answer w n expect to.0 at (server_at w n) ≡ x → after_attach w n to at (server_at w n) x ≡ w
    go (Ok t) e = let more = attach-kept w n expect to.0 at s there e in absurd (omega (arith, more, less))
    go (Err f) e = after-fault w n to at (server_at w n) f

pub auto-unchanged : (w : World) (n : ℕ) (observed : List Interval) (to : ServerNo) (r s : Server) (k : ℕ) → server_at w n ≡ Some r → server_at w to.0 ≡ Some s
    → place s.log.log (file_start s.first) ≡ Some k → held_of (uuids w) r s < k → after_attach_auto w n to (server_at w n) (attach_auto_answer w n observed to.0 (server_at w n)) ≡ w
auto-unchanged w n observed to r s k at there starts less = go (attach_auto_answer w n observed to.0 (server_at w n)) refl
  where
    go : (x : Result (Unit {0}) AttachFault) → attach_auto_answer w n observed to.0 (server_at w n) ≡ x → after_attach_auto w n to (server_at w n) x ≡ w
    go (Ok t) e =
        let kept = not_purged (nat_lt (held_of (uuids w) r s) (purged_len s)) s.first (auto-late w n observed to.0 r s (Ok tt) at there Joins e) in
        let count = purged_len-is s k starts in
        absurd (grind (arith, nat_tests))
    go (Err f) e = after_auto-fault w n to (server_at w n) f

-- the position to which an attachment by a set leads

joined-auto : (w : World) (n : ℕ) (observed : List Interval) (to : ServerNo) (r r' : Server) → server_at w n ≡ Some r → attach_auto_answer w n observed to.0 (server_at w n) ≡ Ok tt
    → server_at (after_attach_auto w n to (server_at w n) (attach_auto_answer w n observed to.0 (server_at w n))) n ≡ Some r'
    → attached_auto to (auto_coord (uuids w) r (server_at w to.0)) r ≡ r'
joined-auto w n observed to r r' at h left =
    let changed = attached_auto to (auto_coord (uuids w) r (server_at w to.0)) r in
    let is : after_attach_auto w n to (server_at w n) (attach_auto_answer w n observed to.0 (server_at w n)) ≡ with_server w n (attached_auto to (auto_coord (uuids w) r (server_at w to.0)) r) =
    ap (after_attach_auto w n to (server_at w n)) h ∙ ap (λ o. after_attach_auto w n to o (Ok tt)) at in
    same_Some changed r' (sym (at_with_same w n r changed at) ∙ sym (ap (λ (v : World). server_at v n) is) ∙ left)

kept_coord-file : (s : Server) (c : Coord) → s.first ≤ (kept_coord s c).file
kept_coord-file s c = go (nat_lt c.file s.first) refl
  where
    go : (b : Bool) → nat_lt c.file s.first ≡ b → s.first ≤ (cond b (file_start s.first) c).file
    go true is = omega arith
    go false is = grind (arith, nat_tests)

pub auto-kept : (w : World) (n : ℕ) (observed : List Interval) (to : ServerNo) (r s r' : Server) → server_at w n ≡ Some r → server_at w to.0 ≡ Some s
    → attach_auto_answer w n observed to.0 (server_at w n) ≡ Ok tt
    → server_at (after_attach_auto w n to (server_at w n) (attach_auto_answer w n observed to.0 (server_at w n))) n ≡ Some r' → s.first ≤ r'.exec.file
auto-kept w n observed to r s r' at there h left =
    let exec : auto_coord (uuids w) r (Some s) ≡ r'.exec = sym (ap (auto_coord (uuids w) r) there) ∙ ap (λ (x : Server). x.exec) (joined-auto w n observed to r r' at h left) in
    subst (λ (c : Coord). s.first ≤ c.file) exec (kept_coord-file s (coord_after s.log.log (held_of (uuids w) r s)))

pub auto-placed : (w : World) (n : ℕ) (observed : List Interval) (to : ServerNo) (r s r' : Server) → Placed w → IsAutoTarget w to.0 → server_at w n ≡ Some r → server_at w to.0 ≡ Some s
    → attach_auto_answer w n observed to.0 (server_at w n) ≡ Ok tt
    → server_at (after_attach_auto w n to (server_at w n) (attach_auto_answer w n observed to.0 (server_at w n))) n ≡ Some r' → place s.log.log r'.exec ≡ Some (held_of (uuids w) r s)
auto-placed w n observed to r s r' placed target at there h left =
    let exec : auto_coord (uuids w) r (Some s) ≡ r'.exec = sym (ap (auto_coord (uuids w) r) there) ∙ ap (λ (x : Server). x.exec) (joined-auto w n observed to r r' at h left) in
    let enough = not_purged (nat_lt (held_of (uuids w) r s) (purged_len s)) s.first (auto-late w n observed to.0 r s (Ok tt) at there Joins h) in
    subst (λ (c : Coord). place s.log.log c ≡ Some (held_of (uuids w) r s)) exec (auto-place (uuids w) r s (auto-laid w to s placed.laid target there) (placed.kept to.0 s there) enough)

pub auto-refused : (w : World) (n : ℕ) (observed : List Interval) (to : ServerNo) (r s : Server) (first k : ℕ) → server_at w n ≡ Some r → server_at w to.0 ≡ Some s
    → attach_auto_answer w n observed to.0 (server_at w n) ≡ Err (attaching.Purged first) → place s.log.log (file_start s.first) ≡ Some k → (s.first ≡ first) × (held_of (uuids w) r s < k)
auto-refused w n observed to r s first k at there h starts =
    let parts = is_purged (nat_lt (held_of (uuids w) r s) (purged_len s)) s.first first (auto-late w n observed to.0 r s (Err (attaching.Purged first)) at there (Refuses first) h) in
    let before = parts.0 in
    let count = purged_len-is s k starts in
    let less : held_of (uuids w) r s < purged_len s = grind (arith, nat_tests) in
    (parts.1, omega (arith, less, count))
