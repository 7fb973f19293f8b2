-- Purges: what each keeps, and how far it goes.
use Rattle.std.proofs.Common.{◌≡◌, ℕ, ◌<◌, ◌≤◌, ◌⊎◌, inl, inr, Bool, true, false, not, cond, refl, sym, ◌∙◌, ap, Option, Some, None, arith, ◌&&◌, subst, nat_lt}
use Rattle.replication_laws.proofs.Prelude.{Attached, AttachedWell, Detached, GoesOn, IsActive, PurgeAnswer, Server, ServerNo, SourceState, StandsIn}
use Rattle.replication_laws.proofs.Prelude.{Without, World, after_purge, and_parts, eq-eqb, eqb-true, false≢true, files_read, from_file, greater}
use Rattle.replication_laws.proofs.Prelude.{greater-right, is_attached_to, is_reading, kept_from, kept_from-rises, kept_from-within, least-each}
use Rattle.replication_laws.proofs.Prelude.{least-first, least-least, least_read, listed-read, nat_tests, purge_answer, read-listed, server_at}
use Rattle.replication_laws.proofs.Prelude.{take-length, with_server}
use Rattle.replication_laws.proofs.Prelude.purging
use Rattle.replication_laws.proofs.Keeping.{Standing, Linked, Linked-keeps}

GoesOn-purged : (s : Server) (first : ℕ) → s.first ≤ first → GoesOn s (from_file first s)
GoesOn-purged s first more = record { settings = refl; prefix = take-length s.history.txns; places = λ c k h. h; first = more }

pub StandsIn-purged : (r s : Server) (first : ℕ) → StandsIn r s → StandsIn (from_file first r) s
StandsIn-purged r s first stands = record { exec_place = stands.exec_place; read_place = stands.read_place; order = stands.order }

pub AttachedWell-purged : (r s : Server) (first : ℕ) → AttachedWell r s → AttachedWell (from_file first r) s
AttachedWell-purged r s first well = record { prefix = well.prefix; exec_place = well.exec_place; read_place = well.read_place; order = well.order }

-- the answer by its three tests
abbrev answered : ℕ → Bool → Bool → Bool → PurgeAnswer
answered first up logs past = cond (not up) purging.Down (cond (not logs) purging.NotLogging (cond past purging.NoFile (purging.Done first)))

-- a purge writes nothing
pub GoesOn-purge : (w : World) (n file first : ℕ) (s : Server) → purge_answer w n file (Some s) ≡ purging.Done first → GoesOn s (from_file first s)
GoesOn-purge w n file first s h = go s.up s.settings.logs (nat_lt s.log.log.files file) h
  where
    go : (a b c : Bool) → answered (kept_from w.servers n file s) a b c ≡ purging.Done first → GoesOn s (from_file first s)
    go true true false e = let same : kept_from w.servers n file s ≡ first = cc in subst (λ (k : ℕ). GoesOn s (from_file k s)) same (GoesOn-purged s (kept_from w.servers n file s) (kept_from-rises w.servers n file s))
    go _ _ _ e = cc

-- and keeps each replica's position
pub Linked-purge : (R : Server → Server → Type 0) → Standing R → (w : World) (n file : ℕ) → Linked R w → ((r s : Server) (first : ℕ) → R r s → R (from_file first r) s)
    → (o : Option Server) → server_at w n ≡ o → Linked R (after_purge w n o (purge_answer w n file o))
Linked-purge R standing w n file linked on None at = linked
Linked-purge R standing w n file linked on (Some s) at = go s.up s.settings.logs (nat_lt s.log.log.files file) refl refl
  where
    go : (a b c : Bool) → s.settings.logs ≡ b → nat_lt s.log.log.files file ≡ c → Linked R (after_purge w n (Some s) (answered (kept_from w.servers n file s) a b c))
    go true true false logs past =
        let first = kept_from w.servers n file s in
        let more = kept_from-rises w.servers n file s in
        let kept = linked.kept n s at in
        let low = kept.low in
        let within : file ≤ s.log.log.files = grind (arith, nat_tests) in
        Linked-keeps R standing w n s (from_file first s) linked at (record {
          goes_on = GoesOn-purged s first more;
          source = refl;
          laid = linked.laid n s at;
          kept = record {
            low = omega (arith, low, more);
            high = kept_from-within w.servers n file s kept.high within;
            unlogged = λ off. absurd (false≢true (sym off ∙ logs));
          };
          stands = λ m t from at_m stood. on s t first stood;
        })
    go _ _ _ logs past = linked

-- what holds for a purge that is done
pub record IsDone (w : World) (n file first : ℕ) (s : Server) : Type 0 where
  pub logs : s.settings.logs ≡ true
  pub within : file ≤ s.log.log.files
  pub is : first ≡ kept_from w.servers n file s

pub purge-done : (w : World) (n file first : ℕ) (s : Server) → server_at w n ≡ Some s → purge_answer w n file (server_at w n) ≡ purging.Done first → IsDone w n file first s
purge-done w n file first s at h = go s.up s.settings.logs (nat_lt s.log.log.files file) refl refl (sym (ap (purge_answer w n file) at) ∙ h)
  where
    go : (a b c : Bool) → s.settings.logs ≡ b → nat_lt s.log.log.files file ≡ c → answered (kept_from w.servers n file s) a b c ≡ purging.Done first → IsDone w n file first s
    go true true false logs past e = record { logs = logs; within = grind (arith, nat_tests); is = cc }
    go _ _ _ logs past e = cc

-- a purge up to the last file is done
pub purge-does : (w : World) (n file : ℕ) (s : Server) → server_at w n ≡ Some s → s.up ≡ true → s.settings.logs ≡ true → file ≤ s.log.log.files
    → (first : ℕ) × (purge_answer w n file (server_at w n) ≡ purging.Done first)
purge-does w n file s at up logs within =
    let first = kept_from w.servers n file s in (
      first,
      ap (purge_answer w n file) at
          ∙ ap (λ a. answered first a s.settings.logs (nat_lt s.log.log.files file)) up
          ∙ ap (λ b. answered first true b (nat_lt s.log.log.files file)) logs
          ∙ ap (λ c. answered first true true c) past,
    )
  where
    past : nat_lt s.log.log.files file ≡ false
    past = grind (arith, nat_tests)

pub purge-no_file : (w : World) (n file : ℕ) (s : Server) → server_at w n ≡ Some s → purge_answer w n file (server_at w n) ≡ purging.NoFile → s.log.log.files < file
purge-no_file w n file s at h = go s.up s.settings.logs (nat_lt s.log.log.files file) refl (sym (ap (purge_answer w n file) at) ∙ h)
  where
    go : (a b c : Bool) → nat_lt s.log.log.files file ≡ c → answered (kept_from w.servers n file s) a b c ≡ purging.NoFile → s.log.log.files < file
    go true true true past e = grind (arith, nat_tests)
    go _ _ _ past e = cc

pub purge-left : (w : World) (n file first : ℕ) (s : Server) → server_at w n ≡ Some s → purge_answer w n file (server_at w n) ≡ purging.Done first
    → after_purge w n (server_at w n) (purge_answer w n file (server_at w n)) ≡ with_server w n (record s { first = first })
purge-left w n file first s at h = ap (after_purge w n (server_at w n)) h ∙ ap (λ o. after_purge w n o (purging.Done first)) at

pub purge-rises : (w : World) (n file first : ℕ) (s : Server) → server_at w n ≡ Some s → purge_answer w n file (server_at w n) ≡ purging.Done first → s.first ≤ first
purge-rises w n file first s at h =
    let done = purge-done w n file first s at h in
    let more = kept_from-rises w.servers n file s in
    let is = done.is in
    omega (arith, more, is)

pub purge-within : (w : World) (n file first : ℕ) (s : Server) → server_at w n ≡ Some s → s.first ≤ s.log.log.files → purge_answer w n file (server_at w n) ≡ purging.Done first
    → first ≤ s.log.log.files
purge-within w n file first s at high h =
    let done = purge-done w n file first s at h in
    let few = kept_from-within w.servers n file s high done.within in
    let is = done.is in
    omega (arith, few, is)

-- the greater of two is the first, or is no further than the second
no_further : (a b k first : ℕ) → first ≡ greater a b → b ≤ k → (first ≡ a) ⊎ (first ≤ k)
no_further a b k first is few = go (nat_lt a b) is
  where
    go : (c : Bool) → first ≡ cond c b a → (first ≡ a) ⊎ (first ≤ k)
    go true e = inr (omega (arith, e, few))
    go false e = inl e

-- no file from this one on goes
pub purge-file : (w : World) (n file first : ℕ) (s : Server) → server_at w n ≡ Some s → purge_answer w n file (server_at w n) ≡ purging.Done first → (first ≡ s.first) ⊎ (first ≤ file)
purge-file w n file first s at h =
    no_further s.first (least_read w.servers n file) file first (purge-done w n file first s at h).is (least-first (files_read w.servers n) file)

-- an active replica is one that is looked at, and the other way round

reading : (server : ServerNo) (r : Server) → IsActive server r → is_reading server.0 r ≡ true
reading server r on =
    ap (λ b. b && (is_attached_to server.0 r.source && (r.receiver && r.feed))) on.up
    ∙ ap (λ s. is_attached_to server.0 s && (r.receiver && r.feed)) on.attached
    ∙ ap (λ b. b && (r.receiver && r.feed)) (eq-eqb server.0 server.0 refl)
    ∙ ap (λ b. b && r.feed) on.receiver ∙ on.feed

attached-to : (server : ServerNo) (source : SourceState) → is_attached_to server.0 source ≡ true → source ≡ Attached server
attached-to server Without h = absurd (false≢true h)
attached-to server (Attached m) h = ap (λ (k : ℕ). Attached (record { 0 = k })) (eqb-true m.0 server.0 h)
attached-to server (Detached m) h = absurd (false≢true h)

active : (server : ServerNo) (r : Server) → is_reading server.0 r ≡ true → IsActive server r
active server r h =
    let outer = and_parts r.up (is_attached_to server.0 r.source && (r.receiver && r.feed)) h in
    let inner = and_parts (is_attached_to server.0 r.source) (r.receiver && r.feed) outer.1 in
    let last = and_parts r.receiver r.feed inner.1 in
    record { up = outer.0; attached = attached-to server r.source inner.0; receiver = last.0; feed = last.1 }

-- nor one that an active replica reads
pub purge-spares : (w : World) (server : ServerNo) (file first m : ℕ) (s r : Server) → server_at w server.0 ≡ Some s → server_at w m ≡ Some r → IsActive server r
    → purge_answer w server.0 file (server_at w server.0) ≡ purging.Done first → (first ≡ s.first) ⊎ (first ≤ r.read.file)
purge-spares w server file first m s r at at_r on h =
    let listed = read-listed w.servers server.0 m r at_r (reading server r on) in
    no_further s.first (least_read w.servers server.0 file) r.read.file first (purge-done w server.0 file first s at h).is
    (least-each (files_read w.servers server.0) file listed.0 r.read.file listed.1)

-- and all others go
pub purge-reaches : (w : World) (server : ServerNo) (file first k : ℕ) (s : Server) → server_at w server.0 ≡ Some s → k ≤ file
    → ((m : ℕ) (r : Server) → server_at w m ≡ Some r → IsActive server r → k ≤ r.read.file) → purge_answer w server.0 file (server_at w server.0) ≡ purging.Done first → k ≤ first
purge-reaches w server file first k s at low each h =
    let done = purge-done w server.0 file first s at h in
    let least = least-least (files_read w.servers server.0) file k low
    (λ i x listed.
    let read = listed-read w.servers server.0 i x listed in
    let enough = each read.0 read.1 read.2 (active server read.1 read.3) in
    let same = read.4 in
    omega (arith, enough, same)) in
    let more = greater-right s.first (least_read w.servers server.0 file) in
    let is = done.is in
    omega (arith, least, more, is)
