-- A run begins with `Held` and `Sound`: the bridges of an opening are those of the servers' statuses.
use Rattle.std.proofs.Common.{◌≡◌, ◌∙◌, ◌⊎◌, ℕ, Bool, true, false, List, [], ◌∷◌, length, refl, sym, ap, subst, Option, Some, None, inl, inr, All, IfSome, ◌&&◌, is_none, slice_index_or, if◌then◌else◌}
use Rattle.run_laws.proofs.Prelude.{All-at, All-head, All-nil, All-replicate, All-ring, All-set, All-tail, AllBridged, AllMeet, AreOwn, BookState}
use Rattle.run_laws.proofs.Prelude.{Bridge, Bridged-seen, Change, HasLeases, HeldJob, HeldState, IsHeldBeside, IsScenario, IsShown, IsShownBridged}
use Rattle.run_laws.proofs.Prelude.{IsSoundBeside, Leases, Moment, Placed, Placed-safe, Row, Rule, Safe, Safe-opened, Scenario, Server, ServerNo}
use Rattle.run_laws.proofs.Prelude.{Shows-seen, Sound, SoundState, Spans, StandsIn, World, after_opening, all-from, all-loading, all-opening}
use Rattle.run_laws.proofs.Prelude.{bridge_in, flight_of, flushes_of, fresh-own, greatest_id, has_row, kept-own, leases_of, loaded_audit, loaded_book}
use Rattle.run_laws.proofs.Prelude.{loading, missing, no_leases, opened_book, opening_instance, period_of, pollers, put_instance, registered}
use Rattle.run_laws.proofs.Prelude.{registering, ring_at, ringed, room_of, seen_in, server_at, settings_of, shown-own, shown_of, spans-by, stands-by}
use Rattle.run_laws.proofs.Prelude.{start, start_changes, start_moment, start_rows, start_world, status, with_bridge}
use Rattle.run_laws.proofs.Prelude.Flights.{Held}
use Rattle.run_laws.proofs.Prelude.change
use Rattle.run_laws.proofs.Prelude.kept_row as row
use Rattle.run_laws.proofs.Prelude.seeing
use Rattle.run_laws.proofs.Flown.{leases-loaded, rings-loaded}

-- ---- what an opening puts

-- the instance of a server that is there
pub record Shows (w : World) (at : Moment) (c : Change) : Type 0 where
  pub n : ℕ
  pub server : Server
  pub there : server_at w n ≡ Some server
  pub is : c ≡ change.Put (row.Instance (opening_instance w at n server))

-- a change that leaves instances, bridges and leases
pub record LeavesBridges (c : Change) : Type 0 where
  pub instances : (b : BookState) → (after_opening b c).instances ≡ b.instances
  pub rings : (b : BookState) → (after_opening b c).rings ≡ b.rings
  pub leases : (b : BookState) → (after_opening b c).leases ≡ b.leases

-- a change of an opening puts such an instance, or leaves them
abbrev pub Opens : World → Moment → Change → Type 0
Opens w at c = Shows w at c ⊎ LeavesBridges c

Opens-instance : (w : World) (at : Moment) (n : ℕ) (o : Option Server) → server_at w n ≡ o → IfSome (put_instance w at n o) (Opens w at)
Opens-instance w at n None there = tt
Opens-instance w at n (Some s) there = inl (record { n = n; server = s; there = there; is = refl })

Opens-missing : (w : World) (at : Moment) (b : BookState) (n : ℕ) (known : Bool) → IfSome (missing w at b n known) (Opens w at)
Opens-missing w at b n known = go (known && is_none (slice_index_or b.instances n None))
  where
    go : (lacks : Bool) → IfSome (if lacks then put_instance w at n (server_at w n) else None) (Opens w at)
    go true = Opens-instance w at n (server_at w n) refl
    go false = tt

Opens-registering : (w : World) (at : Moment) (b : BookState) (n : ℕ) (rule : Option Rule) → IfSome (registering at b n rule) (Opens w at)
Opens-registering w at b n None = tt
Opens-registering w at b n (Some rule) = go (has_row b (row.Candidate (registered at n rule)))
  where
    go : (had : Bool) → IfSome (if had then None else Some (change.Put (row.Candidate (registered at n rule)))) (Opens w at)
    go true = tt
    go false = inr (record { instances = λ b. refl; rings = λ b. refl; leases = λ b. refl })

pub Opens-start : (s : Scenario) (rows : List Row) → All (Opens (start_world s) (start_moment s rows)) (start_changes s rows)
Opens-start s rows =
    let w = start_world s in
    let at = start_moment s rows in
    let b = loaded_book s rows in
    let P : Change → Type 0 = Opens w at in
    let a = loaded_audit s rows in
    all-opening P w at b s.known s.rules (loading (period_of s) (start_rows s rows) a at) (all-from P (missing w at b) 0 s.known (λ n k h. Opens-missing w at b n k)) (all-from P (registering at b) 0 s.rules (λ n rule h. Opens-registering w at b n rule))
    (all-loading P (period_of s) (start_rows s rows) a at (λ r. inr (record { instances = λ b. refl; rings = λ b. refl; leases = λ b. refl })))

-- ---- the rings

-- what holds of each bridge that a server shows
module _ (w : World) (at : Moment) (P : Bridge → Type 0) (shown : (n : ServerNo) (b : Bridge) → bridge_in n (seen_in (status w n.0)) ≡ Some b → P b) where
  ring-all : (rings : List (List Bridge)) (n : ServerNo) (o : Option Bridge) → ((b : Bridge) → o ≡ Some b → P b) → All (All P) rings → All (All P) (ringed rings n o)
  ring-all rings n None one all = all
  ring-all rings n (Some b) one all =
      All-set (All P) rings n.0 (with_bridge (ring_at rings n) b) (All-ring P (ring_at rings n) b (one b refl) (All-at (All P) rings n.0 [] (All-nil P) all)) all

  -- an instance that an opening puts shows what its server shows
  put-shown : (n : ℕ) (s : Server) → server_at w n ≡ Some s → (b : Bridge) → (if s.up && s.desk then bridge_in (record { 0 = n }) (Some (shown_of w s)) else None) ≡ Some b → P b
  put-shown n s there b h = go (s.up && s.desk) refl h
    where
      go : (reached : Bool) → (s.up && s.desk) ≡ reached → (if reached then bridge_in (record { 0 = n }) (Some (shown_of w s)) else None) ≡ Some b → P b
      go true up h =
          let answers : seen_in (status w n) ≡ Some (shown_of w s) =
          ap (λ (o : Option Server). seen_in (Rattle.orch_core.specs.ServerModel.Gtids.status_in w o)) there ∙ ap (λ (r : Bool). seen_in (if r then Rattle.std.specs.Prelude.Ok (shown_of w s) else Rattle.std.specs.Prelude.Err seeing.Unreachable)) up in
          shown (record { 0 = n }) b (ap (bridge_in (record { 0 = n })) answers ∙ h)
      go false up h = cc

  opened-one : (b : BookState) (c : Change) → Opens w at c → All (All P) b.rings → All (All P) (after_opening b c).rings
  opened-one b c (inl shows) all =
      subst (λ (x : Change). All (All P) (after_opening b x).rings) (sym shows.is) (ring-all b.rings (record { 0 = shows.n }) _ (put-shown shows.n shows.server shows.there) all)
  opened-one b c (inr leaves) all = subst (All (All P)) (sym (leaves.rings b)) all

  pub opened-rings : (b : BookState) (cs : List Change) → All (Opens w at) cs → All (All P) b.rings → All (All P) (opened_book b cs).rings
  opened-rings b [] opens all = all
  opened-rings b (c ∷ cs) opens all =
      opened-rings (after_opening b c) cs (All-tail (Opens w at) c cs opens) (opened-one b c (All-head (Opens w at) c cs opens) all)

-- each ring keeps bridges of its own server
own-one : (w : World) (at : Moment) (b : BookState) (c : Change) → Opens w at c → AreOwn b.rings → AreOwn (after_opening b c).rings
own-one w at b c (inl shows) own =
    subst (λ (x : Change). AreOwn (after_opening b x).rings) (sym shows.is)
    (kept-own b.rings (record { 0 = shows.n }) _ (shown (shows.server.up && shows.server.desk)) own)
  where
    shown : (reached : Bool) → IfSome (if reached then bridge_in (record { 0 = shows.n }) (Some (shown_of w shows.server)) else None) (λ (x : Bridge). x.no.0 ≡ shows.n)
    shown true = shown-own (record { 0 = shows.n }) (Some (shown_of w shows.server))
    shown false = tt
own-one w at b c (inr leaves) own = subst AreOwn (sym (leaves.rings b)) own

own-opened : (w : World) (at : Moment) (b : BookState) (cs : List Change) → All (Opens w at) cs → AreOwn b.rings → AreOwn (opened_book b cs).rings
own-opened w at b [] opens own = own
own-opened w at b (c ∷ cs) opens own =
    own-opened w at (after_opening b c) cs (All-tail (Opens w at) c cs opens) (own-one w at b c (All-head (Opens w at) c cs opens) own)

leases-one : (w : World) (at : Moment) (b : BookState) (c : Change) → Opens w at c → (after_opening b c).leases ≡ b.leases
leases-one w at b c (inl shows) = ap (λ (x : Change). (after_opening b x).leases) shows.is
leases-one w at b c (inr leaves) = leaves.leases b

opened-leases : (w : World) (at : Moment) (b : BookState) (cs : List Change) → All (Opens w at) cs → (opened_book b cs).leases ≡ b.leases
opened-leases w at b [] opens = refl
opened-leases w at b (c ∷ cs) opens =
    opened-leases w at (after_opening b c) cs (All-tail (Opens w at) c cs opens) ∙ leases-one w at b c (All-head (Opens w at) c cs opens)

-- ---- the whole state

module _ (s : Scenario) (wait : ℕ) (rows : List Row) where
  leases-start : leases_of (start s wait rows).book.leases ≡ no_leases
  leases-start =
      ap leases_of (opened-leases (start_world s) (start_moment s rows) (loaded_book s rows) (start_changes s rows) (Opens-start s rows))
      ∙ leases-loaded (settings_of s) greatest_id rows

  rings-start : (P : Bridge → Type 0) → ((n : ServerNo) (b : Bridge) → bridge_in n (seen_in (status (start_world s) n.0)) ≡ Some b → P b) → All (All P) (start s wait rows).book.rings
  rings-start P shown =
      opened-rings (start_world s) (start_moment s rows) P shown (loaded_book s rows) (start_changes s rows) (Opens-start s rows)
      (subst (All (All P)) (sym (rings-loaded (settings_of s) greatest_id rows)) (All-replicate (All P) (length (settings_of s)) [] (All-nil P)))

  own-start : AreOwn (start s wait rows).book.rings
  own-start =
      own-opened (start_world s) (start_moment s rows) (loaded_book s rows) (start_changes s rows) (Opens-start s rows)
      (subst AreOwn (sym (rings-loaded (settings_of s) greatest_id rows)) (fresh-own (length (settings_of s))))

  module _ (is : IsScenario s) where
    safe : Safe (start_world s)
    safe = Safe-opened s.opening (room_of s) (flushes_of s) is.checked

    placed : Placed (start_world s)
    placed = Placed-safe (start_world s) safe

    held-flight : Held (flight_of (start s wait rows))
    held-flight = record {
      placed = placed;
      rings = rings-start (Spans (start_world s)) (λ n b h. spans-by (start_world s) n (seen_in (status (start_world s) n.0)) b (λ seen is. Shows-seen (start_world s) n.0 seen placed is) h);
      slots = All-replicate (λ slot. IfSome slot (IsShown (start_world s))) pollers None tt;
      jobs = All-nil (HeldJob (start_world s));
      leased = record {
        each = All-nil (HasLeases (leases_of (start s wait rows).book.leases));
        named = λ n id h. let none : None ≡ Some id = sym (ap (λ (l : Leases). l n) leases-start) ∙ h in cc;
      };
    }

    sound-flight : Sound (flight_of (start s wait rows))
    sound-flight = record {
      safe = safe;
      rings = rings-start (StandsIn (start_world s)) (λ n b h. stands-by (start_world s) n (seen_in (status (start_world s) n.0)) b (λ seen is. Bridged-seen (start_world s) n.0 seen safe is) h);
      slots = All-replicate (λ slot. IfSome slot (IsShownBridged (start_world s))) pollers None tt;
      jobs = All-nil (λ j. AllBridged (start_world s) j.seen);
      met = All-nil (λ j. AllMeet (start_world s) j.matches);
    }

    pub Held-start : HeldState (start s wait rows)
    Held-start = record { cores = refl; flight = held-flight; own = own-start; jobs = All-nil (IsHeldBeside (start_world s) (leases_of (start s wait rows).book.leases)) }

    pub Sound-start : SoundState (start s wait rows)
    Sound-start = record { flight = sound-flight; jobs = All-nil (IsSoundBeside (start_world s)) }
