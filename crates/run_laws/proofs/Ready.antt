-- What holds for each state of a run, whatever rows a row store hands back: all that is kept speaks of its servers.
use Rattle.run_laws.proofs.Prelude.{BookState, Bridge, HasKnownSource, Instance, IsBook, IsSlot, Moment, Observation, Ready, Row, ServerNo, Settings}
use Rattle.run_laws.proofs.Prelude.{State, Status as Seen, added_over, after_put, after_row, are_known, both_true, bridge_in, counted}
use Rattle.run_laws.proofs.Prelude.{discovered_over, empty_book, empty_is, first_seen, fits, given_back, instance_at, known_at, leases_set}
use Rattle.run_laws.proofs.Prelude.{length-map, loaded, observed, observed_servers, put_is, reading_known, renewed, ring_at, ringed, rings_set}
use Rattle.run_laws.proofs.Prelude.{row_fits, seen_servers, shown_by, source_servers, stored, stored_over, with_bridge, without_leases}
use Rattle.run_laws.proofs.Prelude.change
use Rattle.run_laws.proofs.Prelude.kept_row as row
use Rattle.std.proofs.Common.{◌≡◌, ◌∙◌, ℕ, ◌<◌, ◌^◌, Bool, true, false, List, [], ◌∷◌, length, refl, sym, ap, subst, Option, Some, None, zero, suc, arith}
use Rattle.std.specs.Prelude.{fold, nat_lt, unwrap_or, slice_index_or, slice_set, if◌then◌else◌}

-- ---- books stay books

pub IsBook-ringed : (b : BookState) (n : ServerNo) (x : Option Bridge) → IsBook b → IsBook (record b { rings = ringed b.rings n x })
IsBook-ringed b n None is = is
IsBook-ringed b n (Some y) is = rings_set b n.0 (with_bridge (ring_at b.rings n) y) is

IsBook-row : (b : BookState) (r : Row) → IsBook b → IsBook (after_row b r)
IsBook-row b r is = go (row_fits (length b.names) r) refl
  where
    go : (fit : Bool) → row_fits (length b.names) r ≡ fit → IsBook (if fit then after_put b r else b)
    go true fit = put_is b r is fit
    go false fit = is

IsBook-rows : (b : BookState) (rows : List Row) → IsBook b → IsBook (fold after_row b rows)
IsBook-rows b [] is = is
IsBook-rows b (r ∷ rows) is = IsBook-rows (after_row b r) rows (IsBook-row b r is)

pub IsBook-loaded : (settings : List Settings) (last : ℕ) (rows : List Row) → length settings < 2 ^ 32 → IsBook (loaded settings last rows)
IsBook-loaded settings last rows small = IsBook-rows (empty_book settings) (counted (length settings) last rows) (empty_is settings small)

seen-fits : (count : ℕ) (seen : Option Seen) (kept : Seen) → are_known count (seen_servers seen) ≡ true → are_known count (source_servers kept.source) ≡ true → are_known count (source_servers (unwrap_or seen kept).source) ≡ true
seen-fits count None kept now before = before
seen-fits count (Some s) kept now before = now

-- a reading of servers that the book knows
module _ (b : BookState) (o : Observation) (is : IsBook b) (known : are_known (length b.names) (observed_servers o) ≡ true) where
  pub put-kept : (kept : Instance) → instance_at b o.no ≡ Some kept → fits (length b.names) (change.Put (row.Instance (renewed kept o))) ≡ true
  put-kept kept at =
      let parts = both_true (nat_lt o.no.0 (length b.names)) (are_known (length b.names) (seen_servers o.seen)) known in
      let source : are_known (length b.names) (source_servers kept.seen.source) ≡ true = subst (HasKnownSource (length b.names)) at (known_at b o.no.0 is) in
      let shown = seen-fits (length b.names) o.seen kept.seen parts.1 source in
      rw (parts.0, shown) refl

  pub IsBook-over : (x : Option Instance) → instance_at b o.no ≡ x → IsBook (stored_over b o x)
  IsBook-over None at = is
  IsBook-over (Some kept) at = go (nat_lt o.read kept.read)
    where
      renewal : BookState
      renewal = after_put b (row.Instance (renewed kept o))

      go : (old : Bool) → IsBook (if old then b else record b { instances = slice_set b.instances o.no.0 (Some (renewed kept o)); rings = ringed b.rings o.no (bridge_in o.no o.seen) })
      go true = is
      go false = IsBook-ringed (after_put b (row.Instance (renewed kept o))) o.no (bridge_in o.no o.seen) (put_is b (row.Instance (renewed kept o)) is (put-kept kept at))

  IsBook-first : (x : Option Seen) → o.seen ≡ x → IsBook (added_over b o x)
  IsBook-first None at = is
  IsBook-first (Some seen) at =
      let fit : row_fits (length b.names) (row.Instance (first_seen o seen)) ≡ true = subst (λ (y : Option Seen). are_known (length b.names) (o.no.0 ∷ seen_servers y) ≡ true) at known in
      IsBook-ringed (after_put b (row.Instance (first_seen o seen))) o.no (shown_by (first_seen o seen)) (put_is b (row.Instance (first_seen o seen)) is fit)

  IsBook-found : (x : Option Instance) → instance_at b o.no ≡ x → IsBook (discovered_over b o x)
  IsBook-found None lacks = IsBook-first o.seen refl
  IsBook-found (Some kept) there = IsBook-over (Some kept) there

  pub IsBook-discovered : IsBook (discovered_over b o (instance_at b o.no))
  IsBook-discovered = IsBook-found (instance_at b o.no) refl

pub IsBook-stored : (b : BookState) (slot : Option Observation) → IsBook b → IsSlot (length b.names) slot → IsBook (stored b slot)
IsBook-stored b None is known = is
IsBook-stored b (Some o) is known = IsBook-over b o is known (instance_at b o.no) refl

-- the settings are as many as the names
pub settings-count : (b : BookState) → IsBook b → length b.settings ≡ length b.names
settings-count b is = sym (length-map b.settings (λ x. x.name)) ∙ sym (ap length is.named)

pub IsBook-freed : (b : BookState) (id : ℕ) → IsBook b → IsBook (without_leases b id)
IsBook-freed b id is = leases_set b (given_back b.leases id) is (length-map b.leases _)

-- ---- what a job observed

-- if something is at a place, the place is one of the list
pub place-within : {A : Type 0} (xs : List (Option A)) (n : ℕ) (x : A) → slice_index_or xs n None ≡ Some x → n < length xs
place-within [] n x h = cc
place-within (y ∷ xs) zero x h = omega arith
place-within (y ∷ xs) (suc n) x h = let rest = place-within xs n x h in omega (arith, rest)

-- of an instance that the book has, the reading is of servers that it knows
pub observed-known : (count : ℕ) (s : State) → Ready count s → (n : ServerNo) (read : ℕ) (now : Moment) (kept : Instance) → instance_at s.book n ≡ Some kept
    → are_known (length s.book.names) (observed_servers (observed s.world read now n)) ≡ true
observed-known count s ready n read now kept at =
    let there = place-within s.book.instances n.0 kept at in
    let places = ready.book.instances in
    let same : length s.world.servers ≡ length s.book.names = ready.servers ∙ sym ready.names in
    subst (λ (k : ℕ). are_known k (observed_servers (observed s.world read now n)) ≡ true) same
    (reading_known s.world n read now.0 ready.sources (omega (arith, there, places, same)))

pub IsBook-observed : (count : ℕ) (s : State) → Ready count s → (read : ℕ) (now : Moment) (o : Option Observation)
    → ((x : Observation) → o ≡ Some x → (n : ServerNo) × (x ≡ observed s.world read now n)) → IsBook (stored s.book o)
IsBook-observed count s ready read now None is = ready.book
IsBook-observed count s ready read now (Some x) is =
    let n = (is x refl).0 in
    let same = (is x refl).1 in
    subst (λ (y : Observation). IsBook (stored s.book (Some y))) (sym same) (go n (instance_at s.book n) refl)
  where
    go : (n : ServerNo) (k : Option Instance) → instance_at s.book n ≡ k → IsBook (stored_over s.book (observed s.world read now n) k)
    go n None at = ready.book
    go n (Some kept) at = IsBook-over s.book (observed s.world read now n) ready.book (observed-known count s ready n read now kept at) (Some kept) at
