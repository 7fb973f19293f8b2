-- The state with which a scenario's run begins.
use Rattle.std.proofs.Common.{◌≡◌, ◌∙◌, ℕ, ◌+◌, ◌<◌, ◌≤◌, ◌^◌, Bool, true, false, List, [], ◌∷◌, length, get_or, map, refl, sym, ap, subst, Option, Some, None, arith, All, IfSome, IsTrue, ◌&&◌, is_none, nat_lt, slice_index_or, if◌then◌else◌}
use Rattle.orch_core.proofs.Prelude.{All-nil, All-replicate, AreReadWithin, Attached, AuditState, BookState, Candidate, Change, ClaimState}
use Rattle.orch_core.proofs.Prelude.{Configuration, Detached, Fits, HasKnownSource, HasSameServers, HaveEntries, Instance, IsAudit, IsScenario}
use Rattle.orch_core.proofs.Prelude.{IsSlot, IsState, IsUnended, Moment, Observation, Rise, Row, Rule, Scenario, Server, ServerNo, Settings, StartsBy}
use Rattle.orch_core.proofs.Prelude.{State, Unended, World, after_opening, are_known, audit-opened, audit_of, book_made, changed, closed}
use Rattle.orch_core.proofs.Prelude.{configuration_of, counted, empty_book, empty_slots, flushes_of, get_or-le-sum_by, given-opened, greatest, greatest_id}
use Rattle.orch_core.proofs.Prelude.{has_row, holder_of, is_opening_change, kept_at_start, kept_claim, kept_if, last_id, last_id-within, last_read}
use Rattle.orch_core.proofs.Prelude.{latest, length-map, length-replicate, loaded_audit, loaded_book, loading, longest-at, longest_block}
use Rattle.orch_core.proofs.Prelude.{made as claims_made, missing, missing_from, opened_book, opened_world, opening_changes, opening_instance}
use Rattle.orch_core.proofs.Prelude.{parts_of, period_by, period_of, pollers, put_instance, registered, registering, registering_from, room_of}
use Rattle.orch_core.proofs.Prelude.{row_fits, same-change, ServerInit, server_at, settings_of, slice_get-get_or, slice_get_within, source_servers, source_state}
use Rattle.orch_core.proofs.Prelude.{start, start_changes, start_moment, start_rows, start_world, transactions}
use Rattle.orch_core.proofs.Prelude.change
use Rattle.orch_core.proofs.Prelude.row
use Rattle.orch_core.proofs.Periods.{short-in}
use Rattle.orch_core.proofs.Servers.{servers-start}
use Rattle.orch_core.proofs.Sources.{KnowsSources, source-at}
use Rattle.orch_core.proofs.Recoveries.{HasBegun, closed-begun, closed-is, counted-begun, latest-most}
use Rattle.orch_core.proofs.States.{both_known, one_known, same-made, same-then, same-self}
pub use Rattle.opening_book.proofs.Changes.{all-from, all-loading, all-opening}
use Rattle.opening_book.proofs.ReadNumbers.{loaded-within, opening-within}

-- ---- the servers

pub Fits-start : (s : Scenario) → Fits s.opening (room_of s) (flushes_of s)
Fits-start s = record {
  histories = λ k d within. omega (arith, get_or-le-sum_by (λ i. transactions (parts_of i)) s.opening.servers k d within);
  flush_points = λ k d within. omega (arith, longest-at s.opening.servers k _ (slice_get-get_or s.opening.servers k d within));
}

pub below : (m n : ℕ) → m < n → nat_lt m n ≡ true
below m n h = grind arith

-- what is opened has the source that is given
opened-source : (count : ℕ) (detached : Bool) (from : Option ServerNo) → ((m : ServerNo) → from ≡ Some m → m.0 < count) → are_known count (source_servers (source_state detached from)) ≡ true
opened-source count detached None known = refl
opened-source count detached (Some m) known = go detached
  where
    here : are_known count (m.0 ∷ []) ≡ true
    here = rw (below m.0 count (known m refl)) refl

    go : (b : Bool) → are_known count (source_servers (if b then Detached m else Attached m)) ≡ true
    go true = here
    go false = here

-- each source is one of the servers
pub sources-start : (s : Scenario) → IsScenario s → KnowsSources (start_world s).servers
sources-start s is = λ k d within.
    let servers = (start_world s).servers in
    let g = given-opened s.opening (room_of s) (flushes_of s) k (get_or servers k d) (slice_get-get_or servers k d within) in
    let known : are_known (length s.opening.servers) (source_servers (source_state g.init.detached g.init.source)) ≡ true =
    opened-source (length s.opening.servers) g.init.detached g.init.source (is.checked.listed.each k g.init g.place).source in
    subst (λ (count : ℕ). HasKnownSource count (get_or servers k d)) (sym (servers-start s))
    (subst (λ (x : Server). are_known (length s.opening.servers) (source_servers x.source) ≡ true) (sym g.is_opened) known)

-- ---- what holds of each change of an opening

module _ (P : Change → Type 0) (count : ℕ) (instances : (i : Instance) → row_fits count (row.Instance i) ≡ true → P (change.Put (row.Instance i)))
    (w : World) (at : Moment) (b : BookState) (sources : KnowsSources w.servers) (servers : length w.servers ≡ count) where
  at-instance : (n : ℕ) (o : Option Server) → server_at w n ≡ o → IfSome (put_instance w at n o) P
  at-instance n None here = tt
  at-instance n (Some x) here =
      instances (opening_instance w at n x)
      (subst (λ (k : ℕ). row_fits k (row.Instance (opening_instance w at n x)) ≡ true) servers
      (both_known (length w.servers) n (source_servers x.source) (slice_get_within w.servers n x here) (source-at w.servers n x sources here)))

  at-missing : (n : ℕ) (known : Bool) → IfSome (missing w at b n known) P
  at-missing n known = go (known && is_none (slice_index_or b.instances n None))
    where
      go : (lacks : Bool) → IfSome (if lacks then put_instance w at n (server_at w n) else None) P
      go true = at-instance n (server_at w n) refl
      go false = tt

  pub all-missing : (known : List Bool) → All P (missing_from w at b 0 known)
  all-missing known = all-from P (missing w at b) 0 known (λ n k h. at-missing n k)

module _ (P : Change → Type 0) (count : ℕ) (candidates : (c : Candidate) → row_fits count (row.Candidate c) ≡ true → P (change.Put (row.Candidate c))) (at : Moment) (b : BookState) where
  at-registering : (n : ℕ) (rule : Option Rule) → n < count → IfSome (registering at b n rule) P
  at-registering n None h = tt
  at-registering n (Some rule) h = go (has_row b (row.Candidate (registered at n rule)))
    where
      go : (had : Bool) → IfSome (if had then None else Some (change.Put (row.Candidate (registered at n rule)))) P
      go true = tt
      go false = candidates (registered at n rule) (one_known count n h)

  pub all-registering : (rules : List (Option Rule)) → length rules ≡ count → All P (registering_from at b 0 rules)
  all-registering rules there = all-from P (registering at b) 0 rules (λ n rule h. at-registering n rule (omega (arith, h, there)))

-- each is a change of an opening
pub fits-opening : (w : World) (at : Moment) (b : BookState) (known : List Bool) (rules : List (Option Rule)) (recoveries : List Change) → KnowsSources w.servers → length b.names ≡ length w.servers → length rules ≡ length w.servers
    → All (λ c. IsTrue (is_opening_change (length b.names) c)) recoveries → All (λ c. IsTrue (is_opening_change (length b.names) c)) (opening_changes w at b known rules recoveries)
fits-opening w at b known rules recoveries sources names there kept =
    let P : Change → Type 0 = λ c. IsTrue (is_opening_change (length b.names) c) in
    all-opening P w at b known rules recoveries (all-missing P (length b.names) (λ i h. h) w at b sources (sym names) known) (all-registering P (length b.names) (λ c h. h) at b rules (there ∙ sym names)) kept

-- ---- no change of a book changes its names or settings

same-opening : (b : BookState) (c : Change) → HasSameServers b (after_opening b c)
same-opening b (change.Remove t k) = same-change b (change.Remove t k)
same-opening b (change.Put (row.Instance i)) = record { settings = refl; names = refl }
same-opening b _ = record { settings = refl; names = refl }

pub same-opened : (b : BookState) (cs : List Change) → HasSameServers b (opened_book b cs)
same-opened b [] = same-self b
same-opened b (c ∷ cs) = same-then b (after_opening b c) (opened_book (after_opening b c) cs) (same-opening b c) (same-opened (after_opening b c) cs)

pub book-settings : (s : Scenario) (w : World) (settings : List Settings) (items : List Row) (b : BookState) → w ≡ start_world s → settings ≡ settings_of s → b ≡ book_made settings items → length b.settings ≡ length w.servers
book-settings s w settings items b world settings_are loads =
    ap (λ (x : BookState). length x.settings) loads ∙ (ap length (same-made settings items).settings ∙ (ap length settings_are
    ∙ (length-map s.opening.servers (λ i. i.settings) ∙ sym (ap (λ (x : World). length x.servers) world ∙ servers-start s))))

pub book-names : (s : Scenario) (w : World) (settings : List Settings) (items : List Row) (b : BookState) → w ≡ start_world s → settings ≡ settings_of s → b ≡ book_made settings items → length b.names ≡ length w.servers
book-names s w settings items b world settings_are loads =
    ap (λ (x : BookState). length x.names) loads ∙ (ap length (same-made settings items).names ∙ (length-map settings (λ x. x.name)
    ∙ (sym (ap length (same-made settings items).settings) ∙ (sym (ap (λ (x : BookState). length x.settings) loads) ∙ book-settings s w settings items b world settings_are loads))))

-- a book of all servers counts them
pub count-made : (s : Scenario) (servers : List ServerInit) (b : BookState) (count : ℕ) → servers ≡ s.opening.servers → b ≡ empty_book (map (λ i. i.settings) servers) → count ≡ length b.names → count ≡ length s.opening.servers
count-made s servers b count same empty counts =
    counts ∙ ap (λ (x : BookState). length x.names) empty ∙ length-map (map (λ i. i.settings) servers) (λ x. x.name) ∙ length-map servers (λ i. i.settings) ∙ ap length same

-- the world of an opening, with room as it was counted
pub world_made : (s : Scenario) (w : World) (room flushes : ℕ) → w ≡ opened_world s.opening room flushes → room ≡ room_of s → flushes ≡ flushes_of s → w ≡ start_world s
world_made s w room flushes made room_is flushes_are =
    made ∙ ap (λ (n : ℕ). opened_world s.opening n flushes) room_is ∙ ap (λ (n : ℕ). opened_world s.opening (room_of s) n) flushes_are

-- the recoveries that count make an audit
pub opened-is : (s : Scenario) (rows : List Row) → IsScenario s → IsAudit (loaded_audit s rows)
opened-is s rows is =
    let few = is.checked.listed.few in
    audit-opened (period_of s) (length s.opening.servers) rows (λ cluster. short-in s.blocks s.block cluster is.blocks is.block) (omega (arith, few))

few : (n : ℕ) → n ≤ 1000000000000000 → n ≤ greatest
few n early = omega arith

pub opened-by : (s : Scenario) (rows items : List Row) (last wait : ℕ) (configuration : Configuration) → IsScenario s → items ≡ start_rows s rows → last ≡ last_id rows → configuration ≡ configuration_of wait s
    → IsAudit (audit_of (period_by configuration) (last + 1) items)
opened-by s rows items last wait configuration is counting same configured =
    subst (λ (c : Configuration). IsAudit (audit_of (period_by c) (last + 1) items)) (sym configured)
    (subst (λ (n : ℕ). IsAudit (audit_of (period_of s) (n + 1) items)) (sym same) (subst (λ (xs : List Row). IsAudit (audit_of (period_of s) (last_id rows + 1) xs)) (sym counting) (opened-is s rows is)))

pub moment-within : (s : Scenario) (rows items : List Row) (moment : ℕ) → IsScenario s → items ≡ start_rows s rows → moment ≡ latest s.moment.0 items → moment ≤ 2 ^ 63
moment-within s rows items moment is counting made =
    let early : s.moment.0 ≤ greatest = few s.moment.0 is.moment in
    subst (λ (n : ℕ). n ≤ greatest) (sym (made ∙ ap (latest s.moment.0) counting)) (latest-most (length s.opening.servers) greatest_id s.moment.0 rows early)

-- the pieces of an opening, as they were made one after another of the rows that the row store gave
pub record IsOpening (s : Scenario) (given : List Row) (w : World) (settings : List Settings) (items : List Row) (moment : Moment) (b b' : BookState) (a a' : AuditState) (recoveries : List Change) (slots : List (Option Observation)) (reads : ℕ) (jobs : List Unended) (wait : ℕ) (configuration : Configuration) (claims : ClaimState) (holder : Option ℕ) : Type 0 where
  pub world : w ≡ start_world s
  pub settings_made : settings ≡ settings_of s
  pub counting : items ≡ start_rows s given
  pub moment_made : moment.0 ≡ latest s.moment.0 items
  pub loads : b ≡ book_made settings items
  pub audits : a ≡ audit_of (period_by configuration) (last_id given + 1) items
  pub keeps : recoveries ≡ loading (period_by configuration) items a moment
  pub completes : b' ≡ opened_book b (opening_changes w moment b s.known s.rules recoveries)
  pub closes : a' ≡ closed a moment
  pub empty : slots ≡ empty_slots
  pub read : reads ≡ last_read items
  pub idle : jobs ≡ []
  pub configured : configuration ≡ configuration_of wait s
  pub claimed : claims ≡ claims_made s.nodes (kept_claim items)
  pub held : holder ≡ holder_of (kept_claim items)

module _ (s : Scenario) (given : List Row) (w : World) (settings : List Settings) (items : List Row) (moment : Moment) (b b' : BookState) (a a' : AuditState) (recoveries : List Change) (slots : List (Option Observation)) (reads : ℕ) (jobs : List Unended) (wait : ℕ) (configuration : Configuration) (claims : ClaimState) (holder : Option ℕ)
    (is : IsOpening s given w settings items moment b b' a a' recoveries slots reads jobs wait configuration claims holder) where
  abbrev made : State
  made = record { world = w; moment = moment.0; book = b'; audit = a'; slots = slots; reads = reads; jobs = jobs; last_job = 0; configuration = configuration; claims = claims; last_holder = holder }

  abbrev changes : List Change
  changes = opening_changes w moment b s.known s.rules recoveries

  moment-most : IsScenario s → moment.0 ≤ 2 ^ 63
  moment-most scenario = moment-within s given items moment.0 scenario is.counting is.moment_made

  audit_is : a ≡ loaded_audit s given
  audit_is =
      is.audits ∙ ap (λ (c : Configuration). audit_of (period_by c) (last_id given + 1) items) is.configured
      ∙ ap (audit_of (period_of s) (last_id given + 1)) is.counting

  audit_made : a' ≡ closed (loaded_audit s given) moment
  audit_made = is.closes ∙ ap (λ (x : AuditState). closed x moment) audit_is

  made-begun : HasBegun a'.recoveries
  made-begun = subst (λ (x : AuditState). HasBegun x.recoveries) (sym audit_made) (closed-begun (loaded_audit s given) moment (counted-begun (period_of s) (length s.opening.servers) greatest_id given))

  pub IsState-made : IsScenario s → IsState made
  IsState-made scenario = record {
    names = ap (λ (x : BookState). length x.names) is.completes ∙ (ap length (same-opened b changes).names ∙ book-names s w settings items b is.world is.settings_made is.loads);
    settings = ap (λ (x : BookState). length x.settings) is.completes ∙ (ap length (same-opened b changes).settings ∙ book-settings s w settings items b is.world is.settings_made is.loads);
    slots = ap length is.empty ∙ length-replicate {A = Option Observation} pollers None;
    observed = subst (All (IsSlot (length w.servers))) (sym is.empty) (All-replicate (IsSlot (length w.servers)) pollers None tt);
    sources = subst (λ (x : World). KnowsSources x.servers) (sym is.world) (sources-start s scenario);
    jobs = subst (All (IsUnended (length w.servers))) (sym is.idle) (All-nil (IsUnended (length w.servers)));
    rising = let low : 0 ≤ 0 = omega arith in subst (λ (xs : List Unended). Rise 0 xs 0) (sym is.idle) low;
    audit = subst IsAudit (sym audit_made) (closed-is (loaded_audit s given) moment (opened-is s given scenario));
    next = subst (λ (x : AuditState). x.next < 2 ^ 64) (sym audit_made) (let most = last_id-within given in omega (arith, most));
    entries = subst (HaveEntries a' 0) (sym is.idle) tt;
    begun = made-begun;
    moment = moment-most scenario;
    block = subst (λ (c : Configuration). c.block ≤ longest_block) (sym is.configured) scenario.block;
    blocks = subst (λ (c : Configuration). All (λ b. b.seconds ≤ longest_block) c.blocks) (sym is.configured) scenario.blocks;
  }

  moment_is : moment ≡ start_moment s given
  moment_is = ap (λ (n : ℕ). record { 0 = n }) (is.moment_made ∙ ap (latest s.moment.0) is.counting)

  book_is : b ≡ loaded_book s given
  book_is =
      is.loads ∙ ap (book_made settings) is.counting ∙ ap (λ (ns : List Settings). book_made ns (start_rows s given)) is.settings_made
      ∙ ap (λ (n : ℕ). book_made (settings_of s) (counted n greatest_id given)) (sym (length-map s.opening.servers (λ i. i.settings)))

  recoveries_are : recoveries ≡ loading (period_of s) (start_rows s given) (loaded_audit s given) (start_moment s given)
  recoveries_are =
      is.keeps ∙ ap (λ (c : Configuration). loading (period_by c) items a moment) is.configured
      ∙ ap (λ (xs : List Row). loading (period_of s) xs a moment) is.counting
      ∙ ap (λ (x : AuditState). loading (period_of s) (start_rows s given) x moment) audit_is
      ∙ ap (loading (period_of s) (start_rows s given) (loaded_audit s given)) moment_is

  pub changes_are : opening_changes w moment b s.known s.rules recoveries ≡ start_changes s given
  changes_are =
      ap (λ (x : World). opening_changes x moment b s.known s.rules recoveries) is.world
      ∙ ap (λ (x : Moment). opening_changes (start_world s) x b s.known s.rules recoveries) moment_is
      ∙ ap (λ (x : BookState). opening_changes (start_world s) (start_moment s given) x s.known s.rules recoveries) book_is
      ∙ ap (λ (x : List Change). opening_changes (start_world s) (start_moment s given) (loaded_book s given) s.known s.rules x) recoveries_are

  pub state_is : made ≡ start s wait given
  state_is =
      let book = is.completes ∙ ap (opened_book b) changes_are ∙ ap (λ (x : BookState). opened_book x (start_changes s given)) book_is in
      let audit = is.closes ∙ ap (λ (x : AuditState). closed x moment) audit_is ∙ ap (closed (loaded_audit s given)) moment_is in
      let read = is.read ∙ ap last_read is.counting in
      let begins : State = start s wait given in
      ap (λ (x : List Unended). record made { jobs = x }) is.idle
      ∙ ap (λ (x : World). record made { jobs = []; world = x }) is.world
      ∙ ap (λ (x : Moment). record made { jobs = []; world = start_world s; moment = x.0 }) moment_is
      ∙ ap (λ (x : BookState). record made { jobs = []; world = start_world s; moment = (start_moment s given).0; book = x }) book
      ∙ ap (λ (x : AuditState). record begins { audit = x; slots = slots; reads = reads; configuration = configuration; claims = claims; last_holder = holder }) audit
      ∙ ap (λ (x : List (Option Observation)). record begins { slots = x; reads = reads; configuration = configuration; claims = claims; last_holder = holder }) is.empty
      ∙ ap (λ (x : ℕ). record begins { reads = x; configuration = configuration; claims = claims; last_holder = holder }) read
      ∙ ap (λ (x : Configuration). record begins { configuration = x; claims = claims; last_holder = holder }) is.configured
      ∙ ap (λ (x : ClaimState). record begins { claims = x; last_holder = holder }) (is.claimed ∙ ap (λ (xs : List Row). claims_made s.nodes (kept_claim xs)) is.counting)
      ∙ ap (λ (x : Option ℕ). record begins { last_holder = x }) (is.held ∙ ap (λ (xs : List Row). holder_of (kept_claim xs)) is.counting)

  pub StartsBy-made : (kept : Option (List Row)) → IfSome kept (λ rows. given ≡ rows) → StartsBy kept s wait made
  StartsBy-made None told = (given, state_is)
  StartsBy-made (Some rows) told = subst (λ (x : List Row). made ≡ start s wait x) told state_is

  pub kept_made : (kept : Option (List Row)) → IfSome kept (λ rows. given ≡ rows)
      → kept_if true kept (opening_changes w moment b s.known s.rules recoveries) ≡ kept_at_start true kept s
  kept_made None told = refl
  kept_made (Some rows) told =
      ap (λ (cs : List Change). Some (changed rows cs)) (changes_are ∙ ap (start_changes s) told)

-- none of its instances has a greater read number than the count of readings
pub start-reads : (s : Scenario) (wait : ℕ) (rows : List Row) → AreReadWithin (start s wait rows).reads (start s wait rows).book
start-reads s wait rows =
    let same : length (settings_of s) ≡ length s.opening.servers = length-map s.opening.servers (λ i. i.settings) in
    opening-within (last_read (start_rows s rows)) (start_world s) (start_moment s rows) (loaded_book s rows) s.known s.rules (period_of s) (start_rows s rows) (loaded_audit s rows)
    (subst (λ (n : ℕ). AreReadWithin (last_read (counted n greatest_id rows)) (loaded_book s rows)) same (loaded-within (settings_of s) greatest_id rows))

pub starts-reads : (kept : Option (List Row)) (s : Scenario) (wait : ℕ) (now : State) → StartsBy kept s wait now → AreReadWithin now.reads now.book
starts-reads None s wait now is = subst (λ (x : State). AreReadWithin x.reads x.book) (sym is.1) (start-reads s wait is.0)
starts-reads (Some rows) s wait now is = subst (λ (x : State). AreReadWithin x.reads x.book) (sym is) (start-reads s wait rows)
