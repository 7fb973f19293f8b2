-- Each turn leaves all that is kept speaking of the servers, and so does an opening.
use Rattle.std.proofs.Common.{◌≡◌, ◌∙◌, ℕ, ◌<◌, Bool, true, false, List, [], ◌∷◌, length, refl, sym, ap, subst, Option, Some, None, zero, suc, arith, All, IsTrue, is_some, slice_index_or, slice_set, if◌then◌else◌, IfSome}
use Rattle.run_laws.proofs.Prelude.{Act, All-found, All-head, All-nil, All-replicate, All-set, All-tail, AllAllowed, Allowed-step, AuditState}
use Rattle.run_laws.proofs.Prelude.{BookState, Change, ClaimState, Exchange, IsAct, IsBook, IsReady, IsScenario, IsSlot, IsTurn, Observation, Outcome}
use Rattle.run_laws.proofs.Prelude.{Ready, Row, Scenario, ServerNo, State, Turn, Unended, act-fits, act_in, after_act, after_done, after_opening}
use Rattle.run_laws.proofs.Prelude.{after_tick, all-loading, all-turned, book_turned, change_is, claims_after, command_outcome, exchange_of}
use Rattle.run_laws.proofs.Prelude.{fits-opening, flown-allowed, flown-ready, flown-sees, greatest_id, holder_after, instance_at, is_going}
use Rattle.run_laws.proofs.Prelude.{is_opening_change, job_at, job_exchanges, jobs_turned, known_of, last_given, length-map, length-replicate}
use Rattle.run_laws.proofs.Prelude.{length-set, loaded_audit, loaded_book, loading, names-loaded, names-opening, next_count, observed, opened_book}
use Rattle.run_laws.proofs.Prelude.{option_map, period_of, pollers, put_is, reading, reading_known, run, same-opened, same-stored, same-updated}
use Rattle.run_laws.proofs.Prelude.{scan_outcome, servers-run, servers-start, settings_of, shown_by, slot_at, sources-run, sources-start, start}
use Rattle.run_laws.proofs.Prelude.{start_changes, start_moment, start_rows, start_world, step, stored, turn_of, updated, with_claims, without_leases}
use Rattle.run_laws.proofs.Prelude.Settling.{settled}
use Rattle.run_laws.proofs.Prelude.act
use Rattle.run_laws.proofs.Prelude.change
use Rattle.run_laws.proofs.Prelude.kept_row as row
use Rattle.run_laws.proofs.Prelude.turn
use Rattle.run_laws.proofs.ReadyOutcomes.{Keeps, command-keeps, scan-keeps}
use Rattle.run_laws.proofs.Ready.{IsBook-freed, IsBook-loaded, IsBook-observed, IsBook-ringed, IsBook-stored, settings-count}

-- ---- exchanges

-- the servers go on
Ready-run : (count : ℕ) (s : State) (es : List Exchange) → Ready count s → AllAllowed s.world es → Ready count (record s { world = run s.world es })
Ready-run count s es ready allowed = record {
  servers = servers-run s.world es ∙ ready.servers;
  book = ready.book;
  names = ready.names;
  slots = ready.slots;
  observed = ready.observed;
  sources = sources-run s.world es allowed ready.sources;
  jobs = ready.jobs;
  periods = ready.periods;
}

-- ---- a job's turn

-- what a job's turn observes is a status of a server
pub job-sees : (count : ℕ) (s : State) (id : ℕ) (u : Unended) → Ready count s → job_at s.jobs id ≡ Some u → (x : Observation) → (turn_of s u).observation ≡ Some x
    → (n : ServerNo) × (x ≡ observed s.world (next_count s.reads) (record { 0 = s.moment }) n)
job-sees count s id u ready at x is =
    let here : IsReady count u = All-found (IsReady count) s.jobs id u ready.jobs at in
    let sees = flown-sees s.world s.book (next_count s.reads) (record { 0 = s.moment }) u x (subst (λ (n : ℕ). IsReady n u) (sym ready.servers) here) is in
    (sees.0, sees.1)

module _ (count : ℕ) (s : State) (id : ℕ) (ready : Ready count s) where
  Ready-job : (o : Option Unended) → job_at s.jobs id ≡ o → (audit : AuditState) (reads : ℕ)
      → Ready count (record s {
        world = run s.world (job_exchanges (option_map (turn_of s) o));
        book = book_turned s.book id (option_map (turn_of s) o);
        audit = audit;
        reads = reads;
        jobs = jobs_turned s.jobs id (option_map (turn_of s) o);
      })
  Ready-job None at audit reads = record {
    servers = ready.servers;
    book = ready.book;
    names = ready.names;
    slots = ready.slots;
    observed = ready.observed;
    sources = ready.sources;
    jobs = ready.jobs;
    periods = ready.periods;
  }
  Ready-job (Some u) at audit reads = record {
    servers = servers-run s.world (turn_of s u).exchanges ∙ ready.servers;
    book = (left (is_going (turn_of s u).step)).0;
    names = ap length (left (is_going (turn_of s u).step)).1 ∙ ready.names;
    slots = ready.slots;
    observed = ready.observed;
    sources = sources-run s.world (turn_of s u).exchanges (flown-allowed s.world s.book (next_count s.reads) (record { 0 = s.moment }) u) ready.sources;
    jobs = all-turned (IsReady count) (IsReady count) id (λ k apart h. h) s.jobs (turn_of s u)
        (λ going. flown-ready count s.world s.book (next_count s.reads) (record { 0 = s.moment }) u (All-found (IsReady count) s.jobs id u ready.jobs at) going) ready.jobs;
    periods = ready.periods;
  }
    where
      book : IsBook (stored s.book (turn_of s u).observation)
      book = IsBook-observed count s ready (next_count s.reads) (record { 0 = s.moment }) (turn_of s u).observation (job-sees count s id u ready at)

      left : (going : Bool) → IsBook (if going then stored s.book (turn_of s u).observation else without_leases (stored s.book (turn_of s u).observation) id) × ((if going then stored s.book (turn_of s u).observation else without_leases (stored s.book (turn_of s u).observation) id).names ≡ s.book.names)
      left true = (book, (same-stored s.book (turn_of s u).observation).names)
      left false = (IsBook-freed (stored s.book (turn_of s u).observation) id book, (same-stored s.book (turn_of s u).observation).names)

-- ---- a poll

-- a slot's reading is of the servers, and an empty one has none
slot-there : (count : ℕ) (slots : List (Option Observation)) (p : ℕ) → All (IsSlot count) slots → IsSlot count (slice_index_or slots p None)
slot-there count [] p all = tt
slot-there count (x ∷ xs) zero all = All-head (IsSlot count) x xs all
slot-there count (x ∷ xs) (suc p) all = slot-there count xs p (All-tail (IsSlot count) x xs all)

module _ (s : State) (p : ℕ) (n : ServerNo) where
  poll-slots : (count : ℕ) (known : Bool) → IsSlot count (Some (reading s n)) → All (IsSlot count) s.slots → All (IsSlot count) (if known then slice_set s.slots p (Some (reading s n)) else s.slots)
  poll-slots count true here all = All-set (IsSlot count) s.slots p (Some (reading s n)) here all
  poll-slots count false here all = all

  poll-length : (known : Bool) → length (if known then slice_set s.slots p (Some (reading s n)) else s.slots) ≡ length s.slots
  poll-length true = length-set s.slots p (Some (reading s n))
  poll-length false = refl

-- ---- a command or a scan

Ready-outcome : (count : ℕ) (s : State) (o : Outcome) → Ready count s → Keeps s o → Ready count (settled s o)
Ready-outcome count s o ready keeps = record {
  servers = ready.servers;
  book = keeps.book;
  names = ap length (same-updated (known_of s) o.book).names ∙ ready.names;
  slots = ready.slots;
  observed = ready.observed;
  sources = ready.sources;
  jobs = subst (λ (k : ℕ). All (IsReady k) (updated (known_of s) o.book).jobs) ready.names keeps.jobs;
  periods = ready.periods;
}

-- ---- every turn

Ready-tick : (count : ℕ) (s : State) (seconds : ℕ) → Ready count s → Ready count (after_tick s seconds)
Ready-tick count s seconds ready = record {
  servers = ready.servers;
  book = ready.book;
  names = ready.names;
  slots = ready.slots;
  observed = ready.observed;
  sources = ready.sources;
  jobs = ready.jobs;
  periods = ready.periods;
}

Ready-act : (count : ℕ) (rows : List Row) (s : State) (a : Act) → Ready count s → IsAct count a → Ready count (after_act rows s a)
Ready-act count rows s (act.PollRead p n) ready is =
    let known : IsSlot count (Some (reading s n)) =
    subst (λ (k : ℕ). IsSlot k (Some (reading s n))) ready.servers (reading_known s.world n (next_count s.reads) s.moment ready.sources (subst (λ (k : ℕ). n.0 < k) (sym ready.servers) is.1)) in
    record {
      servers = ready.servers;
      book = ready.book;
      names = ready.names;
      slots = poll-length s p n (is_some (instance_at s.book n)) ∙ ready.slots;
      observed = poll-slots s p n count (is_some (instance_at s.book n)) known ready.observed;
      sources = ready.sources;
      jobs = ready.jobs;
      periods = ready.periods;
    }
Ready-act count rows s (act.PollStore p) ready is =
    let known : IsSlot count (slot_at s p) = slot-there count s.slots p ready.observed in
    record {
      servers = ready.servers;
      book = IsBook-stored s.book (slot_at s p) ready.book (subst (λ (k : ℕ). IsSlot k (slot_at s p)) (sym ready.names) known);
      names = ap length (same-stored s.book (slot_at s p)).names ∙ ready.names;
      slots = length-set s.slots p None ∙ ready.slots;
      observed = All-set (IsSlot count) s.slots p None tt ready.observed;
      sources = ready.sources;
      jobs = ready.jobs;
      periods = ready.periods;
    }
Ready-act count rows s (act.Command c) ready is = Ready-outcome count s (command_outcome s c) ready (command-keeps count s ready c is)
Ready-act count rows s (act.Job job) ready is = Ready-job count s job ready (job_at s.jobs job) refl _ _
Ready-act count rows s act.Scan ready is = Ready-outcome count s (scan_outcome s) ready (scan-keeps count s ready)
Ready-act count rows s act.Restart ready is =
    let few : length s.book.settings ≡ length s.book.names = settings-count s.book ready.book in
    let small = ready.book.small in
    record {
      servers = ready.servers;
      book = IsBook-loaded s.book.settings (last_given s) rows (omega (arith, few, small));
      names = ap length (names-loaded s.book.settings (last_given s) rows) ∙ (length-map s.book.settings (λ x. x.name) ∙ (few ∙ ready.names));
      slots = length-replicate {A = Option Observation} pollers None;
      observed = All-replicate (IsSlot count) pollers None tt;
      sources = ready.sources;
      jobs = All-nil (IsReady count);
      periods = ready.periods;
    }

-- whichever orchestrator claims to be active
Ready-claims : (count : ℕ) (s : State) (claims : ClaimState) (holder : Option ℕ) → Ready count s → Ready count (record s { claims = claims; last_holder = holder })
Ready-claims count s claims holder ready = record {
  servers = ready.servers;
  book = ready.book;
  names = ready.names;
  slots = ready.slots;
  observed = ready.observed;
  sources = ready.sources;
  jobs = ready.jobs;
  periods = ready.periods;
}

Ready-done : (count : ℕ) (rows : List Row) (s : State) (o : Option Act) → Ready count s → IfSome o (IsAct count) → Ready count (after_done rows s o)
Ready-done count rows s None ready is = ready
Ready-done count rows s (Some a) ready is = Ready-act count rows s a ready is

Ready-claimed : (count : ℕ) (rows : List Row) (s : State) (t : Turn) → Ready count s → IsTurn count t → Ready count (with_claims s t (after_done rows s (act_in s t)))
Ready-claimed count rows s t ready is =
    Ready-claims count (after_done rows s (act_in s t)) (claims_after s t) (holder_after s t) (Ready-done count rows s (act_in s t) ready (act-fits count s t is))

pub Ready-step : (count : ℕ) (rows : List Row) (s : State) (t : Turn) → Ready count s → IsTurn count t → Ready count (step rows s t)
Ready-step count rows s (turn.Step x) ready is = Ready-run count s (exchange_of x ∷ []) ready (Allowed-step count s.world x is).0
Ready-step count rows s (turn.Tick seconds) ready is = Ready-tick count s seconds ready
Ready-step count rows s (turn.Act a) ready is = Ready-act count rows s a ready is
Ready-step count rows s x ready is = Ready-claimed count rows s x ready is

-- ---- an opening

IsBook-opening : (b : BookState) (c : Change) → IsBook b → IsTrue (is_opening_change (length b.names) c) → IsBook (after_opening b c)
IsBook-opening b (change.Remove t k) is fit = change_is b (change.Remove t k) is fit
IsBook-opening b (change.Put (row.Instance i)) is fit = IsBook-ringed _ i.no (shown_by i) (put_is b (row.Instance i) is fit)
IsBook-opening b (change.Put (row.Downtime d)) is fit = put_is b (row.Downtime d) is fit
IsBook-opening b (change.Put (row.Candidate c)) is fit = put_is b (row.Candidate c) is fit
IsBook-opening b (change.Put (row.Recovery r)) is fit = is
IsBook-opening b (change.Put (row.Switch enabled)) is fit = put_is b (row.Switch enabled) is fit
IsBook-opening b (change.Put (row.Active node until)) is fit = is

IsBook-opened : (b : BookState) (cs : List Change) → IsBook b → All (λ c. IsTrue (is_opening_change (length b.names) c)) cs → IsBook (opened_book b cs)
IsBook-opened b [] is all = is
IsBook-opened b (c ∷ cs) is all =
    IsBook-opened (after_opening b c) cs (IsBook-opening b c is (All-head (λ x. IsTrue (is_opening_change (length b.names) x)) c cs all))
    (subst (λ (n : ℕ). All (λ x. IsTrue (is_opening_change n x)) cs) (sym (ap length (names-opening b c))) (All-tail (λ x. IsTrue (is_opening_change (length b.names) x)) c cs all))

pub Ready-start : (s : Scenario) (wait : ℕ) (rows : List Row) → IsScenario s → Ready (length s.opening.servers) (start s wait rows)
Ready-start s wait rows is =
    let b = loaded_book s rows in
    let count : length (settings_of s) ≡ length s.opening.servers = length-map s.opening.servers (λ i. i.settings) in
    let few = is.checked.listed.few in
    let names : length b.names ≡ length s.opening.servers = ap length (names-loaded (settings_of s) greatest_id rows) ∙ (length-map (settings_of s) (λ x. x.name) ∙ count) in
    record {
      servers = servers-start s;
      book = IsBook-opened b (start_changes s rows) (IsBook-loaded (settings_of s) greatest_id rows (omega (arith, count, few)))
          (fits-opening (start_world s) (start_moment s rows) b s.known s.rules (loading (period_of s) (start_rows s rows) (loaded_audit s rows) (start_moment s rows)) (sources-start s is) (names ∙ sym (servers-start s))
          (is.rules ∙ sym (servers-start s))
          (all-loading (λ c. IsTrue (is_opening_change (length b.names) c)) (period_of s) (start_rows s rows) (loaded_audit s rows) (start_moment s rows) (λ r. refl)));
      names = ap length (same-opened b (start_changes s rows)).names ∙ names;
      slots = length-replicate {A = Option Observation} pollers None;
      observed = All-replicate (IsSlot (length s.opening.servers)) pollers None tt;
      sources = sources-start s is;
      jobs = All-nil (IsReady (length s.opening.servers));
      periods = record { block = is.block; blocks = is.blocks };
    }
