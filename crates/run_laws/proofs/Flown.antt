-- Each turn of a run is its `Passage`s.
use Rattle.std.proofs.Common.{◌≡◌, ◌∙◌, ℕ, Bool, true, false, List, [], ◌∷◌, length, refl, sym, ap, Option, Some, None, zero, suc, is_some, map, nat_lt, not, replicate, slice_index_or, slice_set, if◌then◌else◌, IfSome}
use Rattle.run_laws.proofs.Prelude.{Act, BookState, Bridge, Exchange, Flight, Instance, IsAct, IsTurn, Job, JobStep, Observation, Ready}
use Rattle.run_laws.proofs.Prelude.{Row, ServerNo, Settings, State, Turn, Unended, act-fits, act_in, act_passages, after_act, after_done, after_put}
use Rattle.run_laws.proofs.Prelude.{after_restart, after_row, book_turned, by_job, core-found, core_by, core_of, cores-replaced, cores-without}
use Rattle.run_laws.proofs.Prelude.{counted, done_passages, empty_book, empty_slots, false≢true, flight_of, given-leases, given_back, hooked}
use Rattle.run_laws.proofs.Prelude.{instance_at, is_going, job_at, job_exchanges, jobs_turned, last_given, leases_of, loaded, moment_at, next_count}
use Rattle.run_laws.proofs.Prelude.{no_leases, option_map, passages_of, passing, reading, reloaded_book, renewed, renewed_book, replaced, row_fits}
use Rattle.run_laws.proofs.Prelude.{run, slot_at, step, stored, stored_if, stored_over, takes, takes_over, turn_of, turned, turned_by, with_job}
use Rattle.run_laws.proofs.Prelude.{without_job, without_leases}
use Rattle.run_laws.proofs.Prelude.Flights.{without_job as without_core, without_leases as no_longer}
use Rattle.run_laws.proofs.Prelude.JobLaws.{job_at as core_at}
use Rattle.run_laws.proofs.Prelude.RecoveryPlans.{Recovery}
use Rattle.run_laws.proofs.Prelude.taking.{taken}
use Rattle.run_laws.proofs.Prelude.act
use Rattle.run_laws.proofs.Prelude.kept_row as row
use Rattle.run_laws.proofs.Prelude.pass
use Rattle.run_laws.proofs.Prelude.turn
use Rattle.run_laws.proofs.Prelude.unended
use Rattle.run_laws.proofs.FlownOutcomes.{Leaves-command, Leaves-scan}
use Rattle.run_laws.proofs.Ready.{settings-count}

-- ---- a reading that is stored

leases-stored : (b : BookState) (o : Option Observation) → (stored b o).leases ≡ b.leases
leases-stored b None = refl
leases-stored b (Some o) = over (instance_at b o.no)
  where
    over : (x : Option Instance) → (stored_over b o x).leases ≡ b.leases
    over None = refl
    over (Some kept) = go (nat_lt o.read kept.read)
      where
        go : (old : Bool) → (if old then b else renewed_book b o (Some (renewed kept o))).leases ≡ b.leases
        go true = refl
        go false = refl

-- a `Flight` with these bridges
abbrev with_rings : Flight → List (List Bridge) → Flight
with_rings f rings = record f { rings = rings }

stored-flown : (f : Flight) (b : BookState) (o : Option Observation) → with_rings f (stored b o).rings ≡ stored_if (takes b o) (with_rings f b.rings) o
stored-flown f b None = refl
stored-flown f b (Some o) = over (instance_at b o.no)
  where
    over : (x : Option Instance) → with_rings f (stored_over b o x).rings ≡ stored_if (takes_over x o) (with_rings f b.rings) (Some o)
    over None = refl
    over (Some kept) = go (nat_lt o.read kept.read)
      where
        go : (old : Bool) → with_rings f (if old then b else renewed_book b o (Some (renewed kept o))).rings ≡ stored_if (not old) (with_rings f b.rings) (Some o)
        go true = refl
        go false = refl

-- ---- a poll

module _ (s : State) (p : ℕ) (n : ServerNo) where
  poll-flown : (known : Bool) → record (flight_of s) { slots = (if known then slice_set s.slots p (Some (reading s n)) else s.slots) }
      ≡ passing (flight_of s) (if known then pass.Polling p n (next_count s.reads) (moment_at s) ∷ [] else [])
  poll-flown true = refl
  poll-flown false = refl

-- ---- a job's turn

module _ (s : State) (id : ℕ) where
  -- what the turn leaves, by whether the job goes on
  turn-flown : (step : JobStep) (o : Option Observation) (es : List Exchange) (u : Unended) (core : Job) (going : Bool) → (going ≡ true → core_of u ≡ core)
      → record (flight_of s) {
        world = run s.world es;
        rings = (if going then stored s.book o else without_leases (stored s.book o) id).rings;
        jobs = map core_of (if going then with_job s.jobs id u else without_job s.jobs id);
        leases = leases_of (if going then stored s.book o else without_leases (stored s.book o) id).leases;
      } ≡ stored_if (takes s.book o) (record (flight_of s) {
        world = run s.world es;
        jobs = (if going then replaced (map core_of s.jobs) id core else without_core (map core_of s.jobs) id);
        leases = (if going then leases_of s.book.leases else no_longer (leases_of s.book.leases) id);
      }) o
  turn-flown step o es u core true same =
      ap (λ (l : List (Option ℕ)). record (flight_of s) { world = run s.world es; rings = (stored s.book o).rings; jobs = map core_of (with_job s.jobs id u); leases = leases_of l }) (leases-stored s.book o)
      ∙ (ap (λ (js : List Job). record (flight_of s) { world = run s.world es; rings = (stored s.book o).rings; jobs = js }) (cores-replaced s.jobs id u ∙ ap (λ (c : Job). replaced (map core_of s.jobs) id c) (same refl))
      ∙ stored-flown (record (flight_of s) { world = run s.world es; jobs = replaced (map core_of s.jobs) id core }) s.book o)
  turn-flown step o es u core false same =
      ap (λ (l : List (Option ℕ)). record (flight_of s) { world = run s.world es; rings = (stored s.book o).rings; jobs = map core_of (without_job s.jobs id); leases = leases_of (given_back l id) }) (leases-stored s.book o)
      ∙ (ap (λ (l : ℕ → Option ℕ). record (flight_of s) { world = run s.world es; rings = (stored s.book o).rings; jobs = map core_of (without_job s.jobs id); leases = l }) (given-leases s.book.leases id)
      ∙ (ap (λ (js : List Job). record (flight_of s) { world = run s.world es; rings = (stored s.book o).rings; jobs = js; leases = no_longer (leases_of s.book.leases) id }) (cores-without s.jobs id)
      ∙ stored-flown (record (flight_of s) { world = run s.world es; jobs = without_core (map core_of s.jobs) id; leases = no_longer (leases_of s.book.leases) id }) s.book o))

  -- a recovery's core, if it goes on
  core-going : (r : Recovery) (going : Bool) → going ≡ true → r.core ≡ core_by id r going
  core-going r true h = refl
  core-going r false h = absurd (false≢true h)

  -- by whether there is such a job
  job-flown : (o : Option Unended) → job_at s.jobs id ≡ o
      → record (flight_of s) {
        world = run s.world (job_exchanges (option_map (turn_of s) o));
        rings = (book_turned s.book id (option_map (turn_of s) o)).rings;
        jobs = map core_of (jobs_turned s.jobs id (option_map (turn_of s) o));
        leases = leases_of (book_turned s.book id (option_map (turn_of s) o)).leases;
      } ≡ passing (flight_of s) (by_job s id o)
  job-flown None at = refl
  job-flown (Some (unended.Plan j)) at =
      let t = turned s.world (next_count s.reads) (moment_at s) j in
      let found : core_at (map core_of s.jobs) id ≡ Some j = core-found s.jobs id ∙ ap (option_map core_of) at in
      turn-flown t.step t.observation t.exchanges (unended.Plan t.job) t.job (is_going t.step) (λ h. refl)
      ∙ ap (λ (x : Option Job). turned_by (flight_of s) id (next_count s.reads) (moment_at s) (takes s.book t.observation) x) (sym found)
  job-flown (Some (unended.Recovery r d)) at =
      let h = hooked s.world s.book (next_count s.reads) (moment_at s) r d in
      let t = h.taken in
      turn-flown t.step t.observation t.exchanges (unended.Recovery t.recovery h.docket) (core_by id t.recovery (is_going t.step)) (is_going t.step) (core-going t.recovery (is_going t.step))

-- ---- a restart

rings-rows : (b : BookState) (rows : List Row) → (Rattle.std.specs.Prelude.fold after_row b rows).rings ≡ b.rings
rings-rows b [] = refl
rings-rows b (r ∷ rows) = rings-rows (after_row b r) rows ∙ one (row_fits (length b.names) r) r
  where
    put : (r : Row) → (after_put b r).rings ≡ b.rings
    put (row.Instance i) = refl
    put _ = refl

    one : (fit : Bool) (r : Row) → (if fit then after_put b r else b).rings ≡ b.rings
    one true r = put r
    one false r = refl

leases-rows : (b : BookState) (rows : List Row) → (Rattle.std.specs.Prelude.fold after_row b rows).leases ≡ b.leases
leases-rows b [] = refl
leases-rows b (r ∷ rows) = leases-rows (after_row b r) rows ∙ one (row_fits (length b.names) r) r
  where
    put : (r : Row) → (after_put b r).leases ≡ b.leases
    put (row.Instance i) = refl
    put _ = refl

    one : (fit : Bool) (r : Row) → (if fit then after_put b r else b).leases ≡ b.leases
    one true r = put r
    one false r = refl

none-at : (count n : ℕ) → slice_index_or (replicate {A = Option ℕ} count None) n None ≡ None
none-at zero n = refl
none-at (suc count) zero = refl
none-at (suc count) (suc n) = none-at count n

none-leased : (count : ℕ) → leases_of (replicate count None) ≡ no_leases
none-leased count = λ i n. none-at count n i

pub rings-loaded : (settings : List Settings) (last : ℕ) (rows : List Row) → (loaded settings last rows).rings ≡ replicate (length settings) []
rings-loaded settings last rows = rings-rows (empty_book settings) (counted (length settings) last rows)

pub leases-loaded : (settings : List Settings) (last : ℕ) (rows : List Row) → leases_of (loaded settings last rows).leases ≡ no_leases
leases-loaded settings last rows = ap leases_of (leases-rows (empty_book settings) (counted (length settings) last rows)) ∙ none-leased (length settings)

restart-flown : (count : ℕ) (rows : List Row) (s : State) → Ready count s → flight_of (after_restart rows s) ≡ passing (flight_of s) (pass.Restarting ∷ [])
restart-flown count rows s ready =
    let b = s.book in
    let rings : (reloaded_book rows s).rings ≡ replicate (length b.rings) [] = rings-loaded b.settings (last_given s) rows ∙ ap (λ (n : ℕ). replicate n []) (settings-count b ready.book ∙ sym ready.book.rings) in
    let slots : empty_slots ≡ replicate (length s.slots) None = ap (λ (n : ℕ). replicate n None) (sym ready.slots) in
    ap (λ (x : List (List Bridge)). record (flight_of s) { rings = x; slots = empty_slots; jobs = []; leases = leases_of (reloaded_book rows s).leases }) rings
    ∙ ap (λ (x : List (Option Observation)). record (flight_of s) { rings = replicate (length b.rings) []; slots = x; jobs = []; leases = leases_of (reloaded_book rows s).leases }) slots
    ∙ ap (λ (l : ℕ → Option ℕ). record (flight_of s) { rings = replicate (length b.rings) []; slots = replicate (length s.slots) None; jobs = []; leases = l }) (leases-loaded b.settings (last_given s) rows)

-- ---- every turn

flown-act : (count : ℕ) (rows : List Row) (s : State) (a : Act) → Ready count s → IsAct count a → flight_of (after_act rows s a) ≡ passing (flight_of s) (act_passages s a)
flown-act count rows s (act.PollRead p n) ready is = poll-flown s p n (is_some (instance_at s.book n))
flown-act count rows s (act.PollStore p) ready is =
    ap (λ (l : List (Option ℕ)). record (flight_of s) { rings = (stored s.book (slot_at s p)).rings; slots = slice_set s.slots p None; leases = leases_of l }) (leases-stored s.book (slot_at s p))
    ∙ ap (λ (f : Flight). record f { slots = slice_set f.slots p None }) (stored-flown (flight_of s) s.book (slot_at s p))
flown-act count rows s (act.Command c) ready is = (Leaves-command count s c ready is).flown
flown-act count rows s (act.Job job) ready is = job-flown s job (job_at s.jobs job) refl
flown-act count rows s act.Scan ready is = (Leaves-scan count s ready).flown
flown-act count rows s act.Restart ready is = restart-flown count rows s ready

flown-done : (count : ℕ) (rows : List Row) (s : State) (o : Option Act) → Ready count s → IfSome o (IsAct count) → flight_of (after_done rows s o) ≡ passing (flight_of s) (done_passages s o)
flown-done count rows s None ready is = refl
flown-done count rows s (Some a) ready is = flown-act count rows s a ready is

pub flown : (count : ℕ) (rows : List Row) (s : State) (t : Turn) → Ready count s → IsTurn count t → flight_of (step rows s t) ≡ passing (flight_of s) (passages_of s t)
flown count rows s (turn.Act a) ready is = flown-act count rows s a ready is
flown count rows s (turn.As node a) ready is = flown-done count rows s (act_in s (turn.As node a)) ready (act-fits count s (turn.As node a) is)
flown count rows s (turn.Claim node) ready is = flown-done count rows s (act_in s (turn.Claim node)) ready (act-fits count s (turn.Claim node) is)
flown count rows s _ ready is = refl
