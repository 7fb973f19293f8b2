-- Each turn leaves a neat state neat.
use Rattle.std.proofs.Common.{◌≡◌, ◌∙◌, ℕ, ◌+◌, Bool, true, false, List, [], ◌∷◌, ◌++◌, map, refl, sym, ap, subst, Option, Some, None, Result, Ok, Err, All, is_some, ◌==◌, if◌then◌else◌}
use Rattle.tidy_laws.proofs.Prelude.{Act, All-append, All-cons, All-find, All-map, All-nil, All-push, AreNeatPassages, Asks, Begins as RecoveryBegins}
use Rattle.tidy_laws.proofs.Prelude.{Clusters, Comes, Command, CommandTurn, Decides, Discovers, Docket, Flight, Flown, Forgets, HeldJob, HeldState}
use Rattle.tidy_laws.proofs.Prelude.{IsAskedFor, IsHeldBeside, IsNeat, IsNeatTurn, IsOrderly, IsRecoveryWithin, IsStep, IsTurn, IsTurnWithin}
use Rattle.tidy_laws.proofs.Prelude.{IsUnendedWithin, Job, JobStep, KeepsWithin, Outcome, Passage, Planner, Ready, Recovers, Recovery, Refusal, Route}
use Rattle.tidy_laws.proofs.Prelude.{Row, ServerNo, State, Step, Taken, TakesOver, Turn, Unended, act_in, act_passages, all-turned, allowed}
use Rattle.tidy_laws.proofs.Prelude.{attempt_in, by_discovery, by_hand, by_instance, by_job, by_permission, by_poll, by_recoveries, by_recovery}
use Rattle.tidy_laws.proofs.Prelude.{by_removal, by_route, by_takeover, by_try, command-comes, command_outcome, core-found, core_of, discovers}
use Rattle.tidy_laws.proofs.Prelude.{done_passages, exchange_of, flight_of, flown as step-flown, flown-allowed, hooked, hooked-has, instance_at}
use Rattle.tidy_laws.proofs.Prelude.{is_going, job_at as core_at, job_by, jobs_turned, leases_of, moment_at, next_count, numbers_of, option_map}
use Rattle.tidy_laws.proofs.Prelude.{passages_of, passed, promoted_in, reading, recoveries_scanned, recovery_job, recovery_try, refusal_by}
use Rattle.tidy_laws.proofs.Prelude.{removal_refusal, route_of, same_Some, scan_in, scan_outcome, step as turn_step, step-may, taken, takeover_try}
use Rattle.tidy_laws.proofs.Prelude.{told_try, turn-allowed, turn-keeps, turn_of, turned, unless_refused, with_told}
use Rattle.tidy_laws.proofs.Prelude.Outcomes.{asked}
use Rattle.tidy_laws.proofs.Prelude.Jobs.{job_at}
use Rattle.tidy_laws.proofs.Prelude.Settling.{settled}
use Rattle.tidy_laws.proofs.Prelude.TheVariants.{Begins}
use Rattle.tidy_laws.proofs.Prelude.UnendedJobs.{number_of}
use Rattle.tidy_laws.proofs.Prelude.act
use Rattle.tidy_laws.proofs.Prelude.pass
use Rattle.tidy_laws.proofs.Prelude.turn
use Rattle.tidy_laws.proofs.Prelude.turns_step as step
use Rattle.tidy_laws.proofs.Prelude.unended
use Rattle.tidy_laws.proofs.Prelude.comes
use Rattle.tidy_laws.proofs.Begun.{job-within, recovery-within, scan-within, takeover-within}
use Rattle.tidy_laws.proofs.Passing.{neat-passing}
use Rattle.tidy_laws.proofs.Recovering.{taken-within}
use Rattle.tidy_laws.proofs.Turns.{turn-within}

-- the `Flight` has `IsNeat`, and each unended job stays within a cluster
pub record IsNeatState (c : Clusters) (s : State) : Type 0 where
  pub flight : IsNeat c (flight_of s)
  pub jobs : All (IsUnendedWithin c) s.jobs

-- ---- what happens to a server

step-orderly : (c : Clusters) (count : ℕ) (s : State) (x : Step) → IsStep count x → IsOrderly c s.world (exchange_of x)
step-orderly c count s (step.Write n size) is = (is.1, is.2)
step-orderly c count s _ is = tt

module _ (c : Clusters) (s : State) (held : HeldState s) (neat : IsNeatState c s) where
  -- ---- a job's turn

  plan-turned : (id : ℕ) (j : Job) → job_at s.jobs id ≡ Some (unended.Plan j) → IsTurnWithin c s.world (turned s.world (next_count s.reads) (moment_at s) j)
  plan-turned id j at =
      let is_job : Job → Bool = λ k. k.id == id in
      let is_unended : Unended → Bool = λ k. number_of k == id in
      let found : core_at (map core_of s.jobs) id ≡ Some j = core-found s.jobs id ∙ ap (option_map core_of) at in
      turn-within c s.world (next_count s.reads) (moment_at s) j neat.flight.placed neat.flight.trim
      (All-find (HeldJob s.world) is_job (map core_of s.jobs) j held.flight.jobs found)
      (All-find (IsUnendedWithin c) is_unended s.jobs (unended.Plan j) neat.jobs at)

  -- whatever lines its hooks add
  retold : (t : Taken) (x : JobStep) → is_going x ≡ is_going t.step → KeepsWithin c s.world t → KeepsWithin c s.world (record t { step = x })
  retold t x same keeps = record { orderly = keeps.orderly; recovery = λ going. keeps.recovery (sym same ∙ going); read = keeps.read }

  recovery-turned : (id : ℕ) (r : Recovery) (d : Docket) → job_at s.jobs id ≡ Some (unended.Recovery r d)
      → KeepsWithin c s.world (hooked s.world s.book (next_count s.reads) (moment_at s) r d).taken
  recovery-turned id r d at =
      let is_unended : Unended → Bool = λ k. number_of k == id in
      let here = All-find (IsHeldBeside s.world (leases_of s.book.leases)) is_unended s.jobs (unended.Recovery r d) held.jobs at in
      let mine = All-find (IsUnendedWithin c) is_unended s.jobs (unended.Recovery r d) neat.jobs at in
      let t = taken s.world s.book (next_count s.reads) (moment_at s) r in
      let keeps =
      taken-within c s.world s.book (next_count s.reads) (moment_at s) r neat.flight.placed neat.flight.trim (record { spans = held.flight.rings; own = held.own }) neat.flight.rings here.0 mine in
      hooked-has (KeepsWithin c s.world) d (promoted_in s.book t) r t (λ x same. retold t x same keeps) (λ x. record { orderly = tt; recovery = λ going. mine; read = tt })

  job-passages : (id : ℕ) (o : Option Unended) → job_at s.jobs id ≡ o → AreNeatPassages c (flight_of s) (by_job s id o)
  job-passages id None at = tt
  job-passages id (Some (unended.Plan j)) at =
      let found : core_at (map core_of s.jobs) id ≡ Some j = core-found s.jobs id ∙ ap (option_map core_of) at in
      let here = plan-turned id j at in
      let read = next_count s.reads in
      let now = moment_at s in (
        λ k is.
            subst (λ (x : Job). IsNeatTurn c s.world (turned s.world read now x)) (same_Some j k (sym found ∙ is))
            (record { allowed = turn-allowed s.world read now j; orderly = here.orderly; read = here.read }),
        tt,
      )
  job-passages id (Some (unended.Recovery r d)) at =
      let here = recovery-turned id r d at in
      (record { allowed = flown-allowed s.world s.book (next_count s.reads) (moment_at s) (unended.Recovery r d); orderly = here.orderly; read = here.read }, tt)

  -- ---- commands and scans

  recoveries-passages : (xs : List RecoveryBegins) (f : Flight) → AreNeatPassages c f (by_recoveries xs)
  recoveries-passages [] f = tt
  recoveries-passages (x ∷ xs) f = (tt, recoveries-passages xs (passed f (pass.Beginning x.list (core_of (recovery_job x)))))

  try-passages : (r : Result RecoveryBegins Refusal) → AreNeatPassages c (flight_of s) (by_try r)
  try-passages (Ok x) = (tt, tt)
  try-passages (Err r) = tt

  instance-passages : (passages : ServerNo → List Passage) → ((i : ServerNo) → AreNeatPassages c (flight_of s) (passages i)) → (o : Option ServerNo) → AreNeatPassages c (flight_of s) (by_instance passages o)
  instance-passages passages each None = tt
  instance-passages passages each (Some i) = each i

  discovery-passages : (i : ServerNo) → AreNeatPassages c (flight_of s) (by_discovery s i)
  discovery-passages i = go (discovers s.book (reading s i))
    where
      go : (b : Bool) → AreNeatPassages c (flight_of s) (if b then pass.Discovering i (next_count s.reads) (moment_at s) ∷ [] else [])
      go true = (tt, tt)
      go false = tt

  removal-passages : (p : Result Unit Refusal) (i : ServerNo) → AreNeatPassages c (flight_of s) (by_removal p i)
  removal-passages (Ok permit) i = (tt, tt)
  removal-passages (Err r) i = tt

  permission-passages : (x : Command) (p : Planner) (r : Option Refusal) → AreNeatPassages c (flight_of s) (by_permission s x p r)
  permission-passages x p None = (tt, tt)
  permission-passages x p (Some r) = tt

  takeover-passages : (d : Option ServerNo) (i : ServerNo) → AreNeatPassages c (flight_of s) (by_takeover s d i)
  takeover-passages None i = tt
  takeover-passages (Some d) i =
      try-passages (told_try s.configuration s.book (takeover_try s.world s.book s.audit (by_hand s.book s.configuration (numbers_of s) i) s.configuration.wait (s.last_job + 1) i d))

  route-passages : (x : Command) (r : Route) → AreNeatPassages c (flight_of s) (by_route s x r)
  route-passages x Discovers = instance-passages (by_discovery s) discovery-passages x.i
  route-passages x Forgets = instance-passages (by_removal (allowed (removal_refusal s.book x))) (removal-passages (allowed (removal_refusal s.book x))) x.i
  route-passages x (Asks q) = tt
  route-passages x (Decides d) = tt
  route-passages x (Begins p) = permission-passages x p (refusal_by s.world s.book (moment_at s) s.configuration.every x p)
  route-passages x Recovers =
      instance-passages (by_recovery s)
      (λ i. try-passages (told_try s.configuration s.book (recovery_try s.world s.book s.audit (by_hand s.book s.configuration (numbers_of s) i) s.configuration.wait (s.last_job + 1) i))) x.i
  route-passages x TakesOver = instance-passages (by_takeover s x.d) (takeover-passages x.d) x.i

  -- ---- every turn

  poll-passages : (p : ℕ) (n : ServerNo) → AreNeatPassages c (flight_of s) (by_poll s p n)
  poll-passages p n = go (is_some (instance_at s.book n))
    where
      go : (b : Bool) → AreNeatPassages c (flight_of s) (if b then pass.Polling p n (next_count s.reads) (moment_at s) ∷ [] else [])
      go true = (tt, tt)
      go false = tt

  act-neat : (a : Act) → AreNeatPassages c (flight_of s) (act_passages s a)
  act-neat (act.PollRead p n) = poll-passages p n
  act-neat (act.PollStore p) = (tt, tt)
  act-neat (act.Command x) = route-passages x.command (route_of x.command.name)
  act-neat (act.Job job) = job-passages job (job_at s.jobs job) refl
  act-neat act.Scan = recoveries-passages (recoveries_scanned s) (flight_of s)
  act-neat act.Restart = (tt, tt)

  done-neat : (o : Option Act) → AreNeatPassages c (flight_of s) (done_passages s o)
  done-neat None = tt
  done-neat (Some a) = act-neat a

  passages-neat : (count : ℕ) (t : Turn) → IsTurn count t → AreNeatPassages c (flight_of s) (passages_of s t)
  passages-neat count (turn.Step x) is = (((step-may count (flight_of s) x is).0, step-orderly c count s x is), tt)
  passages-neat count (turn.Act a) is = act-neat a
  passages-neat count (turn.As node a) is = done-neat (act_in s (turn.As node a))
  passages-neat count (turn.Claim node) is = done-neat (act_in s (turn.Claim node))
  passages-neat count _ is = tt

  -- ---- what a turn leaves of the jobs

  abbrev P : Unended → Type 0
  P u = IsUnendedWithin c u

  turned-by : (id : ℕ) (t : Flown) → (is_going t.step ≡ true → P t.next) → All P (jobs_turned s.jobs id (Some t))
  turned-by id t next = all-turned P P id (λ k apart h. h) s.jobs t next neat.jobs

  jobs-turned : (id : ℕ) (o : Option Unended) → job_at s.jobs id ≡ o → All P (jobs_turned s.jobs id (option_map (turn_of s) o))
  jobs-turned id None at = neat.jobs
  jobs-turned id (Some (unended.Plan j)) at = turned-by id (turn_of s (unended.Plan j)) (λ going. (plan-turned id j at).job)
  jobs-turned id (Some (unended.Recovery r d)) at = turned-by id (turn_of s (unended.Recovery r d)) (λ going. (recovery-turned id r d at).recovery going)

  -- ---- by commands

  recoveries-jobs : (xs : List RecoveryBegins) → All (λ x. IsRecoveryWithin c x.job) xs → All P (s.jobs ++ map recovery_job xs)
  recoveries-jobs xs all = All-append P s.jobs (map recovery_job xs) neat.jobs (All-map P recovery_job xs all)

  asked-within : (t : CommandTurn) (x : RecoveryBegins) → IsAskedFor s t.command x → IsRecoveryWithin c x.job
  asked-within t x (comes.Fails i route at free) =
      recovery-within c s.world neat.flight.trim s.book s.audit (by_hand s.book s.configuration (numbers_of s) i) s.configuration.wait (s.last_job + 1) i x (ap (λ (o : Option Refusal). unless_refused o x) free)
  asked-within t x (comes.Passes i d route at there free) =
      takeover-within c s.world neat.flight.trim s.book s.audit (by_hand s.book s.configuration (numbers_of s) i) s.configuration.wait (s.last_job + 1) i d x (ap (λ (o : Option Refusal). unless_refused o x) free)

  outcome-jobs : (t : CommandTurn) (o : Outcome) → Comes s t o → All P (settled s o).jobs
  outcome-jobs t o (comes.Begun p at free) =
      All-push P s.jobs (job_by s.world s.book t.command p (s.last_job + 1) s.configuration.wait s.configuration.every) neat.jobs
      (job-within c s.world neat.flight.trim s.book (moment_at s) s.configuration.every t.command (s.last_job + 1) s.configuration.wait p free)
  outcome-jobs t o (comes.Recovered x asked) =
      let told = with_told s.configuration s.book x in
      recoveries-jobs (told ∷ []) (All-cons (λ (y : RecoveryBegins). IsRecoveryWithin c y.job) told [] (asked-within t x asked) (All-nil (λ (y : RecoveryBegins). IsRecoveryWithin c y.job)))
  outcome-jobs t o _ = neat.jobs

  scan-jobs : All P (settled s (scan_outcome s)).jobs
  scan-jobs =
      recoveries-jobs (recoveries_scanned s)
      (All-map (λ (y : RecoveryBegins). IsRecoveryWithin c y.job) (with_told s.configuration s.book) (scan_in s).begun
      (scan-within c s.world neat.flight.trim s.book (attempt_in s) s.configuration.wait s.audit s.last_job))

  -- ---- every turn

  turn-jobs : (rows : List Row) (t : Turn) → All P (turn_step rows s t).jobs
  turn-jobs rows t = turn-keeps rows s t (λ w us. All P us) (record {
    stays = neat.jobs;
    step = λ x is. neat.jobs;
    command = λ c at. outcome-jobs c (command_outcome s c) (command-comes s c);
    job = λ id at. jobs-turned id (job_at s.jobs id) refl;
    scan = scan-jobs;
    restart = All-nil P;
  })

pub neat-step : (c : Clusters) (count : ℕ) (rows : List Row) (s : State) (t : Turn) → Ready count s → HeldState s → IsTurn count t → IsNeatState c s → IsNeatState c (turn_step rows s t)
neat-step c count rows s t ready held is neat = record {
  flight = subst (IsNeat c) (sym (step-flown count rows s t ready is)) (neat-passing c (flight_of s) (passages_of s t) neat.flight (passages-neat c s held neat count t is));
  jobs = turn-jobs c s held neat rows t;
}
