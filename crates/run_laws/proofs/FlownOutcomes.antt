-- A command or a scan leaves what its `Passage`s leave.
use Rattle.std.proofs.Common.{◌≡◌, ◌∙◌, ℕ, ◌+◌, ◌<◌, ◌≤◌, Bool, true, false, List, [], ◌∷◌, ◌++◌, length, refl, sym, ap, subst, Option, Some, None, Result, Ok, Err, All, ◌&&◌, ◌==◌, is_some, map, nat_lt, not, if◌then◌else◌}
use Rattle.run_laws.proofs.Prelude.{All-cons, All-map, All-nil, AllMayPass, AllPassWell, AreShort, Asks, AuditState, BeginInTurn}
use Rattle.run_laws.proofs.Prelude.{Begins as RecoveryBegins, BookState, Bridge, CanBegin, Command, CommandTurn, Coordinates, Decided, Decides}
use Rattle.run_laws.proofs.Prelude.{Decision, Discovers, Effect, Flight, Forgets, Gtids, HeldJobs, HeldState, Instance, IsBook, IsCommand}
use Rattle.run_laws.proofs.Prelude.{IsHeldBeside, IsQuiet, IsSoundBeside, Job, Keys, Leases, Line, Matches, Means, Moment, NamesLogging, Observation}
use Rattle.run_laws.proofs.Prelude.{Outcome, Passage, Paths, Planner, Ready, Recovers, Refusal, Route, Row, ServerNo, SoundJobs, SoundState, State}
use Rattle.run_laws.proofs.Prelude.{Status as Seen, TakesOver, UnknownInstance, Unreachable, World, about as given_or, about_one, acked, added_over}
use Rattle.run_laws.proofs.Prelude.{after_change, after_put, allowed, apart-held, apart-sound, asked, attempt_in, begin-held, begin-sound, bridge_in}
use Rattle.run_laws.proofs.Prelude.{by_command, by_discovery, by_hand, by_instance, by_permission, by_recoveries, by_recovery, by_removal, by_route}
use Rattle.run_laws.proofs.Prelude.{by_takeover, by_try, candidate_of, command_outcome, core_of, cores-joined, decided, decided_of, discovered}
use Rattle.run_laws.proofs.Prelude.{discovered_over, downtime_at, downtime_begun, downtime_ended, downtime_of, downtime_removal, effect_by, flight_of}
use Rattle.run_laws.proofs.Prelude.{forgotten, has_row, instance_at, is_within, job-number, job_by, job_in, job_with, known_of, label_at, leased_to}
use Rattle.run_laws.proofs.Prelude.{leases_after, leases_by, leases_of, lines_of, list_any, longest_block, ltb-true, may-take, means_of, moment_at}
use Rattle.run_laws.proofs.Prelude.{next_count, no_docket, number_of, numbers_of, outcome_by, outcome_of, passing, period_by, permitted, plan_by}
use Rattle.run_laws.proofs.Prelude.{put_change, question, reading, recovered, recoveries_scanned, recovery-begins, recovery-held, recovery-sound}
use Rattle.run_laws.proofs.Prelude.{recovery_begun, recovery_job, recovery_try, refusal, refusal_by, regroup_about, removal_refusal, renewed}
use Rattle.run_laws.proofs.Prelude.{renewed_book, replicas_of, ringed, route_of, scan-in-turn, scan_in, scan_outcome, taken-leases, taken_over}
use Rattle.run_laws.proofs.Prelude.{takeover-begins, takeover_try, takes_first, told-can, told-in-turn, told_try, updated, with_told}
use Rattle.run_laws.proofs.Prelude.Outcomes.{begun}
use Rattle.run_laws.proofs.Prelude.Decisions.{about, registered}
use Rattle.run_laws.proofs.Prelude.JobLaws.{Begins as JobBegins}
use Rattle.run_laws.proofs.Prelude.route.{Begins}
use Rattle.run_laws.proofs.Prelude.change
use Rattle.run_laws.proofs.Prelude.command
use Rattle.run_laws.proofs.Prelude.coords
use Rattle.run_laws.proofs.Prelude.decision
use Rattle.run_laws.proofs.Prelude.effect
use Rattle.run_laws.proofs.Prelude.gtids
use Rattle.run_laws.proofs.Prelude.kept_row as row
use Rattle.run_laws.proofs.Prelude.key
use Rattle.run_laws.proofs.Prelude.matches
use Rattle.run_laws.proofs.Prelude.matching
use Rattle.run_laws.proofs.Prelude.means
use Rattle.run_laws.proofs.Prelude.pass
use Rattle.run_laws.proofs.Prelude.paths
use Rattle.run_laws.proofs.Prelude.purpose
use Rattle.run_laws.proofs.Prelude.table
use Rattle.run_laws.proofs.Periods.{short-by}
use Rattle.run_laws.proofs.ReadyOutcomes.{within-book}
use Rattle.run_laws.proofs.Listing.{listed-behind}
use Rattle.run_laws.proofs.Naming.{scan-logs, taking-logs, try-logs}
use Rattle.run_laws.proofs.HeldLines.{IsOnItsWay}
use Rattle.run_laws.proofs.PlanTurns.{AllOnWay, begun-on-way, permitted-on-way}
use Rattle.run_laws.proofs.Recoveries.{recoveries-flown, recoveries-held, recoveries-may, recoveries-on-way, recoveries-sound, recoveries-well}

-- what an outcome makes of a `Flight`
abbrev flight_with : State → Outcome → Flight
flight_with s o = record (flight_of s) { rings = (updated (known_of s) o.book).book.rings; jobs = map core_of (updated (known_of s) o.book).jobs; leases = leases_of (updated (known_of s) o.book).book.leases }

-- An outcome leaves what the `Passage`s leave, each of which may happen, and happens well. All that goes on beside
-- keeps `Held`, and `Sound` if it has it, and the lines of plans' jobs stay on their way.
pub record Leaves (s : State) (ps : List Passage) (o : Outcome) : Type 0 where
  pub flown : flight_with s o ≡ passing (flight_of s) ps
  pub may : AllMayPass (flight_of s) ps
  pub well : AllPassWell (flight_of s) ps
  pub held : HeldState s → HeldJobs (passing (flight_of s) ps) (updated (known_of s) o.book).jobs
  pub sound : HeldState s → SoundState s → IsQuiet s.world → SoundJobs (passing (flight_of s) ps) (updated (known_of s) o.book).jobs
  pub on_way : AllOnWay (flight_of s) s.jobs → AllOnWay (passing (flight_of s) ps) (updated (known_of s) o.book).jobs

-- ---- readings that the book takes

added-rings : (b : BookState) (o : Observation) (x : Option Seen) → (added_over b o x).rings ≡ ringed b.rings o.no (bridge_in o.no x)
added-rings b o None = refl
added-rings b o (Some seen) = refl

added-leases : (b : BookState) (o : Observation) (x : Option Seen) → (added_over b o x).leases ≡ b.leases
added-leases b o None = refl
added-leases b o (Some seen) = refl

-- a `Flight` with the bridges and leases of a book
abbrev pub kept_in : Flight → List (List Bridge) → List (Option ℕ) → Flight
kept_in f rings leases = record f { rings = rings; leases = leases_of leases }

pub kept-same : (f : Flight) (r r' : List (List Bridge)) (l l' : List (Option ℕ)) → r ≡ r' → l ≡ l' → kept_in f r l ≡ kept_in f r' l'
kept-same f r r' l l' rings leases = ap (λ (x : List (List Bridge)). kept_in f x l) rings ∙ ap (λ (x : List (Option ℕ)). kept_in f r' x) leases

found-flown : (f : Flight) (b : BookState) (o : Observation) (x : Option Instance)
    → kept_in f (discovered_over b o x).rings (discovered_over b o x).leases ≡ (if takes_first x o then kept_in f (ringed b.rings o.no (bridge_in o.no o.seen)) b.leases else kept_in f b.rings b.leases)
found-flown f b o None = kept-same f _ _ _ _ (added-rings b o o.seen) (added-leases b o o.seen)
found-flown f b o (Some kept) = go (nat_lt o.read kept.read)
  where
    go : (old : Bool) → kept_in f (if old then b else renewed_book b o (Some (renewed kept o))).rings (if old then b else renewed_book b o (Some (renewed kept o))).leases
        ≡ (if not old then kept_in f (ringed b.rings o.no (bridge_in o.no o.seen)) b.leases else kept_in f b.rings b.leases)
    go true = refl
    go false = refl

-- an effect leaves bridges and leases
abbrev IsStill : BookState → Effect → Type 0
IsStill b effect.Stays = Unit {0}
IsStill b (effect.Change c) = ((after_change b c).rings ≡ b.rings) × ((after_change b c).leases ≡ b.leases)
IsStill b (effect.Acks cluster) = Unit {0}

module _ (b : BookState) where
  put-still : (r : Row) → (after_put b r).rings ≡ b.rings → (after_put b r).leases ≡ b.leases → IsStill b (effect_by (put_change b r))
  put-still r rings leases = go (has_row b r)
    where
      go : (had : Bool) → IsStill b (effect_by (if had then None else Some (change.Put r)))
      go true = tt
      go false = (rings, leases)

  removal-still : (i : ServerNo) → IsStill b (effect_by (downtime_removal b i))
  removal-still i = go (is_some (downtime_at b i (record { 0 = 0 })))
    where
      go : (kept : Bool) → IsStill b (effect_by (if kept then Some (change.Remove table.Downtime (key.Server i)) else None))
      go true = (refl, refl)
      go false = tt

  about-still : (f : ServerNo → Decided) → ((i : ServerNo) → IsStill b (f i).effect) → (i : Option ServerNo) → IsStill b (about f i).effect
  about-still f each None = tt
  about-still f each (Some i) = each i

  decided-still : (a : AuditState) (now : Moment) (k : Keys) (i : Option ServerNo) (d : Decision) → IsStill b (decided_of b a now k i d).effect
  decided-still a now k i decision.BeginDowntime = about-still (λ n. downtime_begun b (downtime_of now k n)) (λ n. put-still (row.Downtime (downtime_of now k n)) refl refl) i
  decided-still a now k i decision.EndDowntime = about-still (downtime_ended b) removal-still i
  decided-still a now k i decision.RegisterCandidate = about-still (λ n. registered b (candidate_of now k n)) (λ n. put-still (row.Candidate (candidate_of now k n)) refl refl) i
  decided-still a now k i decision.DisableRecoveries = put-still (row.Switch false) refl refl
  decided-still a now k i decision.EnableRecoveries = put-still (row.Switch true) refl refl
  decided-still a now k i decision.AckRecoveries = about-still (acked b a) (λ n. tt) i

-- the plan of a command that isn't refused may begin
plan-begins : (w : World) (b : BookState) (now : Moment) (js : List Job) (c : Command) (p : Planner) (id wait every : ℕ) → refusal_by w b now every c p ≡ None
    → JobBegins w js (leases_of b.leases) (leases_by w b c p) (job_with id wait (plan_by w b every c p))
plan-begins w b now js c (Coordinates kind) id wait every h = coords.permitted-begin w b js (Some kind) c id wait h
plan-begins w b now js c (Gtids kind) id wait every h = gtids.permitted-begin w b js (Some kind) c id wait h
plan-begins w b now js c (Paths kind) id wait every h = paths.permitted-begin w b now js (Some kind) c id wait h
plan-begins w b now js c (Matches kind) id wait every h = matches.permitted-begin w b js now every (Some kind) c id wait h

-- and so may its job: a regroup has no operations yet
permitted-begin : (w : World) (b : BookState) (now : Moment) (js : List Job) (c : Command) (p : Planner) (id wait every : ℕ) → refusal_by w b now every c p ≡ None
    → JobBegins w js (leases_of b.leases) (leases_by w b c p) (core_of (job_by w b c p id wait every))
permitted-begin w b now js c p id wait every h = go (means_of every p)
  where
    free : (n : ℕ) → list_any (λ k. k.0 == n) (leases_by w b c p) ≡ true → leases_of b.leases n ≡ None
    free = (plan-begins w b now js c p id wait every h).free

    regroup : (by : Means) (i : Option ServerNo) → JobBegins w js (leases_of b.leases) (leases_by w b c p) (core_of (regroup_about b by id wait i))
    regroup by None = record { seen = refl; hands = refl; left = refl; found = refl; matched = refl; listed = refl; free = free }
    regroup by (Some i) = record { seen = refl; hands = refl; left = refl; found = refl; matched = refl; listed = refl; free = free }

    go : (by : Option Means) → JobBegins w js (leases_of b.leases) (leases_by w b c p) (core_of (job_in w b c p id wait every by))
    go None = plan-begins w b now js c p id wait every h
    go (Some by) = regroup by c.i

-- a regroup has the leases of the instance and the replicas
regroup-beside : (w : World) (b : BookState) (l : Leases) (by : Means) (id wait : ℕ) (i d : Option ServerNo)
    → IsHeldBeside w (leased_to l (about_one [] (λ n m. n ∷ replicas_of b n) i d) id) (regroup_about b by id wait i)
regroup-beside w b l by id wait None d = tt
regroup-beside w b l by id wait (Some i) d = recovery-held w l (i ∷ replicas_of b i) purpose.Regroup by id wait i (replicas_of b i) (replicas_of b i) no_docket (listed-behind i (replicas_of b i)) tt tt

job-beside : (w : World) (b : BookState) (l : Leases) (c : Command) (p : Planner) (id wait every : ℕ)
    → IsHeldBeside w (leased_to l (leases_by w b c p) id) (job_by w b c p id wait every)
job-beside w b l c (Paths command.RegroupReplicas) id wait every = regroup-beside w b l means.Bridges id wait c.i c.d
job-beside w b l c (Matches matching.RegroupReplicas) id wait every = regroup-beside w b l (means.Matches every) id wait c.i c.d
job-beside w b l c _ id wait every = tt

regroup-sound : (w : World) (b : BookState) (by : Means) (id wait : ℕ) (i : Option ServerNo) → IsSoundBeside w (regroup_about b by id wait i)
regroup-sound w b by id wait None = tt
regroup-sound w b by id wait (Some i) = recovery-sound w purpose.Regroup by id wait i (replicas_of b i) (replicas_of b i) no_docket

job-sound : (w : World) (b : BookState) (c : Command) (p : Planner) (id wait every : ℕ) → IsSoundBeside w (job_by w b c p id wait every)
job-sound w b c p id wait every = go (means_of every p)
  where
    go : (by : Option Means) → IsSoundBeside w (job_in w b c p id wait every by)
    go None = tt
    go (Some by) = regroup-sound w b by id wait c.i

module _ (s : State) where
  -- what changes neither bridges nor leases nor jobs passes nothing
  Leaves-refusal : (reads : ℕ) (r : Refusal) → Leaves s [] (refusal reads r)
  Leaves-refusal reads r = record { flown = refl; may = tt; well = tt; held = λ h. h; sound = λ h x q. x; on_way = λ k. k }

  Leaves-asked : (reads : ℕ) (p : Result Unit Refusal) (lines : List Line) → Leaves s [] (asked reads p lines)
  Leaves-asked reads (Ok permit) lines = record { flown = refl; may = tt; well = tt; held = λ h. h; sound = λ h x q. x; on_way = λ k. k }
  Leaves-asked reads (Err r) lines = Leaves-refusal reads r

  Leaves-forgotten : (reads : ℕ) (p : Result Unit Refusal) (i : ServerNo) → Leaves s (by_removal p i) (forgotten reads p i)
  Leaves-forgotten reads (Ok permit) i = record {
    flown = refl;
    may = (tt, tt);
    well = (tt, tt);
    held = apart-held (flight_of s) s.jobs (pass.Forgetting i) tt tt;
    sound = λ h x q. apart-sound (flight_of s) s.jobs (pass.Forgetting i) tt tt q h x;
    on_way = λ k. k;
  }
  Leaves-forgotten reads (Err r) i = Leaves-refusal reads r

  Leaves-discovered : (i : ServerNo) → Leaves s (by_discovery s i) (discovered s.book s.reads (reading s i) (reading s i).seen)
  Leaves-discovered i = at (reading s i).seen
    where
      passed-if : (b : Bool) → (if b then kept_in (flight_of s) (ringed s.book.rings i (bridge_in i (reading s i).seen)) s.book.leases else kept_in (flight_of s) s.book.rings s.book.leases)
          ≡ passing (flight_of s) (if b then pass.Discovering i (next_count s.reads) (record { 0 = s.moment }) ∷ [] else [])
      passed-if true = refl
      passed-if false = refl

      may-if : (b : Bool) → AllMayPass (flight_of s) (if b then pass.Discovering i (next_count s.reads) (record { 0 = s.moment }) ∷ [] else [])
      may-if true = (tt, tt)
      may-if false = tt

      well-if : (b : Bool) → AllPassWell (flight_of s) (if b then pass.Discovering i (next_count s.reads) (record { 0 = s.moment }) ∷ [] else [])
      well-if true = (tt, tt)
      well-if false = tt

      held-if : (b : Bool) → HeldState s → HeldJobs (passing (flight_of s) (if b then pass.Discovering i (next_count s.reads) (record { 0 = s.moment }) ∷ [] else [])) s.jobs
      held-if true h = apart-held (flight_of s) s.jobs (pass.Discovering i (next_count s.reads) (record { 0 = s.moment })) tt tt h
      held-if false h = h

      sound-if : (b : Bool) → HeldState s → SoundState s → IsQuiet s.world → SoundJobs (passing (flight_of s) (if b then pass.Discovering i (next_count s.reads) (record { 0 = s.moment }) ∷ [] else [])) s.jobs
      sound-if true h x q = apart-sound (flight_of s) s.jobs (pass.Discovering i (next_count s.reads) (record { 0 = s.moment })) tt tt q h x
      sound-if false h x q = x

      on-if : (b : Bool) → AllOnWay (flight_of s) s.jobs → AllOnWay (passing (flight_of s) (if b then pass.Discovering i (next_count s.reads) (record { 0 = s.moment }) ∷ [] else [])) s.jobs
      on-if true k = k
      on-if false k = k

      at : (x : Option Seen) → Leaves s (if (is_some x && takes_first (instance_at s.book i) (reading s i)) then pass.Discovering i (next_count s.reads) (record { 0 = s.moment }) ∷ [] else []) (discovered s.book s.reads (reading s i) x)
      at None = Leaves-refusal s.reads (Unreachable i)
      at (Some seen) = record {
        flown = found-flown (flight_of s) s.book (reading s i) (instance_at s.book i) ∙ passed-if (takes_first (instance_at s.book i) (reading s i));
        may = may-if (takes_first (instance_at s.book i) (reading s i));
        well = well-if (takes_first (instance_at s.book i) (reading s i));
        held = held-if (takes_first (instance_at s.book i) (reading s i));
        sound = sound-if (takes_first (instance_at s.book i) (reading s i));
        on_way = on-if (takes_first (instance_at s.book i) (reading s i));
      }

  -- a decision
  Leaves-effect : (reads : ℕ) (a : AuditState) (lines : List Line) (e : Effect) → IsStill s.book e → Leaves s [] (decided reads a (Ok tt) (record { lines = lines; effect = e }))
  Leaves-effect reads a lines effect.Stays still = record { flown = refl; may = tt; well = tt; held = λ h. h; sound = λ h x q. x; on_way = λ k. k }
  Leaves-effect reads a lines (effect.Change c) still = record {
    flown = kept-same (flight_of s) _ _ _ _ still.0 still.1;
    may = tt;
    well = tt;
    held = λ h. h;
    sound = λ h x q. x;
    on_way = λ k. k;
  }
  Leaves-effect reads a lines (effect.Acks cluster) still = record { flown = refl; may = tt; well = tt; held = λ h. h; sound = λ h x q. x; on_way = λ k. k }

  Leaves-decided : (reads : ℕ) (a : AuditState) (p : Result Unit Refusal) (d : Decided) → IsStill s.book d.effect → Leaves s [] (decided reads a p d)
  Leaves-decided reads a (Ok permit) d still = Leaves-effect reads a d.lines d.effect still
  Leaves-decided reads a (Err r) d still = Leaves-refusal reads r

module _ (s : State) (is : IsBook s.book) (periods : AreShort s.configuration) where
  -- a job begins
  Leaves-begun : (t : CommandTurn) (p : Planner) (r : Option Refusal) → refusal_by s.world s.book (moment_at s) s.configuration.every t.command p ≡ r
      → is_within (length s.book.names) t.command.i ≡ true → is_within (length s.book.names) t.command.d ≡ true
      → Leaves s (by_permission s t.command p r) (begun (numbers_of s) r (leases_by s.world s.book t.command p) (job_by s.world s.book t.command p (s.last_job + 1) s.configuration.wait s.configuration.every))
  Leaves-begun t p (Some why) refuses i_within d_within = Leaves-refusal s s.reads why
  Leaves-begun t p None refuses i_within d_within =
      let list = leases_by s.world s.book t.command p in
      let job = job_by s.world s.book t.command p (s.last_job + 1) s.configuration.wait s.configuration.every in
      let free = may-take s.world s.book (moment_at s) s.configuration.every t.command p is i_within d_within refuses in
      let there : All (λ k. k.0 < length s.book.leases) list = subst (λ (n : ℕ). All (λ (k : ServerNo). k.0 < n) list) (sym is.leases) free.known in
      let may = permitted-begin s.world s.book (moment_at s) (map core_of s.jobs) t.command p (s.last_job + 1) s.configuration.wait s.configuration.every refuses in
      let same : number_of job ≡ s.last_job + 1 = job-number s.world s.book t.command p (s.last_job + 1) s.configuration.wait s.configuration.every in
      let beside : IsHeldBeside s.world (leased_to (leases_of s.book.leases) list (number_of job)) job =
      subst (λ (n : ℕ). IsHeldBeside s.world (leased_to (leases_of s.book.leases) list n) job) (sym same)
      (job-beside s.world s.book (leases_of s.book.leases) t.command p (s.last_job + 1) s.configuration.wait s.configuration.every) in
      let good = job-sound s.world s.book t.command p (s.last_job + 1) s.configuration.wait s.configuration.every in
      let way : IsOnItsWay s.world (leased_to (leases_of s.book.leases) list (number_of job)) job =
      subst (λ (n : ℕ). IsOnItsWay s.world (leased_to (leases_of s.book.leases) list n) job) (sym same)
      (permitted-on-way s.world (leases_of s.book.leases) s.book (moment_at s) (map core_of s.jobs) t.command p (s.last_job + 1) s.configuration.wait s.configuration.every refuses may) in
      record {
        flown = ap (λ (l : ℕ → Option ℕ). record (flight_of s) { jobs = map core_of (s.jobs ++ job ∷ []); leases = l }) (taken-leases s.book.leases list (number_of job) there)
            ∙ ap (λ (js : List Job). record (flight_of s) { jobs = js; leases = leased_to (leases_of s.book.leases) list (number_of job) }) (cores-joined s.jobs job);
        may = (may, tt);
        well = (tt, tt);
        held = begin-held (flight_of s) s.jobs list job may beside;
        sound = λ h x q. begin-sound (flight_of s) s.jobs list job may good h x;
        on_way = begun-on-way (flight_of s) s.jobs list job may way;
      }

  -- recoveries begin
  module _ (xs : List RecoveryBegins) (each : BeginInTurn (length s.book.names) s.book.leases s.audit s.last_job xs) where
    begun-flown : record (flight_of s) { jobs = map core_of (s.jobs ++ map recovery_job xs); leases = leases_of (leases_after s.book.leases xs) } ≡ passing (flight_of s) (by_recoveries xs)
    begun-flown = recoveries-flown (length s.book.names) (flight_of s) s.jobs s.book.leases s.audit s.last_job xs each is.leases

    begun-may : AllMayPass (flight_of s) (by_recoveries xs)
    begun-may = recoveries-may (length s.book.names) (flight_of s) s.book.leases s.audit s.last_job xs each is.leases refl

    begun-held : All (λ x. NamesLogging s.world x.job.purpose) xs → HeldState s → HeldJobs (passing (flight_of s) (by_recoveries xs)) (s.jobs ++ map recovery_job xs)
    begun-held = recoveries-held (length s.book.names) (flight_of s) s.jobs s.book.leases s.audit s.last_job xs each is.leases refl

    begun-sound : All (λ x. NamesLogging s.world x.job.purpose) xs → HeldState s → SoundState s → IsQuiet s.world → SoundJobs (passing (flight_of s) (by_recoveries xs)) (s.jobs ++ map recovery_job xs)
    begun-sound logs h x q = recoveries-sound (length s.book.names) (flight_of s) s.jobs s.book.leases s.audit s.last_job xs each is.leases refl logs h x

    begun-on : AllOnWay (flight_of s) s.jobs → AllOnWay (passing (flight_of s) (by_recoveries xs)) (s.jobs ++ map recovery_job xs)
    begun-on = recoveries-on-way (length s.book.names) (flight_of s) s.jobs s.book.leases s.audit s.last_job xs each is.leases refl

  -- the block period of a server's recovery isn't too long
  short : (n : ServerNo) → period_by s.configuration (label_at s.book n) ≤ longest_block
  short n = short-by s.configuration periods (label_at s.book n)

  Leaves-recovery : (r : Result RecoveryBegins Refusal) → ((x : RecoveryBegins) → r ≡ Ok x → CanBegin (length s.book.names) s.book.leases s.audit s.last_job x)
      → ((x : RecoveryBegins) → r ≡ Ok x → NamesLogging s.world x.job.purpose) → Leaves s (by_try (told_try s.configuration s.book r)) (recovery_begun (numbers_of s) (told_try s.configuration s.book r))
  Leaves-recovery (Ok x) can names =
      let xs = with_told s.configuration s.book x ∷ [] in
      let each : BeginInTurn (length s.book.names) s.book.leases s.audit s.last_job xs = (told-can s.configuration s.book (length s.book.names) s.book.leases s.audit s.last_job x (can x refl), tt) in
      let logs = All-cons (λ (y : RecoveryBegins). NamesLogging s.world y.job.purpose) (with_told s.configuration s.book x) [] (names x refl) (All-nil (λ (y : RecoveryBegins). NamesLogging s.world y.job.purpose)) in
      record { flown = begun-flown xs each; may = begun-may xs each; well = recoveries-well (flight_of s) xs; held = begun-held xs each logs; sound = begun-sound xs each logs; on_way = begun-on xs each }
  Leaves-recovery (Err why) can names = Leaves-refusal s s.reads why

  Leaves-recovered : (i : ServerNo) → i.0 < length s.book.names → Leaves s (by_recovery s i) (recovered s.world s.book s.audit s.configuration (numbers_of s) i)
  Leaves-recovered i within =
      Leaves-recovery (recovery_try s.world s.book s.audit (by_hand s.book s.configuration (numbers_of s) i) s.configuration.wait (s.last_job + 1) i)
      (λ x e. recovery-begins s.world s.book s.audit (by_hand s.book s.configuration (numbers_of s) i) s.configuration.wait s.last_job is (short i) i x within e)
      (try-logs s.world s.book s.audit (by_hand s.book s.configuration (numbers_of s) i) s.configuration.wait (s.last_job + 1) i)

  Leaves-taken_over : (d : Option ServerNo) → is_within (length s.book.names) d ≡ true → (i : ServerNo) → i.0 < length s.book.names
      → Leaves s (by_takeover s d i) (taken_over s.world s.book s.audit s.configuration (numbers_of s) d i)
  Leaves-taken_over None there i within = Leaves-refusal s s.reads UnknownInstance
  Leaves-taken_over (Some d) there i within =
      Leaves-recovery (takeover_try s.world s.book s.audit (by_hand s.book s.configuration (numbers_of s) i) s.configuration.wait (s.last_job + 1) i d)
      (λ x e. takeover-begins s.world s.book s.audit (by_hand s.book s.configuration (numbers_of s) i) s.configuration.wait s.last_job is (short i) i d x within (ltb-true d.0 (length s.book.names) there) e)
      (taking-logs s.world s.book s.audit (by_hand s.book s.configuration (numbers_of s) i) s.configuration.wait (s.last_job + 1) i d)

  -- ---- a scan

  scan-leaves : Leaves s (by_recoveries (recoveries_scanned s)) (scan_outcome s)
  scan-leaves =
      let xs = recoveries_scanned s in
      let each = told-in-turn s.configuration s.book (length s.book.names) s.book.leases s.audit s.last_job (scan_in s).begun (scan-in-turn s.world s.book (attempt_in s) s.configuration.wait s.audit s.last_job is short) in
      let logs = All-map (λ (y : RecoveryBegins). NamesLogging s.world y.job.purpose) (with_told s.configuration s.book) (scan_in s).begun
      (scan-logs s.world s.book (attempt_in s) s.configuration.wait s.audit s.last_job) in
      record { flown = begun-flown xs each; may = begun-may xs each; well = recoveries-well (flight_of s) xs; held = begun-held xs each logs; sound = begun-sound xs each logs; on_way = begun-on xs each }

  -- ---- any command

  module _ (t : CommandTurn) (i_within : is_within (length s.book.names) t.command.i ≡ true) (d_within : is_within (length s.book.names) t.command.d ≡ true) where
    asks : Leaves s [] (question s.book s.audit s.reads t)
    asks = Leaves-asked s s.reads (permitted s.book t.command) (lines_of s.book s.audit.recoveries t t.command.name)

    given : (none : Outcome) (passages : ServerNo → List Passage) (some : ServerNo → Outcome) → Leaves s [] none → ((i : ServerNo) → i.0 < length s.book.names → Leaves s (passages i) (some i))
        → (i : Option ServerNo) → is_within (length s.book.names) i ≡ true → Leaves s (by_instance passages i) (given_or none some i)
    given none passages some here each None within = here
    given none passages some here each (Some i) within = each i (ltb-true i.0 (length s.book.names) within)

    Leaves-route : (r : Route) → route_of t.command.name ≡ r → Leaves s (by_route s t.command r) (outcome_by s.world s.book s.audit s.configuration (numbers_of s) t r)
    Leaves-route Discovers at =
        given (question s.book s.audit s.reads t) (by_discovery s) (λ i. discovered s.book s.reads (reading s i) (reading s i).seen) asks (λ i h. Leaves-discovered s i) t.command.i i_within
    Leaves-route Forgets at =
        given (question s.book s.audit s.reads t) (by_removal (allowed (removal_refusal s.book t.command))) (forgotten s.reads (allowed (removal_refusal s.book t.command))) asks
        (λ i h. Leaves-forgotten s s.reads (allowed (removal_refusal s.book t.command)) i) t.command.i i_within
    Leaves-route (Asks q) at = asks
    Leaves-route (Decides d) at =
        Leaves-decided s s.reads s.audit (permitted s.book t.command) (decided_of s.book s.audit (moment_at s) t.keys t.command.i d) (decided-still s.book s.audit (moment_at s) t.keys t.command.i d)
    Leaves-route (Begins p) at = Leaves-begun t p (refusal_by s.world s.book (moment_at s) s.configuration.every t.command p) refl i_within d_within
    Leaves-route Recovers at =
        given (refusal s.reads UnknownInstance) (by_recovery s) (recovered s.world s.book s.audit s.configuration (numbers_of s)) (Leaves-refusal s s.reads UnknownInstance) Leaves-recovered t.command.i i_within
    Leaves-route TakesOver at =
        given (refusal s.reads UnknownInstance) (by_takeover s t.command.d) (taken_over s.world s.book s.audit s.configuration (numbers_of s) t.command.d) (Leaves-refusal s s.reads UnknownInstance)
        (Leaves-taken_over t.command.d d_within) t.command.i i_within

pub Leaves-command : (count : ℕ) (s : State) (c : CommandTurn) → Ready count s → IsCommand count c → Leaves s (by_command s c.command) (command_outcome s c)
unfolding outcome_of
Leaves-command count s c ready command =
    let within = within-book count s ready c command in
    Leaves-route s ready.book ready.periods c within.0 within.1 (route_of c.command.name) refl

pub Leaves-scan : (count : ℕ) (s : State) → Ready count s → Leaves s (by_recoveries (recoveries_scanned s)) (scan_outcome s)
Leaves-scan count s ready = scan-leaves s ready.book ready.periods
