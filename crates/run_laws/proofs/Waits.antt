-- The operations of each job may wait as often as the run allows.
use Rattle.std.proofs.Common.{All, List, None, Option, Some, [], ap, map, refl, subst, sym, true, ℕ, ◌+◌, ◌==◌, ◌∙◌, ◌∷◌, ◌≡◌}
use Rattle.run_laws.proofs.Prelude.{All-append, All-find, All-map, All-nil, All-push, Begins as RecoveryBegins, BegunJob, BegunMayWait, BookState}
use Rattle.run_laws.proofs.Prelude.{Command, CommandTurn, Configuration, Deed, Does, Exchange, IsTaken, Job, JobsMayWait, KeepsAlways, MayWait, Means}
use Rattle.run_laws.proofs.Prelude.{Moment, Observation, Op, Planner, RecoveryJob, Row, ServerNo, Stage, State, Turn, Turned, Unended, World}
use Rattle.run_laws.proofs.Prelude.{all-turned, always, attempt_in, borne, by_deed, command_outcome, decided_by, deed-taken, deed_of, ended_by}
use Rattle.run_laws.proofs.Prelude.{engine, entered, false≢true, fate_of, flown, follows_no_more, going, ground_of, hooked-has, is_going, job_at}
use Rattle.run_laws.proofs.Prelude.{job_by, job_in, jobs_turned, kept-whole, known_of, leaver, means_of, moved, next_count, number_of, option_map}
use Rattle.run_laws.proofs.Prelude.{promoted_in, recoveries_scanned, recovery_job, regroup_about, run_turns, scan_in, start, step, turn-idle}
use Rattle.run_laws.proofs.Prelude.{turn-taken, turn_of, turned, updated, with_told}
use Rattle.run_laws.proofs.Prelude.Turns
use Rattle.run_laws.proofs.Prelude.events
use Rattle.run_laws.proofs.Prelude.jobstep
use Rattle.run_laws.proofs.Prelude.move
use Rattle.run_laws.proofs.Prelude.taking
use Rattle.run_laws.proofs.Prelude.unended
use Rattle.run_laws.proofs.Prelude.comes
use Rattle.run_laws.proofs.Making as making
use Rattle.run_laws.proofs.Aims.{scan-each}
use Rattle.run_laws.proofs.Making.{command-holds, IsBegunBy, job-begun}
use Rattle.run_laws.proofs.Periods.{configured-comes, turn-configured}
use Rattle.run_laws.proofs.TurnJobs.{turn-keeps}

-- ---- as they begin

regroup-waits : (b : BookState) (by : Means) (id wait : ℕ) (o : Option ServerNo) → MayWait wait (regroup_about b by id wait o)
regroup-waits b by id wait None = refl
regroup-waits b by id wait (Some i) = refl

job-waits : (w : World) (b : BookState) (c : Command) (p : Planner) (id wait every : ℕ) → MayWait wait (job_by w b c p id wait every)
job-waits w b c p id wait every = go (means_of every p)
  where
    go : (by : Option Means) → MayWait wait (job_in w b c p id wait every by)
    go None = refl
    go (Some by) = regroup-waits b by id wait c.i

begun-waits : (s : State) (c : Command) (x : BegunJob) → IsBegunBy s c x → MayWait s.configuration.wait x.job
begun-waits s c x (making.Planned p route) = job-waits s.world s.book c p (s.last_job + 1) s.configuration.wait s.configuration.every
begun-waits s c x (making.Recovering y (comes.Fails i route at free)) = refl
begun-waits s c x (making.Recovering y (comes.Passes i d route at there free)) = refl

scanned-wait : (s : State) → All (λ x. x.job.core.wait ≡ s.configuration.wait) (recoveries_scanned s)
scanned-wait s =
    All-map (λ (x : RecoveryBegins). x.job.core.wait ≡ s.configuration.wait) (with_told s.configuration s.book) (scan_in s).begun
    (scan-each s.world s.book (attempt_in s) s.configuration.wait (λ x. (with_told s.configuration s.book x).job.core.wait ≡ s.configuration.wait) (λ z e asks. refl) s.audit s.last_job)

pub begun-may-wait : (s : State) → BegunMayWait s
begun-may-wait s = record { command = λ c x begun. begun-waits s c x (job-begun s c x begun); scan = scanned-wait s }

-- ---- a turn of a job leaves them

-- what goes on has the waits that it had
went-waits : (w : World) (k : Job) (rest : List Op) (d : Deed) (t : Turned) (ob : Option Observation) (es : List Exchange) (j : Job) → t ≡ going ob es j → IsTaken w k rest d t → j.wait ≡ k.wait
went-waits w k rest d t ob es j e (events.Done h) = sym (ap (λ (x : Turned). x.job.wait) e) ∙ h.wait
went-waits w k rest d t ob es j e (events.Waited h) = sym (ap (λ (x : Turned). x.job.wait) e) ∙ h.wait
went-waits w k rest d t ob es j e (events.Ended h) = let done = h.done in let goes : t.step ≡ jobstep.Going = ap (λ (x : Turned). x.step) e in absurd cc
went-waits w k rest d t ob es j e (events.Stopped h) = let failed = h.failed in let goes : t.step ≡ jobstep.Going = ap (λ (x : Turned). x.step) e in absurd cc

module _ (w : World) (b : BookState) (read : ℕ) (now : Moment) where
  does-wait : (r : RecoveryJob) (o : Op) (rest : List Op) (ob : Option Observation) (es : List Exchange) (j : Job) → Does w read now r o rest ob es j → j.wait ≡ r.core.wait
  does-wait r o rest ob es j did =
      went-waits w r.core rest (deed_of o) (Turns.settled r.core (by_deed w read now r.core rest (deed_of o))) ob es j (ap (Turns.settled r.core) did.goes) (deed-taken w read now r.core rest (deed_of o))

  module _ (wait : ℕ) where
    abbrev Waits : RecoveryJob → Type 0
    Waits r = r.core.wait ≡ wait

    decides-wait : (r : RecoveryJob) (d : move.Decision) → Waits r → Waits (decided_by (ground_of w b now) r d)
    decides-wait r move.Remains is = is
    decides-wait r d is = is

    enters-wait : (r : RecoveryJob) (x : Stage) → Waits r → Waits (entered r x)
    enters-wait r x is = go (leaver x)
      where
        go : (o : Option ServerNo) → Waits (record (follows_no_more r o) { stage = x })
        go None = is
        go (Some n) = is

    completes-wait : (r : RecoveryJob) (e : move.Ending) → Waits r → Waits (ended_by r e)
    completes-wait r move.Rests is = is
    completes-wait r e is = is

    bears-wait : (r : RecoveryJob) (e : move.Bearing) → Waits r → Waits (borne r (fate_of e))
    bears-wait r move.Drops is = is
    bears-wait r e is = is

    keeps-wait : KeepsAlways w b read now (λ v r. Waits r)
    keeps-wait = record {
      decides = λ r d may is. decides-wait r d is;
      does = λ r o rest ob es j did is. does-wait r o rest ob es j did ∙ is;
      enters = λ v r is. enters-wait r (moved r.stage) is;
      completes = λ v r e none may is. completes-wait r e is;
      bears = λ r o rest c ob e stops is may waits. bears-wait r e waits;
    }

  taken-waits : (r : RecoveryJob) → (taking.taken w b read now r).recovery.core.wait ≡ r.core.wait
  taken-waits r =
      kept-whole w b read now (Waits r.core.wait) (λ v x. Waits r.core.wait x) (λ v x. Waits r.core.wait x) (always w b read now (λ v x. Waits r.core.wait x) (keeps-wait r.core.wait))
      (record { fails = λ x c ob why is. is; finishes = λ x o rest lines is e waits. waits }) r refl

  next-waits : (wait : ℕ) (u : Unended) → is_going (flown w b read now u).step ≡ true → MayWait wait u → MayWait wait (flown w b read now u).next
  next-waits wait (unended.Recovery r docket) goes may =
      let t = taking.taken w b read now r in
      hooked-has (λ x. x.recovery.core.wait ≡ wait) docket (promoted_in b t) r t (λ told g. taken-waits r ∙ may) (λ told. may)
  next-waits wait (unended.Plan j) goes may = go j.ops refl
    where
      by : (t : Turned) (o : Op) (rest : List Op) → is_going t.step ≡ true → IsTaken w j rest (deed_of o) t → t.job.wait ≡ j.wait
      by t o rest goes (events.Done h) = h.wait
      by t o rest goes (events.Waited h) = h.wait
      by t o rest goes (events.Ended h) = absurd (false≢true (sym (ap is_going h.done) ∙ goes))
      by t o rest goes (events.Stopped h) = absurd (false≢true (sym (ap is_going h.failed) ∙ goes))

      go : (xs : List Op) → j.ops ≡ xs → MayWait wait (unended.Plan (turned w read now j).job)
      go [] is = absurd (false≢true (sym (ap is_going (turn-idle w read now j is)) ∙ goes))
      go (o ∷ rest) is = by (turned w read now j) o rest goes (turn-taken w read now j o rest is) ∙ may

-- ---- each turn

module _ (s : State) (all : All (MayWait s.configuration.wait) s.jobs) where
  command-waits : (c : CommandTurn) → All (MayWait s.configuration.wait) (updated (known_of s) (command_outcome s c).book).jobs
  command-waits c = command-holds s c (λ reads u. All (MayWait s.configuration.wait) (updated (known_of s) u).jobs) (record {
    stays = all;
    discovery = λ i. all;
    removal = λ i. all;
    decides = λ d. all;
    begins = λ p.
        All-push (MayWait s.configuration.wait) s.jobs (job_by s.world s.book c.command p (s.last_job + 1) s.configuration.wait s.configuration.every) all
        (job-waits s.world s.book c.command p (s.last_job + 1) s.configuration.wait s.configuration.every);
    recovers = λ i. All-push (MayWait s.configuration.wait) s.jobs _ all refl;
    takes = λ i d. All-push (MayWait s.configuration.wait) s.jobs _ all refl;
  })

  turned-wait : (id : ℕ) (o : Option Unended) → job_at s.jobs id ≡ o → All (MayWait s.configuration.wait) (jobs_turned s.jobs id (option_map (turn_of s) o))
  turned-wait id None at = all
  turned-wait id (Some u) at =
      all-turned (MayWait s.configuration.wait) (MayWait s.configuration.wait) id (λ k apart h. h) s.jobs (turn_of s u)
      (λ going. next-waits s.world s.book (next_count s.reads) (record { 0 = s.moment }) s.configuration.wait u going (All-find (MayWait s.configuration.wait) (λ (k : Unended). number_of k == id) s.jobs u all at)) all

  turn-waits : (rows : List Row) (t : Turn) → All (MayWait s.configuration.wait) (step rows s t).jobs
  turn-waits rows t = turn-keeps rows s t (λ w us. All (MayWait s.configuration.wait) us) (record {
    stays = all;
    step = λ x is. all;
    command = λ c at. command-waits c;
    job = λ id at. turned-wait id (job_at s.jobs id) refl;
    scan = All-append (MayWait s.configuration.wait) s.jobs (map recovery_job (recoveries_scanned s)) all (All-map (MayWait s.configuration.wait) recovery_job (recoveries_scanned s) (scanned-wait s));
    restart = All-nil (MayWait s.configuration.wait);
  })

-- by what holds throughout the run
AllWaitSo : State → Type 0
AllWaitSo s = All (MayWait s.configuration.wait) s.jobs

run-waits : (s : State) (xs : List (List Row × Turn)) → AllWaitSo s → AllWaitSo (run_turns engine s xs)
unfolding AllWaitSo
run-waits s [] all = all
run-waits s (x ∷ xs) all =
    run-waits (step x.0 s x.1) xs (subst (λ (k : ℕ). All (MayWait k) (step x.0 s x.1).jobs) (sym (ap (λ (c : Configuration). c.wait) (turn-configured x.0 s x.1))) (turn-waits s all x.0 x.1))

pub jobs-may-wait : JobsMayWait
unfolding AllWaitSo
jobs-may-wait s xs now comes =
    let same : now.configuration.wait ≡ comes.wait = ap (λ (c : Configuration). c.wait) (configured-comes s xs now comes) in
    let all = subst AllWaitSo (sym comes.state) (run-waits (start s comes.wait comes.rows) xs (All-nil (MayWait comes.wait))) in
    (same, subst (λ (k : ℕ). All (MayWait k) now.jobs) same all)
