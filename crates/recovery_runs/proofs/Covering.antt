-- Each turn leaves recoveries covered, kept, speaking and aimed.
use Rattle.std.proofs.Common.{ℕ, List, refl, sym, subst, Option, Some, None, All}
use Rattle.recovery_runs.proofs.Prelude.{Act, AimedState, All-nil, All-weaker, BeginsOnce, CommandTurn, CoveredJobs, CoveredState, Flight, HeldState}
use Rattle.recovery_runs.proofs.Prelude.{IsAimedBeside, IsCommand, IsCoveredBeside, IsKeptBeside, IsOutside, IsSpeakingBeside, IsTurn, KeptJobs}
use Rattle.recovery_runs.proofs.Prelude.{KeptState, Ready, Recovery, Row, Scenario, SoundState, SpeakingState, State, Step, Turn, Unended, World}
use Rattle.recovery_runs.proofs.Prelude.{act_in, acts-fit, after_act, after_done, apart-stays, command_outcome, exchange_of, flight_of, flown, job_at}
use Rattle.recovery_runs.proofs.Prelude.{jobs_begun, jobs_done, jobs_in_act, jobs_of, known_of, moment_at, next_count, none-aimed, none-covered}
use Rattle.recovery_runs.proofs.Prelude.{none-kept, number-aimed, number-covered, number-kept, number-speaking, outside-stays, recovery-covered}
use Rattle.recovery_runs.proofs.Prelude.{recovery-kept, recovery-speaks, scan_outcome, start, step as turn_step, step-may, takes, turn-keeps, updated}
use Rattle.recovery_runs.proofs.Prelude.act
use Rattle.recovery_runs.proofs.Prelude.pass
use Rattle.recovery_runs.proofs.Prelude.turn
use Rattle.recovery_runs.proofs.Prelude.turns_step as step
use Rattle.recovery_runs.proofs.Prelude.unended
use Rattle.recovery_runs.proofs.Begun.{command-once, scan-once}
use Rattle.recovery_runs.proofs.Joining.{joined, outcome-joins}

-- ---- what begins

once-covered : (w : World) (s : State) (u : Unended) → BeginsOnce s u → IsCoveredBeside w u
once-covered w s (unended.Plan j) once = tt
once-covered w s (unended.Recovery r docket) once =
    subst (λ (x : Recovery). IsCoveredBeside w (unended.Recovery x docket)) (sym once.fresh)
    (recovery-covered w r.purpose r.means r.core.id r.core.wait r.failed r.replicas r.order docket once.once)

once-kept : (w : World) (s : State) (u : Unended) → BeginsOnce s u → IsKeptBeside w u
once-kept w s (unended.Plan j) once = tt
once-kept w s (unended.Recovery r docket) once =
    subst (λ (x : Recovery). IsKeptBeside w (unended.Recovery x docket)) (sym once.fresh) (recovery-kept w r.purpose r.means r.core.id r.core.wait r.failed r.replicas r.order docket)

once-speaks : (s : State) (u : Unended) → BeginsOnce s u → IsSpeakingBeside u
once-speaks s (unended.Plan j) once = tt
once-speaks s (unended.Recovery r docket) once =
    subst (λ (x : Recovery). IsSpeakingBeside (unended.Recovery x docket)) (sym once.fresh) (recovery-speaks r.purpose r.means r.core.id r.core.wait r.failed r.replicas r.order docket)

-- with what a command or a scan begins
module _ (P : Unended → Type 0) (count : ℕ) (s : State) (fits : (u : Unended) → BeginsOnce s u → P u) (ready : Ready count s) (all : All P s.jobs) where
  pub with-command : (c : CommandTurn) → IsCommand count c → All P (updated (known_of s) (command_outcome s c).book).jobs
  with-command c is = joined P s.jobs (jobs_of s (command_outcome s c)) (updated (known_of s) (command_outcome s c).book).jobs (outcome-joins s (command_outcome s c)) all (All-weaker (BeginsOnce s) P fits (jobs_of s (command_outcome s c)) (command-once count s ready c is))

  pub with-scan : All P (updated (known_of s) (scan_outcome s).book).jobs
  with-scan = joined P s.jobs (jobs_of s (scan_outcome s)) (updated (known_of s) (scan_outcome s).book).jobs (outcome-joins s (scan_outcome s)) all (All-weaker (BeginsOnce s) P fits (jobs_of s (scan_outcome s)) (scan-once count s ready))

-- what happens to a server is outside, and may pass
pub step-outside : (x : Step) → IsOutside (pass.Exchanging (exchange_of x))
step-outside (step.Write n size) = refl
step-outside _ = refl

-- ---- covered

pub covered-step : (count : ℕ) (rows : List Row) (s : State) (t : Turn) → Ready count s → HeldState s → IsTurn count t → CoveredState s → CoveredState (turn_step rows s t)
covered-step count rows s t ready held is covered = record {
  jobs = turn-keeps rows s t (λ w us. All (IsCoveredBeside w) us) (record {
    stays = covered.jobs;
    step = λ x same. (outside-stays (flight_of s) s.jobs (pass.Exchanging (exchange_of x)) (step-outside x) covered).jobs;
    command = λ c at. with-command (IsCoveredBeside s.world) count s (once-covered s.world s) ready covered.jobs c (acts-fit count s t (act.Command c) is at);
    job = λ id at.
        (subst (λ (f : Flight). CoveredJobs f (after_act rows s (act.Job id)).jobs) (sym (flown count rows s (turn.Act (act.Job id)) ready (acts-fit count s t (act.Job id) is at)))
        (number-covered (flight_of s) s.jobs s.book id (next_count s.reads) (moment_at s) refl held (takes s.book) (job_at s.jobs id) refl covered)).jobs;
    scan = with-scan (IsCoveredBeside s.world) count s (once-covered s.world s) ready covered.jobs;
    restart = All-nil (IsCoveredBeside s.world);
  });
}

-- ---- kept

pub kept-step : (count : ℕ) (rows : List Row) (s : State) (t : Turn) → Ready count s → HeldState s → SoundState s → IsTurn count t → CoveredState s → KeptState s → KeptState (turn_step rows s t)
kept-step count rows s t ready held sound is covered kept = record {
  jobs = turn-keeps rows s t (λ w us. All (IsKeptBeside w) us) (record {
    stays = kept.jobs;
    step = λ x same.
        (apart-stays (flight_of s) s.jobs (pass.Exchanging (exchange_of x)) (step-may count (flight_of s) x (subst (λ (y : Turn). IsTurn count y) same is)) tt held kept).jobs;
    command = λ c at. with-command (IsKeptBeside s.world) count s (once-kept s.world s) ready kept.jobs c (acts-fit count s t (act.Command c) is at);
    job = λ id at.
        (subst (λ (f : Flight). KeptJobs f (after_act rows s (act.Job id)).jobs) (sym (flown count rows s (turn.Act (act.Job id)) ready (acts-fit count s t (act.Job id) is at)))
        (number-kept (flight_of s) s.jobs s.book id (next_count s.reads) (moment_at s) refl held (takes s.book) (job_at s.jobs id) refl sound covered kept)).jobs;
    scan = with-scan (IsKeptBeside s.world) count s (once-kept s.world s) ready kept.jobs;
    restart = All-nil (IsKeptBeside s.world);
  });
}

-- ---- speaking

pub speaking-step : (count : ℕ) (rows : List Row) (s : State) (t : Turn) → Ready count s → HeldState s → IsTurn count t → SpeakingState s → SpeakingState (turn_step rows s t)
speaking-step count rows s t ready held is speaking = record {
  jobs = turn-keeps rows s t (λ w us. All IsSpeakingBeside us) (record {
    stays = speaking.jobs;
    step = λ x same. speaking.jobs;
    command = λ c at. with-command IsSpeakingBeside count s (once-speaks s) ready speaking.jobs c (acts-fit count s t (act.Command c) is at);
    job = λ id at. (number-speaking (flight_of s) s.jobs s.book id (next_count s.reads) (moment_at s) refl held (job_at s.jobs id) refl speaking).jobs;
    scan = with-scan IsSpeakingBeside count s (once-speaks s) ready speaking.jobs;
    restart = All-nil IsSpeakingBeside;
  });
}

-- ---- aimed

aimed-act : (begun : ℕ → Recovery) (rows : List Row) (s : State) (a : Act) → HeldState s → All (IsAimedBeside begun) (jobs_in_act s a) → AimedState begun s → AimedState begun (after_act rows s a)
aimed-act begun rows s (act.PollRead p n) held new aimed = aimed
aimed-act begun rows s (act.PollStore p) held new aimed = aimed
aimed-act begun rows s (act.Command c) held new aimed =
    record { jobs = joined (IsAimedBeside begun) s.jobs (jobs_of s (command_outcome s c)) (updated (known_of s) (command_outcome s c).book).jobs (outcome-joins s (command_outcome s c)) aimed.jobs new }
aimed-act begun rows s (act.Job id) held new aimed =
    number-aimed (flight_of s) s.jobs s.book id (next_count s.reads) (moment_at s) refl held begun (job_at s.jobs id) refl aimed
aimed-act begun rows s act.Scan held new aimed =
    record { jobs = joined (IsAimedBeside begun) s.jobs (jobs_of s (scan_outcome s)) (updated (known_of s) (scan_outcome s).book).jobs (outcome-joins s (scan_outcome s)) aimed.jobs new }
aimed-act begun rows s act.Restart held new aimed = none-aimed begun

aimed-done : (begun : ℕ → Recovery) (rows : List Row) (s : State) (o : Option Act) → HeldState s → All (IsAimedBeside begun) (jobs_done s o) → AimedState begun s → AimedState begun (after_done rows s o)
aimed-done begun rows s None held new aimed = aimed
aimed-done begun rows s (Some a) held new aimed = aimed-act begun rows s a held new aimed

pub aimed-step : (begun : ℕ → Recovery) (rows : List Row) (s : State) (t : Turn) → HeldState s → All (IsAimedBeside begun) (jobs_begun s t) → AimedState begun s → AimedState begun (turn_step rows s t)
aimed-step begun rows s (turn.Act a) held new aimed = aimed-act begun rows s a held new aimed
aimed-step begun rows s (turn.As node a) held new aimed = aimed-done begun rows s (act_in s (turn.As node a)) held new aimed
aimed-step begun rows s (turn.Claim node) held new aimed = aimed-done begun rows s (act_in s (turn.Claim node)) held new aimed
aimed-step begun rows s _ held new aimed = aimed

-- ---- the opening

pub covered-start : (s : Scenario) (wait : ℕ) (rows : List Row) → CoveredState (start s wait rows)
covered-start s wait rows = none-covered (flight_of (start s wait rows))

pub kept-start : (s : Scenario) (wait : ℕ) (rows : List Row) → KeptState (start s wait rows)
kept-start s wait rows = none-kept (flight_of (start s wait rows))
