-- Each `Passage` of a turn may happen in a state with `Held`, and happens well in one with `Sound`. So each turn leaves
-- a state with `Held`, and with `Sound` if it had it.
use Rattle.std.proofs.Common.{ℕ, Bool, true, false, List, [], ◌∷◌, refl, sym, ap, subst, Option, Some, None, is_some, if◌then◌else◌, IfSome}
use Rattle.run_laws.proofs.Prelude.{Act, AllMayPass, AllPassWell, Allowed-step, Flight, HeldJobs, HeldState, IsAct, IsApartPassage, IsQuiet, IsStep}
use Rattle.run_laws.proofs.Prelude.{IsTurn, MayPass, Outcome, PassesWell, Ready, Row, ServerNo, SoundJobs, SoundState, State, Step, Turn, Unended}
use Rattle.run_laws.proofs.Prelude.{act-fits, act_in, act_passages, after_act, after_done, apart-held, apart-sound, by_command, by_job, by_recoveries}
use Rattle.run_laws.proofs.Prelude.{command_outcome, done_passages, exchange_of, flight_of, instance_at, job_at, jobs_turned, moment_at, next_count}
use Rattle.run_laws.proofs.Prelude.{number-held, number-may, number-sound, number-well, option_map, passages_of, passing, recoveries_scanned}
use Rattle.run_laws.proofs.Prelude.{restart-held, restart-sound, scan_outcome, slot_at, state_settled, step, takes, turn_of}
use Rattle.run_laws.proofs.Prelude.act
use Rattle.run_laws.proofs.Prelude.pass
use Rattle.run_laws.proofs.Prelude.turn
use Rattle.run_laws.proofs.Flown.{flown}
use Rattle.run_laws.proofs.FlownOutcomes.{Leaves-command, Leaves-scan, Leaves}

-- what steps leave of a state: each may be taken, and is taken well, and its jobs keep `Held` and `Sound`
record Passes (s : State) (ps : List pass.Passage) (us : List Unended) : Type 0 where
  may : AllMayPass (flight_of s) ps
  well : SoundState s → AllPassWell (flight_of s) ps
  held : HeldJobs (passing (flight_of s) ps) us
  sound : SoundState s → IsQuiet (passing (flight_of s) ps).world → SoundJobs (passing (flight_of s) ps) us

none-passes : (s : State) → HeldState s → Passes s [] s.jobs
none-passes s held = record { may = tt; well = λ sound. tt; held = held; sound = λ sound quiet. sound }

-- one that takes no part in jobs
apart-passes : (s : State) (p : pass.Passage) → MayPass (flight_of s) p → PassesWell (flight_of s) p → IsApartPassage p → HeldState s → Passes s (p ∷ []) s.jobs
apart-passes s p may well apart held = record {
  may = (may, tt);
  well = λ sound. (well, tt);
  held = apart-held (flight_of s) s.jobs p may apart held;
  sound = λ sound quiet. apart-sound (flight_of s) s.jobs p may apart quiet held sound;
}

outcome-passes : (s : State) (ps : List pass.Passage) (o : Outcome) → HeldState s → Leaves s ps o → Passes s ps (state_settled s o).jobs
outcome-passes s ps o held leaves = record {
  may = leaves.may;
  well = λ sound. leaves.well;
  held = leaves.held held;
  sound = λ sound quiet. leaves.sound held sound (subst IsQuiet (sym (ap (λ (f : Flight). f.world) leaves.flown)) quiet);
}

-- ---- a job's turn

module _ (s : State) (id : ℕ) (held : HeldState s) where
  pub job-may : AllMayPass (flight_of s) (by_job s id (job_at s.jobs id))
  job-may = number-may (flight_of s) s.jobs s.book id (next_count s.reads) (moment_at s) (takes s.book) refl held (job_at s.jobs id) refl

  job-passes : Passes s (by_job s id (job_at s.jobs id)) (jobs_turned s.jobs id (option_map (turn_of s) (job_at s.jobs id)))
  job-passes = record {
    may = job-may;
    well = λ sound. number-well (flight_of s) s.jobs s.book id (next_count s.reads) (moment_at s) (takes s.book) refl held (job_at s.jobs id) refl sound;
    held = number-held (flight_of s) s.jobs s.book id (next_count s.reads) (moment_at s) (takes s.book) refl held (job_at s.jobs id) refl;
    sound = λ sound quiet. number-sound (flight_of s) s.jobs s.book id (next_count s.reads) (moment_at s) (takes s.book) refl held (job_at s.jobs id) refl sound quiet;
  }

poll-passes : (s : State) (p : ℕ) (n : ServerNo) → HeldState s → (known : Bool) → Passes s (if known then pass.Polling p n (next_count s.reads) (moment_at s) ∷ [] else []) s.jobs
poll-passes s p n held true = apart-passes s (pass.Polling p n (next_count s.reads) (moment_at s)) tt tt tt held
poll-passes s p n held false = none-passes s held

-- ---- what happens to a server

pub step-may : (count : ℕ) (f : Flight) (x : Step) → IsStep count x → MayPass f (pass.Exchanging (exchange_of x))
step-may count f x is = let fit = Allowed-step count f.world x is in (fit.0.0, fit.1.0)

-- ---- every turn

act-passes : (count : ℕ) (rows : List Row) (s : State) (a : Act) → Ready count s → HeldState s → IsAct count a → Passes s (act_passages s a) (after_act rows s a).jobs
act-passes count rows s (act.PollRead p n) ready held is = poll-passes s p n held (is_some (instance_at s.book n))
act-passes count rows s (act.PollStore p) ready held is = apart-passes s (pass.Storing p (takes s.book (slot_at s p))) tt tt tt held
act-passes count rows s (act.Command c) ready held is = outcome-passes s (by_command s c.command) (command_outcome s c) held (Leaves-command count s c ready is)
act-passes count rows s (act.Job job) ready held is = job-passes s job held
act-passes count rows s act.Scan ready held is = outcome-passes s (by_recoveries (recoveries_scanned s)) (scan_outcome s) held (Leaves-scan count s ready)
act-passes count rows s act.Restart ready held is = record {
  may = (tt, tt);
  well = λ sound. (tt, tt);
  held = restart-held (flight_of s) s.jobs held;
  sound = λ sound quiet. restart-sound (flight_of s) s.jobs sound;
}

done-passes : (count : ℕ) (rows : List Row) (s : State) (o : Option Act) → Ready count s → HeldState s → IfSome o (IsAct count) → Passes s (done_passages s o) (after_done rows s o).jobs
done-passes count rows s None ready held is = none-passes s held
done-passes count rows s (Some a) ready held is = act-passes count rows s a ready held is

turn-passes : (count : ℕ) (rows : List Row) (s : State) (t : Turn) → Ready count s → HeldState s → IsTurn count t → Passes s (passages_of s t) (step rows s t).jobs
turn-passes count rows s (turn.Step x) ready held is = apart-passes s (pass.Exchanging (exchange_of x)) (step-may count (flight_of s) x is) tt tt held
turn-passes count rows s (turn.Act a) ready held is = act-passes count rows s a ready held is
turn-passes count rows s (turn.As node a) ready held is = done-passes count rows s (act_in s (turn.As node a)) ready held (act-fits count s (turn.As node a) is)
turn-passes count rows s (turn.Claim node) ready held is = done-passes count rows s (act_in s (turn.Claim node)) ready held (act-fits count s (turn.Claim node) is)
turn-passes count rows s _ ready held is = none-passes s held

pub may-pass : (count : ℕ) (s : State) (t : Turn) → Ready count s → HeldState s → IsTurn count t → AllMayPass (flight_of s) (passages_of s t)
may-pass count s t ready held is = (turn-passes count [] s t ready held is).may

pub pass-well : (count : ℕ) (s : State) (t : Turn) → Ready count s → HeldState s → SoundState s → IsTurn count t → AllPassWell (flight_of s) (passages_of s t)
pass-well count s t ready held sound is = (turn-passes count [] s t ready held is).well sound

pub Held-step : (count : ℕ) (rows : List Row) (s : State) (t : Turn) → Ready count s → HeldState s → IsTurn count t → HeldState (step rows s t)
Held-step count rows s t ready held is = subst (λ (f : Flight). HeldJobs f (step rows s t).jobs) (sym (flown count rows s t ready is)) (turn-passes count rows s t ready held is).held

pub Sound-step : (count : ℕ) (rows : List Row) (s : State) (t : Turn) → Ready count s → HeldState s → SoundState s → IsTurn count t → IsQuiet (step rows s t).world → SoundState (step rows s t)
Sound-step count rows s t ready held sound is quiet =
    let same = flown count rows s t ready is in
    subst (λ (f : Flight). SoundJobs f (step rows s t).jobs) (sym same) ((turn-passes count rows s t ready held is).sound sound (subst (λ (f : Flight). IsQuiet f.world) same quiet))
