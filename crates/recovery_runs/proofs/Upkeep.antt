-- Each turn leaves recoveries up.
use Rattle.std.proofs.Common.{◌≡◌, ◌∙◌, ℕ, Bool, true, List, refl, sym, subst, Option, Some, None, IfSome}
use Rattle.recovery_runs.proofs.Prelude.{Act, BeginsOnce, CoveredState, Docket, ExplainsAct, ExplainsDone, ExplainsTruly, ExplainsTurn, Fact, Flight}
use Rattle.recovery_runs.proofs.Prelude.{HeldState, IsAct, IsTurn, IsUpBeside, Ready, Recovery, Row, Scenario, SpeakingState, State, Turn, Unended}
use Rattle.recovery_runs.proofs.Prelude.{UpJobs, UpState, World, act-fits, act_in, after_act, after_done, exchange-ups, exchange_of, flight_of, flown}
use Rattle.recovery_runs.proofs.Prelude.{found-number, job_at, moment_at, next_count, none-ups, number-up, number_of, once, recovery-up, start, step}
use Rattle.recovery_runs.proofs.Prelude.{takes}
use Rattle.recovery_runs.proofs.Prelude.act
use Rattle.recovery_runs.proofs.Prelude.turn
use Rattle.recovery_runs.proofs.Prelude.unended
use Rattle.recovery_runs.proofs.Covering.{step-outside, with-command, with-scan}

module _ (P : Fact → Bool) (id : ℕ) where
  once-up : (w : World) (s : State) (u : Unended) → BeginsOnce s u → number_of u ≡ id → IsUpBeside P w u
  once-up w s (unended.Plan j) once same = tt
  once-up w s (unended.Recovery r docket) once same =
      subst (λ (x : Recovery). IsUpBeside P w (unended.Recovery x docket)) (sym once.fresh)
      (recovery-up P id w r.purpose r.means r.core.id r.core.wait r.failed r.replicas r.order docket)

  module _ (count : ℕ) (rows : List Row) (s : State) (ready : Ready count s) (held : HeldState s) (covered : CoveredState s) (speaking : SpeakingState s) (up : UpState P id s) where
    act-up : (a : Act) → IsAct count a → ExplainsAct P id s a → UpState P id (after_act rows s a)
    act-up (act.PollRead p n) is explains = record { jobs = up.jobs }
    act-up (act.PollStore p) is explains = record { jobs = up.jobs }
    act-up (act.Command c) is explains = record { jobs = with-command (λ u. number_of u ≡ id → IsUpBeside P s.world u) count s (once-up s.world s) ready up.jobs c is }
    act-up (act.Job job) is explains =
        subst (λ (f : Flight). UpJobs P id f (after_act rows s (act.Job job)).jobs) (sym (flown count rows s (turn.Act (act.Job job)) ready is))
        (number-up P id (flight_of s) s.jobs s.book job (next_count s.reads) (moment_at s) refl held covered speaking explaining (takes s.book) (job_at s.jobs job) refl up)
      where
        explaining : (r : Recovery) (docket : Docket) → job_at s.jobs job ≡ Some (unended.Recovery r docket) → r.core.id ≡ id → ExplainsTruly s.world s.book (moment_at s) r P
        explaining r docket at same =
            let number : job ≡ id = sym (found-number s.jobs job (unended.Recovery r docket) at) ∙ same in
            explains number r docket (subst (λ (n : ℕ). job_at s.jobs n ≡ Some (unended.Recovery r docket)) number at)
    act-up act.Scan is explains = record { jobs = with-scan (λ u. number_of u ≡ id → IsUpBeside P s.world u) count s (once-up s.world s) ready up.jobs }
    act-up act.Restart is explains = none-ups P id (flight_of (after_act rows s act.Restart))

    done-up : (o : Option Act) → IfSome o (IsAct count) → ExplainsDone P id s o → UpState P id (after_done rows s o)
    done-up None is explains = up
    done-up (Some a) is explains = act-up a is explains

    pub step-up : (t : Turn) → IsTurn count t → ExplainsTurn P id s t → UpState P id (step rows s t)
    step-up (turn.Step x) is explains = exchange-ups P id (flight_of s) s.jobs (exchange_of x) (step-outside x) up
    step-up (turn.Act a) is explains = act-up a is explains
    step-up (turn.As node a) is explains = record { jobs = (done-up (act_in s (turn.As node a)) (act-fits count s (turn.As node a) is) explains).jobs }
    step-up (turn.Claim node) is explains = record { jobs = (done-up (act_in s (turn.Claim node)) (act-fits count s (turn.Claim node) is) explains).jobs }
    step-up _ is explains = record { jobs = up.jobs }

  pub start-up : (s : Scenario) (wait : ℕ) (rows : List Row) → UpState P id (start s wait rows)
  start-up s wait rows = none-ups P id (flight_of (start s wait rows))

-- if all counts, all that is true does
pub all-counts : (id : ℕ) (s : State) (t : Turn) → ExplainsTurn (λ x. true) id s t
all-counts id s t = go t
  where
    by-act : (a : Act) → ExplainsAct (λ x. true) id s a
    by-act (act.Job job) = λ same r docket at d x so is. refl
    by-act (act.PollRead p n) = tt
    by-act a = tt

    by-done : (o : Option Act) → ExplainsDone (λ x. true) id s o
    by-done None = tt
    by-done (Some a) = by-act a

    go : (x : Turn) → ExplainsTurn (λ y. true) id s x
    go (turn.Act a) = by-act a
    go (turn.As node a) = by-done (act_in s (turn.As node a))
    go (turn.Claim node) = by-done (act_in s (turn.Claim node))
    go x = tt
