-- Each turn leaves the hooks of recoveries tended.
use Rattle.std.proofs.Common.{◌≡◌, ◌∙◌, ℕ, true, List, refl, sym, ap, subst, Option, Some, None, ◌==◌, All}
use Rattle.recovery_runs.proofs.Prelude.{All-find, All-nil, AreHooksOf, BeginsOnce, HasHooks, HookState, IsOfDead, IsTended, IsTendedBeside, IsTurn}
use Rattle.recovery_runs.proofs.Prelude.{Purpose, Ready, Recovery, Row, Scenario, State, TendedState, Turn, Unended, acts-fit, all-turned}
use Rattle.recovery_runs.proofs.Prelude.{begun-tended, begun_hooks, begun_recovery, hooked, is_going, job_at, jobs_turned, label_at, moment_at}
use Rattle.recovery_runs.proofs.Prelude.{next_count, none-some, number_of, of-docket, option_map, plan_of, promoted_in, same_Some, start}
use Rattle.recovery_runs.proofs.Prelude.{step as turn_step, taken, tended-turn, told_of, turn-keeps, turn_of}
use Rattle.recovery_runs.proofs.Prelude.act
use Rattle.recovery_runs.proofs.Prelude.purpose
use Rattle.recovery_runs.proofs.Prelude.unended
use Rattle.recovery_runs.proofs.Covering.{with-command, with-scan}

-- ---- as they begin

once-tended : (s : State) (u : Unended) → BeginsOnce s u → IsTendedBeside u
once-tended s (unended.Plan j) once = tt
once-tended s (unended.Recovery r docket) once = λ h at. go h at r.purpose refl once.hooks
  where
    of-dead : (h : HookState) → docket.hooks ≡ Some h → IsOfDead r.purpose → AreHooksOf s r.failed docket.hooks → IsTended r h
    of-dead h at dead are =
        let told = told_of s.configuration are.name (label_at s.book r.failed) are.code in
        let begun = begun_hooks s.configuration.hooks told in
        let same : begun ≡ h = same_Some begun h (sym are.hooks ∙ at) in
        subst (λ (x : Recovery). IsTended x h) (sym once.fresh)
        (subst (IsTended (begun_recovery r.purpose r.means r.core.id r.core.wait r.failed r.replicas r.order)) same
        (begun-tended r.purpose r.means r.core.id r.core.wait r.failed r.replicas r.order s.configuration.hooks told dead))

    go : (h : HookState) → docket.hooks ≡ Some h → (u : Purpose) → r.purpose ≡ u → HasHooks s u r.failed docket.hooks → IsTended r h
    go h at purpose.Regroup is none = absurd (none-some h (sym none ∙ at))
    go h at purpose.Master is are = of-dead h at (subst IsOfDead (sym is) tt) are
    go h at (purpose.Intermediate n) is are = of-dead h at (subst IsOfDead (sym is) tt) are
    go h at (purpose.Takeover d) is none = absurd (none-some h (sym none ∙ at))

-- ---- a job's turn

module _ (s : State) (id : ℕ) (tended : TendedState s) where
  next-tended : (u : Unended) → IsTendedBeside u → is_going (turn_of s u).step ≡ true → IsTendedBeside (turn_of s u).next
  next-tended (unended.Plan j) was going = tt
  next-tended (unended.Recovery r docket) was going = λ k at. go k at docket.hooks refl
    where
      go : (k : HookState) → (hooked s.world s.book (next_count s.reads) (moment_at s) r docket).docket.hooks ≡ Some k → (o : Option HookState) → docket.hooks ≡ o
          → IsTended (hooked s.world s.book (next_count s.reads) (moment_at s) r docket).taken.recovery k
      go k at None none =
          let t = taken s.world s.book (next_count s.reads) (moment_at s) r in
          absurd (none-some (k.hooks, k.told) (sym (ap plan_of none) ∙ (sym (of-docket docket (promoted_in s.book t) r t).hooks ∙ ap plan_of at)))
      go k at (Some h) has = tended-turn s.world s.book (next_count s.reads) (moment_at s) r docket h k has (was h has) going at

  turn-tended : (o : Option Unended) → job_at s.jobs id ≡ o → All IsTendedBeside (jobs_turned s.jobs id (option_map (turn_of s) o))
  turn-tended None at = tended.jobs
  turn-tended (Some u) at =
      all-turned IsTendedBeside IsTendedBeside id (λ k apart h. h) s.jobs (turn_of s u)
      (next-tended u (All-find IsTendedBeside (λ (k : Unended). number_of k == id) s.jobs u tended.jobs at)) tended.jobs

-- ---- every turn

pub tended-step : (count : ℕ) (rows : List Row) (s : State) (t : Turn) → Ready count s → IsTurn count t → TendedState s → TendedState (turn_step rows s t)
tended-step count rows s t ready is tended = record {
  jobs = turn-keeps rows s t (λ w us. All IsTendedBeside us) (record {
    stays = tended.jobs;
    step = λ x same. tended.jobs;
    command = λ c at. with-command IsTendedBeside count s (once-tended s) ready tended.jobs c (acts-fit count s t (act.Command c) is at);
    job = λ id at. turn-tended s id tended (job_at s.jobs id) refl;
    scan = with-scan IsTendedBeside count s (once-tended s) ready tended.jobs;
    restart = All-nil IsTendedBeside;
  });
}

pub tended-start : (s : Scenario) (wait : ℕ) (rows : List Row) → TendedState (start s wait rows)
tended-start s wait rows = record { jobs = All-nil IsTendedBeside }
