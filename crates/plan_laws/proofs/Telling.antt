-- What is printed is the job that the command begins.
use Rattle.std.proofs.Common.{◌≡◌, ◌∙◌, ◌+◌, List, [], Option, Some, ap, arith}
use Rattle.plan_laws.proofs.Prelude.{Answer, CommandTurn, HostPort, MovesAreToldWhole, Purpose, RecoveriesAreToldAsExpected, Reply, ServerNo, State}
use Rattle.plan_laws.proofs.Prelude.{TakeoversAreToldWhole, Unended, WouldBegin, act_reply, begun_by, begun_joins, begun_numbered, begun_replies}
use Rattle.plan_laws.proofs.Prelude.{begun_state, ground_in, job_at, means_of, plan_answer, plan_answer_by, planned_by, planned_reply}
use Rattle.plan_laws.proofs.Prelude.{recovery_planned, route_of, told_plan, unwrap_or}
use Rattle.plan_laws.proofs.Prelude.act
use Rattle.plan_laws.proofs.Prelude.answered
use Rattle.plan_laws.proofs.Prelude.unended
use Rattle.plan_laws.proofs.Jobs.{found-last}

module _ (names : List HostPort) (s : State) (c : CommandTurn) (job : Unended) (is : WouldBegin s c job) where
  replied : planned_reply c s ≡ answered.Begun (s.last_job + 1)
  replied = ap (λ (o : Option Reply). unwrap_or o (act_reply s (act.Command c))) is.free ∙ begun_replies s c is.begun is.is_begun

  there : job_at (begun_state c s).jobs (s.last_job + 1) ≡ Some job
  there =
      ap (λ (jobs : List Unended). job_at jobs (s.last_job + 1)) (begun_joins s c is.begun is.is_begun [])
      ∙ (found-last 0 s.jobs s.last_job (s.last_job + 1) is.begun.job is.state.rising (omega arith) (begun_numbered s c is.begun is.is_begun)
      ∙ ap (λ (j : Unended). Some j) is.job_is)

  told : plan_answer c names s ≡ told_plan names (planned_by (begun_state c s) c.command (Some job))
  unfolding plan_answer
  told =
      ap (λ (r : Reply). plan_answer_by names c (begun_state c s) r (begun_by r)) replied
      ∙ ap (λ (j : Option Unended). told_plan names (planned_by (begun_state c s) c.command j)) there

pub moves-told : MovesAreToldWhole
moves-told names s c job is = told names s c (unended.Plan job) is

-- what is planned of an instance
abbrev recovery-told : List HostPort → State → CommandTurn → Purpose → Option ServerNo → Answer
recovery-told names s c u i = told_plan names (recovery_planned (ground_in (begun_state c s)) u (means_of (route_of c.command.name)) i)

pub recoveries-told : RecoveriesAreToldAsExpected
recoveries-told names s c r k f is about = told names s c (unended.Recovery r k) is ∙ ap (λ (i : Option ServerNo). recovery-told names s c r.purpose i) about

pub takeovers-told : TakeoversAreToldWhole
takeovers-told names s c r k m d is about purpose =
    told names s c (unended.Recovery r k) is
    ∙ (ap (λ (i : Option ServerNo). recovery-told names s c r.purpose i) about ∙ ap (λ (u : Purpose). recovery-told names s c u (Some m)) purpose)
