-- A plan's job fails for what happened to the operation that was due.
use Rattle.std.proofs.Common.{◌≡◌, ◌∙◌, ℕ, List, [], ◌∷◌, refl, sym, ap, subst, Option, Some, None, ◌+◌}
use Rattle.run_laws.proofs.Prelude.{All-found, Befell, BegunJob, BookState, Cause, Command, Failure, IsBefallen, IsReady, Job, JobStep, Line, Means}
use Rattle.run_laws.proofs.Prelude.{Moment, Op, Planner, PlansAreDone, PlansFailForWhatBefell, Ready, Reply, ServerNo, SpendsWaitsLast, State}
use Rattle.run_laws.proofs.Prelude.{Unended, World, begun_of, deed_of, failed-befell, job_at, job_by, job_in, job_reply, means_of, next_count}
use Rattle.run_laws.proofs.Prelude.{option_map, regroup_about, reply_of, spent-last, step_reply, turn-idle, turn-taken, turn_of, turned}
use Rattle.run_laws.proofs.Prelude.{undisturbed-done}
use Rattle.run_laws.proofs.Prelude.act
use Rattle.run_laws.proofs.Prelude.answered
use Rattle.run_laws.proofs.Prelude.jobstep as step
use Rattle.run_laws.proofs.Prelude.turn
use Rattle.run_laws.proofs.Prelude.unended
use Rattle.run_laws.proofs.Making as making
use Rattle.run_laws.proofs.Making.{IsBegunBy, job-begun}

module _ (s : State) (id : ℕ) (j : Job) (f : Failure) (found : job_at s.jobs id ≡ Some (unended.Plan j)) (fails : reply_of s (turn.Act (act.Job id)) ≡ answered.Failed f) where
  abbrev now : Moment
  now = record { 0 = s.moment }

  abbrev its : JobStep
  its = (turned s.world (next_count s.reads) now j).step

  replied : step_reply its ≡ answered.Failed f
  replied = sym (ap (λ (o : Option Unended). job_reply (option_map (turn_of s) o)) found) ∙ fails

  cause_in : Reply → Cause
  cause_in (answered.Failed g) = g.cause
  cause_in r = f.cause

  by-step : (x : JobStep) → its ≡ x → step_reply x ≡ answered.Failed f → IsBefallen s.world j f.cause
  unfolding cause_in
  by-step step.Going at h = cc
  by-step (step.Done lines) at h = cc
  by-step (step.Failed c lines) at h = go j.ops refl
    where
      lines_fail : (ls : List Line) → step.Failed c lines ≡ step.Done ls → ⊥
      lines_fail ls e = cc

      go : (ops : List Op) → j.ops ≡ ops → IsBefallen s.world j f.cause
      go [] is = absurd (lines_fail [] (sym at ∙ turn-idle s.world (next_count s.reads) now j is))
      go (op ∷ rest) is = record {
        op = op;
        rest = rest;
        due = is;
        befell = subst (λ (x : Cause). Befell s.world j (deed_of op) x) (ap cause_in h)
            (failed-befell s.world j rest (deed_of op) (turned s.world (next_count s.reads) now j) c lines (turn-taken s.world (next_count s.reads) now j op rest is) at);
      }

  befallen : IsBefallen s.world j f.cause
  befallen = by-step its refl replied

pub plans-fail : (s : State) → PlansFailForWhatBefell s
plans-fail s = λ id j f found fails. befallen s id j f found fails

-- ---- undisturbed jobs, and waits

pub plans-done : (count : ℕ) (s : State) → Ready count s → PlansAreDone s
plans-done count s ready = λ id j ms found long free. undisturbed-done j ms (All-found (IsReady count) s.jobs id (unended.Plan j) ready.jobs found).waited long free

-- a plan's job begins without a wait
abbrev IsFresh : Unended → Type 0
IsFresh (unended.Plan j) = j.waited ≡ 0
IsFresh (unended.Recovery r entry) = Unit {0}

fresh-regroup : (b : BookState) (by : Means) (id wait : ℕ) (o : Option ServerNo) → IsFresh (regroup_about b by id wait o)
fresh-regroup b by id wait None = refl
fresh-regroup b by id wait (Some i) = tt

fresh-job : (w : World) (b : BookState) (c : Command) (p : Planner) (id wait every : ℕ) → IsFresh (job_by w b c p id wait every)
fresh-job w b c p id wait every = go (means_of every p)
  where
    go : (by : Option Means) → IsFresh (job_in w b c p id wait every by)
    go None = refl
    go (Some by) = fresh-regroup b by id wait c.i

fresh-begun : (s : State) (c : Command) (x : BegunJob) → IsBegunBy s c x → IsFresh x.job
fresh-begun s c x (making.Planned p route) = fresh-job s.world s.book c p (s.last_job + 1) s.configuration.wait s.configuration.every
fresh-begun s c x (making.Recovering y asked) = tt

pub spends-last : (s : State) (c : Command) (x : BegunJob) → begun_of s c ≡ Some x → SpendsWaitsLast x.job
spends-last s c x begun = λ j ms m n lines is going fails. spent-last j ms m n lines (subst IsFresh is (fresh-begun s c x (job-begun s c x begun))) going fails
