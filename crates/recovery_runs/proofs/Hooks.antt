-- The turn of a recovery with hooks in which it is done.
use Rattle.std.proofs.Common.{◌≡◌, ◌∙◌, ◌+◌, Bool, true, false, List, ◌++◌, Option, Some, None, refl, sym, cond, ◌==◌}
use Rattle.recovery_runs.proofs.Prelude.{Docket, Hook, HookState, HostPort, JobStep, Line, Recovery, Taken, append-nil, done_with, failed_lines}
use Rattle.recovery_runs.proofs.Prelude.{front_hook, front_turn, own_turn, ran_before, ran_lines, rear_hook, rear_turn, step_before, step_with}
use Rattle.recovery_runs.proofs.Prelude.{with_hooks}
use Rattle.recovery_runs.proofs.Prelude.cause
use Rattle.recovery_runs.proofs.Prelude.job_step as step

-- it is its own, and no hook's
module _ (d : Docket) (promoted : Option HostPort) (r : Recovery) (t : Taken) (lines : List Line) where
  by-rear : (o : Option Hook) → (rear_turn d promoted r t o).taken.step ≡ step.Done lines → rear_turn d promoted r t o ≡ own_turn d promoted t
  by-rear None e = refl
  by-rear (Some h) e = absurd cc

  no-front : (o : Option HookState) (h : Hook) → step_before o h ≡ step.Done lines → ⊥
  no-front None h e = cc
  no-front (Some s) h e = by (h.exit == 0) e
    where
      by : (b : Bool) → cond b step.Going (step.Failed (cause.HookFailed (s.before + 1) h.exit) (failed_lines (ran_before s))) ≡ step.Done lines → ⊥
      by true e = cc
      by false e = cc

  by-front : (o : Option Hook) → (front_turn d promoted r t o).taken.step ≡ step.Done lines → front_turn d promoted r t o ≡ own_turn d promoted t
  by-front None e = by-rear (rear_hook d.hooks t.step) e
  by-front (Some h) e = absurd (no-front d.hooks h e)

  pub done-own : (with_hooks d promoted r t).taken.step ≡ step.Done lines → with_hooks d promoted r t ≡ own_turn d promoted t
  done-own e = by-front (front_hook d.hooks) e

-- its lines, and those of the hooks that ran
pub done-with : (o : Option HookState) (promoted : Option HostPort) (x : JobStep) (lines : List Line) → step_with o promoted x ≡ step.Done lines
    → (x ≡ step.Done (done_with x)) × (lines ≡ done_with x ++ ran_lines o promoted)
done-with None promoted (step.Done own) lines e = let same : lines ≡ own = cc in (refl, same ∙ sym (append-nil own))
done-with (Some h) promoted (step.Done own) lines e = let same : lines ≡ own ++ ran_lines (Some h) promoted = cc in (refl, same)
done-with _ promoted _ lines e = absurd cc
