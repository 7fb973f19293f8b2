-- That a recovery's purpose stays.
use Rattle.std.proofs.Common.{◌≡◌, ◌∙◌, List, Option, Some, None, refl, ap}
use Rattle.recovery_turns.proofs.Prelude.{Decided, JobStep, Line, Recovery, RecoveryLook, Work, after_step, decided_on, foretold, settled_on}
use Rattle.recovery_turns.proofs.Prelude.{working_on}
use Rattle.recovery_turns.proofs.Prelude.step

pub decided-purpose : (r : Recovery) (d : Decided) → (decided_on r d).purpose ≡ r.purpose
decided-purpose r d = go d.work
  where
    go : (o : Option Work) → (working_on (settled_on r d) o).purpose ≡ r.purpose
    go None = refl
    go (Some w) = refl

-- if a turn is the last one
pub done-purpose : (r : Recovery) (l : RecoveryLook) (lines : List Line) → l.step ≡ step.Done lines → (foretold r l).recovery.purpose ≡ r.purpose
done-purpose r l lines is = ap (λ (s : JobStep). (after_step (decided_on r l.decided) s l.then).purpose) is ∙ decided-purpose r l.decided
