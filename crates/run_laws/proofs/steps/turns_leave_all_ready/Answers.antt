use Rattle.run_laws.proofs.Readiness.{Ready-step}
use Rattle.run_laws.proofs.steps.turns_leave_all_ready.Goals as goal

pub returns : goal.returns
returns c = λ count s t ready is rows. Ready-step count rows s t ready is
