use Rattle.run_laws.proofs.Readiness.{Ready-start}
use Rattle.run_laws.proofs.steps.openings_are_ready.Goals as goal

pub returns : goal.returns
returns c = Ready-start
