use Rattle.recovery_runs.proofs.Begun.{begun-once}
use Rattle.recovery_runs.proofs.steps.turns_begin_jobs_once.Goals as goal

pub returns : goal.returns
returns c = begun-once
