use Rattle.recovery_runs.proofs.Coming.{all-come}
use Rattle.recovery_runs.proofs.steps.recoveries_come_of_those_begun.Goals as goal

pub returns : goal.returns
returns c = all-come
