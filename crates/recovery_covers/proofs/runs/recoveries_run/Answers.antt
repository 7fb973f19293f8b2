use Rattle.recovery_covers.proofs.Running.{all-stay, ends-covered}
use Rattle.recovery_covers.proofs.runs.recoveries_run.Goals as goal

pub returns-clause-stays : goal.returns-clause-stays
returns-clause-stays c = all-stay

pub returns-clause-done : goal.returns-clause-done
returns-clause-done c = ends-covered
