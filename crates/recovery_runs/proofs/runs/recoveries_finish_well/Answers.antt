use Rattle.recovery_runs.proofs.Tending.{finish-comes}
use Rattle.recovery_runs.proofs.runs.recoveries_finish_well.Goals as goal

pub returns : goal.returns
returns c = λ s xs now comes rows id r docket lines is. finish-comes s xs now comes rows id r docket lines is
