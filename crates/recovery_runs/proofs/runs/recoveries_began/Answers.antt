use Rattle.recovery_runs.proofs.Tending.{began-comes}
use Rattle.recovery_runs.proofs.runs.recoveries_began.Goals as goal

pub returns : goal.returns
returns c = λ s xs now comes id r docket at. began-comes s xs now comes id r docket at
