use Rattle.recovery_runs.proofs.Looks.{looks-before}
use Rattle.recovery_runs.proofs.runs.recoveries_look_first.Goals as goal

pub returns : goal.returns
returns c = λ s xs now comes id r docket at. looks-before s xs now comes id r docket at
