use Rattle.recovery_runs.proofs.Ended.{failure-comes}
use Rattle.recovery_runs.proofs.Tending.{scenarios-comes, still-comes}
use Rattle.recovery_runs.proofs.runs.recoveries_tell_hooks_in_runs.Goals as goal

pub returns : goal.returns
returns c = record {
  failed = λ s xs now comes rows id r docket k lines is. failure-comes s xs now comes rows id r docket k lines is;
  still = λ s xs now comes rows id r docket h found has early. still-comes s xs now comes rows id r docket h found has early;
  own = λ s xs now comes id r docket h at has. scenarios-comes s xs now comes id r docket h at has;
}
