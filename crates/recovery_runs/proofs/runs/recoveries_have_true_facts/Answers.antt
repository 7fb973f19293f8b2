use Rattle.recovery_runs.proofs.Booking.{books-comes}
use Rattle.recovery_runs.proofs.Failing.{fail-comes}
use Rattle.recovery_runs.proofs.Tending.{told-comes, told-next}
use Rattle.recovery_runs.proofs.TurningWell.{turn-comes}
use Rattle.recovery_runs.proofs.runs.recoveries_have_true_facts.Goals as goal

pub returns : goal.returns
returns c = record {
  before = λ s xs now comes P id r docket holds at. told-comes s xs now comes P id r docket holds at;
  after = λ s xs now comes P id r docket holds here at. told-next s xs now comes P id r docket holds here at;
  failed = λ s xs now comes. fail-comes s xs now comes;
  turns = λ s xs now comes. turn-comes s xs now comes;
  books = λ s xs now comes. books-comes s xs now comes;
}
