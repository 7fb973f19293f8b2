use Rattle.std.proofs.Common.{ap, is_some, length}
use Rattle.run_laws.proofs.Failures.{plans-done, plans-fail}
use Rattle.run_laws.proofs.JobTurns.{named-job, others-stay}
use Rattle.run_laws.proofs.RunLaws.{Goes-comes}
use Rattle.run_laws.proofs.flights.jobs_keep_to_their_leases.Goals as goal

pub returns : goal.returns
returns c = record {
  named = λ s xs now comes n id leased. named-job now.jobs id (ap is_some ((Goes-comes s xs now comes).held.flight.leased.named n id leased).1);
  leased = λ s xs now comes. (Goes-comes s xs now comes).held.flight.leased.each;
  others = λ s xs now comes rows id n apart. others-stay rows now id n (Goes-comes s xs now comes).held apart;
  fails = λ s xs now comes. plans-fail now;
  done = λ s xs now comes. plans-done (length s.opening.servers) now (Goes-comes s xs now comes).ready;
}
