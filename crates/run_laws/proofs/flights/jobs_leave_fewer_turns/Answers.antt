use Rattle.run_laws.proofs.JobTurns.{fewer-left}
use Rattle.run_laws.proofs.RunLaws.{Goes-comes}
use Rattle.std.proofs.Common.{length}
use Rattle.run_laws.proofs.flights.jobs_leave_fewer_turns.Goals as goal

pub returns : goal.returns
returns c = λ s xs now comes rows id still. fewer-left (length s.opening.servers) rows now id (Goes-comes s xs now comes).ready still
