use Rattle.operations.proofs.Ending.{turn-moves}
use Rattle.operations.proofs.laws.jobs_end.Goals as goal

pub returns : goal.returns
returns c = turn-moves
