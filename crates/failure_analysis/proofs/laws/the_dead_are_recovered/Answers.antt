use Rattle.failure_analysis.proofs.Rows.{action-of}
use Rattle.failure_analysis.proofs.laws.the_dead_are_recovered.Goals as goal

pub returns : goal.returns
returns c = action-of
