use Rattle.replication_laws.proofs.Unchanged.{nothing_done-same}
use Rattle.replication_laws.proofs.faults.faults_change_nothing.Goals as goal

pub returns : goal.returns
returns c = nothing_done-same
