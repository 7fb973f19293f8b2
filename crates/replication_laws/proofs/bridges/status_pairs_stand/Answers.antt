use Rattle.replication_laws.proofs.BridgeLaws.{Stands-seen}
use Rattle.replication_laws.proofs.bridges.status_pairs_stand.Goals as goal

pub returns : goal.returns
returns c = Stands-seen
