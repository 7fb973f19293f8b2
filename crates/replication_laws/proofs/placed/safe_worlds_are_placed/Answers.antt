use Rattle.replication_laws.proofs.Keeping.{Placed-safe}
use Rattle.replication_laws.proofs.placed.safe_worlds_are_placed.Goals as goal

pub returns : goal.returns
returns c = Placed-safe
