use Rattle.replication_laws.proofs.Prelude.{sources}
use Rattle.replication_laws.proofs.Chains.{Grounded-no_cycle}
use Rattle.replication_laws.proofs.placed.no_server_is_below_itself.Goals as goal

pub returns : goal.returns
returns c = λ w n m placed from r. Grounded-no_cycle (sources w) n m (placed.grounded n) from r
