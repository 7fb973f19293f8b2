use Rattle.replication_laws.proofs.Prelude.{after, run}
use Rattle.replication_laws.proofs.BridgeLaws.{Stands-grows}
use Rattle.replication_laws.proofs.Runs.{Grows-after, Grows-run}
use Rattle.replication_laws.proofs.bridges.bridges_stand.Goals as goal

pub returns-clause-stays : goal.returns-clause-stays
returns-clause-stays c = λ w e x s own exec placed allowed b. Stands-grows w (after w e) x s own exec (Grows-after w e placed allowed) b

pub returns-clause-run_stays : goal.returns-clause-run_stays
returns-clause-run_stays c = λ w es x s own exec placed allowed b. Stands-grows w (run w es) x s own exec (Grows-run w es placed allowed) b
