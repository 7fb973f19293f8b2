use Rattle.replication_laws.proofs.Prelude.{Purge}
use Rattle.replication_laws.proofs.Runs.{Idle-after, Safe-purged}
use Rattle.replication_laws.proofs.purging.purges_keep_safe.Goals as goal

pub returns : goal.returns
returns c = record {
  safe = Safe-purged;
  goes_on = λ w n file. (Idle-after w (Purge n file) tt).grows;
  errant = λ w n file. (Idle-after w (Purge n file) tt).errant;
}
