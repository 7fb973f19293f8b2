use Rattle.std.proofs.Common.{refl}
use Rattle.replication_laws.proofs.Prelude.{server_at}
use Rattle.replication_laws.proofs.Applies.{Safe-apply}
use Rattle.replication_laws.proofs.Keeping.{Placed-safe}
use Rattle.replication_laws.proofs.Runs.{Safe-fetched, Grows-after}
use Rattle.replication_laws.proofs.Writes.{Safe-write}
use Rattle.replication_laws.proofs.each_exchange_keeps_safe.Goals as goal

pub returns : goal.returns
returns c = record {
  write = λ w n size safe some q. Safe-write w n size (server_at w n) refl some safe q;
  fetch = Safe-fetched;
  apply = λ w n safe. Safe-apply w n (server_at w n) refl safe;
  goes_on = λ w e safe allowed. Grows-after w e (Placed-safe w safe) allowed;
}
