use Rattle.replication_laws.proofs.Refusals.{fetch-got, fetch-purged, fetch-refused, fetch-rotated}
use Rattle.replication_laws.proofs.purging.purged_files_are_not_read.Goals as goal

pub returns : goal.returns
returns c = record {
  refused = fetch-refused;
  refuses = fetch-purged;
  got = λ w n r s no to at at_s on h. fetch-got w n r s no to at on.attached at_s h;
  rotated = λ w n r s no to at at_s on h. fetch-rotated w n r s no to at on.attached at_s h;
}
