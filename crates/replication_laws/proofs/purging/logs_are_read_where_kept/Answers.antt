use Rattle.replication_laws.proofs.Entries.{logged-gone, logged-kept, logged-none, logged-reached, logged-read}
use Rattle.replication_laws.proofs.purging.logs_are_read_where_kept.Goals as goal

pub returns : goal.returns
returns c = record {
  kept = logged-kept;
  read = logged-read;
  none = logged-none;
  gone = logged-gone;
  reached = logged-reached;
}
