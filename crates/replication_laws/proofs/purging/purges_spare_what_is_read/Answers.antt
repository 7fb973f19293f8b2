use Rattle.replication_laws.proofs.Purges.{purge-does, purge-file, purge-left, purge-no_file, purge-reaches, purge-rises, purge-spares, purge-within}
use Rattle.replication_laws.proofs.purging.purges_spare_what_is_read.Goals as goal

pub returns : goal.returns
returns c = record {
  done = purge-does;
  no_file = purge-no_file;
  left = purge-left;
  rises = purge-rises;
  within = purge-within;
  named = purge-file;
  read = purge-spares;
  far = purge-reaches;
}
