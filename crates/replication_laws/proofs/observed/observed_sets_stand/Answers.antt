use Rattle.replication_laws.proofs.SeenSets.{executed-seen, executed-after, executed-run, joins-auto}
use Rattle.replication_laws.proofs.observed.observed_sets_stand.Goals as goal

pub returns : goal.returns
returns c = record {
  seen = executed-seen;
  stays = executed-after;
  run_stays = executed-run;
  joins = joins-auto;
}
