use Rattle.replication_laws.proofs.BridgeLaws.{joins-down, joins-up, joins-about, joins-back}
use Rattle.replication_laws.proofs.bridges.crossings_join_well.Goals as goal

pub returns : goal.returns
returns c = record {
  down = joins-down;
  up = joins-up;
  about = joins-about;
  back = joins-back;
}
