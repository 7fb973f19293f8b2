use Rattle.recovery_ends.proofs.Ended.{begun-shaped, taken-ends, taken-shaped}
use Rattle.recovery_ends.proofs.ends.recoveries_end.Goals as goal

pub returns : goal.returns
returns c = record {
  begun = begun-shaped;
  shaped = taken-shaped;
  fewer = taken-ends;
}
