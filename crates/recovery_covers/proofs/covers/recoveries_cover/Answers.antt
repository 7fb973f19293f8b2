use Rattle.recovery_covers.proofs.Begun.{outside-covers, others-cover}
use Rattle.recovery_covers.proofs.Turning.{turn-covers}
use Rattle.recovery_covers.proofs.covers.recoveries_cover.Goals as goal

pub returns : goal.returns
returns c = record {
  going = turn-covers;
  outside = outside-covers;
  others = others-cover;
}
