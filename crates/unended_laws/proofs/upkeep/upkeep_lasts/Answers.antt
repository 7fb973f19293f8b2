use Rattle.unended_laws.proofs.Lasting.{begun-up, others-up, outside-up}
use Rattle.unended_laws.proofs.upkeep.upkeep_lasts.Goals as goal

pub returns : goal.returns
returns c = record {
  begun = begun-up;
  outside = outside-up;
  others = others-up;
}
