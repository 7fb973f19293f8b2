use Rattle.unended_laws.proofs.AtRest.{begun-rests, others-rest, outside-rests}
use Rattle.unended_laws.proofs.upkeep.replicas_rest.Goals as goal

pub returns : goal.returns
returns c = record {
  begun = begun-rests;
  outside = outside-rests;
  others = others-rest;
}
