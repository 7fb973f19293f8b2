use Rattle.unended_laws.proofs.Ending.{turn-explained}
use Rattle.unended_laws.proofs.losses.facts_in_flight_are_true.Goals as goal

pub returns : goal.returns
returns c = λ f us t P held speaking explains lost. turn-explained f us t held P speaking explains lost
