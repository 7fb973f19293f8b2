use Rattle.run_laws.proofs.RunLaws.{Goes-comes}
use Rattle.run_laws.proofs.flights.every_state_is_held.Goals as goal

pub returns : goal.returns
returns c = λ s xs now comes. (Goes-comes s xs now comes).held
