use Rattle.run_laws.proofs.RunLaws.{Holds-comes}
use Rattle.run_laws.proofs.runs.every_state_is_placed.Goals as goal

pub returns : goal.returns
returns c = λ s xs now comes. (Holds-comes s xs now comes).placed
