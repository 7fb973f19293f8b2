use Rattle.tidy_laws.proofs.Worlds.{world-comes}
use Rattle.tidy_laws.proofs.quiet_states_are_worlds_of_their_scenario.Goals as goal

pub returns : goal.returns
returns c = λ s xs now comes untils quiet. world-comes s xs now comes untils quiet
