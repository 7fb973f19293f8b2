use Rattle.tidy_laws.proofs.Runs.{tidy-comes}
use Rattle.tidy_laws.proofs.every_state_is_tidy.Goals as goal

pub returns : goal.returns
returns c = λ s xs now comes untils. tidy-comes s xs now comes untils
