use Rattle.recovery_plans.proofs.Walking.{taken-walks}
use Rattle.recovery_plans.proofs.laws.turns_are_walks.Goals as goal

pub returns : goal.returns
returns c = taken-walks
