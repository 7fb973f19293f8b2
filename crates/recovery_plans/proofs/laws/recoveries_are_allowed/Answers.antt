use Rattle.recovery_plans.proofs.Allowed.{taken-allowed}
use Rattle.recovery_plans.proofs.laws.recoveries_are_allowed.Goals as goal

pub returns : goal.returns
returns c = taken-allowed
