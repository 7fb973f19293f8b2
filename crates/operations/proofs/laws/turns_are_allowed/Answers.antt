use Rattle.operations.proofs.Allowing.{turn-allowed}
use Rattle.operations.proofs.laws.turns_are_allowed.Goals as goal

pub returns : goal.returns
returns c = turn-allowed
