use Rattle.plan_laws.proofs.Deciding.{conditions-decide}
use Rattle.plan_laws.proofs.conditions_decide_the_choice.Goals as goal

pub returns : goal.returns
returns c = conditions-decide
