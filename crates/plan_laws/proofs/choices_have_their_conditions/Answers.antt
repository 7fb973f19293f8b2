use Rattle.plan_laws.proofs.Conditions.{choices-have}
use Rattle.plan_laws.proofs.choices_have_their_conditions.Goals as goal

pub returns : goal.returns
returns c = choices-have
