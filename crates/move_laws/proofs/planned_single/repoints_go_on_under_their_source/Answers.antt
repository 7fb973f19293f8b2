use Rattle.move_laws.proofs.PlansOfSingles.{plan-again, plan-auto}
use Rattle.move_laws.proofs.planned_single.repoints_go_on_under_their_source.Goals as goal

pub returns-clause-again : goal.returns-clause-again
returns-clause-again c = plan-again

pub returns-clause-auto : goal.returns-clause-auto
returns-clause-auto c = plan-auto
