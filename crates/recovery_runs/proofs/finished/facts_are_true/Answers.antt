use Rattle.recovery_runs.proofs.Finishing.{facts-true}
use Rattle.recovery_runs.proofs.Facts.{explained-start, explained-step, last-explained}
use Rattle.recovery_runs.proofs.finished.facts_are_true.Goals as goal

pub returns-clause-turn : goal.returns-clause-turn
returns-clause-turn c s id r docket P found held speaking explains lost = facts-true s id r docket found P held speaking explains lost

pub returns-clause-opening : goal.returns-clause-opening
returns-clause-opening c = explained-start

pub returns-clause-stay : goal.returns-clause-stay
returns-clause-stay c = explained-step

pub returns-clause-last : goal.returns-clause-last
returns-clause-last c P s id = last-explained P id s
