use Rattle.cause_laws.proofs.Turning.{spent-last}
use Rattle.cause_laws.proofs.courses.waits_are_spent_last.Goals as goal

pub returns : goal.returns
returns c = spent-last
