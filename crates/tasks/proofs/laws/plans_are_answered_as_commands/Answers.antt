use Rattle.tasks.proofs.Answered.{answered-alike, lasting-told}
use Rattle.tasks.proofs.laws.plans_are_answered_as_commands.Goals as goal

pub returns-clause-alike : goal.returns-clause-alike
returns-clause-alike c = answered-alike

pub returns-clause-lasting : goal.returns-clause-lasting
returns-clause-lasting c = lasting-told
