use Rattle.cause_laws.proofs.Turning.{turn-idle, turn-taken}
use Rattle.cause_laws.proofs.events.turns_do_one_operation.Goals as goal

pub returns-clause-one : goal.returns-clause-one
returns-clause-one c = turn-taken

pub returns-clause-none : goal.returns-clause-none
returns-clause-none c = turn-idle
