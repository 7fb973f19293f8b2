use Rattle.replication_laws.proofs.Applies.{no_skip, no_skipped}
use Rattle.replication_laws.proofs.skipped_never_comes.Goals as goal

pub returns-clause-step : goal.returns-clause-step
returns-clause-step c = no_skip

pub returns-clause-answer : goal.returns-clause-answer
returns-clause-answer c = no_skipped
