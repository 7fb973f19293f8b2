use Rattle.unended_laws.proofs.Beside.{restart-held, restart-sound}
use Rattle.unended_laws.proofs.others.restarts_leave_no_job.Goals as goal

pub returns-clause-held : goal.returns-clause-held
returns-clause-held c = restart-held

pub returns-clause-sound : goal.returns-clause-sound
returns-clause-sound c = restart-sound
