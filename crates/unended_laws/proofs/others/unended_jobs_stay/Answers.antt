use Rattle.unended_laws.proofs.Beside.{apart-held, apart-sound}
use Rattle.unended_laws.proofs.others.unended_jobs_stay.Goals as goal

pub returns-clause-held : goal.returns-clause-held
returns-clause-held c = apart-held

pub returns-clause-sound : goal.returns-clause-sound
returns-clause-sound c = apart-sound
