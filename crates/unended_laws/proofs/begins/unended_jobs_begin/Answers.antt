use Rattle.unended_laws.proofs.Begun.{begin-held, begin-sound}
use Rattle.unended_laws.proofs.begins.unended_jobs_begin.Goals as goal

pub returns-clause-held : goal.returns-clause-held
returns-clause-held c = begin-held

pub returns-clause-sound : goal.returns-clause-sound
returns-clause-sound c = begin-sound
