use Rattle.unended_laws.proofs.Begun.{recovery-held, recovery-sound}
use Rattle.unended_laws.proofs.begins.recoveries_begin_beside.Goals as goal

pub returns-clause-held : goal.returns-clause-held
returns-clause-held c = recovery-held

pub returns-clause-sound : goal.returns-clause-sound
returns-clause-sound c = recovery-sound
