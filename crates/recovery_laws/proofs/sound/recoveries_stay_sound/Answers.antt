use Rattle.recovery_laws.proofs.Sounding.{taken-sound, run-sound}
use Rattle.recovery_laws.proofs.sound.recoveries_stay_sound.Goals as goal

pub returns-clause-taken : goal.returns-clause-taken
returns-clause-taken c = taken-sound

pub returns-clause-others : goal.returns-clause-others
returns-clause-others c = run-sound
