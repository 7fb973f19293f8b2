use Rattle.openings.proofs.Soundness.{sound_checked}
use Rattle.openings.proofs.laws.checked_openings_are_sound.Goals as goal

pub returns : goal.returns
returns c = sound_checked
