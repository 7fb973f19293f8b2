use Rattle.scenario_reader.proofs.Sound.{scenario_in_sound}
use Rattle.scenario_reader.proofs.walk.read_is_sound.Goals as goal

pub returns : goal.returns
returns c = scenario_in_sound
