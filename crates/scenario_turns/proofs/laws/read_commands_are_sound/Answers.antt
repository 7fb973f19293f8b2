use Rattle.scenario_turns.proofs.Sound.{command-has}
use Rattle.scenario_turns.proofs.laws.read_commands_are_sound.Goals as goal

pub returns : goal.returns
returns c = command-has
