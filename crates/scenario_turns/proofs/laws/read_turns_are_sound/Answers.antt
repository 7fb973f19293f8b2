use Rattle.scenario_turns.proofs.ReadTurns.{turn-has}
use Rattle.scenario_turns.proofs.laws.read_turns_are_sound.Goals as goal

pub returns : goal.returns
returns c = turn-has
