use Rattle.scenario_servers.proofs.Reading.{read_given}
use Rattle.scenario_servers.proofs.laws.read_servers_are_sound.Goals as goal

pub returns : goal.returns
returns c = read_given
