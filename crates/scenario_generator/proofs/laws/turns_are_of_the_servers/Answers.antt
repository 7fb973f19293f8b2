use Rattle.scenario_generator.proofs.Promises.{turns_are}
use Rattle.scenario_generator.proofs.Turns.{turns_from-count}
use Rattle.scenario_generator.proofs.laws.turns_are_of_the_servers.Goals as goal

pub returns-clause-count : goal.returns-clause-count
returns-clause-count c = turns_from-count

pub returns-clause-each : goal.returns-clause-each
returns-clause-each c = turns_are
