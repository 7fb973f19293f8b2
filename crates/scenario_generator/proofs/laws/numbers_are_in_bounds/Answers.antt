use Rattle.scenario_generator.proofs.Promises.{next_whole}
use Rattle.scenario_generator.proofs.Servers.{below_small}
use Rattle.scenario_generator.proofs.laws.numbers_are_in_bounds.Goals as goal

pub returns-clause-whole : goal.returns-clause-whole
returns-clause-whole c = next_whole

pub returns-clause-small : goal.returns-clause-small
returns-clause-small c = below_small
