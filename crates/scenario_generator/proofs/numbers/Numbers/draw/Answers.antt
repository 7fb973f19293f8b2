use Rattle.scenario_generator.proofs.Prelude.{below}
use Rattle.scenario_generator.proofs.Draws.{next_wraps}
use Rattle.scenario_generator.proofs.numbers.Numbers.draw.Goals as goal

pub returns-clause-drawn : goal.returns-clause-drawn
unfolding below
returns-clause-drawn c = rw (c.from.ensures, next_wraps c.args.self.now.last)

pub returns-clause-after : goal.returns-clause-after
returns-clause-after c = next_wraps c.args.self.now.last
