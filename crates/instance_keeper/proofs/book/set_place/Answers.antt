use Rattle.instance_keeper.proofs.Counts.{set_counts, set_values}
use Rattle.instance_keeper.proofs.book.set_place.Goals as goal

pub returns-clause-keys : goal.returns-clause-keys
returns-clause-keys c = set_counts c.args.instances.now.entries 0 c.args.no c.args.instance c.requires.keys

pub returns-clause-values : goal.returns-clause-values
returns-clause-values c = set_values c.args.instances.now.entries c.args.no c.args.instance
