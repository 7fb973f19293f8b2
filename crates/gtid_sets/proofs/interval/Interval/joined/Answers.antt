use Rattle.gtid_sets.proofs.Line.{joined_has}
use Rattle.gtid_sets.proofs.interval.Interval.joined.Goals as goal

pub returns-clause-has : goal.returns-clause-has
returns-clause-has c = λ x. joined_has c.args.self.now c.args.next.now c.max.result x c.requires.this c.requires.next c.requires.order c.requires.reaches c.max.ensures
