use Rattle.tasks.proofs.Words.{pattern_reads}
use Rattle.tasks.proofs.asked.task_of.Goals as goal

pub asked_of-requires-clause-pattern : goal.asked_of-requires-clause-pattern
asked_of-requires-clause-pattern c = pattern_reads c.args.places.now c.requires.words
