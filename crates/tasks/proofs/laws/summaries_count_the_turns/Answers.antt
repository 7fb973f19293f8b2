use Rattle.tasks.proofs.Known.{replies_are_of_turns, summaries_count}
use Rattle.tasks.proofs.laws.summaries_count_the_turns.Goals as goal

pub returns-clause-replies : goal.returns-clause-replies
returns-clause-replies c = replies_are_of_turns

pub returns-clause-turns : goal.returns-clause-turns
returns-clause-turns c = summaries_count
