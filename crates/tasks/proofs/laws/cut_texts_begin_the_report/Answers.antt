use Rattle.tasks.proofs.Known.{cut_begins}
use Rattle.tasks.proofs.laws.cut_texts_begin_the_report.Goals as goal

pub returns : goal.returns
returns c = cut_begins
