use Rattle.tasks.proofs.Known.{known_rows_fix}
use Rattle.tasks.proofs.laws.known_rows_fix_the_run.Goals as goal

pub returns : goal.returns
returns c = known_rows_fix
