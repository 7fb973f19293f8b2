use Rattle.instance_keeper.proofs.HadRows.{had_row_stays}
use Rattle.instance_keeper.proofs.laws.had_rows_change_nothing.Goals as goal

pub returns : goal.returns
returns c = had_row_stays
