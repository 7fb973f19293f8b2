use Rattle.move_laws.proofs.ByKept.{coords-begin, gtids-begin}
use Rattle.move_laws.proofs.kept.permitted_moves_go_by_what_is_kept.Goals as goal

pub returns-clause-coordinates : goal.returns-clause-coordinates
returns-clause-coordinates c = coords-begin

pub returns-clause-gtids : goal.returns-clause-gtids
returns-clause-gtids c = gtids-begin
