use Rattle.recovery_covers.proofs.Begun.{begun-covers}
use Rattle.recovery_covers.proofs.covers.recoveries_begin_covered.Goals as goal

pub returns : goal.returns
returns c w u by id wait f replicas order are = begun-covers w by id wait f replicas order u are
