use Rattle.gtid_sets.proofs.SameSets.{same_sets_lem}
use Rattle.gtid_sets.proofs.set.same_sets.Goals as goal

pub returns : goal.returns
returns c = same_sets_lem
