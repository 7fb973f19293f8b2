use Rattle.std.proofs.Common.{length}
use Rattle.gtid_sets.proofs.set.+gathered.Given as goal

abbrev pub decreases-gathered : goal.decreases-gathered
decreases-gathered l = length l.found.now
