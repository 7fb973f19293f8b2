use Rattle.std.proofs.Common.{length}
use Rattle.recovery_parts.proofs.doing.+make.Given as goal

abbrev pub decreases-make : goal.decreases-make
decreases-make l = length l.changes.now
