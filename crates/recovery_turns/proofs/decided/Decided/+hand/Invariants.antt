use Rattle.std.proofs.Common.{length}
use Rattle.recovery_turns.proofs.Prelude.{decided_on}
use Rattle.recovery_turns.proofs.decided.Decided.+hand.Given as goal

abbrev pub decreases-hand : goal.decreases-hand
decreases-hand l = length (decided_on l.of.now l.self.now).drained
