use Rattle.std.proofs.Common.{length}
use Rattle.job_plans.proofs.turns.+restart.Given as goal

abbrev pub decreases-restart : goal.decreases-restart
decreases-restart l = length l.hands.now
