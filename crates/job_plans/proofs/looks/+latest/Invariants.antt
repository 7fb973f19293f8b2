use Rattle.std.proofs.Common.{length}
use Rattle.job_plans.proofs.looks.+latest.Given as goal

abbrev pub decreases-latest : goal.decreases-latest
decreases-latest l = length l.seen.now
