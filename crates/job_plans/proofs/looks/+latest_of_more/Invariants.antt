use Rattle.std.proofs.Common.{length}
use Rattle.job_plans.proofs.looks.+latest_of_more.Given as goal

abbrev pub decreases-latest_of_more : goal.decreases-latest_of_more
decreases-latest_of_more l = length l.more.now
