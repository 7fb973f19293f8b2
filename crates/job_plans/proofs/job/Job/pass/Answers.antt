use Rattle.std.proofs.Common.{sym}
use Rattle.job_plans.proofs.Views.{pass-view}
use Rattle.job_plans.proofs.job.Job.pass.Goals as goal

pub returns : goal.returns
returns c = pass-view c.self.inside c.args.self.now (sym c.self.view_is)
