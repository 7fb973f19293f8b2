use Rattle.std.proofs.Common.{ap, ◌∙◌, length}
use Rattle.job_plans.proofs.Prelude.{Job}
use Rattle.job_plans.proofs.Views.{turns-view}
use Rattle.job_plans.proofs.job.Job.turns_left.Goals as goal

pub returns : goal.returns
returns c =
    c.saturating_sub.ensures
    ∙ turns-view c.from-each.result (length c.left.result.now) c.from.result c.args.self.now (c.from-each.ensures ∙ ap (λ (j : Job). j.wait) c.self.view_is)
    (ap length c.left.ensures) (c.from.ensures ∙ ap (λ (j : Job). j.waited) c.self.view_is)
