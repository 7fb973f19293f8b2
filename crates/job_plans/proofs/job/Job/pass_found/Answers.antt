use Rattle.std.proofs.Common.{ap, ◌∙◌, sym, List, [], ◌∷◌, ◌++◌, drop, ◌+◌}
use Rattle.job_plans.proofs.Prelude.{Job, Match, job_of}
use Rattle.job_plans.proofs.Views.{matches-view}
use Rattle.job_plans.proofs.job.Job.pass_found.Goals as goal

pub returns-clause-ok : goal.returns-clause-ok
returns-clause-ok c =
    ap (λ (ms : List Match). record (job_of c.self.inside) { ops = drop (c.self.inside.done + 1) c.self.inside.ops.items; matches = ms; waited = 0 })
    (c.in_ok-push.ensures.items ∙ ap (λ (j : Job). j.matches ++ c.args.found ∷ []) c.self.view_is)
    ∙ matches-view c.self.inside c.args.self.now (c.args.self.now.matches ++ c.args.found ∷ []) (sym c.self.view_is)
