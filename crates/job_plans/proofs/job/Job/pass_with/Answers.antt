use Rattle.std.proofs.Common.{ap, ◌∙◌, sym, List, drop, ◌+◌}
use Rattle.job_plans.proofs.Prelude.{Sight, job_of, with_seen}
use Rattle.job_plans.proofs.Views.{seen-view}
use Rattle.job_plans.proofs.job.Job.pass_with.Goals as goal

pub returns : goal.returns
returns c =
    ap (λ (xs : List Sight). record (job_of c.self.inside) { ops = drop (c.self.inside.done + 1) c.self.inside.ops.items; seen = xs; waited = 0 })
    (c.keep.ensures.items ∙ ap (λ j. with_seen j.seen c.args.sight.no c.args.sight.seen) c.self.view_is)
    ∙ seen-view c.self.inside c.args.self.now (with_seen c.args.self.now.seen c.args.sight.no c.args.sight.seen) (sym c.self.view_is)
