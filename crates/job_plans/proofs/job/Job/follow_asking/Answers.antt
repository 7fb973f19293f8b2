use Rattle.std.proofs.Common.{ap, ◌∙◌, sym, List, drop, ◌+◌}
use Rattle.job_plans.proofs.Prelude.{Job, ServerNo, hands_after, job_of}
use Rattle.job_plans.proofs.Views.{hands-view}
use Rattle.job_plans.proofs.job.Job.follow_asking.Goals as goal

pub returns-clause-ok : goal.returns-clause-ok
returns-clause-ok c =
    ap (λ (hs : List ServerNo). record (job_of c.self.inside) { ops = drop (c.self.inside.done + 1) c.self.inside.ops.items; waited = 0; hands = hs })
    (c.change_hands.ensures.items ∙ ap (λ (hs : List ServerNo). hands_after hs c.args.no c.args.ask) (c.reserve.ensures.items ∙ ap (λ (j : Job). j.hands) c.self.view_is))
    ∙ hands-view c.self.inside c.args.self.now (hands_after c.args.self.now.hands c.args.no c.args.ask) (sym c.self.view_is)
