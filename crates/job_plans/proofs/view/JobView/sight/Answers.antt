use Rattle.std.proofs.Common.{ap, ◌∙◌, sym, Option, option_copied}
use Rattle.job_plans.proofs.Prelude.{Job, Position, or_seen, seen_of}
use Rattle.job_plans.proofs.Sights.{seen-later}
use Rattle.job_plans.proofs.view.JobView.sight.Goals as goal

pub returns-in-Some : goal.returns-in-Some
returns-in-Some c =
    let xs = c.self.inside.seen.now in
    let k = c.args.no.0 in
    sym (
    ap (λ (j : Job). seen_of j.seen k) (sym c.self.view_is) ∙ seen-later xs c.self.inside.more.now k
    ∙ ap (λ (o : Option Position). or_seen o (seen_of xs k)) (sym c.latest_of_more.ensures ∙ ap option_copied c.in-Some.is)
    )

pub returns-in-None : goal.returns-in-None
returns-in-None c =
    let xs = c.self.inside.seen.now in
    let k = c.args.no.0 in
    c.latest.ensures
    ∙ sym (
    ap (λ (j : Job). seen_of j.seen k) (sym c.self.view_is) ∙ seen-later xs c.self.inside.more.now k
    ∙ ap (λ (o : Option Position). or_seen o (seen_of xs k)) (sym c.latest_of_more.ensures ∙ ap option_copied c.in-None.is)
    )
