use Rattle.std.proofs.Common.{◌≡◌, ◌∙◌, ◌++◌, List, Some, ap, subst, sym, OnOk}
use Rattle.tasks.proofs.Prelude.{BookState, Ground, Means, Op, Planned, Purpose, Unended, ground_in, means_of, planned_by, planned_text, recovery_planned}
use Rattle.tasks.proofs.Prelude.{straight, straight_lines}
use Rattle.tasks.proofs.Planning.{found_planned, none_planned}
use Rattle.tasks.proofs.planned.print_planned.Goals as goal

pub find-requires : goal.find-requires
find-requires c = (c.args.engine.now.last_job, c.open_jobs-jobs.ensures.rising)

pub returns-in_default : goal.returns-in_default
returns-in_default c =
    subst (λ (p : Planned). OnOk c.print_plan.result (c.print_plan.new.out.items ≡ c.args.out.now.items ++ planned_text c.args.names.now p))
    (none_planned c.args.engine.now c.args.command c.args.job c.open_jobs-jobs.result.now c.open_jobs-jobs.ensures.jobs c.in_default.ensures)
    c.print_plan.ensures

pub returns-in-Plan : goal.returns-in-Plan
returns-in-Plan c =
    let found = found_planned c.args.engine.now c.args.command c.args.job c.open_jobs-jobs.result.now c.open_jobs-jobs.ensures.jobs c.in-Some.at c.index-jobs-at.result c.in-Some.ensures.0 c.in-Some.ensures.1 c.index-jobs-at.is in
    subst (λ (p : Planned). OnOk c.print_straight.result (c.print_straight.new.out.items ≡ c.args.out.now.items ++ planned_text c.args.names.now p))
    (ap (λ (b : BookState). straight (straight_lines b c.left.result.now)) c.book.ensures
    ∙ ap (λ (ops : List Op). straight (straight_lines c.args.engine.now.book ops)) c.left.ensures
    ∙ (sym (ap (λ (j : Unended). planned_by c.args.engine.now c.args.command (Some j)) c.in-Plan.is) ∙ found))
    c.print_straight.ensures

pub returns-in-Recovery : goal.returns-in-Recovery
returns-in-Recovery c =
    let found = found_planned c.args.engine.now c.args.command c.args.job c.open_jobs-jobs.result.now c.open_jobs-jobs.ensures.jobs c.in-Some.at c.index-jobs-at.result c.in-Some.ensures.0 c.in-Some.ensures.1 c.index-jobs-at.is in
    subst (λ (p : Planned). OnOk c.print_recovery.result (c.print_recovery.new.out.items ≡ c.args.out.now.items ++ planned_text c.args.names.now p))
    (ap (λ (g : Ground). recovery_planned g c.purpose.result c.means_of-means.result c.args.command.i) c.ground-by.ensures
    ∙ ap (λ (u : Purpose). recovery_planned (ground_in c.args.engine.now) u c.means_of-means.result c.args.command.i) c.purpose.ensures
    ∙ ap (λ (by : Means). recovery_planned (ground_in c.args.engine.now) c.in-Recovery.job.purpose by c.args.command.i) (c.means_of-means.ensures ∙ ap means_of c.of.ensures)
    ∙ (sym (ap (λ (j : Unended). planned_by c.args.engine.now c.args.command (Some j)) c.in-Recovery.is) ∙ found))
    c.print_recovery.ensures
