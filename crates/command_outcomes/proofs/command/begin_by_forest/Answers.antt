use Rattle.std.proofs.Common.{◌+◌, ◌∙◌, ap}
use Rattle.command_outcomes.proofs.Prelude.{Unended, begun, job_by, leases_by, refusal, refusal_by}
use Rattle.command_outcomes.proofs.Outcomes.{permitted-begun, refused-begun}
use Rattle.command_outcomes.proofs.command.begin_by_forest.Goals as goal

pub returns-in-Err-Refused : goal.returns-in-Err-Refused
returns-in-Err-Refused c =
    let w = c.args.world.now in
    let b = c.args.book.now in
    let n = c.args.numbers in
    let said = rw c.in-Err-Refused.field-0-is at c.in-Err-Refused.ensures.refusal in
    c.refused.ensures ∙ ap (refusal n.reads) c.in-Err-Refused.why-is
    ∙ refused-begun n (refusal_by w b n.moment n.every c.args.command c.args.planner) c.in-Err-Refused.why (leases_by w b c.args.command c.args.planner)
    (job_by w b c.args.command c.args.planner (n.last_job + 1) n.wait n.every) said

pub returns : goal.returns
returns c =
    let w = c.args.world.now in
    let b = c.args.book.now in
    let n = c.args.numbers in
    let refused = refusal_by w b n.moment n.every c.args.command c.args.planner in
    let list = leases_by w b c.args.command c.args.planner in
    permitted-begun n refused list c.in-Ok.list.items c.in_ok-job.job c.new.result.items c.in-Ok.ensures.refusal c.in-Ok.ensures.list c.new.ensures.items
    ∙ ap (λ (job : Unended). begun n refused list job) c.in_ok-job.ensures
