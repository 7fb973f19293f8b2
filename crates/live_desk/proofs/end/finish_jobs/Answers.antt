use Rattle.std.proofs.Common.{◌≡◌, ◌∙◌, List, Some, length, sym, ap, subst, arith, All, ◌<◌, slice_get}
use Rattle.live_desk.proofs.Prelude.{Unended, is_open, without-less}
use Rattle.live_desk.proofs.Ends.{RunsOn-finished, RunsOn-none, first-open}
use Rattle.live_desk.proofs.end.finish_jobs.Goals as goal

pub jobs-init : goal.jobs-init
jobs-init c = RunsOn-none (record { rows = c.args.rows.now; state = c.args.orch.now })

pub jobs-smaller : goal.jobs-smaller
jobs-smaller c =
    let first : slice_get c.jobs.orch.state.jobs 0 ≡ Some c.in-Some.job.now = ap (λ (js : List Unended). slice_get js 0) (sym c.open_jobs.ensures.jobs) ∙ sym c.in-Some.ensures.value in
    let opened = ap (is_open c.jobs.orch.state.jobs) c.id-id.ensures ∙ first-open c.jobs.orch.state.jobs c.in-Some.job.now first in
    let less = without-less c.jobs.orch.state.jobs c.id-id.result opened in
    let same = ap (λ (js : List Unended). length js) c.in-Ok.ensures.others in
    omega (arith, less, same)

pub jobs-preserved : goal.jobs-preserved
jobs-preserved c =
    RunsOn-finished (record { rows = c.args.rows.now; state = c.args.orch.now }) c.jobs.rows c.finish.new.keeper c.jobs.orch c.finish.new.self c.id-id.result c.jobs.invariant c.in-Ok.ensures.ok
    (subst (All (λ n. n.0 < length c.jobs.orch.state.world.servers)) c.order-order.ensures.order c.order-order.ensures.within) c.finish.ensures.servers
