use Rattle.plan_lines.proofs.Prelude.{Stopped, ground_by, left, way_of}
use Rattle.recovery_parts.proofs.Lists.{given-onto}
use Rattle.plan_lines.proofs.branches.add_left.Goals as goal

pub loop-replica-preserved : goal.loop-replica-preserved
loop-replica-preserved c =
    given-onto (λ (d : Stopped). left c.args.by.now.book.now d (way_of (ground_by c.args.by.now) c.args.failed c.args.successor d)) c.args.lines.now.items c.args.list.now c.loop-replica.replica-index _ c.loop-replica.lines.items c.push_some.new.lines.items
    c.left.result c.loop-replica-test.true c.loop-replica.invariant c.in_ok-push_some.ensures c.left.ensures
