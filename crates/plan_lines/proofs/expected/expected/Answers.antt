use Rattle.std.proofs.Common.{[]}
use Rattle.plan_lines.proofs.Prelude.{ServerNo, expected_at, instance_at}
use Rattle.recovery_parts.proofs.Lists.{given-onto}
use Rattle.plan_lines.proofs.expected.expected.Goals as goal

pub loop-no-preserved : goal.loop-no-preserved
loop-no-preserved c =
    given-onto (λ (n : ServerNo). expected_at n (instance_at c.args.book.now n)) [] c.args.replicas.now c.loop-no.no-index _ c.loop-no.list.items c.push_some.new.list.items
    c.expected_at.result c.loop-no-test.true c.loop-no.invariant c.in_ok-push_some.ensures c.expected_at.ensures
