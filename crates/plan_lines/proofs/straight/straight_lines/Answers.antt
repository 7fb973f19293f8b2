use Rattle.std.proofs.Common.{[], ◌∙◌, ap}
use Rattle.plan_lines.proofs.Prelude.{straight_line}
use Rattle.recovery_parts.proofs.Lists.{given-onto}
use Rattle.plan_lines.proofs.straight.straight_lines.Goals as goal

pub loop-op-preserved : goal.loop-op-preserved
loop-op-preserved c =
    given-onto (straight_line c.args.book.now) [] c.args.ops.now c.loop-op.op-index c.op-item.result c.loop-op.lines.items c.push_some.new.lines.items
    c.straight_line.result c.loop-op-test.true c.loop-op.invariant c.in_ok-push_some.ensures (c.straight_line.ensures ∙ ap (straight_line c.args.book.now) c.op-item.is)
