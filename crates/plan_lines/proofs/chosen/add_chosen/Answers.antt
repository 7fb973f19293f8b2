use Rattle.plan_lines.proofs.Prelude.{chosen_line, ground_by}
use Rattle.recovery_parts.proofs.Lists.{given-onto}
use Rattle.plan_lines.proofs.chosen.add_chosen.Goals as goal

pub loop-other-preserved : goal.loop-other-preserved
loop-other-preserved c =
    given-onto (chosen_line (ground_by c.args.by.now) c.args.failed c.args.p.now) c.args.lines.now.items c.args.others.now c.loop-other.other-index _ c.loop-other.lines.items c.push_some.new.lines.items
    c.in_ok-line.line c.loop-other-test.true c.loop-other.invariant c.in_ok-push_some.ensures c.in_ok-line.ensures
