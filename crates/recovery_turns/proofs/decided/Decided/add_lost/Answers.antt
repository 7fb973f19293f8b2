use Rattle.recovery_turns.proofs.Prelude.{decided_on, lost_line}
use Rattle.recovery_turns.proofs.Lists.{given-onto}
use Rattle.recovery_turns.proofs.decided.Decided.add_lost.Goals as goal

pub loop-no-preserved : goal.loop-no-preserved
loop-no-preserved c =
    given-onto (lost_line (decided_on c.args.of.now c.args.self.now).outcome) c.args.lines.now.items c.args.order.now c.loop-no.no-index (record { 0 = 0 }) c.loop-no.lines.items c.push_some.new.lines.items c.lost_line.result
    c.loop-no-test.true c.loop-no.invariant c.in_ok-push_some.ensures c.lost_line.ensures
