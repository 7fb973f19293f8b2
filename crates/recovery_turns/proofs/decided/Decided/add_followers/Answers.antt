use Rattle.std.proofs.Common.{get_or, ◌∙◌}
use Rattle.recovery_turns.proofs.Prelude.{decided_on, follower_line}
use Rattle.recovery_turns.proofs.Decisions.{follower_on}
use Rattle.recovery_turns.proofs.Lists.{given-onto}
use Rattle.recovery_turns.proofs.decided.Decided.add_followers.Goals as goal

pub loop-no-preserved : goal.loop-no-preserved
loop-no-preserved c =
    given-onto (follower_line (decided_on c.args.of.now c.args.self.now).outcome) c.args.lines.now.items c.args.order.now c.loop-no.no-index (record { 0 = 0 }) c.loop-no.lines.items c.push_some.new.lines.items c.follower_line.result
    c.loop-no-test.true c.loop-no.invariant c.in_ok-push_some.ensures
    (c.follower_line.ensures ∙ follower_on c.args.of.now c.args.self.now (get_or c.args.order.now c.loop-no.no-index (record { 0 = 0 })))
