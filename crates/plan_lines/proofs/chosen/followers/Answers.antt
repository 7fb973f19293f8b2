use Rattle.std.proofs.Common.{[]}
use Rattle.plan_lines.proofs.Prelude.{Stopped, follower_in, ground_by, lot_for}
use Rattle.recovery_parts.proofs.Lists.{given-onto}
use Rattle.plan_lines.proofs.chosen.followers.Goals as goal

pub loop-other-preserved : goal.loop-other-preserved
loop-other-preserved c =
    given-onto (λ (s : Stopped). follower_in c.args.p.now.no s (lot_for c.args.means (ground_by c.args.by.now) c.args.failed c.args.p.now s)) [] c.args.others.now c.loop-other.other-index _ c.loop-other.list.items c.push_follower.new.list.items
    c.follower.result c.loop-other-test.true c.loop-other.invariant c.in_ok-push_follower.ensures c.follower.ensures
