use Rattle.plan_lines.proofs.Prelude.{Stopped, ground_by, lot_for, parted}
use Rattle.recovery_parts.proofs.Lists.{given-onto}
use Rattle.plan_lines.proofs.chosen.add_parted.Goals as goal

pub loop-other-preserved : goal.loop-other-preserved
loop-other-preserved c =
    given-onto (λ (s : Stopped). parted c.args.by.now.book.now c.args.purpose s (lot_for c.args.means (ground_by c.args.by.now) c.args.failed c.args.p.now s)) c.args.lines.now.items c.args.others.now c.loop-other.other-index _ c.loop-other.lines.items c.push_some.new.lines.items
    c.parted.result c.loop-other-test.true c.loop-other.invariant c.in_ok-push_some.ensures c.parted.ensures
