use Rattle.std.proofs.Common.{ap, map, ◌∙◌}
use Rattle.name_order.proofs.Arranged.{seen, seen_more}
use Rattle.name_order.proofs.order.numbered.Goals as goal

pub loop-no-preserved : goal.loop-no-preserved
loop-no-preserved c =
    ap (map seen) c.in_ok-push.ensures.items
    ∙ seen_more c.args.names.now c.loop-no.servers.items c.loop-no.no _ c.index-names-no.is c.loop-no-test.true c.loop-no.invariant
