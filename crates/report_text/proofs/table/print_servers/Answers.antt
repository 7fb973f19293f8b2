use Rattle.std.proofs.Common.{arith}
use Rattle.report_text.proofs.ServerLines.{servers_go_on}
use Rattle.report_text.proofs.table.print_servers.Goals as goal

pub loop-no-preserved : goal.loop-no-preserved
loop-no-preserved c =
    servers_go_on c.args.world.now c.args.world.now.servers c.loop-no.no c.loop-no.out.items _ _ (omega arith) c.loop-no.invariant c.in_ok-print_server.ensures
