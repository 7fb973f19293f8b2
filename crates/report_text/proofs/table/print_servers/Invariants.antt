use Rattle.std.proofs.Common.{◌≡◌, ◌++◌, drop}
use Rattle.report_text.specs.Tables.{servers_text}
use Rattle.report_text.proofs.table.print_servers.Given as goal

abbrev pub invariant-loop-no : goal.invariant-loop-no
invariant-loop-no l = l.out.items ++ servers_text l.world (drop l.no l.world.servers) ≡ l.fn.out.items ++ servers_text l.world l.world.servers
