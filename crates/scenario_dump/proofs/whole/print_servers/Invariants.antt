use Rattle.std.proofs.Common.{◌≡◌, ◌++◌, drop, nat_lt}
use Rattle.scenario_dump.proofs.Prelude.{items_of, items_text, opening_of, server_data, servers_text}
use Rattle.scenario_dump.proofs.whole.print_servers.Given as goal

abbrev pub invariant-loop-no : goal.invariant-loop-no
invariant-loop-no l =
    let servers = (opening_of l.fn.world).servers in
    l.out.items ++ items_text (nat_lt 0 l.no) (items_of (server_data servers) (drop l.no servers)) ≡ l.fn.out.items ++ servers_text l.fn.world
