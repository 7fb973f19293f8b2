use Rattle.std.proofs.Common.{[], ◌∷◌, arith}
use Rattle.scenario_dump.proofs.Prelude.{init_of, opening_of, server_data, server_text}
use Rattle.scenario_dump.proofs.Lists.{list_ends, list_goes_on}
use Rattle.scenario_dump.proofs.Printed.{appended, map_ok, two_first}
use Rattle.scenario_dump.proofs.Servers.{init_there, inits_count, text_there}
use Rattle.scenario_dump.proofs.Worlds.{there_is}
use Rattle.scenario_dump.proofs.whole.print_servers.Goals as goal

pub loop-no-preserved : goal.loop-no-preserved
loop-no-preserved c =
    let w = c.args.world.now in
    let n = c.loop-no.no in
    let servers = (opening_of w).servers in
    let s = there_is w n (omega (arith, c.loop-no-test.true, c.servers-no-end.ensures)) in
    list_goes_on (server_data servers) servers n (init_of s.0) c.loop-no.out.items c.print_server.new.out.items (server_text w n) _ (init_there w n s.0 s.1) (text_there w n s.0 s.1)
    (two_first _ _ _ _ _ _ c.in_ok-extend_from_slice-2.ensures.items c.comma.ensures c.in_ok-print_server.ensures) c.loop-no.invariant

pub returns : goal.returns
returns c =
    let w = c.args.world.now in
    let servers = (opening_of w).servers in
    map_ok c.extend_from_slice-2.result (λ last. list_ends (server_data servers) servers c.loop-no.no c.loop-no.out.items c.extend_from_slice-2.new.self.items _ (omega (arith, inits_count w, c.loop-no-test.false, c.servers-no-end.ensures)) last c.loop-no.invariant)
    (appended c.extend_from_slice-2.result c.extend_from_slice-2.new.self.items c.loop-no.out.items (93 ∷ []) c.extend_from_slice-2.ensures.items)
