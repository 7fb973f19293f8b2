use Rattle.std.proofs.Common.{◌≡◌, ◌++◌, ◌≤◌, drop}
use Rattle.scenario_dump.proofs.Prelude.{history_of, history_text, items_of, items_text, opening_of, part_data, parts_of, server_at}
use Rattle.scenario_dump.proofs.Runs.{merged}
use Rattle.scenario_dump.proofs.histories.print_history.Given as goal

abbrev pub invariant-loop-k : goal.invariant-loop-k
invariant-loop-k l =
    let servers = (opening_of l.fn.world).servers in
    let history = history_of (server_at l.fn.world l.fn.no.0) in
    record {
      few : l.part.count ≤ l.k;
      text : l.out.items ++ items_text l.later (items_of (part_data servers) (merged l.part (parts_of (drop l.k history)))) ≡ l.fn.out.items ++ history_text l.fn.world l.fn.no.0;
    }
