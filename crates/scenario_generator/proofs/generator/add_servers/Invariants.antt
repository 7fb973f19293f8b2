use Rattle.std.proofs.Common.{◌≡◌, ◌≤◌}
use Rattle.scenario_generator.proofs.Prelude.{AreCounts, AreFew, Joins, servers_from, servers_text}
use Rattle.scenario_generator.proofs.generator.add_servers.Given as goal

abbrev pub invariant-loop-no : goal.invariant-loop-no
invariant-loop-no g l = record {
  number : l.numbers.last ≡ (servers_from l.fn.numbers.last l.no).number;
  few : AreFew l.counts;
  counts : AreCounts l.counts (servers_from l.fn.numbers.last l.no).drawn l.no;
  joins : Joins (servers_text (servers_from l.fn.numbers.last l.no).drawn) (g.K.Sink.written l.fn.sink) l.fn.held.items (g.K.Sink.written l.sink) l.held.items;
  later : g.K.Sink.faults l.fn.sink ≤ g.K.Sink.faults l.sink;
}
