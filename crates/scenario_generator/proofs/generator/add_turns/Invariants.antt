use Rattle.std.proofs.Common.{◌≡◌, ◌≤◌}
use Rattle.scenario_generator.proofs.Prelude.{Joins, turns_from, turns_text}
use Rattle.scenario_generator.proofs.generator.add_turns.Given as goal

abbrev pub invariant-loop-at : goal.invariant-loop-at
invariant-loop-at g l = record {
  number : l.numbers.last ≡ (turns_from l.servers l.fn.numbers.last l.at).number;
  joins : Joins (turns_text (turns_from l.servers l.fn.numbers.last l.at).drawn) (g.K.Sink.written l.fn.sink) l.fn.held.items (g.K.Sink.written l.sink) l.held.items;
  later : g.K.Sink.faults l.fn.sink ≤ g.K.Sink.faults l.sink;
}
