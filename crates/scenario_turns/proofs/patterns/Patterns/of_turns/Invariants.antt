use Rattle.std.proofs.Common.{◌≡◌}
use Rattle.scenario_turns.proofs.patterns.Patterns.of_turns.Given as goal

abbrev pub invariant-loop-turn : goal.invariant-loop-turn
invariant-loop-turn l = l.patterns ≡ l.fn.printed.items
