use Rattle.std.proofs.Common.{◌≡◌, ◌++◌, take}
use Rattle.scenario_turns.proofs.Prelude.{polls_of}
use Rattle.scenario_turns.proofs.expansion.push_polls.Given as goal

abbrev pub invariant-loop-no : goal.invariant-loop-no
invariant-loop-no l = l.turns.items ≡ l.fn.turns.items ++ polls_of l.node (take l.no-index l.ordered)
