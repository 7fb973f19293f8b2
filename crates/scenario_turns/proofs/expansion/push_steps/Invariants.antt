use Rattle.std.proofs.Common.{◌≡◌, ◌++◌, take}
use Rattle.scenario_turns.proofs.Prelude.{steps_of}
use Rattle.scenario_turns.proofs.expansion.push_steps.Given as goal

abbrev pub invariant-loop-no : goal.invariant-loop-no
invariant-loop-no l = l.turns.items ≡ l.fn.turns.items ++ steps_of (take l.no-index l.ordered)
