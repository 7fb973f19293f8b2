use Rattle.std.proofs.Common.{◌≡◌, map, take}
use Rattle.scenario_turns.proofs.Prelude.{is_found}
use Rattle.scenario_turns.proofs.pattern.answers.Given as goal

abbrev pub invariant-loop-name : goal.invariant-loop-name
invariant-loop-name l = (l.search ≡ l.pattern) × (l.answers.items ≡ map (is_found l.pattern) (take l.name-index l.printed))
