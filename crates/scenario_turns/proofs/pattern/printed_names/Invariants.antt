use Rattle.std.proofs.Common.{◌≡◌, map, take}
use Rattle.scenario_turns.proofs.Prelude.{printed}
use Rattle.scenario_turns.proofs.pattern.printed_names.Given as goal

abbrev pub invariant-loop-name : goal.invariant-loop-name
invariant-loop-name l = l.texts.items ≡ map printed (take l.name-index l.names)
