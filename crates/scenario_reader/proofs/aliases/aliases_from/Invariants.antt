use Rattle.scenario_reader.proofs.Prelude.{AreReadTo, alias_in}
use Rattle.scenario_reader.proofs.aliases.aliases_from.Given as goal

abbrev pub invariant-loop-label : goal.invariant-loop-label
invariant-loop-label l = AreReadTo alias_in l.members.entries l.label-iterator l.aliases.items
