use Rattle.scenario_servers.proofs.NameTables.{IsListedTo}
use Rattle.scenario_servers.proofs.Prelude.{AreTexts}
use Rattle.scenario_servers.proofs.names.Names.of.Given as goal

abbrev pub invariant-loop-value : goal.invariant-loop-value
invariant-loop-value l = (IsListedTo l.items l.value-index l.listed.items l.numbers) × (AreTexts l.texts l.listed.items)
