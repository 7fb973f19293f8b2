use Rattle.scenario_reader.specs.AliasTable.{alias_at, AreUnjudged}
use Rattle.scenario_reader.proofs.answers.clusters_of.Given as goal

abbrev pub invariant-loop-server : goal.invariant-loop-server
invariant-loop-server l = AreUnjudged (alias_at l.aliases) l.clusters.items
