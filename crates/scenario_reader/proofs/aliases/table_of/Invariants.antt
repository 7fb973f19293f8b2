use Rattle.std.proofs.Common.{drop}
use Rattle.scenario_reader.specs.AliasTable.{IsAliasTable}
use Rattle.scenario_reader.proofs.aliases.table_of.Given as goal

abbrev pub invariant-loop-n : goal.invariant-loop-n
invariant-loop-n l = IsAliasTable l.table (drop l.n l.aliases)
